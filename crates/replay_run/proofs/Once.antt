-- No second outcome satisfies `Replayed`: two that do are one, with every word and byte of the state, the names, the store and the ledger.
use Rattle.wire.proofs.Basics.{ℕ, List}
use Rattle.output.specs.declared.Output.{Output}
use Rattle.receiver.specs.Lent.{Lent}
use Rattle.receiver_laws.proofs.Once.{Same, receive-once}
use Rattle.replay_run.specs.Lines.{only_sender, Replayed}

module _ (l : Lent) (d : List ℕ) (number : ℕ) (o1 o2 : Output) (l1 : Lent) (q1 : Output) (l2 : Lent) (q2 : Output)
    (A : Replayed l d number o1 l1 q1) (B : Replayed l d number o2 l2 q2) where
  pub replayed-once : Same A.outcome B.outcome l1 l2
  replayed-once = receive-once l only_sender d A.outcome B.outcome l1 l2 A.heard B.heard
