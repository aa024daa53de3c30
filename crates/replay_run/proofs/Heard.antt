-- A call of the receiver over lent memory is the step list's, and leaves what that leaves. Assumes nothing.
use Rattle.wire.proofs.Basics.{◌∙◌, sym, ◌≡◌, ap, ℕ, List, true, Bool}
use Rattle.wire.specs.Choice.{pick}
use Rattle.steps.specs.Answers.{answer_told}
use Rattle.steps.specs.Receive.{After, stay, Refused}
use Rattle.steps.specs.Runs.{world_of, from, call as call_of}
use Rattle.receiver_state.specs.View.{view, shaped}
use Rattle.receiver.specs.Lent.{Lent, world_in}
use Rattle.receiver.specs.Calls.{received, Receives}
use Rattle.receiver.specs.declared.Outcome.{Outcome}
use Rattle.output.specs.declared.Output.{Output}
use Rattle.output.specs.Output.{Adds}
use Rattle.output.proofs.Adding.{adds_is}
use Rattle.replay_lines.specs.Lines.{line}
use Rattle.replay_run.specs.Lines.{only_sender, Replayed}

-- lengths that stay keep the shape
module _ (l : Lent) (d : List ℕ) (o : Outcome) (l' : Lent) (e : shaped l.state l.names ≡ true) (h : Receives l only_sender d o l') where
  abbrev told : After
  told = call_of (world_in l) (from only_sender d)

  as_called : received l only_sender d ≡ told
  unfolding received
  as_called = ap (λ (t : Bool). pick t told (stay (view l.state l.names) l.store l.ledger (Refused 9))) e

  pub line-said : (n : ℕ) → line n (answer_told o.answer) o.emptied ≡ line n told.answer told.emptied
  line-said n = (λ j. line n (h.leaves.answer j) (h.leaves.emptied j)) ∙ ap (λ (a : After). line n a.answer a.emptied) as_called

  pub world-left : world_of told ≡ world_in l'
  world-left =
      ap world_of (sym as_called)
      ∙ sym (λ j. record { machine = h.leaves.machine j; store = h.leaves.store j; ledger = h.leaves.ledger j })

-- the same of a line's record
module _ {l : Lent} {d : List ℕ} {n : ℕ} {out out' : Output} {l' : Lent} (e : shaped l.state l.names ≡ true) (h : Replayed l d n out l' out') where
  pub replayed-said : Adds out (line n (call_of (world_in l) (from only_sender d)).answer (call_of (world_in l) (from only_sender d)).emptied) out'
  replayed-said = adds_is h.said (line-said l d h.outcome l' e h.heard n)

  pub replayed-left : world_in l' ≡ world_of (call_of (world_in l) (from only_sender d))
  replayed-left = sym (world-left l d h.outcome l' e h.heard)
