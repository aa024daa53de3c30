-- No second outcome satisfies the contract: two that do are one, with every word and byte of what was lent. Assumes nothing.
use Rattle.wire.proofs.Basics.{◌≡◌, ℕ, List, false}
use Rattle.steps.specs.Receive.{Refused}
use Rattle.steps.specs.Receive.{stay}
use Rattle.receiver_state.specs.View.{shaped}
use Rattle.receiver.specs.Lent.{Lent}
use Rattle.receiver.specs.declared.Outcome.{Outcome}
use Rattle.receiver_laws.proofs.Once.{Same, follows-once}
use Rattle.flight_log.specs.declared.reader.Limits.{Limits}
use Rattle.within_limits.specs.Within.{received_within, ReceivesWithin}

unshaped-nine : (limits : Limits) (l : Lent) (sender : ℕ) (d : List ℕ) → shaped l.state l.names ≡ false → (received_within limits l sender d).answer ≡ Refused 9
unfolding received_within stay
unshaped-nine limits l sender d e = rw e

pub within-once : (limits : Limits) (l : Lent) (sender : ℕ) (d : List ℕ) (r s : Outcome) (l1 l2 : Lent) → ReceivesWithin limits l sender d r l1
    → ReceivesWithin limits l sender d s l2 → Same r s l1 l2
within-once limits l sender d = follows-once (received_within limits l sender d) l (unshaped-nine limits l sender d) sender d
