-- `within_limits::receive_within` meets its contract: the limits' refusal, or the receiver's own. Assumes nothing.
use Rattle.wire.proofs.Basics.{◌∙◌, sym, ◌≡◌, ap, subst, ℕ, List, true, length, get_or}
use Rattle.refusals.specs.declared.Refusal.{Refusal}
use Rattle.refusals.specs.Numbers.{number_of}
use Rattle.datagram.specs.Read.{Read, Refused, told}
use Rattle.steps.specs.declared.Answer.TheVariants as given
use Rattle.steps.specs.declared.Emptied.TheVariants.{Nobody}
use Rattle.steps.specs.Slots.{no_name_lem}
use Rattle.receiver_state.specs.View.{room_word, ready}
use Rattle.receiver.specs.Lent.{lent}
use Rattle.receiver.specs.declared.Outcome.{Outcome}
use Rattle.flight_log.specs.declared.reader.Limits.{Limits}
use Rattle.within_limits.specs.Within.{read_within_lem, ReceivesWithin}
use Rattle.within_limits.proofs.Withins.{received-good, received-nine, by-receive, by-limits}
use Rattle.within_limits.proofs.receive_within.Goals as goal
use Rattle.within_limits.proofs.receive_within.Goals.{in-Err+else-is_ready, in_default}

-- what was read, at the state's own slot size

room-read : (l : Limits) (w d : List ℕ) (room : ℕ) (r s : Read) → room ≡ get_or w room_word 0 → r ≡ read_within_lem l room d → r ≡ s → read_within_lem l (get_or w room_word 0) d ≡ s
room-read l w d room r s e f g = ap (λ (C : ℕ). read_within_lem l C d) (sym e) ∙ sym f ∙ g

refused-so : (l : Limits) (w n store ledger : List ℕ) (sender : ℕ) (d : List ℕ) (k : Refusal) (r : Outcome) → ready w n (length store) (length ledger) ≡ true
    → read_within_lem l (get_or w room_word 0) d ≡ Refused (number_of k) → r ≡ record { answer = given.Refused k; emptied = Nobody; name = no_name_lem }
    → ReceivesWithin l (lent w n store ledger) sender d r (lent w n store ledger)
refused-so l w n store ledger sender d k r s e o =
    subst (λ (x : Outcome). ReceivesWithin l (lent w n store ledger) sender d x (lent w n store ledger)) (sym o) (by-limits l w n store ledger sender d k s e)

pub returns-then-is_ready : goal.returns-then-is_ready
returns-then-is_ready c =
    let a = c.args in
    let e = room-read a.limits a.state.now a.d.now _ _ _ c.word-room.ensures c.read_within.ensures (ap told c.in-Err.is) in
    refused-so a.limits _ _ _ _ a.sender a.d.now _ _ (sym c.is_ready.ensures ∙ c.if-is_ready.true) e c.refused.ensures

pub returns : goal.returns
returns c =
    let a = c.args in
    by-receive a.limits _ _ _ _ a.sender a.d.now
    (elim c.match-read_within.branch [
      | in-Err+else-is_ready w ↦ received-nine a.limits _ _ _ _ a.sender a.d.now (sym w.is_ready.ensures ∙ w.if-is_ready.false)
      | in_default w ↦ received-good a.limits _ _ _ _ a.sender a.d.now _ (room-read a.limits a.state.now a.d.now _ _ _ c.word-room.ensures c.read_within.ensures (ap told w.in_default.is))
    ])
    c.receive.ensures
