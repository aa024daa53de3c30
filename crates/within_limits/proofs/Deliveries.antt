-- A call within a log's limits is the step list's within them; what it delivers lies in what holds it; and it leads to no state that other calls do not reach.
use Rattle.wire.proofs.Basics.{◌∙◌, sym, ◌≡◌, ap, refl, subst, ℕ, List, true, inl, inr}
use Rattle.wire.proofs.Choices.{either}
use Rattle.datagram.specs.Said.{said}
use Rattle.steps.specs.declared.PayloadAt.{PayloadAt}
use Rattle.steps.specs.Receive.{Refused, Delivered}
use Rattle.steps.specs.Receive.{Machine, After, stay}
use Rattle.steps.specs.Receive as steps
use Rattle.steps.specs.Promises.{Lies}
use Rattle.steps.specs.Reach.{Reached}
use Rattle.steps.specs.Answers.{answer_told}
use Rattle.steps.proofs.Deliveries.{delivery-lies}
use Rattle.steps.proofs.Limited.{Limited, as_ever, turned_away, limited, within-reached}
use Rattle.receiver_state.specs.View.{view, shaped}
use Rattle.receiver_state.proofs.Bridge.{slots_length}
use Rattle.receiver.specs.Lent.{Lent}
use Rattle.receiver.specs.declared.Outcome.{Outcome}
use Rattle.receiver_laws.proofs.Deliveries.{LiesIn, none-lies, follows-lies}
use Rattle.flight_log.specs.declared.reader.Limits.{Limits}
use Rattle.within_limits.specs.Within.{step_within, received_within, ReceivesWithin}

-- the step list's call within the limits, said with their two numbers
pub within-is : (limits : Limits) (m : Machine) (store ledger : List ℕ) (sender : ℕ) (d : List ℕ)
    → step_within limits m store ledger sender d ≡ steps.step_within limits.payload limits.fragments m store ledger sender d
unfolding step_within steps.step_within said
within-is limits m store ledger sender d = refl

module _ (limits : Limits) (l : Lent) (sender : ℕ) (d : List ℕ) where
  abbrev m : Machine
  m = view l.state l.names

  step-lies : LiesIn d (step_within limits m l.store l.ledger sender d)
  unfolding stay
  step-lies = subst (LiesIn d) (sym (within-is limits m l.store l.ledger sender d)) (go (limited limits.payload limits.fragments m l.store l.ledger sender d))
    where
      go : Limited limits.payload limits.fragments m l.store l.ledger sender d → LiesIn d (steps.step_within limits.payload limits.fragments m l.store l.ledger sender d)
      go (as_ever e) = subst (LiesIn d) (sym e) (delivery-lies m (slots_length l.state l.names) l.store l.ledger sender d)
      go (turned_away k e) = subst (LiesIn d) (sym e) (none-lies d (stay m l.store l.ledger (Refused k)) k refl)

  pub within-lies : LiesIn d (received_within limits l sender d)
  unfolding received_within stay
  within-lies = elim (either (shaped l.state l.names)) [
    | inl t ↦ rw t step-lies
    | inr t ↦ rw t (none-lies d (stay m l.store l.ledger (Refused 9)) 9 refl)
  ]

  -- OF A CALL OF `receive_within`
  pub receive-within-lies : (r : Outcome) (l' : Lent) → ReceivesWithin limits l sender d r l' → (p : PayloadAt) (n : ℕ) → answer_told r.answer ≡ Delivered p n → Lies d l'.store p n
  receive-within-lies r l' k = follows-lies (received_within limits l sender d) l sender d r l' k within-lies

  pub receive-within_reaches : (k : ℕ) → shaped l.state l.names ≡ true → Reached k (view l.state l.names) → (r : Outcome) (l' : Lent)
      → ReceivesWithin limits l sender d r l' → Reached k (view l'.state l'.names)
  unfolding received_within
  receive-within_reaches k t R r l' A =
      let e : (received_within limits l sender d).machine ≡ (step_within limits m l.store l.ledger sender d).machine = rw t in
      subst (Reached k) (sym (A.leaves.machine ∙ e ∙ ap (λ (a : After). a.machine) (within-is limits m l.store l.ledger sender d)))
      (within-reached limits.payload limits.fragments m l.store l.ledger sender d R)
