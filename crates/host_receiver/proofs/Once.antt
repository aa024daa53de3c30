-- No second answer satisfies a contract of this crate, and none leaves other words, bytes or numbers in what was lent. Assumes nothing.
use Rattle.wire.proofs.Basics.{◌∙◌, sym, ◌≡◌, ap, ℕ, List, inl, inr}
use Rattle.wire.specs.Overlay.{overlay}
use Rattle.wire.proofs.Choices.{either}
use Rattle.datagram.specs.Read.{sequence_in}
use Rattle.receiver.specs.Lent.{Lent}
use Rattle.receiver.specs.Calls.{Receives}
use Rattle.receiver.specs.declared.Outcome.{Outcome}
use Rattle.receiver_laws.proofs.Once.{Same, receive-once}
use Rattle.flight_log.specs.declared.reader.Limits.{Limits}
use Rattle.within_limits.specs.Within.{ReceivesWithin}
use Rattle.within_limits.proofs.Once.{within-once}
use Rattle.wire.specs.Slices.{◌⇒◌}
use Rattle.host_receiver.specs.Outcomes.{outcome_numbers, answer_code, unless_refused}
use Rattle.host_receiver.specs.Calls.{lacking, Untouched, Heard, Told, ReceiveTold, WithinTold}
use Rattle.steps.specs.Answers.{answer_told}

pub record Alone (x y : ℕ) (l1 l2 : Lent) (t1 t2 m1 m2 : List ℕ) : Type 0 where
  pub answer : x ≡ y
  pub lent : l1 ≡ l2
  pub list : t1 ≡ t2
  pub given : m1 ≡ m2

module _ (l : Lent) (told name : List ℕ) (x y : ℕ) (l1 l2 : Lent) (t1 t2 m1 m2 : List ℕ) where
  untouched-once : Untouched l (told ⇒ t1) (name ⇒ m1) x l1 → Untouched l (told ⇒ t2) (name ⇒ m2) y l2 → Alone x y l1 l2 t1 t2 m1 m2
  untouched-once A B = record {
    answer = A.gave ∙ sym B.gave;
    lent = A.stays ∙ sym B.stays;
    list = A.list ∙ sym B.list;
    given = A.given ∙ sym B.given;
  }

  module _ (call : Outcome → Lent → Type 0) (sequence : ℕ) (once : (r s : Outcome) → call r l1 → call s l2 → Same r s l1 l2) where
    -- a call that has one outcome is told once
    heard-once : Heard call sequence (told ⇒ t1) (name ⇒ m1) x l1 → Heard call sequence (told ⇒ t2) (name ⇒ m2) y l2 → Alone x y l1 l2 t1 t2 m1 m2
    heard-once A B =
        let e : Same A.outcome B.outcome l1 l2 = once A.outcome B.outcome A.receives B.receives in
        let p = A.tells in
        let q = B.tells in
        record {
          answer = p.gave ∙ ap (λ (o : Outcome). answer_code (answer_told o.answer)) e.outcome ∙ sym q.gave;
          lent = e.lent;
          list = p.numbers ∙ ap (λ (o : Outcome). unless_refused (answer_told o.answer) told (overlay told 0 (outcome_numbers sequence o))) e.outcome ∙ sym q.numbers;
          given = p.bytes ∙ ap (λ (o : Outcome). unless_refused (answer_told o.answer) name (overlay name 0 o.name)) e.outcome ∙ sym q.bytes;
        }

    told-once : Told call sequence l (told ⇒ t1) (name ⇒ m1) x l1 → Told call sequence l (told ⇒ t2) (name ⇒ m2) y l2 → Alone x y l1 l2 t1 t2 m1 m2
    told-once A B = elim (either (lacking told name)) [
      | inl t ↦ untouched-once (A.short t) (B.short t)
      | inr f ↦ heard-once (A.heard f) (B.heard f)
    ]

  pub receive-told-once : (sender : ℕ) (d : List ℕ) → ReceiveTold l sender d (told ⇒ t1) (name ⇒ m1) x l1 → ReceiveTold l sender d (told ⇒ t2) (name ⇒ m2) y l2
      → Alone x y l1 l2 t1 t2 m1 m2
  receive-told-once sender d = told-once (Receives l sender d) (sequence_in d) (λ r s p q. receive-once l sender d r s l1 l2 p q)

  pub within-told-once : (limits : Limits) (sender : ℕ) (d : List ℕ) → WithinTold limits l sender d (told ⇒ t1) (name ⇒ m1) x l1
      → WithinTold limits l sender d (told ⇒ t2) (name ⇒ m2) y l2 → Alone x y l1 l2 t1 t2 m1 m2
  within-told-once limits sender d = told-once (ReceivesWithin limits l sender d) (sequence_in d) (λ r s p q. within-once limits l sender d r s l1 l2 p q)
