-- An outcome in two runs of numbers, and what was told of it by each answer. Assumes nothing.
use Rattle.wire.proofs.Basics.{◌∙◌, sym, ◌≡◌, ap, refl, ℕ, List, ◌++◌, length}
use Rattle.wire.specs.Overlay.{overlay}
use Rattle.wire.proofs.Overlays.{overlay-next}
use Rattle.steps.specs.declared.PayloadAt.{PayloadAt}
use Rattle.steps.specs.declared.PayloadAt.TheVariants.{InDatagram, InStore}
use Rattle.steps.specs.Receive.{Answer}
use Rattle.steps.specs.Receive.{Refused, Kept, Repeat, Delivered}
use Rattle.steps.specs.Answers.{answer_told}
use Rattle.receiver.specs.declared.Outcome.{Outcome}
use Rattle.wire.specs.Slices.{Buffer}
use Rattle.host_receiver.specs.Outcomes.{place_numbers_lem, answer_numbers_lem, outcome_numbers, answer_code, unless_refused, Tells}
use Rattle.host_receiver.specs.Inside.{Writes}

place-four : (p : PayloadAt) (len : ℕ) → length (place_numbers_lem p len) ≡ 4
place-four (InDatagram at) len = refl
place-four (InStore at) len = refl

pub answer-four : (a : Answer) → length (answer_numbers_lem a) ≡ 4
answer-four (Refused n) = refl
answer-four Kept = refl
answer-four Repeat = refl
answer-four (Delivered p len) = place-four p len

-- two runs of numbers, the second after the first
pub two_runs : (d s t x y s' t' : List ℕ) (at : ℕ) → x ≡ overlay d 0 s → y ≡ overlay x at t → s ≡ s' → t ≡ t' → length s' ≡ at → y ≡ overlay d 0 (s' ++ t')
two_runs d s t x y s' t' at p q e f n =
    overlay-next d s' t' x y at (p ∙ ap (overlay d 0) e) (sym n) (q ∙ ap (overlay x at) f)

-- an answer that is no refusal: its outcome is written
pub done-tells : (sequence : ℕ) (o : Outcome) (told name : Buffer) (answer : ℕ) (a : Answer) → answer_told o.answer ≡ a → answer_code a ≡ 0
    → ((l m : List ℕ) → unless_refused a l m ≡ m) → Writes sequence o told name answer → Tells sequence o told name answer
done-tells sequence o told name answer a e z u w = record {
  gave = w.gave ∙ sym (ap answer_code e ∙ z);
  numbers = w.numbers ∙ stays told.before (outcome_numbers sequence o);
  bytes = w.bytes ∙ stays name.before o.name;
}
  where
    stays : (x y : List ℕ) → overlay x 0 y ≡ unless_refused (answer_told o.answer) x (overlay x 0 y)
    stays x y = sym (ap (λ (b : Answer). unless_refused b x (overlay x 0 y)) e ∙ u x (overlay x 0 y))
