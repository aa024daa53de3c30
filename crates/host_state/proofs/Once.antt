-- No second answer satisfies a contract of this crate, and none leaves other words, bytes or numbers in what was lent. Assumes nothing.
use Rattle.wire.proofs.Basics.{◌∙◌, sym, ◌≡◌, ap, ℕ, List}
use Rattle.wire.proofs.Once.{one_answer}
use Rattle.receiver.specs.Calls.{refusal_of}
use Rattle.receiver.specs.Calls.{Call}
use Rattle.receiver_laws.proofs.Once.{Alike, open-once, forget-once}
use Rattle.host_state.specs.Calls.{call_code_lem, OpenTold, ForgetTold}
use Rattle.host_state.specs.Lengths.{LengthsTold}

-- ---- open and forget

pub open-told-once : (w n : List ℕ) (k x y : ℕ) (w1 n1 w2 n2 : List ℕ) → OpenTold w n k x w1 n1 → OpenTold w n k y w2 n2 → (x ≡ y) × (w1 ≡ w2) × (n1 ≡ n2)
open-told-once w n k x y w1 n1 w2 n2 A B =
    let e : Alike A.call B.call w1 n1 w2 n2 = open-once w n k A.call B.call w1 n1 w2 n2 A.opens B.opens in
    (A.gave ∙ ap (λ (c : Call). call_code_lem (refusal_of c)) e.answer ∙ sym B.gave, e.words, e.names)

pub forget-told-once : (w n : List ℕ) (s x y : ℕ) (w1 n1 w2 n2 : List ℕ) → ForgetTold w n s x w1 n1 → ForgetTold w n s y w2 n2 → (x ≡ y) × (w1 ≡ w2) × (n1 ≡ n2)
forget-told-once w n s x y w1 n1 w2 n2 A B =
    let e : Alike A.call B.call w1 n1 w2 n2 = forget-once w n s A.call B.call w1 n1 w2 n2 A.forgets B.forgets in
    (A.gave ∙ ap (λ (c : Call). call_code_lem (refusal_of c)) e.answer ∙ sym B.gave, e.words, e.names)

-- ---- lengths

pub lengths-told-once : (list : List ℕ) (x y : ℕ) (a b : List ℕ) → LengthsTold list x a → LengthsTold list y b → (x ≡ y) × (a ≡ b)
lengths-told-once list x y a b p q = (one_answer x y p.gave q.gave, one_answer a b p.left q.left)
