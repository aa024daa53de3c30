-- No second outcome satisfies a contract: two that do are one, with every word and byte of what was lent. And calls lead only to states that
-- the step list can reach, which are in order (steps, `reached_in-order`).
use Rattle.wire.proofs.Basics.{◌∙◌, sym, ◌≡◌, ap, refl, subst, ℕ, List, true, false, inl, inr, some, Option, length, eqb, eqb-true, arith}
use Rattle.wire.proofs.Choices.{either, and_l, and_r}
use Rattle.steps.specs.declared.Answer.{Answer as Given}
use Rattle.steps.specs.declared.Answer.TheVariants as given
use Rattle.steps.specs.Answers.{answer_told}
use Rattle.steps.specs.Receive.{Refused}
use Rattle.steps.specs.Receive.{Machine, After, stay, step}
use Rattle.steps.specs.Reach.{Reached, opens, receives, forgets}
use Rattle.receiver_state.specs.View.{state_words_lem, name_bytes_lem, view, shaped}
use Rattle.receiver_state.specs.Inside.{Shaped}
use Rattle.receiver.specs.Lent.{Lent, lent}
use Rattle.receiver.specs.Calls.{refusal_of, received, Follows, Receives, Changes, Forgets, forgotten}
use Rattle.open_and_payload.specs.Ends.{Opens}
use Rattle.receiver.specs.declared.Outcome.{Outcome}
use Rattle.receiver.specs.Calls.{Call}
use Rattle.std.proofs.Common.{Ok, Err}
use Rattle.refusals.specs.Numbers.{number_of}
use Rattle.refusals.proofs.Names.{same_number}
use Rattle.receiver_state.proofs.Unique.{words_same, names_same}
use Rattle.verdict.specs.Decided.{verdict_told}
use Rattle.verdict.specs.declared.Verdict as code
use Rattle.verdict.specs.declared.Verdict.TheVariants as code_verdict

-- words and names of the lengths that were lent
pub shape_of : (w n v m : List ℕ) → shaped w n ≡ true → length v ≡ length w → length m ≡ length n → Shaped v m
shape_of w n v m s a b = record {
  words = a ∙ eqb-true _ _ (and_l (eqb (length w) state_words_lem) (eqb (length n) name_bytes_lem) s);
  bytes = b ∙ eqb-true _ _ (and_r (eqb (length w) state_words_lem) (eqb (length n) name_bytes_lem) s);
}

-- ---- receive

pub record Same (r s : Outcome) (l m : Lent) : Type 0 where
  pub outcome : r ≡ s
  pub lent : l ≡ m

unshaped-nine : (l : Lent) (sender : ℕ) (d : List ℕ) → shaped l.state l.names ≡ false → (received l sender d).answer ≡ Refused 9
unfolding received stay
unshaped-nine l sender d e = rw e

-- words and names that show one machine, of their lengths, with one store and one ledger
pub lent_same : (l m : Lent) → Shaped l.state l.names → Shaped m.state m.names → view l.state l.names ≡ view m.state m.names
    → l.store ≡ m.store → l.ledger ≡ m.ledger → l ≡ m
lent_same l m p q e a b = λ i. lent (words_same l.state l.names m.state m.names p q e i) (names_same l.state l.names m.state m.names p q e i) (a i) (b i)

-- two answers that say one thing are one
answer-once : (a b : Given) → answer_told a ≡ answer_told b → a ≡ b
answer-once (given.Refused j) (given.Refused k) e = let z : number_of j ≡ number_of k = cc in ap given.Refused (same_number j k z)
answer-once (given.Refused j) given.Kept e = cc
answer-once (given.Refused j) given.Repeat e = cc
answer-once (given.Refused j) (given.Delivered p n) e = cc
answer-once given.Kept (given.Refused k) e = cc
answer-once given.Kept given.Kept e = refl
answer-once given.Kept given.Repeat e = cc
answer-once given.Kept (given.Delivered p n) e = cc
answer-once given.Repeat (given.Refused k) e = cc
answer-once given.Repeat given.Kept e = cc
answer-once given.Repeat given.Repeat e = refl
answer-once given.Repeat (given.Delivered p n) e = cc
answer-once (given.Delivered p n) (given.Refused k) e = cc
answer-once (given.Delivered p n) given.Kept e = cc
answer-once (given.Delivered p n) given.Repeat e = cc
answer-once (given.Delivered p n) (given.Delivered q m) e =
    let x : p ≡ q = cc in
    let y : n ≡ m = cc in
    λ i. given.Delivered (x i) (y i)

-- and so of two verdicts
pub verdict-once : (a b : code.Verdict) → verdict_told a ≡ verdict_told b → a ≡ b
verdict-once (code_verdict.Refuse j) (code_verdict.Refuse k) e = let z : number_of j ≡ number_of k = cc in ap code_verdict.Refuse (same_number j k z)
verdict-once (code_verdict.Refuse j) code_verdict.Again e = cc
verdict-once (code_verdict.Refuse j) (code_verdict.Deliver h) e = cc
verdict-once (code_verdict.Refuse j) (code_verdict.Join t h) e = cc
verdict-once (code_verdict.Refuse j) (code_verdict.Begin h) e = cc
verdict-once code_verdict.Again (code_verdict.Refuse k) e = cc
verdict-once code_verdict.Again code_verdict.Again e = refl
verdict-once code_verdict.Again (code_verdict.Deliver h) e = cc
verdict-once code_verdict.Again (code_verdict.Join t h) e = cc
verdict-once code_verdict.Again (code_verdict.Begin h) e = cc
verdict-once (code_verdict.Deliver g) (code_verdict.Refuse k) e = cc
verdict-once (code_verdict.Deliver g) code_verdict.Again e = cc
verdict-once (code_verdict.Deliver g) (code_verdict.Deliver h) e = let x : g ≡ h = cc in ap code_verdict.Deliver x
verdict-once (code_verdict.Deliver g) (code_verdict.Join t h) e = cc
verdict-once (code_verdict.Deliver g) (code_verdict.Begin h) e = cc
verdict-once (code_verdict.Join s g) (code_verdict.Refuse k) e = cc
verdict-once (code_verdict.Join s g) code_verdict.Again e = cc
verdict-once (code_verdict.Join s g) (code_verdict.Deliver h) e = cc
verdict-once (code_verdict.Join s g) (code_verdict.Join t h) e =
    let x : s ≡ t = cc in
    let y : g ≡ h = cc in
    λ i. code_verdict.Join (x i) (y i)
verdict-once (code_verdict.Join s g) (code_verdict.Begin h) e = cc
verdict-once (code_verdict.Begin g) (code_verdict.Refuse k) e = cc
verdict-once (code_verdict.Begin g) code_verdict.Again e = cc
verdict-once (code_verdict.Begin g) (code_verdict.Deliver h) e = cc
verdict-once (code_verdict.Begin g) (code_verdict.Join t h) e = cc
verdict-once (code_verdict.Begin g) (code_verdict.Begin h) e = let x : g ≡ h = cc in ap code_verdict.Begin x

-- two outcomes of one step, that refuses a state or names of another length by 9
module _ (a : After) (l : Lent) (nine : shaped l.state l.names ≡ false → a.answer ≡ Refused 9) (sender : ℕ) (d : List ℕ) (r s : Outcome) (l1 l2 : Lent)
    (A : Follows a l sender d r l1) (B : Follows a l sender d s l2) where
  one : r ≡ s
  one = λ i. record {
    answer = answer-once r.answer s.answer (A.leaves.answer ∙ sym B.leaves.answer) i;
    emptied = (A.leaves.emptied ∙ sym B.leaves.emptied) i;
    name = (A.leaves.name ∙ sym B.leaves.name) i;
  }

  pub follows-once : Same r s l1 l2
  follows-once = elim (either (shaped l.state l.names)) [
    | inl t ↦
        let p : Shaped l1.state l1.names = shape_of l.state l.names _ _ t A.words A.bytes in
        let q : Shaped l2.state l2.names = shape_of l.state l.names _ _ t B.words B.bytes in
        record {
          outcome = one;
          lent = lent_same l1 l2 p q (A.leaves.machine ∙ sym B.leaves.machine) (A.leaves.store ∙ sym B.leaves.store) (A.leaves.ledger ∙ sym B.leaves.ledger);
        }
    | inr f ↦ record { outcome = one; lent = A.still 9 (A.leaves.answer ∙ nine f) ∙ sym (B.still 9 (B.leaves.answer ∙ nine f)) }
  ]

pub receive-once : (l : Lent) (sender : ℕ) (d : List ℕ) (r s : Outcome) (l1 l2 : Lent) → Receives l sender d r l1 → Receives l sender d s l2 → Same r s l1 l2
receive-once l sender d = follows-once (received l sender d) l (unshaped-nine l sender d) sender d

-- ---- open and forget

refusal-once : (r s : Call) → refusal_of r ≡ refusal_of s → r ≡ s
refusal-once (Ok u) (Ok v) e = refl
refusal-once (Ok u) (Err k) e = absurd (let z : ◌≡◌ {A = ℕ} 0 1 = cc in let h : ⊥ = omega arith in h)
refusal-once (Err j) (Ok v) e = absurd (let z : ◌≡◌ {A = ℕ} 0 1 = cc in let h : ⊥ = omega arith in h)
refusal-once (Err j) (Err k) e = let z : number_of j ≡ number_of k = cc in ap Err (same_number j k z)

pub record Alike (r s : Call) (w n w' n' : List ℕ) : Type 0 where
  pub answer : r ≡ s
  pub words : w ≡ w'
  pub names : n ≡ n'

changes-once : (m : Machine) (o : Option ℕ) (w n : List ℕ) → (shaped w n ≡ false → o ≡ some 9) → (r s : Call) (w1 n1 w2 n2 : List ℕ)
    → Changes m o w n r w1 n1 → Changes m o w n s w2 n2 → Alike r s w1 n1 w2 n2
changes-once m o w n nine r s w1 n1 w2 n2 A B = elim (either (shaped w n)) [
  | inl t ↦
      let p : Shaped w1 n1 = shape_of w n w1 n1 t A.words A.bytes in
      let q : Shaped w2 n2 = shape_of w n w2 n2 t B.words B.bytes in
      let e : view w1 n1 ≡ view w2 n2 = A.machine ∙ sym B.machine in
      record { answer = refusal-once r s (A.gave ∙ sym B.gave); words = words_same w1 n1 w2 n2 p q e; names = names_same w1 n1 w2 n2 p q e }
  | inr f ↦
      let a = A.still 9 (A.gave ∙ nine f) in
      let b = B.still 9 (B.gave ∙ nine f) in
      record { answer = refusal-once r s (A.gave ∙ sym B.gave); words = a.0 ∙ sym b.0; names = a.1 ∙ sym b.1 }
]

pub open-once : (w n : List ℕ) (k : ℕ) (r s : Call) (w1 n1 w2 n2 : List ℕ) → Opens w n k r w1 n1 → Opens w n k s w2 n2 → Alike r s w1 n1 w2 n2
open-once w n k = changes-once _ _ w n (λ f. rw f)

pub forget-once : (w n : List ℕ) (sender : ℕ) (r s : Call) (w1 n1 w2 n2 : List ℕ) → Forgets w n sender r w1 n1 → Forgets w n sender s w2 n2 → Alike r s w1 n1 w2 n2
unfolding forgotten
forget-once w n sender = changes-once _ _ w n (λ f. rw f)

-- ---- calls lead to states that the step list reaches

module _ (w n : List ℕ) (t : shaped w n ≡ true) where
  pub open_reaches : (k : ℕ) (r : Call) (w1 n1 : List ℕ) → Opens w n k r w1 n1 → Reached k (view w1 n1)
  open_reaches k r w1 n1 A = subst (Reached k) (sym (A.machine ∙ rw t)) opens

  pub receive_reaches : (k : ℕ) → Reached k (view w n) → (store ledger : List ℕ) (sender : ℕ) (d : List ℕ) (r : Outcome) (l' : Lent)
      → Receives (lent w n store ledger) sender d r l' → Reached k (view l'.state l'.names)
  unfolding received
  receive_reaches k R store ledger sender d r l' A =
      let e : (received (lent w n store ledger) sender d).machine ≡ (step (view w n) store ledger sender d).machine = rw t in
      subst (Reached k) (sym (A.leaves.machine ∙ e)) (receives R store ledger sender d)

  pub forget_reaches : (k : ℕ) → Reached k (view w n) → (sender : ℕ) (r : Call) (w1 n1 : List ℕ) → Forgets w n sender r w1 n1 → Reached k (view w1 n1)
  unfolding forgotten
  forget_reaches k R sender r w1 n1 A = subst (Reached k) (sym (A.machine ∙ rw t)) (forgets R sender)
