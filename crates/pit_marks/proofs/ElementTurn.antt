-- The marks of a list's elements, to the end of its numbers: one element more, and none left. Assumes nothing.
use Rattle.wire.proofs.Basics.{◌∙◌, sym, ◌≡◌, ap, ℕ, ◌≤◌, ◌+◌, ◌<◌, ◌-◌, suc, zero, min, List, [], ◌∷◌, ◌++◌, true, false, Bool, inl, inr, length, drop, take, take_all, eqb-true, length-drop, drop_of_length-le, eqb}
use Rattle.wire.proofs.Basics.{ltb, ℤ, refl, eq-eqb, ne_eqb, ltb-false, ltb-true, arith}
use Rattle.std.specs.Int.Signed.{mag}
use Rattle.std.specs.Prelude.{cond}
use Rattle.std.specs.List.{prefix_len}
use Rattle.wire.specs.Choice.{pick}
use Rattle.wire.proofs.Choices.{pick_all, either}
use Rattle.count_rules.specs.Marks.{Mark, at, mark_length, mark_at, marks_in}
use Rattle.count_rules.proofs.Steps.{marks-none}

-- ---- how many numbers an element takes

module _ (two : Bool) (l : List ℤ) where
  pub length-null : at l 0 ≡ 0 → 1 ≡ mark_length two l
  unfolding mark_length
  length-null e = rw (eq-eqb _ _ e)

  module _ (some : at l 0 ≡ 0 → ⊥) (n : ℕ) (q : n ≡ pick two 1 0) where
    pub length-nowhere : at l 3 ≡ 0 → 4 + n ≡ mark_length two l
    unfolding mark_length
    length-nowhere e = rw (ne_eqb _ _ some, eq-eqb _ _ e, q)

    pub length-somewhere : (at l 3 ≡ 0 → ⊥) → 7 + n ≡ mark_length two l
    unfolding mark_length
    length-somewhere e = rw (ne_eqb _ _ some, ne_eqb _ _ e, q)

no-mark : (l : List ℤ) → at l 0 ≡ 0 → mark_at l ≡ []
unfolding mark_at
no-mark l e = rw (eq-eqb _ _ e)

pub depth-least : (two : Bool) → pick two 1 0 ≤ 1
depth-least true = omega arith
depth-least false = omega arith

-- an element takes a number at least
pub takes_one : (two : Bool) (l : List ℤ) → 1 ≤ mark_length two l
unfolding mark_length
takes_one two l =
    pick_all (λ (n : ℕ). 1 ≤ n) (eqb (at l 0) 0) (λ e. omega arith)
    (λ e. pick_all (λ (n : ℕ). 1 ≤ n + pick two 1 0) (eqb (at l 3) 0) (λ e. omega arith) (λ e. omega arith))

pub drop-most : (j : ℕ) (l : List ℤ) → drop j l ≡ drop (min j (length l)) l
drop-most j l = elim (either (ltb j (length l))) [
  | inl e ↦ let h : j < length l = ltb-true j (length l) e in let q : j ≡ min j (length l) = omega arith in ap (λ (i : ℕ). drop i l) q
  | inr e ↦ let h : length l ≤ j = ltb-false j (length l) e in let m : length l ≤ min j (length l) = omega arith in drop_of_length-le l h ∙ sym (drop_of_length-le l m)
]

-- what a slice from a place on holds
pub tail-is : (k : ℕ) (l : List ℤ) → take (length l - k) (drop k l) ≡ drop k l
tail-is k l = take_all (length l - k) (drop k l) (rw (length-drop k l) (omega arith))

-- how many nulls stand in front
abbrev pub nulls : List ℤ → ℕ
nulls l = prefix_len (λ z. eqb (mag z) 0) l

module _ (two : Bool) where
  -- as many turns as there are numbers are enough
  enough : (k j : ℕ) (l : List ℤ) → length l ≤ k → length l ≤ j → marks_in two k l ≡ marks_in two j l
  unfolding marks_in
  enough zero j [] h g = sym (marks-none two j)
  enough zero j (z ∷ l) h g = absurd (let q : ⊥ = omega arith in q)
  enough (suc k) zero [] h g = marks-none two (suc k)
  enough (suc k) zero (z ∷ l) h g = absurd (let q : ⊥ = omega arith in q)
  enough (suc k) (suc j) l h g =
      let m = mark_length two l in
      let o : 1 ≤ m = takes_one two l in
      ap (λ (ms : List Mark). mark_at l ++ ms)
      (enough k j (drop m l) (rw (length-drop m l) (omega arith)) (rw (length-drop m l) (omega arith)))

  some : (k : ℕ) (l : List ℤ) → length l ≡ suc k → marks_in two (length l) l ≡ mark_at l ++ marks_in two (length (drop (mark_length two l) l)) (drop (mark_length two l) l)
  unfolding marks_in
  some k l e =
      let m = mark_length two l in
      let o : 1 ≤ m = takes_one two l in
      ap (λ (n : ℕ). marks_in two n l) e
      ∙ ap (λ (ms : List Mark). mark_at l ++ ms) (enough k (length (drop m l)) (drop m l) (rw (length-drop m l) (omega arith)) (omega arith))

  -- of elements to the end
  abbrev pub marks_of : List ℤ → List Mark
  marks_of l = marks_in two (length l) l

  -- the first element, then those from the next on
  pub marks-turn : (l : List ℤ) (n : ℕ) → n ≡ mark_length two l → marks_of l ≡ mark_at l ++ marks_of (drop (min n (length l)) l)
  unfolding mark_at
  marks-turn [] n e = let z : min n 0 ≡ 0 = omega arith in rw z refl
  marks-turn (z ∷ l) n e =
      some (length l) (z ∷ l) refl
      ∙ ap (λ (r : List ℤ). mark_at (z ∷ l) ++ marks_of r) (ap (λ (j : ℕ). drop j (z ∷ l)) (sym e) ∙ drop-most n (z ∷ l))

  -- a null is no mark
  marks-null : (z : ℤ) (l : List ℤ) → mag z ≡ 0 → marks_of l ≡ marks_of (z ∷ l)
  marks-null z l h =
      let m : min 1 (length (z ∷ l)) ≡ 1 = omega arith in
      sym (marks-turn (z ∷ l) 1 (length-null two (z ∷ l) h) ∙ ap (λ (ms : List Mark). ms ++ marks_of (drop (min 1 (length (z ∷ l))) (z ∷ l))) (no-mark (z ∷ l) h) ∙ ap (λ (k : ℕ). marks_of (drop k (z ∷ l))) m)

  -- what stands behind the nulls has all marks
  nulls-passed : (l : List ℤ) → marks_of (drop (nulls l) l) ≡ marks_of l
  nulls-passed [] = refl
  nulls-passed (z ∷ l) = by (nulls-passed l) (eqb (mag z) 0) refl
    where
      by : marks_of (drop (nulls l) l) ≡ marks_of l → (b : Bool) → eqb (mag z) 0 ≡ b → marks_of (drop (cond b (1 + nulls l) 0) (z ∷ l)) ≡ marks_of (z ∷ l)
      by h true e = let k : 1 + nulls l ≡ suc (nulls l) = omega arith in ap (λ (i : ℕ). marks_of (drop i (z ∷ l))) k ∙ (h ∙ marks-null z l (eqb-true (mag z) 0 e))
      by h false e = refl

  -- a turn of the code: r is what stands behind k nulls, and v what stands behind its first element
  pub turned : (l r v : List ℤ) (k n m : ℕ) → k ≡ nulls l → r ≡ take (length l - k) (drop k l) → n ≡ mark_length two r → m ≡ min n (length r) → v ≡ take (length r - m) (drop m r)
      → marks_of l ≡ mark_at r ++ marks_of v
  turned l r v k n m e h q u w =
      sym (nulls-passed l) ∙ (ap (λ (i : ℕ). marks_of (drop i l)) (sym e) ∙ (ap marks_of (sym (h ∙ tail-is k l))
      ∙ (marks-turn r n q ∙ (ap (λ (i : ℕ). mark_at r ++ marks_of (drop i r)) (sym u) ∙ ap (λ (t : List ℤ). mark_at r ++ marks_of t) (sym (w ∙ tail-is m r))))))

  pub marks-end : (l : List ℤ) → length l ≡ 0 → marks_of l ≡ []
  marks-end [] h = marks-none two 0
  marks-end (z ∷ l) h = absurd (let q : ⊥ = omega arith in q)

-- less is left then
pub less-left : (l r v : List ℤ) (k n m : ℕ) → 0 < length l → r ≡ take (length l - k) (drop k l) → 1 ≤ n → m ≡ min n (length r) → v ≡ take (length r - m) (drop m r) → length v < length l
less-left l r v k n m o h g u w =
    let a : length r ≡ length l - k = ap (λ (t : List ℤ). length t) (h ∙ tail-is k l) ∙ length-drop k l in
    let b : length v ≡ length r - m = ap (λ (t : List ℤ). length t) (w ∙ tail-is m r) ∙ length-drop m r in
    omega arith

pub left-fits : (l r v : List ℤ) (k m n : ℕ) → length l ≤ n → r ≡ take (length l - k) (drop k l) → v ≡ take (length r - m) (drop m r) → length v ≤ n
left-fits l r v k m n o h w =
    let a : length r ≡ length l - k = ap (λ (t : List ℤ). length t) (h ∙ tail-is k l) ∙ length-drop k l in
    let b : length v ≡ length r - m = ap (λ (t : List ℤ). length t) (w ∙ tail-is m r) ∙ length-drop m r in
    omega arith

-- the elements of a list stand behind its head
pub behind-head : (l : List ℤ) → drop (min (length l) 4) l ≡ drop 4 l
behind-head l = let e : min (length l) 4 ≡ min 4 (length l) = omega arith in ap (λ (i : ℕ). drop i l) e ∙ sym (drop-most 4 l)
