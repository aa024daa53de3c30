-- Parts of a list, its elements worked on, and comparing one with bytes. Assumes nothing.
use Rattle.wire.proofs.Basics.{◌∙◌, sym, ◌≡◌, ap, refl, ℕ, ◌≤◌, ◌+◌, ◌<◌, ◌-◌, min, List, [], ◌∷◌, map, true, false, Bool, ◌&&◌, length, drop, get_or, take, length-drop, drop_of_length-le}
use Rattle.wire.proofs.Basics.{length-take-le, sets, take_all, get_or-drop, take_at, drop-cons, get_or-take, eqb, eq-eqb, eqb-true, dec_le, add-one, arith}
use lib.Seq.{sets-eq}
use Rattle.wire.specs.Same.{same}
use Rattle.wire.proofs.Choices.{never, and-false}

-- the front of a list is what was stored there
pub front_of : {X : Type 0} (l vs : List X) → length vs ≤ length l → take (length vs) (sets l 0 vs) ≡ vs
front_of l vs h = ap (take (length vs)) (sets-eq vs l 0 (let z : 0 + length vs ≤ length l = omega arith in z)) ∙ take_at vs (drop (0 + length vs) l) (length vs) refl

-- one after the other, on each element
pub map_both : {A B C : Type 0} (f : A → B) (g : B → C) (h : A → C) → ((x : A) → g (f x) ≡ h x) → (l : List A) → map g (map f l) ≡ map h l
map_both f g h e [] = refl
map_both f g h e (x ∷ l) = λ i. e x i ∷ map_both f g h e l i

pub same_refl : (l : List ℕ) → same l l ≡ true
same_refl [] = refl
same_refl (x ∷ xs) = rw (eq-eqb x x refl, same_refl xs)

pub same_true : (a b : List ℕ) → same a b ≡ true → a ≡ b
same_true [] [] e = refl
same_true [] (y ∷ ys) e = never e refl
same_true (x ∷ xs) [] e = never e refl
same_true (x ∷ xs) (y ∷ ys) e = go (λ q. same_true xs ys q) (eqb x y) refl e
  where
    go : (same xs ys ≡ true → xs ≡ ys) → (b : Bool) → eqb x y ≡ b → (b && same xs ys) ≡ true → x ∷ xs ≡ y ∷ ys
    go ih true p q =
        let h : x ≡ y = eqb-true x y p in
        let t : xs ≡ ys = ih q in
        cc
    go ih false p q = never q refl

-- lists of different lengths are not the same
pub same-short : (a b : List ℕ) → length a < length b → same a b ≡ false
same-short [] [] h = absurd (let z : ⊥ = omega arith in z)
same-short [] (y ∷ ys) h = refl
same-short (x ∷ xs) [] h = refl
same-short (x ∷ xs) (y ∷ ys) h = rw (same-short xs ys (omega arith)) (and-false (eqb x y))

-- the part of d that is to be s
abbrev pub window : List ℕ → ℕ → List ℕ → List ℕ
window d at s = take (length s) (drop at d)

module _ (d : List ℕ) (at : ℕ) (s : List ℕ) (fits : length s ≤ length d - at) where
  window-length : length (window d at s) ≡ length s
  window-length = length-take-le (length s) (drop at d) (rw length-drop fits)

  pub same_step : (i : ℕ) → i < length s
      → same (drop i (window d at s)) (drop i s) ≡ (eqb (get_or d (at + i) 0) (get_or s i 0) && same (drop (i + 1) (window d at s)) (drop (i + 1) s))
  same_step i h =
      let g : i < length (window d at s) = rw window-length h in
      let w : get_or (window d at s) i 0 ≡ get_or d (at + i) 0 = rw (get_or-take, get_or-drop) in
      rw (drop-cons (window d at s) i 0 g, drop-cons s i 0 h, add-one) (rw w)

  pub same_end : (i : ℕ) → length s ≤ i → same (drop i (window d at s)) (drop i s) ≡ true
  same_end i h =
      let g : length (window d at s) ≤ i = rw window-length h in
      rw (drop_of_length-le (window d at s) g, drop_of_length-le s h)

-- ---- the part that is asked for, and the part that there is

pub take-least : {X : Type 0} (s : List X) (n k : ℕ) → k ≡ min n (length s) → take k s ≡ take n s
take-least s n k e = elim (dec_le n (length s)) [
  | yes h ↦ ap (λ (j : ℕ). take j s) (let z : k ≡ n = omega arith in z)
  | no h ↦ take_all k s (omega arith) ∙ sym (take_all n s (omega arith))
]

drop-least : (n : ℕ) (l : List ℕ) → drop (min n (length l)) l ≡ drop n l
drop-least n l = elim (dec_le n (length l)) [
  | yes h ↦ ap (λ (k : ℕ). drop k l) (let e : min n (length l) ≡ n = omega arith in e)
  | no h ↦ drop_of_length-le l (let e : length l ≤ min n (length l) = omega arith in e) ∙ sym (drop_of_length-le l (let e : length l ≤ n = omega arith in e))
]

pub part-least : (s : List ℕ) (at n a m : ℕ) → a ≡ min at (length s) → m ≡ min n (length s - a) → take m (drop a s) ≡ take n (drop at s)
part-least s at n a m e f =
    let l : length s - a ≡ length (drop a s) = sym (length-drop a s) in
    take-least (drop a s) n m (f ∙ ap (min n) l) ∙ ap (take n) (ap (λ (k : ℕ). drop k s) e ∙ drop-least at s)

-- from a place to the end
pub part-rest : (s : List ℕ) (at : ℕ) → take (length s - at) (drop at s) ≡ drop at s
part-rest s at = take_all (length s - at) (drop at s) (rw length-drop (omega arith))
