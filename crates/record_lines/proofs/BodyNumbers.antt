-- Laws of the numbers of eight bytes in a record's body, each read as f says. Assumes nothing.
use Rattle.wire.proofs.Basics.{◌∙◌, sym, ◌≡◌, ap, refl, ℕ, ◌+◌, suc, zero, ◌*◌, List, [], ◌∷◌, ◌++◌, length, drop, set, drop-drop, sets, add-one, arith}
use native.Mathlib.Nat.{add-suc, suc-add}
use Rattle.wire.specs.Bytes.{be}
use Rattle.record_lines.specs.Streams.{numbers_in}

-- one store more after a run of stores
sets-one : {X : Type 0} (l : List X) (i : ℕ) (vs : List X) (z : X) → set (sets l i vs) (i + length vs) z ≡ sets l i (vs ++ z ∷ [])
sets-one l i [] z = ap (λ (k : ℕ). set l k z) (let e : i + 0 ≡ i = omega arith in e)
sets-one l i (v ∷ vs) z =
    ap (λ (k : ℕ). set (sets (set l i v) (suc i) vs) k z) (add-suc i (length vs) ∙ sym (suc-add i (length vs)))
    ∙ sets-one (set l i v) (suc i) vs z

module _ {X : Type 0} (f : ℕ → X) where
  pub length-numbers : (n : ℕ) (b : List ℕ) → length (numbers_in f n b) ≡ n
  length-numbers zero b = refl
  length-numbers (suc n) b = ap suc (length-numbers n (drop 8 b))

  numbers_more : (i : ℕ) (b : List ℕ) → numbers_in f (suc i) b ≡ numbers_in f i b ++ f (be 8 (drop (8 * i) b)) ∷ []
  numbers_more zero b = refl
  numbers_more (suc i) b =
      ap (λ (l : List X). f (be 8 b) ∷ l)
      (numbers_more i (drop 8 b)
      ∙ ap (λ (x : List ℕ). numbers_in f i (drop 8 b) ++ f (be 8 x) ∷ [])
      (drop-drop (8 * i) 8 b ∙ ap (λ (k : ℕ). drop k b) (let e : 8 + 8 * i ≡ 8 * suc i = omega arith in e)))

  -- number i is stored after those before it
  pub taken-one : (l : List X) (i : ℕ) (b : List ℕ) (z : X) → z ≡ f (be 8 (drop (8 * i) b)) → set (sets l 0 (numbers_in f i b)) i z ≡ sets l 0 (numbers_in f (i + 1) b)
  taken-one l i b z e =
      ap (λ (k : ℕ). set (sets l 0 (numbers_in f i b)) k z) (let n : i ≡ 0 + length (numbers_in f i b) = omega (arith, length-numbers i b) in n)
      ∙ sets-one l 0 (numbers_in f i b) z
      ∙ ap (λ (y : X). sets l 0 (numbers_in f i b ++ y ∷ [])) e
      ∙ ap (sets l 0) (let n : numbers_in f i b ++ f (be 8 (drop (8 * i) b)) ∷ [] ≡ numbers_in f (i + 1) b = rw (add-one i) (sym (numbers_more i b)) in n)
