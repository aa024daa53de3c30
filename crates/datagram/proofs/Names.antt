-- Laws of the name that a datagram begins with, and of the numbers in its header. Assumes nothing.
use Rattle.wire.proofs.Basics.{◌∙◌, sym, ◌≡◌, ap, refl, ℕ, ◌≤◌, ◌+◌, ◌<◌, ◌-◌, suc, zero, min, List, [], ◌∷◌, ◌++◌, true, false, Bool, ◌&&◌, not, length, drop, take, length-append, length-take}
use Rattle.wire.proofs.Basics.{length-take-le, take-append_seam, take_all, eqb, ltb, le-ltb, lt-ltb, ltb-true, ltb-false, subst, not-true, dec_le, arith}
use Rattle.std.proofs.Common.{Option, Some, None, cond}
use Rattle.std.specs.List.{position, position_or_len}
use Rattle.std.specs.Option.{unwrap_or}
use Rattle.std.proofs.lemmas.List.Recursion.{is_position_or_len}
use Rattle.wire.specs.Choice.{pick}
use Rattle.wire.proofs.Choices.{never, and-false, and_l, and_r}
use Rattle.wire.proofs.Parts.{part-rest}
use Rattle.names.specs.Limits.{max_name}
use Rattle.names.specs.Name.{every, good_name_lem}
use Rattle.names.proofs.Names.{long-name, no_zero}
pub use Rattle.names.proofs.Names.{name-short}
use Rattle.datagram.specs.Name.{until_zero_lem, name_length_lem}

-- a name ends at the first zero byte: it has none
pub name-no-zero : (nm t : List ℕ) → good_name_lem nm ≡ true → until_zero_lem (nm ++ 0 ∷ t) ≡ length nm
unfolding until_zero_lem
name-no-zero nm t e = go nm (no_zero nm e)
  where
    go : (l : List ℕ) → every (λ (x : ℕ). not (eqb x 0)) l ≡ true → until_zero_lem (l ++ 0 ∷ t) ≡ length l
    go [] h = refl
    go (x ∷ l) h = rw (not-true (eqb x 0) (and_l (not (eqb x 0)) _ h)) (ap suc (go l (and_r (not (eqb x 0)) _ h)))

-- ---- the bytes before the first zero byte

pub zero-le-length : (b : List ℕ) → until_zero_lem b ≤ length b
unfolding until_zero_lem
zero-le-length [] = omega arith
zero-le-length (x ∷ b) = go (eqb x 0) (zero-le-length b)
  where
    go : (t : Bool) → until_zero_lem b ≤ length b → pick t 0 (suc (until_zero_lem b)) ≤ suc (length b)
    go true h = omega arith
    go false h = omega arith

-- the place of the first zero byte, or the end
first-zero : (l : List ℕ) → until_zero_lem l ≡ position_or_len (λ (x : ℕ). eqb x 0) l
unfolding until_zero_lem
first-zero = is_position_or_len until_zero_lem (λ (x : ℕ). eqb x 0) refl (λ x xs. go (eqb x 0) (until_zero_lem xs))
  where
    go : (b : Bool) (n : ℕ) → pick b 0 (suc n) ≡ cond b 0 (1 + n)
    go true n = refl
    go false n = omega arith

zero-found : (l : List ℕ) → unwrap_or (position (λ (x : ℕ). eqb x 0) l) (length l) ≡ until_zero_lem l
zero-found l =
    let P : ℕ → Type 0 = λ k. unwrap_or (cond (ltb k (length l)) (Some k) None) (length l) ≡ until_zero_lem l in
    subst P (first-zero l) (go (ltb (until_zero_lem l) (length l)) refl)
  where
    go : (t : Bool) → ltb (until_zero_lem l) (length l) ≡ t → unwrap_or (cond t (Some (until_zero_lem l)) None) (length l) ≡ until_zero_lem l
    go true e = refl
    go false e = omega (arith, ltb-false (until_zero_lem l) (length l) e, zero-le-length l)

-- in the front of n bytes
zero-front : (b : List ℕ) (n : ℕ) → until_zero_lem (take n b) ≡ min (until_zero_lem b) n
unfolding until_zero_lem
zero-front [] n = let e : take {A = ℕ} n [] ≡ [] = take_all n [] (omega arith) in rw e (omega arith)
zero-front (x ∷ b) zero = omega arith
zero-front (x ∷ b) (suc n) = go (eqb x 0) (zero-front b n)
  where
    go : (t : Bool) → until_zero_lem (take n b) ≡ min (until_zero_lem b) n → pick t 0 (suc (until_zero_lem (take n b))) ≡ min (pick t 0 (suc (until_zero_lem b))) (suc n)
    go true h = omega arith
    go false h = omega arith

pub zero-within : (b : List ℕ) (n : ℕ) → n ≤ length b → unwrap_or (position (λ (x : ℕ). eqb x 0) (take n b)) n ≡ min (until_zero_lem b) n
zero-within b n h = subst (λ (k : ℕ). unwrap_or (position (λ (x : ℕ). eqb x 0) (take n b)) k ≡ min (until_zero_lem b) n) (length-take-le n b h) (zero-found (take n b) ∙ zero-front b n)

-- ---- what the search within one byte more than a name has says of the name

module _ (b : List ℕ) (c : ℕ) (e : c ≡ min (until_zero_lem b) (max_name + 1)) where
  pub name-none : length b ≤ c → name_length_lem b ≡ None
  unfolding name_length_lem
  name-none h = rw (le-ltb (until_zero_lem b) (length b) (omega arith))

  pub name-here : c < length b → good_name_lem (take c b) ≡ true → name_length_lem b ≡ Some c
  unfolding name_length_lem
  name-here h g = elim (dec_le (max_name + 1) (until_zero_lem b)) [
    | yes w ↦ never g (long-name (take c b) (rw length-take (omega arith)))
    | no w ↦
        let u : until_zero_lem b ≡ c = omega arith in
        rw (u, lt-ltb c (length b) h, g)
  ]

  pub name-bad : c < length b → good_name_lem (take c b) ≡ false → name_length_lem b ≡ None
  unfolding name_length_lem
  name-bad h g = elim (dec_le (max_name + 1) (until_zero_lem b)) [
    | yes w ↦
        let l : good_name_lem (take (until_zero_lem b) b) ≡ false = long-name (take (until_zero_lem b) b) (rw length-take (omega (arith, zero-le-length b))) in
        rw (l, and-false)
    | no w ↦
        let u : until_zero_lem b ≡ c = omega arith in
        rw (u, g, and-false)
  ]

-- a name and a zero byte are read as that name
pub name-read : (nm t : List ℕ) → good_name_lem nm ≡ true → name_length_lem (nm ++ 0 ∷ t) ≡ Some (length nm)
unfolding name_length_lem
name-read nm t e =
    let l : length nm < length (nm ++ 0 ∷ t) = rw length-append (omega arith) in
    rw (name-no-zero nm t e, lt-ltb (length nm) (length (nm ++ 0 ∷ t)) l, take-append_seam, e)

-- ---- a name that was found

pub record Found (b : List ℕ) (c : ℕ) : Type 0 where
  pub inside : c < length b
  pub good : good_name_lem (take c b) ≡ true

pub name-found : (b : List ℕ) (c : ℕ) → name_length_lem b ≡ Some c → Found b c
unfolding name_length_lem
name-found b c e = go (ltb (until_zero_lem b) (length b)) (good_name_lem (take (until_zero_lem b) b)) refl refl e
  where
    go : (s t : Bool) → ltb (until_zero_lem b) (length b) ≡ s → good_name_lem (take (until_zero_lem b) b) ≡ t → pick (s && t) (Some (until_zero_lem b)) None ≡ Some c → Found b c
    go true true p q r =
        let u : until_zero_lem b ≡ c = cc in
        record { inside = rw u at (ltb-true (until_zero_lem b) (length b) p); good = rw u at q }
    go true false p q r = absurd (let z : ◌≡◌ {A = ℕ} 0 1 = cc in let y : ⊥ = omega arith in y)
    go false t p q r = absurd (let z : ◌≡◌ {A = ℕ} 0 1 = cc in let y : ⊥ = omega arith in y)

pub found-short : (b : List ℕ) (c : ℕ) → name_length_lem b ≡ Some c → c ≤ max_name
found-short b c e =
    let f = name-found b c e in
    rw (length-take-le c b (omega (arith, f.inside))) at (name-short (take c b) f.good)

-- what is found in the part from a place on
pub named-rest : (d : List ℕ) (at : ℕ) (r : Option ℕ) → r ≡ name_length_lem (take (length d - at) (drop at d)) → name_length_lem (drop at d) ≡ r
named-rest d at r e = sym (e ∙ ap name_length_lem (part-rest d at))
