-- Entering, by its three cases. Assumes nothing.
use Rattle.wire.proofs.Basics.{◌∙◌, sym, ◌≡◌, ap, refl, ℕ, ◌+◌, List, true, false, Bool, length, eq-eqb, ne_eqb}
use Rattle.std.proofs.Common.{Some, None, Result, Ok, Err}
use Rattle.wire.specs.Choice.{pick}
use Rattle.sorted_set.specs.Halving.{held, rank_in, inserted, is_there, found_in, entered, words_with, Enters}

module _ (w : List ℕ) (n x : ℕ) where
  pub there : is_there w n x ≡ true → Enters w n x (Some (held w n)) w
  unfolding entered words_with
  there t = record { gave = rw t; left = rw t }

  pub full : is_there w n x ≡ false → held w n ≡ length w → Enters w n x None w
  unfolding entered words_with
  full t e = record { gave = rw (t, eq-eqb _ _ e); left = rw (t, eq-eqb _ _ e) }

  pub new : is_there w n x ≡ false → (held w n ≡ length w → ⊥) → Enters w n x (Some (held w n + 1)) (inserted w (rank_in w n x) (held w n) x)
  unfolding entered words_with
  new t e = record { gave = rw (t, ne_eqb _ _ e); left = rw (t, ne_eqb _ _ e) }

  -- with the numbers that the code has
  module _ (r : Result ℕ ℕ) (er : r ≡ found_in w n x) (m : ℕ) (em : m ≡ held w n) where
    pub there-at : (at : ℕ) → r ≡ Ok at → Enters w n x (Some m) w
    there-at at e = go (is_there w n x) refl (sym er ∙ e)
      where
        go : (b : Bool) → is_there w n x ≡ b → pick b (Ok (rank_in w n x)) (Err (rank_in w n x)) ≡ Ok at → Enters w n x (Some m) w
        go true t q = rw em (there t)
        go false t q = cc

    pub record New (at : ℕ) : Type 0 where
      pub none : is_there w n x ≡ false
      pub here : at ≡ rank_in w n x

    pub found-new : (at : ℕ) → r ≡ Err at → New at
    found-new at e = go (is_there w n x) refl (sym er ∙ e)
      where
        go : (b : Bool) → is_there w n x ≡ b → pick b (Ok (rank_in w n x)) (Err (rank_in w n x)) ≡ Err at → New at
        go true t q = cc
        go false t q = record { none = t; here = let f : rank_in w n x ≡ at = cc in sym f }

    pub full_at : (at : ℕ) → r ≡ Err at → m ≡ length w → Enters w n x None w
    full_at at e o = full (found-new at e).none (sym em ∙ o)

    pub new-at : (at : ℕ) → r ≡ Err at → (m ≡ length w → ⊥) → (w' : List ℕ) → w' ≡ inserted w at m x → Enters w n x (Some (m + 1)) w'
    new-at at e o w' q =
        let f = found-new at e in
        let z = new f.none (λ u. o (em ∙ u)) in
        record { gave = ap (λ (k : ℕ). Some (k + 1)) em ∙ z.gave; left = q ∙ ((λ i. inserted w (f.here i) (em i) x) ∙ z.left) }
