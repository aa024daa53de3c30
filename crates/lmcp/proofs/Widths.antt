-- Big-endian numbers of 1 and 8 bytes; those of 2 and 4 stand in wire. Assumes nothing.
use Rattle.wire.proofs.Basics.{◌∙◌, sym, ◌≡◌, ap, ℕ, ◌+◌, ◌<◌, ◌-◌, suc, ◌*◌, List, [], ◌∷◌, drop, get_or, get_or-drop, suc-mul, arith}
use native.Mathlib.Nat.{add-zero}
use Rattle.std.specs.Int.{w16, w32, w64, from_be_bytes}
use Rattle.wire.specs.Bytes.{be}

pub be-one : (s : List ℕ) (at x : ℕ) → x ≡ get_or s at 0 → x ≡ be 1 (drop at s)
unfolding be
be-one s at x e = rw (get_or-drop, add-zero) (omega (arith, e))

pub be-eight : (s : List ℕ) (at x y : ℕ) → x ≡ be 4 (drop at s) → y ≡ be 4 (drop (at + 4) s) → x * 4294967296 + y ≡ be 8 (drop at s)
unfolding be
be-eight s at x y e f =
    let at' : (i : ℕ) → get_or (drop (at + 4) s) i 0 ≡ get_or (drop at s) (4 + i) 0 = λ i. get_or-drop (at + 4) s i 0 ∙ ap (λ (j : ℕ). get_or s j 0) (omega arith) ∙ sym (get_or-drop at s (4 + i) 0) in
    omega (arith, e, f, at' 0, at' 1, at' 2, at' 3)

-- n numbers of w bytes, less one
pub peel : (n k w : ℕ) → k < n → (n - k) * w ≡ w + (n - (k + 1)) * w
peel n k w h = let m : n - k ≡ suc (n - (k + 1)) = omega arith in ap (λ (j : ℕ). j * w) m ∙ omega (arith, suc-mul (n - (k + 1)) w)

-- ---- as the library reads them

module _ (s : List ℕ) (at : ℕ) where
  byte_at : (i : ℕ) → get_or s (at + i) 0 ≡ get_or (drop at s) i 0
  byte_at i = sym (get_or-drop at s i 0)

  first : get_or s at 0 ≡ get_or (drop at s) 0 0
  first = ap (λ (j : ℕ). get_or s j 0) (let e : at ≡ at + 0 = omega arith in e) ∙ byte_at 0

  pub be_two_bytes : from_be_bytes w16 (get_or s at 0 ∷ get_or s (at + 1) 0 ∷ []) ≡ be 2 (drop at s)
  unfolding be
  be_two_bytes = omega (arith, first, byte_at 1)

  pub be_four_bytes : from_be_bytes w32 (get_or s at 0 ∷ get_or s (at + 1) 0 ∷ get_or s (at + 2) 0 ∷ get_or s (at + 3) 0 ∷ []) ≡ be 4 (drop at s)
  unfolding be
  be_four_bytes = omega (arith, first, byte_at 1, byte_at 2, byte_at 3)

  pub be_eight_bytes : from_be_bytes w64 (get_or s at 0 ∷ get_or s (at + 1) 0 ∷ get_or s (at + 2) 0 ∷ get_or s (at + 3) 0 ∷ get_or s (at + 4) 0 ∷ get_or s (at + 5) 0 ∷ get_or s (at + 6) 0 ∷ get_or s (at + 7) 0 ∷ []) ≡ be 8 (drop at s)
  unfolding be
  be_eight_bytes = omega (arith, first, byte_at 1, byte_at 2, byte_at 3, byte_at 4, byte_at 5, byte_at 6, byte_at 7)
