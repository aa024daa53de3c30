-- Fragments begin where the one before ends, reach the end of the payload, and no fewer would. Assumes nothing.
use Rattle.wire.proofs.Basics.{◌∙◌, sym, ◌≡◌, ap, refl, ℕ, ◌≤◌, ◌+◌, ◌<◌, ◌-◌, suc, zero, ◌*◌, min, ◌/◌, List, ◌++◌, false, length, drop, take, length-drop, length-take, take_all, take-add, leb-false}
use Rattle.wire.proofs.Basics.{suc-mul, zero-mul, dec_le, add-one, arith}
use native.Mathlib.Nat.{mul-le-mul_right, div-mul-le_self, lt-div-mul-add}
use native.Mathlib.Numerals.{one-add}
use lib.Dec.{eqb-suc-zero}
use Rattle.cutter.specs.Cut.{Sized, is_small, carries, begins_at_lem, count_of, piece_of}
use Rattle.cutter.specs.Trip.{joined}

module _ (c m j : ℕ) where
  begins-suc : begins_at_lem c m (suc j) ≡ m - (21 + c) + j * (m - 20)
  begins-suc = let e : suc j - 1 ≡ j = omega arith in rw (eqb-suc-zero j, e)

  carries-suc : carries c m (suc j) ≡ m - 20
  carries-suc = rw (eqb-suc-zero j)

-- fragment k + 1 begins where what fragment k can carry ends
pub begins-next : (c m k : ℕ) → begins_at_lem c m (k + 1) ≡ begins_at_lem c m k + carries c m k
begins-next c m k = ap (begins_at_lem c m) (add-one k) ∙ go k
  where
    go : (j : ℕ) → begins_at_lem c m (suc j) ≡ begins_at_lem c m j + carries c m j
    go zero = omega (arith, begins-suc c m zero, zero-mul (m - 20))
    go (suc j) = omega (arith, begins-suc c m (suc j), begins-suc c m j, carries-suc c m j, suc-mul j (m - 20))

module _ (c p m : ℕ) (s : Sized c m) (large : is_small c p m ≡ false) where
  -- what is left after fragment 0, and how many more fragments it takes
  abbrev x : ℕ
  x = p - (m - (21 + c))

  abbrev t : ℕ
  t = (x + (m - 21)) / (m - 20)

  count-is : count_of c p m ≡ 1 + t
  unfolding count_of
  count-is = rw large

  over : m < 9 + c + p
  over = leb-false (9 + c + p) m large

  -- the datagrams reach the end of the payload
  pub count-enough : p ≤ begins_at_lem c m (count_of c p m)
  count-enough =
      let a : x + (m - 21) < t * (m - 20) + (m - 20) = lt-div-mul-add {a = x + (m - 21)} {b = m - 20} (omega (arith, s.least)) in
      let e : begins_at_lem c m (count_of c p m) ≡ m - (21 + c) + t * (m - 20) = ap (begins_at_lem c m) (count-is ∙ one-add t) ∙ begins-suc c m t in
      omega (arith, s.least)

  -- and each of them is needed
  pub begins-below : (k : ℕ) → k < count_of c p m → begins_at_lem c m k < p
  begins-below zero h = omega (arith, over, s.least, s.name)
  begins-below (suc j) h =
      let n : suc j < 1 + t = rw count-is at h in
      let a : t * (m - 20) ≤ x + (m - 21) = div-mul-le_self (x + (m - 21)) (m - 20) in
      let b : suc j * (m - 20) ≤ t * (m - 20) = mul-le-mul_right {m = suc j} {n = t} (m - 20) (omega arith) in
      omega (arith, begins-suc c m j, suc-mul j (m - 20), over, s.least, s.name)

  -- so no fewer fragments carry the payload
  pub count-least : (n : ℕ) → p ≤ begins_at_lem c m n → count_of c p m ≤ n
  count-least n h = elim (dec_le (count_of c p m) n) [ yes l ↦ l | no l ↦ absurd (let z : ⊥ = omega (arith, begins-below n (omega arith)) in z) ]

  pub count-some : 0 < count_of c p m
  count-some = omega (arith, count-is)

-- ---- the pieces

module _ (name payload : List ℕ) (m : ℕ) where
  abbrev c : ℕ
  c = length name

  abbrev p : ℕ
  p = length payload

  pub piece-length : (k : ℕ) → length (piece_of name payload m k) ≡ min (carries c m k) (p - begins_at_lem c m k)
  unfolding piece_of
  piece-length k = length-take (carries c m k) (drop (begins_at_lem c m k) payload) ∙ ap (min (carries c m k)) (length-drop (begins_at_lem c m k) payload)

  -- the first n pieces are the front of the payload, up to where fragment n begins
  pub joined-front : (n : ℕ) → joined (piece_of name payload m) n ≡ take (begins_at_lem c m n) payload
  unfolding joined piece_of
  joined-front zero = refl
  joined-front (suc n) =
      let e : begins_at_lem c m (suc n) ≡ begins_at_lem c m n + carries c m n = ap (begins_at_lem c m) (sym (add-one n)) ∙ begins-next c m n in
      ap (λ (l : List ℕ). l ++ take (carries c m n) (drop (begins_at_lem c m n) payload)) (joined-front n)
      ∙ sym (take-add (begins_at_lem c m n) (carries c m n) payload)
      ∙ ap (λ (b : ℕ). take b payload) (sym e)

  module _ (s : Sized c m) (large : is_small c p m ≡ false) where
    -- all pieces together are the payload
    pub joined-all : joined (piece_of name payload m) (count_of c p m) ≡ payload
    joined-all = joined-front (count_of c p m) ∙ take_all (begins_at_lem c m (count_of c p m)) payload (count-enough c p m s large)

    -- every piece but the last is full
    pub piece-full : (k : ℕ) → k + 1 < count_of c p m → length (piece_of name payload m k) ≡ carries c m k
    piece-full k h = omega (arith, piece-length k, begins-next c m k, begins-below c p m s large (k + 1) h)

    -- and the last ends the payload
    pub piece-last : (k : ℕ) → k + 1 ≡ count_of c p m → begins_at_lem c m k + length (piece_of name payload m k) ≡ p
    piece-last k e =
        let a : p ≤ begins_at_lem c m (k + 1) = rw e (count-enough c p m s large) in
        let b : begins_at_lem c m k < p = begins-below c p m s large k (omega arith) in
        omega (arith, piece-length k, begins-next c m k)
