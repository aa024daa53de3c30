-- Laws of numbers as text. Assumes nothing.
use Rattle.wire.proofs.Basics.{◌∙◌, sym, ◌≡◌, ap, refl, ℕ, ◌≤◌, ◌+◌, ◌<◌, ◌-◌, suc, zero, ◌*◌, ◌^◌, ◌%◌, ◌/◌, List, [], ◌∷◌, ◌++◌, true, false, Bool, length, get_or, take, length-append, take-suc, ltb}
use Rattle.wire.proofs.Basics.{ℤ, pos, negsuc, nat_abs, le-ltb, lt-ltb, ltb-false, ltb-true, pow-suc, dec_le, add-one, arith}
use lib.Signed.{lt_z}
use Rattle.wire.specs.Choice.{pick}
use Rattle.wire.specs.Inside.{Within}
use Rattle.wire.proofs.Choices.{never}
use Rattle.text.specs.Text.{digit, decimal_by, decimal, signed_decimal, hex}

-- ---- decimal, by its two rules

-- any number of digits above n gives the same text
enough-by : (t : Bool) (n j k : ℕ) → ltb n 10 ≡ t → (10 ≤ n → decimal_by j (n / 10) ≡ decimal_by k (n / 10))
    → pick t (digit n ∷ []) (decimal_by j (n / 10) ++ digit (n % 10) ∷ []) ≡ pick t (digit n ∷ []) (decimal_by k (n / 10) ++ digit (n % 10) ∷ [])
enough-by true n j k e f = refl
enough-by false n j k e f = ap (λ (l : List ℕ). l ++ digit (n % 10) ∷ []) (f (ltb-false n 10 e))

enough : (n j k : ℕ) → n < j → n < k → decimal_by j n ≡ decimal_by k n
unfolding decimal_by
enough n zero k h l = absurd (let z : ⊥ = omega arith in z)
enough n (suc j) zero h l = absurd (let z : ⊥ = omega arith in z)
enough n (suc j) (suc k) h l = enough-by (ltb n 10) n j k refl (λ m. enough (n / 10) j k (omega arith) (omega arith))

pub decimal-low : (n : ℕ) → n < 10 → decimal n ≡ digit n ∷ []
unfolding decimal decimal_by
decimal-low n h = rw (add-one n, lt-ltb n 10 h) refl

pub decimal-high : (n : ℕ) → 10 ≤ n → decimal n ≡ decimal (n / 10) ++ digit (n % 10) ∷ []
unfolding decimal decimal_by
decimal-high n h =
    rw (add-one n, le-ltb n 10 h) (ap (λ (l : List ℕ). l ++ digit (n % 10) ∷ []) (enough (n / 10) n (n / 10 + 1) (omega arith) (omega arith)))

-- ---- decimal is short

-- a number below 10 ^ k has at most k digits
pub length-decimal : (k n : ℕ) → n < 10 ^ suc k → length (decimal n) ≤ suc k
length-decimal zero n h = let z : length (decimal n) ≡ 1 = ap length (decimal-low n h) in omega arith
length-decimal (suc k) n h = elim (dec_le 10 n) [
  | no l ↦ let z : length (decimal n) ≡ 1 = ap length (decimal-low n (omega arith)) in omega arith
  | yes l ↦
      let p : n < 10 ^ suc k * 10 = rw (pow-suc 10 (suc k)) at h in
      let z : length (decimal n) ≡ length (decimal (n / 10)) + 1 = ap length (decimal-high n l) ∙ length-append (decimal (n / 10)) (digit (n % 10) ∷ []) in
      let i : length (decimal (n / 10)) ≤ suc k = length-decimal k (n / 10) (omega arith) in
      omega arith
]

-- a number of 64 bits has at most 20
pub length-word : (n : ℕ) → n < 18446744073709551616 → length (decimal n) ≤ 20
length-word n h = length-decimal 19 n (omega arith)

-- and a signed one a sign besides
pub length-signed : (z : ℤ) → Within 64 z → length (signed_decimal z) ≤ 21
length-signed (pos n) h = let i = length-word n (omega arith) in omega arith
length-signed (negsuc n) h = let i = length-word (suc n) (omega arith) in omega arith

-- ---- decimal determines the number

-- the number that digits write
value : List ℕ → ℕ → ℕ
value [] v = v
value (d ∷ l) v = value l (v * 10 + (d - 48))

value-append : (a b : List ℕ) (v : ℕ) → value (a ++ b) v ≡ value b (value a v)
unfolding value
value-append [] b v = refl
value-append (d ∷ l) b v = value-append l b (v * 10 + (d - 48))

digit_value : (d : ℕ) → d < 10 → digit d - 48 ≡ d
digit_value d h = rw (lt-ltb d 10 h) (omega arith)

value-by : (k n : ℕ) → n < k → value (decimal_by k n) 0 ≡ n
unfolding value decimal_by
value-by zero n h = absurd (let z : ⊥ = omega arith in z)
value-by (suc k) n h = by-test (ltb n 10) refl (λ l. value-by k (n / 10) (omega arith))
  where
    by-test : (t : Bool) → ltb n 10 ≡ t → (10 ≤ n → value (decimal_by k (n / 10)) 0 ≡ n / 10)
        → value (pick t (digit n ∷ []) (decimal_by k (n / 10) ++ digit (n % 10) ∷ [])) 0 ≡ n
    by-test true e f = let z = digit_value n (ltb-true n 10 e) in omega arith
    by-test false e f =
        value-append (decimal_by k (n / 10)) (digit (n % 10) ∷ []) 0
        ∙ omega (arith, f (ltb-false n 10 e), digit_value (n % 10) (omega arith))

value-decimal : (n : ℕ) → value (decimal n) 0 ≡ n
unfolding decimal
value-decimal n = value-by (n + 1) n (omega arith)

-- two numbers with one text are one
pub decimal-once : (m n : ℕ) → decimal m ≡ decimal n → m ≡ n
decimal-once m n e = sym (value-decimal m) ∙ ap (λ (l : List ℕ). value l 0) e ∙ value-decimal n

-- ---- signed numbers and bytes

pub signed_below : (z : ℤ) → lt_z z (pos 0) ≡ true → signed_decimal z ≡ 45 ∷ decimal (nat_abs z)
signed_below (pos n) t = absurd (let h : n < 0 = ltb-true n 0 t in omega arith)
signed_below (negsuc n) t = refl

pub signed_above : (z : ℤ) → lt_z z (pos 0) ≡ false → signed_decimal z ≡ decimal (nat_abs z)
signed_above (pos n) t = refl
signed_above (negsuc n) t = never refl t

pub hex-append : (a b : List ℕ) → hex (a ++ b) ≡ hex a ++ hex b
hex-append [] b = refl
hex-append (x ∷ l) b = ap (λ (t : List ℕ). digit (x / 16) ∷ digit (x % 16) ∷ t) (hex-append l b)

pub hex-turn : (s : List ℕ) (i : ℕ) → i < length s → hex (take (i + 1) s) ≡ hex (take i s) ++ hex (get_or s i 0 ∷ [])
hex-turn s i h = rw (add-one i, take-suc s i 0 h) (hex-append (take i s) (get_or s i 0 ∷ []))
