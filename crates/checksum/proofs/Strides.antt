-- The sum of a run of bytes, a stride at a time. Assumes nothing.
use Rattle.wire.proofs.Basics.{◌∙◌, ◌≡◌, ap, refl, ℕ, ◌≤◌, ◌+◌, ◌<◌, ◌^◌, ◌%◌, List, length, drop, get_or, take, drop-drop, take_all, drop-cons, take-add, arith}
use Rattle.wire.specs.Sum.{sum}
use Rattle.wire.proofs.Sums.{sum-append}
use Rattle.checksum.specs.InsideStrides.{Summed}

-- the sum of m + n bytes at a place is that of m, and that of the n after them
pub sum-join : (b : List ℕ) (i m n : ℕ) → sum (take (m + n) (drop i b)) ≡ sum (take m (drop i b)) + sum (take n (drop (i + m) b))
sum-join b i m n = rw (take-add m n (drop i b), sum-append, drop-drop) refl

-- one byte is its own sum
pub sum-byte : (b : List ℕ) (i : ℕ) → i < length b → sum (take 1 (drop i b)) ≡ get_or b i 0
unfolding sum
sum-byte b i h = rw (drop-cons b i 0 h) (omega arith)

-- a turn of a loop that adds n bytes
pub stride-turn : (b : List ℕ) (i n t x : ℕ) → t ≡ sum (take i b) % 2 ^ 32 → x ≡ sum (take n (drop i b)) → (t + x) % 2 ^ 32 ≡ sum (take (i + n) b) % 2 ^ 32
stride-turn b i n t x e f = rw (take-add i n b, sum-append, e, f) (omega arith)

-- eight bytes, each its own, and eight times eight
pub sum-eight : (b : List ℕ) (i : ℕ) → i + 8 ≤ length b
    → sum (take 8 (drop i b))
    ≡ get_or b i 0 + get_or b (i + 1) 0 + get_or b (i + 2) 0 + get_or b (i + 3) 0 + get_or b (i + 4) 0 + get_or b (i + 5) 0 + get_or b (i + 6) 0 + get_or b (i + 7) 0
sum-eight b i h =
    let more : (m : ℕ) → m < 8 → sum (take (m + 1) (drop i b)) ≡ sum (take m (drop i b)) + get_or b (i + m) 0 =
    λ m l. sum-join b i m 1 ∙ ap (λ (x : ℕ). sum (take m (drop i b)) + x) (sum-byte b (i + m) (omega arith)) in
    omega (arith, sum-byte b i (omega arith), more 1 (omega arith), more 2 (omega arith), more 3 (omega arith), more 4 (omega arith), more 5 (omega arith), more 6 (omega arith), more 7 (omega arith))

pub sum-stride : (b : List ℕ) (i : ℕ)
    → let s : ℕ → ℕ = λ k. sum (take 8 (drop k b)) in
    sum (take 64 (drop i b)) ≡ s i + s (i + 8) + s (i + 16) + s (i + 24) + s (i + 32) + s (i + 40) + s (i + 48) + s (i + 56)
sum-stride b i = omega (arith, sum-join b i 8 8, sum-join b i 16 8, sum-join b i 24 8, sum-join b i 32 8, sum-join b i 40 8, sum-join b i 48 8, sum-join b i 56 8)

-- ---- what the loops hand on

pub summed-more : (b : List ℕ) (i n t x : ℕ) → Summed b i t → i + n ≤ length b → x ≡ sum (take n (drop i b)) → Summed b (i + n) ((t + x) % 2 ^ 32)
summed-more b i n t x s h e = record { inside = h; so_far = stride-turn b i n t x s.so_far e }

pub summed-all : (b : List ℕ) (i t : ℕ) → Summed b i t → length b ≤ i → t ≡ sum b % 2 ^ 32
summed-all b i t s h = s.so_far ∙ ap (λ (l : List ℕ). sum l % 2 ^ 32) (take_all i b h)
