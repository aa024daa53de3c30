-- One block by its cases: its size, what it says, what is wrong with it. Assumes nothing.
use Rattle.wire.proofs.Basics.{◌∙◌, sym, ◌≡◌, ap, refl, ℕ, ◌≤◌, ◌+◌, ◌<◌, ◌-◌, ◌*◌, ◌^◌, ◌%◌, List, false, length, drop, get_or, get_or-drop, get_or-take, eqb, eq-eqb, le-ltb, ne_eqb, lt-ltb, le-leb}
use Rattle.wire.proofs.Basics.{lt-leb, one-mul, arith}
use lib.Pow.{shl_exact, pow_pos}
use Rattle.wire.specs.Bytes.{be}
use Rattle.wire.proofs.Choices.{pick_all}
use Rattle.ack_blocks.specs.declared.Kind.{Kind}
use Rattle.ack_blocks.specs.declared.Kind.TheVariants.{Single, Run, Bitmap}
use Rattle.ack_blocks.specs.Kinds.{byte_of}
use Rattle.ack_blocks.specs.Limits.{largest, kind_single, kind_run, kind_map, single_length, run_length_lem, map_head}
use Rattle.ack_blocks.specs.Blocks.{single, run, map, bit_of, in_map}
use Rattle.ack_blocks.specs.Read.{kind_in, first_in, last_in, bits_in, map_bytes_lem, map_in, size_in, block_in, run_fault_lem, padding, map_fault_lem, fault_in}

module _ (b : List ℕ) where
  -- ---- a single
  pub size-single : kind_in b ≡ kind_single → size_in b ≡ single_length
  unfolding size_in
  size-single h = rw (eq-eqb (kind_in b) kind_single h)

  pub block-single : kind_in b ≡ kind_single → block_in b ≡ single (first_in b)
  unfolding block_in
  block-single h = rw (eq-eqb (kind_in b) kind_single h)

  -- ---- a run
  pub size-run : kind_in b ≡ kind_run → size_in b ≡ run_length_lem
  unfolding size_in
  size-run h = rw (ne_eqb (kind_in b) kind_single (λ e. omega arith), eq-eqb (kind_in b) kind_run h)

  pub block_run : kind_in b ≡ kind_run → block_in b ≡ run (first_in b) (last_in b)
  unfolding block_in
  block_run h = rw (ne_eqb (kind_in b) kind_single (λ e. omega arith), eq-eqb (kind_in b) kind_run h)

  -- ---- a bitmap
  module _ (one : kind_in b ≡ kind_single → ⊥) (two : kind_in b ≡ kind_run → ⊥) where
    pub size-map : size_in b ≡ map_head + map_bytes_lem (bits_in b)
    unfolding size_in
    size-map = rw (ne_eqb (kind_in b) kind_single one, ne_eqb (kind_in b) kind_run two)

    pub block-map : block_in b ≡ map (first_in b) (bits_in b) (map_in b)
    unfolding block_in
    block-map = rw (ne_eqb (kind_in b) kind_single one, ne_eqb (kind_in b) kind_run two)

  pub size-some : 0 < size_in b
  unfolding size_in
  size-some =
      pick_all (λ (n : ℕ). 0 < n) (eqb (kind_in b) kind_single) (λ e. omega arith)
      (λ e. pick_all (λ (n : ℕ). 0 < n) (eqb (kind_in b) kind_run) (λ f. omega arith) (λ f. omega arith))

  -- ---- what is wrong with a bitmap
  pub map-none : bits_in b ≡ 0 → map_fault_lem b ≡ 73
  unfolding map_fault_lem
  map-none h = rw (eq-eqb (bits_in b) 0 h)

  module _ (some : bits_in b ≡ 0 → ⊥) where
    pub map-over : largest < first_in b + bits_in b - 1 → map_fault_lem b ≡ 73
    unfolding map_fault_lem
    map-over h = rw (ne_eqb (bits_in b) 0 some, lt-ltb largest (first_in b + bits_in b - 1) h)

    module _ (fits : first_in b + bits_in b - 1 ≤ largest) where
      pub map-good : padding b ≡ 0 → map_fault_lem b ≡ 0
      unfolding map_fault_lem
      map-good h = rw (ne_eqb (bits_in b) 0 some, le-ltb largest (first_in b + bits_in b - 1) fits, eq-eqb (padding b) 0 h)

      pub map-padded : (padding b ≡ 0 → ⊥) → map_fault_lem b ≡ 74
      unfolding map_fault_lem
      map-padded h = rw (ne_eqb (bits_in b) 0 some, le-ltb largest (first_in b + bits_in b - 1) fits, ne_eqb (padding b) 0 h)

  -- ---- what is wrong with a block
  pub fault-kind : kind_map < kind_in b → fault_in b ≡ 71
  unfolding fault_in
  fault-kind h = rw (lt-ltb kind_map (kind_in b) h)

  module _ (known : kind_in b ≤ kind_map) where
    pub fault-cut : length b < size_in b → fault_in b ≡ 70
    unfolding fault_in
    fault-cut h = rw (le-ltb kind_map (kind_in b) known, lt-ltb (length b) (size_in b) h)

    module _ (whole : size_in b ≤ length b) where
      pub fault-run : kind_in b ≡ kind_run → fault_in b ≡ run_fault_lem b
      unfolding fault_in
      fault-run h = rw (le-ltb kind_map (kind_in b) known, le-ltb (length b) (size_in b) whole, eq-eqb (kind_in b) kind_run h)

      module _ (two : kind_in b ≡ kind_run → ⊥) where
        pub fault-map : kind_in b ≡ kind_map → fault_in b ≡ map_fault_lem b
        unfolding fault_in
        fault-map h =
            rw (le-ltb kind_map (kind_in b) known, le-ltb (length b) (size_in b) whole, ne_eqb (kind_in b) kind_run two, eq-eqb (kind_in b) kind_map h)

        pub fault-none : (kind_in b ≡ kind_map → ⊥) → fault_in b ≡ 0
        unfolding fault_in
        fault-none h =
            rw (le-ltb kind_map (kind_in b) known, le-ltb (length b) (size_in b) whole, ne_eqb (kind_in b) kind_run two, ne_eqb (kind_in b) kind_map h)

-- ---- a number and a bitmap

module _ (start bits : ℕ) (m : List ℕ) (n : ℕ) where
  pub map-before : n < start → in_map start bits m n ≡ false
  map-before h = rw (lt-leb start n h)

  pub map-past : start ≤ n → bits ≤ n - start → in_map start bits m n ≡ false
  map-past h l = rw (le-leb start n h, le-ltb (n - start) bits l)

  pub map-bit : start ≤ n → n - start < bits → in_map start bits m n ≡ bit_of m (n - start)
  map-bit h l = rw (le-leb start n h, lt-ltb (n - start) bits l)

-- a byte of the map
pub byte-is : (l : List ℕ) → be 1 l ≡ get_or l 0 0
unfolding be
byte-is l = omega arith

pub map-byte : (b : List ℕ) (j : ℕ) → j < map_bytes_lem (bits_in b) → be 1 (drop (map_head + j) b) ≡ get_or (map_in b) j 0
map-byte b j h =
    byte-is (drop (map_head + j) b)
    ∙ get_or-drop (map_head + j) b 0 0
    ∙ ap (λ (k : ℕ). get_or b k 0) (let e : map_head + j + 0 ≡ map_head + j = omega arith in e)
    ∙ sym (rw (get_or-take, get_or-drop) refl)

-- one of the powers of two, as the code makes it
pub step_is : (u : ℕ) → u < 64 → (1 * 2 ^ u) % 2 ^ 64 ≡ 2 ^ u
step_is u h = shl_exact {a = 1} 1 u 64 (omega arith) (omega arith) ∙ (rw one-mul)

pub step-some : (u : ℕ) → u < 64 → 0 < (1 * 2 ^ u) % 2 ^ 64
step-some u h = rw (step_is u h) (pow_pos u)

pub padding-is : (b : List ℕ) (x m k step : ℕ) → x ≡ be 1 (drop (10 + m) b) → m ≡ map_bytes_lem (bits_in b) → k ≡ bits_in b → step ≡ 2 ^ (8 * m - k) → x % step ≡ padding b
padding-is b x m k step ex em ek es =
    let e : x ≡ be 1 (drop (10 + map_bytes_lem (bits_in b)) b) = ex ∙ ap (λ (n : ℕ). be 1 (drop (10 + n) b)) em in
    let f : step ≡ 2 ^ (8 * map_bytes_lem (bits_in b) - bits_in b) = es ∙ (λ i. 2 ^ (8 * em i - ek i)) in
    (λ i. e i % f i)

-- the kinds are known ones
pub byte-known : (b : List ℕ) (kind : Kind) → byte_of kind ≡ kind_in b → kind_in b ≤ kind_map
byte-known b Single e = omega (arith, e)
byte-known b Run e = omega (arith, e)
byte-known b Bitmap e = omega (arith, e)
