-- What the store and the ledger hold after a fragment is stored, and that the parts of two slots lie apart.
use Rattle.wire.proofs.Basics.{◌∙◌, sym, ◌≡◌, ap, ℕ, ◌≤◌, ◌+◌, ◌<◌, suc, ◌*◌, List, ◌≢◌, length, drop, get_or, set, length-set, get_or-drop, get_or-set_other, get_or-take, get_or-set_same, ℕ_discrete, dec_le}
use Rattle.wire.proofs.Basics.{arith}
use native.Mathlib.Nat.{mul-le-mul_right}
use Rattle.wire.specs.Overlay.{overlay}
use Rattle.wire.proofs.Overlays.{overlay-at, overlay-before, overlay-after}
use Rattle.datagram.specs.Limits.{max_fragments}
use Rattle.datagram.specs.Said.{Fragment}
use Rattle.steps.specs.Limits.{slot_count, ledger_length, slot_size_of}
use Rattle.steps.specs.Receive.{row, offset_of, length_of, ledger_with}

-- ---- bytes written at a place

module _ (d : List ℕ) (at : ℕ) (s : List ℕ) where
  pub write_in : at + length s ≤ length d → (i : ℕ) → i < length s → get_or (overlay d at s) (at + i) 0 ≡ get_or s i 0
  write_in fits i h =
      sym (get_or-drop at (overlay d at s) i 0)
      ∙ sym (get_or-take (length s) (drop at (overlay d at s)) i 0 h)
      ∙ ap (λ (l : List ℕ). get_or l i 0) (overlay-at d at s fits)

  pub write-out : (i : ℕ) → (at ≤ i → i < at + length s → ⊥) → get_or (overlay d at s) i 0 ≡ get_or d i 0
  write-out i h = elim (dec_le at i) [
    | yes k ↦ overlay-after d at s i (elim (dec_le (at + length s) i) [ yes g ↦ g | no g ↦ absurd (h k (omega arith)) ])
    | no k ↦ overlay-before d at s i (omega arith)
  ]

-- ---- the parts of the store

-- slot s's part lies in the store
pub part-fits : (s n C : ℕ) → s < slot_count → C ≡ slot_size_of n → s * C + C ≤ n
part-fits s n C h e =
    let z : suc s * C ≤ slot_count * C = mul-le-mul_right C h in
    omega arith

-- what is written in slot s's part is not in slot t's
pub part_apart : (s t C y b l : ℕ) → t ≢ s → y < C → b + l ≤ C → s * C + b ≤ t * C + y → t * C + y < s * C + b + l → ⊥
part_apart s t C y b l n a c u v = elim (dec_le s t) [
  | yes q ↦ let z : suc s * C ≤ t * C = mul-le-mul_right C (let u : suc s ≤ t = omega arith in u) in omega arith
  | no q ↦ let z : suc t * C ≤ s * C = mul-le-mul_right C (let u : suc t ≤ s = omega arith in u) in omega arith
]

-- ---- the rows of the ledger

-- two fragments have two rows
pub row_apart : (s t j k : ℕ) → j < max_fragments → k < max_fragments → (t ≡ s → j ≡ k → ⊥) → row t j ≢ row s k
row_apart s t j k a b n e = elim (ℕ_discrete t s) [
  | yes q ↦ n q (omega arith)
  | no q ↦ let z : ⊥ = omega arith in z
]

pub length-ledger : (ledger : List ℕ) (s : ℕ) (f : Fragment) → length (ledger_with ledger s f) ≡ length ledger
length-ledger ledger s f =
    length-set (set ledger (row s f.number) f.offset) (row s f.number + 1) (length f.bytes)
    ∙ length-set ledger (row s f.number) f.offset

module _ (ledger : List ℕ) (s : ℕ) (f : Fragment) where
  -- its own row
  module _ (whole : length ledger ≡ ledger_length) (inside : s < slot_count) (few : f.number < max_fragments) where
    pub offset-own : offset_of (ledger_with ledger s f) s f.number ≡ f.offset
    offset-own =
        get_or-set_other (set ledger (row s f.number) f.offset) (row s f.number + 1) (row s f.number) (length f.bytes) 0 (omega arith)
        ∙ get_or-set_same ledger (row s f.number) f.offset 0 (omega arith)

    pub length-own : length_of (ledger_with ledger s f) s f.number ≡ length f.bytes
    length-own =
        get_or-set_same (set ledger (row s f.number) f.offset) (row s f.number + 1) (length f.bytes) 0
        (omega (arith, length-set ledger (row s f.number) f.offset))

  -- any other row
  module _ (t j : ℕ) (other : row t j ≢ row s f.number) where
    pub offset-other : offset_of (ledger_with ledger s f) t j ≡ offset_of ledger t j
    offset-other =
        get_or-set_other (set ledger (row s f.number) f.offset) (row s f.number + 1) (row t j) (length f.bytes) 0 (omega arith)
        ∙ get_or-set_other ledger (row s f.number) (row t j) f.offset 0 other

    pub length-other : length_of (ledger_with ledger s f) t j ≡ length_of ledger t j
    length-other =
        get_or-set_other (set ledger (row s f.number) f.offset) (row s f.number + 1) (row t j + 1) (length f.bytes) 0 (omega arith)
        ∙ get_or-set_other ledger (row s f.number) (row t j + 1) f.offset 0 (omega arith)
