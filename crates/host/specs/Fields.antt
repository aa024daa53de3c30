-- What the C host is told of a datagram: a number, and ten numbers at the start of a lent list. Definitions only.
use Rattle.std.specs.Prelude.{◌≡◌, Bool, List, [], ◌∷◌, ℕ, ltb, length}
use Rattle.wire.specs.Choice.{pick}
use Rattle.wire.specs.Overlay.{overlay}
use Rattle.datagram.specs.declared.Header.{Header}
use Rattle.datagram.specs.Read.{Read, Good, Refused}

-- 1 small, 2 fragment
abbrev pub kind_of : Bool → ℕ
kind_of is_small = pick is_small 1 2

-- how many numbers tell of a datagram
abbrev pub field_count : ℕ
field_count = 10

-- kind, sequence, size, offset, number, count, name place and length, data place and length
abbrev pub fields_of : Header → List ℕ
fields_of h =
    kind_of h.small
    ∷ h.sequence
    ∷ h.size
    ∷ h.offset
    ∷ h.number
    ∷ h.count
    ∷ h.name.at
    ∷ h.name.len
    ∷ h.payload.at
    ∷ h.payload.len
    ∷ []

-- the reader's refusal; else 13 where fewer than ten numbers fit; else 0
abbrev pub told_answer : Read → List ℕ → ℕ
told_answer (Refused n) list = n
told_answer (Good h) list = pick (ltb (length list) field_count) 13 0

-- a refusal leaves the list; else the ten numbers stand at its start, and the rest stays
abbrev pub told_fields : Read → List ℕ → List ℕ
told_fields (Refused n) list = list
told_fields (Good h) list = pick (ltb (length list) field_count) list (overlay list 0 (fields_of h))

pub record Told (r : Read) (list : List ℕ) (answer : ℕ) (list' : List ℕ) : Type 0 where
  pub gave : answer ≡ told_answer r list
  pub left : list' ≡ told_fields r list
