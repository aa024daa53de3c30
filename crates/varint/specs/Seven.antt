-- Seven-bit numbers: document 02, L1. "Written in groups of seven bits, lowest group first, the top bit set on all but the last, and only in
-- the shortest form". Definitions only.
use Rattle.std.specs.Prelude.{List, [], ◌∷◌, ℕ, zero, suc, ◌+◌, ◌-◌, ◌*◌, ◌/◌, ◌%◌, eqb, ltb, length, drop, Result, Ok, Err}
use Rattle.wire.specs.Choice.{pick}
use Rattle.wire.specs.Taken.{Taken, taken, refused}
use Rattle.refusals.specs.declared.Refusal.{Refusal}
use Rattle.refusals.specs.Numbers.{number_of}

-- a 64-bit number has its first group and at most nine after it
abbrev pub groups_after : ℕ
groups_after = 9

-- ---- written: the shortest bytes of v, with at most k groups after the first

unfoldable pub groups : ℕ → ℕ → List ℕ
groups zero v = v ∷ []
groups (suc k) v = pick (ltb v 128) (v ∷ []) ((128 + v % 128) ∷ groups k (v / 128))

abbrev pub seven : ℕ → List ℕ
seven v = groups groups_after v

-- ---- read: the number at the front of some bytes and what follows it, or the refusal

-- A byte x with its top bit set is the lowest group; the groups after it count 128. Where they are 0, the number is not in its shortest form.
abbrev pub lowest : ℕ → Taken ℕ → Taken ℕ
lowest x (refused n) = refused n
lowest x (taken v rest) = pick (eqb v 0) (refused 41) (taken (x - 128 + 128 * v) rest)

-- 43 where the bytes end before its last group does, which comes before any look at its value; the tenth byte is at most 1
unfoldable pub groups_in : ℕ → List ℕ → Taken ℕ
groups_in k [] = refused 43
groups_in zero (x ∷ b) = pick (ltb 1 x) (refused 41) (taken x b)
groups_in (suc k) (x ∷ b) = pick (ltb x 128) (taken x b) (lowest x (groups_in k b))

abbrev pub seven_in : List ℕ → Taken ℕ
seven_in b = groups_in groups_after b

-- ---- the code's answer: the number and the place of s at which what follows it begins

pub data Seven : Type 0 where
  Number : ℕ → ℕ → Seven
  Refused : ℕ → Seven

-- what the code says, in the papers' values
abbrev pub told : Result (ℕ × ℕ) Refusal → Seven
told (Ok (v, next)) = Number v next
told (Err r) = Refused (number_of r)

abbrev pub placed : List ℕ → Taken ℕ → Seven
placed s (taken v rest) = Number v (length s - length rest)
placed s (refused n) = Refused n

-- the number at a place of s
abbrev pub seven_at : List ℕ → ℕ → Seven
seven_at s at = placed s (seven_in (drop at s))
