-- The contracts of the walk that only checks: it answers a place or a refusal. Definitions only.
use Rattle.std.specs.Prelude.{◌≡◌, List, [], ◌∷◌, ℕ, ◌+◌, ◌-◌, ◌≤◌, ◌<◌, ℤ, pos, length, drop, get_or, Option, Some, None, Result, Ok, Err}
use Rattle.refusals.specs.declared.Refusal.{Refusal}
use Rattle.refusals.specs.declared.Refusal.TheVariants.{EndsInside, NotABool}
use Rattle.refusals.specs.Numbers.{number_of}
use Rattle.lmcp.specs.Run.{got, refused, Tag, tag, bad, prepend}
use Rattle.lmcp.specs.Read.{Read}
use Rattle.lmcp.specs.declared.Row.{Row}
use Rattle.lmcp.specs.Table.{rows_of, pitsurv}
use Rattle.std.proofs.Math.Seq.{slice}
use Rattle.lmcp.specs.Packed.{packed_of}
use Rattle.lmcp.specs.InsidePacked.{cell}

-- of all that is to be had, W, some is got, and `rest` is to come from place p of s
pub record Upto (s : List ℕ) (W : Read) (rest : List ℕ → Read) (p : ℕ) : Type 0 where
  pub ys : List ℤ
  pub whole : W ≡ prepend ys (rest (drop p s))
  pub within : p ≤ length s

-- the answer of a walk that checks: all of W is got, up to a place, or it is refused
abbrev pub Checks : List ℕ → Read → Result ℕ Refusal → Type 0
Checks s W (Ok p) = Upto s W (got []) p
Checks s W (Err r) = W ≡ refused (number_of r)

-- an object that is not null: its type, and its header lies within s
pub record Typed (s : List ℕ) (at : ℕ) (X : Tag ℕ ℤ) (t : ℕ) : Type 0 where
  pub some : t ≡ 0 → ⊥
  pub is : X ≡ tag t (pos t ∷ []) (drop (at + 15) s)
  pub within : at + 15 ≤ length s

-- the answer of a head at a place: none for null, a type, or a refusal
abbrev pub Heads : List ℕ → ℕ → Tag ℕ ℤ → Result (Option ℕ) Refusal → Type 0
Heads s at X (Ok None) = (X ≡ tag 0 (pos 0 ∷ []) (drop (at + 1) s)) × (at + 1 ≤ length s)
Heads s at X (Ok (Some t)) = Typed s at X t
Heads s at X (Err r) = X ≡ bad (number_of r)

-- the answer of a run of b bytes at place p, which ends in a bool where e is not 0
pub data Ran (s : List ℕ) (p b e : ℕ) : Result ℕ Refusal → Type 0 where
  cut : length s - p < b → Ran s p b e (Err EndsInside)
  odd : b ≤ length s - p → (e ≡ 0 → ⊥) → 1 < get_or s (p + b - 1) 0 → Ran s p b e (Err NotABool)
  bare : b ≤ length s - p → e ≡ 0 → Ran s p b e (Ok (p + b))
  truly : b ≤ length s - p → (e ≡ 0 → ⊥) → get_or s (p + b - 1) 0 ≤ 1 → Ran s p b e (Ok (p + b))

-- the rows of one step of the walk: a run, or one row
abbrev pub step_rows : ℕ → ℕ → List Row
step_rows v i = slice i (i + cell (packed_of v) i 5) (rows_of (pitsurv v))
