-- The contracts of the walk that only checks: where it stands in the list, and how many bytes there are so far. Definitions only.
use Rattle.std.specs.Prelude.{◌≡◌, List, [], ℕ, ◌+◌, ◌*◌, ◌≤◌, ℤ, length, Result}
use Rattle.refusals.specs.declared.Refusal.{Refusal}
use Rattle.lmcp.specs.declared.Spot.{Spot}
use Rattle.lmcp.specs.Run.{Tag}
use Rattle.lmcp.specs.Write.{Write}
use Rattle.lmcp.specs.Table.{signed_kind}
use Rattle.lmcp.specs.InsideEnds.{begun, EndsBy, MarksBy, Few15}

-- the bytes of a number or a count
pub data Wide : ℕ → Type 0 where
  one : Wide 1
  two : Wide 2
  four : Wide 4
  eight : Wide 8

-- those of a kind, of which only a signed one has 8
pub record Ranges (kind w : ℕ) : Type 0 where
  pub wide : Wide w
  pub less : (kind ≡ signed_kind → ⊥) → w ≤ 7

-- the walk over no output: all of W is got, its bytes counted from `to` on, or it is refused
abbrev pub Weighs : List ℤ → ℕ → Write → Result Spot Refusal → Type 0
Weighs list to W r = EndsBy Few15 (begun list [] to) W r []

-- the same of a count or a type
abbrev pub Tells : List ℤ → ℕ → Tag ℤ ℕ → Result (ℕ × Spot) Refusal → Type 0
Tells list to X r = MarksBy Few15 (begun list [] to) X r []

-- what every function of the walk supposes of its two places
pub record Stands (list : List ℤ) (s : Spot) : Type 0 where
  pub place : s.q ≤ 15 * s.p + 8
  pub inside : s.p ≤ length list
