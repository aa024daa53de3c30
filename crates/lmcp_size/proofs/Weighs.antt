-- The walk that only checks, in places: what a leaf weighs, and the bytes of a row. Assumes nothing.
use Rattle.wire.proofs.Basics.{◌≡◌, refl, ℕ, ◌≤◌, ◌+◌, suc, ◌*◌, List, [], ◌∷◌, length, drop, sets, ℤ}
use Rattle.lmcp.specs.Run.{got, Tag, tag}
use Rattle.lmcp.specs.Write.{Write}
use Rattle.lmcp.specs.InsideEnds.{went, marks, Few15}
use Rattle.lmcp.proofs.WalkPlaces.{made, marked}
use Rattle.lmcp_size.specs.InsideWeighs.{Weighs, Tells}

-- over no output nothing is laid
pub none-laid : (ys : List ℕ) (to : ℕ) → [] ≡ sets [] to ys
none-laid [] to = refl
none-laid (y ∷ ys) to = none-laid ys (suc to)

module _ {list : List ℤ} {to : ℕ} (at' to' : ℕ) (place : to' ≤ 15 * at' + 8) (inside : at' ≤ length list) where
  pub weighed : {X : Write} (ys : List ℕ) → X ≡ got ys (drop at' list) → to' ≡ to + length ys → Weighs list to X (went at' to')
  weighed ys e p = made {Few = Few15} ys at' to' e (none-laid ys to) p place inside

  pub told : {X : Tag ℤ ℕ} (n : ℕ) (ys : List ℕ) → X ≡ tag n ys (drop at' list) → to' ≡ to + length ys → Tells list to X (marks n at' to')
  told n ys e p = marked {Few = Few15} n ys at' to' e (none-laid ys to) p place inside
