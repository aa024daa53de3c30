-- The worked roots read as they say, and both sides of the longest message: the definitions held to the paper, not to the code. Assumes nothing.
use Rattle.wire.proofs.Basics.{◌≡◌, ap, refl, ℕ, ◌+◌, List, map, true, length, drop, take, eq-eqb, le-ltb, lt-ltb, arith}
use Rattle.wire.specs.Bytes.{be}
use Rattle.wire.specs.Same.{same}
use Rattle.lmcp.specs.Limits.{magic}
use Rattle.lmcp.specs.Run.{prepend, and_then, after, repeat}
use Rattle.lmcp.specs.Table.{pitsurv}
use Rattle.lmcp.specs.Value.{fault, number_of}
use Rattle.lmcp.specs.Read.{reading, judged, read_value, read_count, typed, known, read_header, read_head}
use Rattle.lmcp.specs.Walk.{item, field, fields, object, root}
use Rattle.lmcp.specs.Message.{stored, frame}
use Rattle.lmcp.specs.Lists.{version_of_lem}
use Rattle.lmcp.specs.Worked.{Case, cases}

pub worked : map (λ (c : Case). root (reading (pitsurv (version_of_lem c.bytes))) (pitsurv (version_of_lem c.bytes)) c.bytes) cases ≡ map (λ (c : Case). c.gives) cases
unfolding be prepend and_then after repeat fault number_of judged read_value read_count typed known read_header read_head item field fields object root
worked = refl

-- ---- the longest message, and one byte more

module _ (m : List ℕ) (begins : take 4 m ≡ magic) where
  lmcp : same (take 4 m) magic ≡ true
  lmcp = ap (λ (l : List ℕ). same l magic) begins

  pub longest : length m ≡ 1048576 → be 4 (drop 4 m) ≡ 1048564 → stored m ≡ 0 → frame m ≡ 0
  unfolding frame
  longest l r z =
      simp (le-ltb (length m) 12 (omega arith), lmcp, le-ltb 1048576 (length m) (omega arith), eq-eqb (length m) (12 + be 4 (drop 4 m)) (omega arith), eq-eqb (stored m) 0 z)

  pub too_long_lem : length m ≡ 1048577 → frame m ≡ 21
  unfolding frame
  too_long_lem l = simp (le-ltb (length m) 12 (omega arith), lmcp, lt-ltb 1048576 (length m) (omega arith))
