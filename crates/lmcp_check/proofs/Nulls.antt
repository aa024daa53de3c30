-- A null of an array. Assumes nothing.
use Rattle.wire.proofs.Basics.{◌∙◌, ◌≡◌, ap, refl, ℕ, ◌+◌, ◌<◌, List, [], ◌∷◌, true, ◌&&◌, length, drop, get_or, length-drop, drop-drop, eqb, ltb, pos, eqb-true, ltb-true, arith}
use Rattle.std.proofs.Common.{None, Ok}
use Rattle.wire.proofs.Choices.{and_l, and_r}
use Rattle.lmcp.specs.Run.{tag}
use Rattle.lmcp.specs.Table.{pitsurv}
use Rattle.lmcp.proofs.Widths.{be-one}
use Rattle.lmcp_check.specs.InsideSteps.{read_object}
use Rattle.lmcp_check.specs.InsideChecks.{Checks}
use Rattle.lmcp_check.proofs.ReadCases.{head-null}
use Rattle.lmcp_check.proofs.Steps.{object-null}

-- a null byte is inside
pub null-inside : (s : List ℕ) (p : ℕ) → ltb p (length s) && eqb (get_or s p 0) 0 ≡ true → (p < length s) × (get_or s p 0 ≡ 0)
null-inside s p e = (ltb-true p (length s) (and_l (ltb p (length s)) (eqb (get_or s p 0) 0) e), eqb-true (get_or s p 0) 0 (and_r (ltb p (length s)) (eqb (get_or s p 0) 0) e))

-- it is an object
pub null_checks : (v d t : ℕ) (s : List ℕ) (p : ℕ) → p < length s → get_or s p 0 ≡ 0 → Checks s (read_object v d t (drop p s)) (Ok (p + 1))
null_checks v d t s p l z =
    let h = head-null (pitsurv v) d t (drop p s) (rw length-drop (omega arith)) (get_or s p 0) (be-one s p (get_or s p 0) refl) z in
    object-null v d t s p (Ok None) (h ∙ ap (tag 0 (pos 0 ∷ [])) (drop-drop 1 p s), omega arith) refl
