-- `lmcp_size::check_root` meets its contract: an empty list, a null root, an object.
use Rattle.wire.proofs.Basics.{rules, ◌∙◌, sym, ◌≡◌, ap, subst, ℕ, ◌+◌, [], true, false, drop, get_or, ℤ, pos, arith}
use Rattle.lmcp.specs.Limits.{deepest}
use Rattle.lmcp.specs.Table.{pitsurv}
use Rattle.lmcp.specs.Value.{below}
use Rattle.lmcp.specs.Write.{writing}
use Rattle.lmcp.specs.InsideEnds.{Few15}
use Rattle.lmcp.proofs.WalkPlaces.{same-run, root-stops, root-null, root-object, empty}
use Rattle.lmcp.proofs.Sizes.{through}
use Rattle.lmcp_size.specs.InsideSteps.{write_object}
use Rattle.lmcp_size.specs.InsideWeighs.{Weighs}
use Rattle.lmcp_size.proofs.WriteCases.{here, head-end, head-null, root-some}
use Rattle.lmcp_size.proofs.check_root.Goals as goal

pub returns-then-list-eq0 : goal.returns-then-list-eq0
returns-then-list-eq0 c =
    let a = c.args in
    let T = pitsurv a.version in
    root-stops (writing T) T a.list.now 25 (head-end T deepest 0 a.list.now (empty a.list.now c.if-list-eq0.true))

pub returns-then-below_of : goal.returns-then-below_of
returns-then-below_of c =
    let a = c.args in
    let T = pitsurv a.version in
    let z : ℤ = get_or a.list.now 0 (pos 0) in
    let same = through z (record { sfits = search rules }) in
    let e = here a.list.now 0 (omega (arith, c.if-list-eq0.false)) in
    let f : below 1 z ≡ true = sym (c.below_of.ensures ∙ ap (below 1) same) ∙ c.if-below_of.true in
    root-null (writing T) T a.list.now (head-null T deepest 0 a.list.now (drop (0 + 1) a.list.now) z e f)

pub returns : goal.returns
returns c =
    let a = c.args in
    let T = pitsurv a.version in
    let z : ℤ = get_or a.list.now 0 (pos 0) in
    let same = through z (record { sfits = search rules }) in
    let e = here a.list.now 0 (omega (arith, c.if-list-eq0.false)) in
    let f : below 1 z ≡ false = sym (c.below_of.ensures ∙ ap (below 1) same) ∙ c.if-below_of.false in
    same-run Few15 a.list.now [] 8 c.check_object.result [] (root-object (writing T) T a.list.now (root-some T deepest 0 a.list.now (drop (0 + 1) a.list.now) z e f))
    (subst (λ (v : ℕ). Weighs a.list.now 8 (write_object v 16 0 a.list.now) c.check_object.result) c.of.ensures c.check_object.ensures)
