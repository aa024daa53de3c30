-- `lmcp_size::head_of` meets its contract, case by case.
use Rattle.wire.proofs.Basics.{rules, ◌∙◌, sym, ◌≡◌, ap, refl, ℕ, ◌+◌, [], ◌∷◌, true, false, drop, get_or, ℤ, pos, arith}
use lib.Signed.{mag}
use Rattle.lmcp.specs.Table.{pitsurv}
use Rattle.lmcp.specs.Value.{below}
use Rattle.lmcp.specs.Write.{header, typed_by_lem}
use Rattle.lmcp.proofs.Heads.{header-length}
use Rattle.lmcp.proofs.Sizes.{through}
use Rattle.lmcp_size.proofs.WriteCases.{at-end, here, head-end, head-null, head-deep, head-typed, head_untyped}
use Rattle.lmcp_size.proofs.Weighs.{told}
use Rattle.lmcp_size.proofs.head_of.Goals as goal

pub returns-then-from-list : goal.returns-then-from-list
returns-then-from-list c =
    let a = c.args in
    head-end (pitsurv a.version) a.deep a.declared (drop a.from.p a.list.now) (at-end a.list.now a.from.p c.if-from-list.true)

pub returns-then-below_of : goal.returns-then-below_of
returns-then-below_of c =
    let a = c.args in
    let z : ℤ = get_or a.list.now a.from.p (pos 0) in
    let same = through z (record { sfits = search rules }) in
    let e = here a.list.now a.from.p (omega (arith, c.if-from-list.false, c.requires.inside)) in
    let f : below 1 z ≡ true = sym (c.below_of.ensures ∙ ap (below 1) same) ∙ c.if-below_of.true in
    told (a.from.p + 1) (a.from.q + 1) (omega (arith, c.requires.place)) (omega (arith, c.if-from-list.false, c.requires.inside)) 0 (0 ∷ [])
    (head-null (pitsurv a.version) a.deep a.declared (drop a.from.p a.list.now) (drop (a.from.p + 1) a.list.now) z e f) refl

pub returns-then-deep-eq0 : goal.returns-then-deep-eq0
returns-then-deep-eq0 c =
    let a = c.args in
    let z : ℤ = get_or a.list.now a.from.p (pos 0) in
    let same = through z (record { sfits = search rules }) in
    let e = here a.list.now a.from.p (omega (arith, c.if-from-list.false, c.requires.inside)) in
    let f : below 1 z ≡ false = sym (c.below_of.ensures ∙ ap (below 1) same) ∙ c.if-below_of.false in
    head-deep (pitsurv a.version) a.deep a.declared (drop a.from.p a.list.now) (drop (a.from.p + 1) a.list.now) z e f c.if-deep-eq0.true

pub returns-then-typed_by : goal.returns-then-typed_by
returns-then-typed_by c =
    let a = c.args in
    let z : ℤ = get_or a.list.now a.from.p (pos 0) in
    let same = through z (record { sfits = search rules }) in
    let e = here a.list.now a.from.p (omega (arith, c.if-from-list.false, c.requires.inside)) in
    let f : below 1 z ≡ false = sym (c.below_of.ensures ∙ ap (below 1) same) ∙ c.if-below_of.false in
    let T = pitsurv a.version in
    let n = c.size_of-n.result in
    let k : typed_by_lem T a.declared z ≡ true = sym (c.typed_by.ensures ∙ ap (typed_by_lem T a.declared) same) ∙ c.if-typed_by.true in
    told (a.from.p + 1) (a.from.q + 15) (omega (arith, c.requires.place)) (omega (arith, c.if-from-list.false, c.requires.inside)) n (header T n)
    (head-typed T a.deep a.declared (drop a.from.p a.list.now) (drop (a.from.p + 1) a.list.now) z e f c.if-deep-eq0.false k n (c.size_of-n.ensures ∙ ap mag same)) (ap (λ (m : ℕ). a.from.q + m) (sym (header-length T n)))

pub returns : goal.returns
returns c =
    let a = c.args in
    let z : ℤ = get_or a.list.now a.from.p (pos 0) in
    let same = through z (record { sfits = search rules }) in
    let e = here a.list.now a.from.p (omega (arith, c.if-from-list.false, c.requires.inside)) in
    let f : below 1 z ≡ false = sym (c.below_of.ensures ∙ ap (below 1) same) ∙ c.if-below_of.false in
    let T = pitsurv a.version in
    let k : typed_by_lem T a.declared z ≡ false = sym (c.typed_by.ensures ∙ ap (typed_by_lem T a.declared) same) ∙ c.if-typed_by.false in
    head_untyped T a.deep a.declared (drop a.from.p a.list.now) (drop (a.from.p + 1) a.list.now) z e f c.if-deep-eq0.false k
