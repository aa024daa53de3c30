-- `lmcp_size::count_of` meets its contract.
use Rattle.wire.proofs.Basics.{rules, ◌∙◌, sym, ap, ℕ, ◌+◌, drop, get_or, ℤ, pos, arith}
use lib.Signed.{mag}
use Rattle.wire.specs.Bytes.{bytes}
use Rattle.wire.proofs.Numbers.{length-bytes}
use Rattle.lmcp.specs.Value.{below}
use Rattle.lmcp.proofs.Sizes.{through}
use Rattle.lmcp_size.proofs.WriteCases.{at-end, here, count-end, count-good, count-bad}
use Rattle.lmcp_size.proofs.Weighs.{told}
use Rattle.lmcp_size.proofs.count_of.Goals as goal

pub returns-then-from-list : goal.returns-then-from-list
returns-then-from-list c =
    let a = c.args in
    count-end a.w (drop a.from.p a.list.now) (at-end a.list.now a.from.p c.if-from-list.true)

pub returns-then-below_of : goal.returns-then-below_of
returns-then-below_of c =
    let a = c.args in
    let z : ℤ = get_or a.list.now a.from.p (pos 0) in
    let same = through z (record { sfits = search rules }) in
    let e = here a.list.now a.from.p (omega (arith, c.if-from-list.false, c.requires.0.inside)) in
    let n = c.size_of-n.result in
    let f = sym (c.below_of.ensures ∙ ap (below c.values_of.result) same) ∙ c.if-below_of.true in
    told (a.from.p + 1) (a.from.q + a.w) (omega (arith, c.requires.0.place, c.requires.1.1)) (omega (arith, c.if-from-list.false, c.requires.0.inside)) n (bytes a.w n)
    (count-good a.w (drop a.from.p a.list.now) (drop (a.from.p + 1) a.list.now) z e c.values_of.result c.values_of.ensures f n (c.size_of-n.ensures ∙ ap mag same))
    (ap (λ (n : ℕ). a.from.q + n) (sym (length-bytes a.w n)))

pub returns : goal.returns
returns c =
    let a = c.args in
    let z : ℤ = get_or a.list.now a.from.p (pos 0) in
    let same = through z (record { sfits = search rules }) in
    let e = here a.list.now a.from.p (omega (arith, c.if-from-list.false, c.requires.0.inside)) in
    let f = sym (c.below_of.ensures ∙ ap (below c.values_of.result) same) ∙ c.if-below_of.false in
    count-bad a.w (drop a.from.p a.list.now) (drop (a.from.p + 1) a.list.now) z e c.values_of.result c.values_of.ensures f
