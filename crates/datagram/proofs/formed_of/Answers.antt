-- `datagram::formed_of` meets its contract. Assumes nothing.
use Rattle.wire.proofs.Basics.{◌∙◌, sym}
use Rattle.datagram.specs.Read.{good_form, formed}
use Rattle.datagram.proofs.formed_of.Goals as goal

-- the header's numbers, as they stand in the datagram

pub returns-then-good_fragment : goal.returns-then-good_fragment
unfolding formed good_form
returns-then-good_fragment c =
    let q = c.four.ensures in
    let p = c.four-2.ensures in
    let o = c.four-3.ensures in
    let k = c.two.ensures.0 in
    let n = c.two-2.ensures.0 in
    let l = c.saturating_sub-n.ensures in
    let g = rw (p, o, k, n, l) at (sym c.good_fragment.ensures ∙ c.if-good_fragment.true) in
    rw (q, p, o, k, n, l, g)

pub returns : goal.returns
unfolding formed good_form
returns c =
    let p = c.four-2.ensures in
    let o = c.four-3.ensures in
    let k = c.two.ensures.0 in
    let n = c.two-2.ensures.0 in
    let l = c.saturating_sub-n.ensures in
    rw (rw (p, o, k, n, l) at (sym c.good_fragment.ensures ∙ c.if-good_fragment.false))
