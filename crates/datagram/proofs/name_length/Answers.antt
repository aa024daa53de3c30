-- `datagram::name_length` meets its contract. Assumes nothing.
use Rattle.wire.proofs.Basics.{◌∙◌, sym, length-take-le, arith}
use Rattle.datagram.proofs.Names.{name-none, name-here, name-bad}
use Rattle.datagram.proofs.name_length.Goals as goal

pub returns-then-b-c : goal.returns-then-b-c
returns-then-b-c c =
    sym (name-none c.args.b.now _ c.until_zero-c.ensures c.if-b-c.true)

pub slice_bounds-good_name-end : goal.slice_bounds-good_name-end
slice_bounds-good_name-end c =
    sym (length-take-le _ c.args.b.now (omega (arith, c.if-b-c.false)))

pub returns-then-good_name : goal.returns-then-good_name
returns-then-good_name c =
    sym (name-here c.args.b.now _ c.until_zero-c.ensures c.if-b-c.false (sym c.good_name.ensures ∙ c.if-good_name.true))

pub returns : goal.returns
returns c =
    sym (name-bad c.args.b.now _ c.until_zero-c.ensures c.if-b-c.false (sym c.good_name.ensures ∙ c.if-good_name.false))
