use Rattle.wire.proofs.Basics.{◌∙◌, sym, ap, length, length-set, arith}
use Rattle.wire.specs.Overlay.{overlay}
use Rattle.varint.specs.Seven.{groups}
use Rattle.wire.proofs.Overlays.{overlay-out, overlay-one, length-overlay}
use Rattle.varint.proofs.Sevens.{groups-last, group-left, fits_next, overlay-groups}
use Rattle.varint.proofs.+put_groups.Goals as goal

pub returns-then-out-at : goal.returns-then-out-at
returns-then-out-at t c =
    let a = c.args in
    sym (overlay-out a.out.now a.at (groups a.k a.v) c.if-out-at.true)

pub returns-then-v-lt128 : goal.returns-then-v-lt128
returns-then-v-lt128 t c =
    let a = c.args in
    sym (ap (overlay a.out.now a.at) (groups-last a.k a.v c.if-v-lt128.true) ∙ overlay-one a.out.now a.at a.v)

pub overflow_sub-k : goal.overflow_sub-k
overflow_sub-k t c =
    group-left c.args.k c.args.v c.requires c.if-v-lt128.false

pub put_groups-requires : goal.put_groups-requires
put_groups-requires t c =
    (omega (arith, group-left c.args.k c.args.v c.requires c.if-v-lt128.false), fits_next c.args.k c.args.v c.requires c.if-v-lt128.false)

pub shape_of-out : goal.shape_of-out
shape_of-out t c =
    ap length c.put_groups.ensures ∙ simp (length-overlay, length-set)

pub returns : goal.returns
returns t c =
    let l = c.if-v-lt128.false in
    c.put_groups.ensures ∙ overlay-groups c.args.out.now c.args.at c.args.k c.args.v (group-left c.args.k c.args.v c.requires l) l
