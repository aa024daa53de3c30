use Rattle.wire.proofs.Basics.{◌∙◌, sym, ap, ◌+◌, drop, eqb, arith}
use Rattle.names.specs.Scan.{scan}
use Rattle.names.specs.declared.Scan.{Scan}
use Rattle.names.proofs.Scans.{scan_step, scan-end}
use Rattle.names.proofs.well_formed.Goals as goal

pub loop-x-init : goal.loop-x-init
loop-x-init c = ap (λ (s : Scan). scan s c.args.name.now) (sym c.tails-s.ensures)

pub loop-x-preserved : goal.loop-x-preserved
loop-x-preserved c =
    let l = c.args.name.now in
    let i = c.loop-x.x-index in
    let step = scan_step c.loop-x.s l i (omega arith) in
    c.loop-x.invariant ∙ step ∙ ap (λ (s : Scan). scan s (drop (i + 1) l)) (sym c.next-s.ensures)

pub returns : goal.returns
returns c =
    let l = c.args.name.now in
    ap (λ (s : Scan). eqb s.left 0) (sym (c.loop-x.invariant ∙ scan-end c.loop-x.s l c.loop-x.x-index (omega arith)))
