-- `names::well_formed` meets its contract. The loop's invariant: what is left decides. Assumes nothing.
use Rattle.wire.proofs.Basics.{◌≡◌, drop}
use Rattle.names.specs.Scan.{start, scan}
use Rattle.names.proofs.well_formed.Given as goal

abbrev pub invariant-loop-x : goal.invariant-loop-x
invariant-loop-x l = scan start l.name ≡ scan l.s (drop l.x-index l.name)
