-- The loop: the digits so far and those to come are the number. Assumes nothing.
use Rattle.wire.proofs.Basics.{◌≡◌, drop}
use Rattle.find.specs.Numbers.{digits_from, number_in}
use Rattle.find.proofs.number_in.Given as goal

abbrev pub invariant-loop-x : goal.invariant-loop-x
invariant-loop-x l = digits_from l.most l.v (drop l.x-index l.text) ≡ number_in l.most l.text
