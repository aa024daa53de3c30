-- A digit, and no number above the most. Assumes nothing.
use Rattle.wire.proofs.Basics.{arith}
use Rattle.find.proofs.Digits.{below-digits, above-digits, above_most, one-digit}
use Rattle.find.proofs.with_digit.Goals as goal

pub returns-then-x-lt48 : goal.returns-then-x-lt48
returns-then-x-lt48 c = below-digits c.args.most c.args.v c.args.x c.if-x-lt48.true

pub returns-then-x-gt57 : goal.returns-then-x-gt57
returns-then-x-gt57 c = above-digits c.args.most c.args.v c.args.x c.if-x-lt48.false c.if-x-gt57.true

pub returns-then-most-d : goal.returns-then-most-d
returns-then-most-d c = above_most c.args.most c.args.v c.args.x c.if-x-lt48.false c.if-x-gt57.false (omega arith)

pub returns-then-most-d-2 : goal.returns-then-most-d-2
returns-then-most-d-2 c = above_most c.args.most c.args.v c.args.x c.if-x-lt48.false c.if-x-gt57.false (omega arith)

pub returns : goal.returns
returns c = one-digit c.args.most c.args.v c.args.x c.if-x-lt48.false c.if-x-gt57.false (omega arith)
