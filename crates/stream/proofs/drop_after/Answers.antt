use Rattle.stream.proofs.Passing.{passing-held, passing-more, passing-done, passing-lacks, gone_held}
use Rattle.stream.proofs.drop_after.Goals as goal

pub returns-then-rest-held : goal.returns-then-rest-held
returns-then-rest-held c =
    gone_held c.args.buf.now c.args.place c.args.end c.args.rest c.requires.1 c.if-rest-held.true

pub loop-left-init : goal.loop-left-init
loop-left-init c =
    passing-held c.args.buf.now c.args.place c.args.end c.args.rest c.requires.0 c.requires.1 c.if-rest-held.false

pub returns-then-more-place : goal.returns-then-more-place
returns-then-more-place c =
    passing-lacks c.loop-left.invariant

pub returns-then-left-got : goal.returns-then-left-got
returns-then-left-got c =
    passing-done c.loop-left.invariant c.read_from-more.ensures c.if-left-got.true

pub loop-left-preserved : goal.loop-left-preserved
loop-left-preserved c =
    passing-more c.loop-left.invariant c.read_from-more.ensures c.if-left-got.false

pub returns : goal.returns
returns c = passing-lacks c.loop-left.invariant
