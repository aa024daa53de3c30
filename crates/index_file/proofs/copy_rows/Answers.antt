use Rattle.wire.proofs.Basics.{arith}
use Rattle.index_file.specs.File.{file_row}
use Rattle.index_file.proofs.Steps.{copy-none, copy-turn, copy-all}
use Rattle.index_file.proofs.copy_rows.Goals as goal

pub loop-i-init : goal.loop-i-init
loop-i-init c = copy-none (file_row c.args.file.now) c.args.index.now

pub put_words-requires : goal.put_words-requires
put_words-requires c = omega (arith, c.loop-i.invariant.size, c.loop-i-test.true, c.requires)

pub loop-i-preserved : goal.loop-i-preserved
loop-i-preserved c =
    copy-turn (file_row c.args.file.now) c.args.index.now c.loop-i.i _ _ _ c.loop-i.invariant c.row_at.ensures c.put_words.ensures

pub shape_of-index : goal.shape_of-index
shape_of-index c = c.loop-i.invariant.size

pub returns : goal.returns
returns c =
    copy-all (file_row c.args.file.now) c.args.index.now c.loop-i.i c.args.n _ c.loop-i.invariant (omega arith)
