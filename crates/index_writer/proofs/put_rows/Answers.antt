use Rattle.wire.proofs.Basics.{arith}
use Rattle.log_index.specs.Words.{row_at}
use Rattle.index_writer.proofs.Laying.{lay-none, lay-turn, lay-all}
use Rattle.index_writer.proofs.put_rows.Goals as goal

pub loop-i-init : goal.loop-i-init
loop-i-init c = lay-none (row_at c.args.index.now) c.args.file.now

pub put_row-requires : goal.put_row-requires
put_row-requires c = omega (arith, c.loop-i.invariant.size, c.loop-i-test.true, c.requires.1)

pub loop-i-preserved : goal.loop-i-preserved
loop-i-preserved c =
    let a = c.args in
    lay-turn (row_at a.index.now) a.file.now c.loop-i.i _ _ _ c.loop-i.invariant c.row_at.ensures c.put_row.ensures

pub shape_of-file : goal.shape_of-file
shape_of-file c = c.loop-i.invariant.size

pub returns : goal.returns
returns c =
    let a = c.args in
    lay-all (row_at a.index.now) a.file.now c.loop-i.i a.n _ c.loop-i.invariant (omega arith)
