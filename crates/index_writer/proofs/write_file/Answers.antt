-- The room for words and bytes, then the head and the rows. Assumes nothing.
use Rattle.wire.proofs.Basics.{arith}
use Rattle.log_index.specs.Words.{row_at}
use Rattle.index_writer.proofs.Laying.{writes_fewer, writes_short, writes-all}
use Rattle.index_writer.proofs.Laying.{file-laid}
use Rattle.index_writer.proofs.write_file.Goals as goal

pub returns-then-index-n : goal.returns-then-index-n
returns-then-index-n c = writes_fewer _ _ _ _ (omega (arith, c.if-index-n.true))

pub returns-then-file-lt-HEAD_LENGTH : goal.returns-then-file-lt-HEAD_LENGTH
returns-then-file-lt-HEAD_LENGTH c = writes_short _ _ _ _ (omega (arith, c.if-index-n.false)) (omega (arith, c.if-file-lt-HEAD_LENGTH.true))

pub returns-then-file-n : goal.returns-then-file-n
returns-then-file-n c = writes_short _ _ _ _ (omega (arith, c.if-index-n.false)) (omega (arith, c.if-file-n.true, c.if-file-lt-HEAD_LENGTH.false))

pub returns : goal.returns
returns c =
    let a = c.args in
    writes-all a.index.now a.n a.covered a.file.now (omega (arith, c.if-index-n.false)) (omega (arith, c.if-file-lt-HEAD_LENGTH.false, c.if-file-n.false)) _
    (file-laid (row_at a.index.now) a.file.now a.n a.covered _ _ c.put_head.ensures c.put_rows.ensures)
