-- Where both have words for the rows. Assumes nothing.
use Rattle.wire.proofs.Basics.{◌∙◌, arith}
use Rattle.log_index.proofs.Merges.{merge_none, merge-full, merge-fits}
use Rattle.log_index.proofs.merge.Goals as goal

pub returns-then-batch-m : goal.returns-then-batch-m
returns-then-batch-m c =
    let a = c.args in
    merge_none a.index.now a.n a.batch.now a.m c.if-batch-m.true

pub returns-then-index-m : goal.returns-then-index-m
returns-then-index-m c =
    let a = c.args in
    merge-full a.index.now a.n a.batch.now a.m c.if-batch-m.false (omega (arith, c.if-index-m.true))

pub returns-then-index-m-2 : goal.returns-then-index-m-2
returns-then-index-m-2 c =
    let a = c.args in
    merge-full a.index.now a.n a.batch.now a.m c.if-batch-m.false (omega (arith, c.if-index-m-2.true, c.if-index-m.false))

pub merge_all-requires : goal.merge_all-requires
merge_all-requires c =
    (omega (arith, c.if-batch-m.false), omega (arith, c.if-index-m-2.false, c.if-index-m.false))

pub returns : goal.returns
returns c =
    let a = c.args in
    c.merge_all.ensures ∙ merge-fits a.index.now a.n a.batch.now a.m c.if-batch-m.false (omega (arith, c.if-index-m-2.false, c.if-index-m.false))
