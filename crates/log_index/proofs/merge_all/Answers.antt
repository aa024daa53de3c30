use Rattle.wire.proofs.Basics.{◌∙◌, arith}
use Rattle.log_index.proofs.Merges.{merged-turn, merged-end}
use Rattle.log_index.proofs.merge_all.Goals as goal

-- The loop: what is merged and what is to be merged are all. Assumes nothing.

pub loop-j-preserved : goal.loop-j-preserved
loop-j-preserved c =
    let l = c.loop-j in
    let m = c.merge_one-high.ensures in
    let h = c.loop-j-test.true in
    (omega (arith, m.within, l.invariant.0), (m.size ∙ l.invariant.1.0, merged-turn l.j l.high _ _ l.index _ h m ∙ l.invariant.1.1))

pub returns : goal.returns
returns c =
    let l = c.loop-j in
    merged-end l.j l.high _ l.index c.loop-j-test.false ∙ l.invariant.1.1
