-- The place of the first row that is not before the key. Assumes nothing.
use Rattle.wire.proofs.Basics.{◌∙◌, sym}
use Rattle.log_index.proofs.Finds.{found_some, found_none, found_inside}
use Rattle.log_index.proofs.find.Goals as goal

pub bounds-index-i : goal.bounds-index-i
bounds-index-i c =
    let a = c.args in
    found_inside a.index.now a.n a.sender a.sequence _ _ c.least-m.ensures c.rank-i.ensures.0 (sym c.is_of.ensures ∙ c.if-is_of.true)

pub returns-then-is_of : goal.returns-then-is_of
returns-then-is_of c =
    let a = c.args in
    found_some a.index.now a.n a.sender a.sequence _ _ c.least-m.ensures c.rank-i.ensures.0 (sym c.is_of.ensures ∙ c.if-is_of.true)

pub returns : goal.returns
returns c =
    let a = c.args in
    found_none a.index.now a.n a.sender a.sequence _ _ c.least-m.ensures c.rank-i.ensures.0 (sym c.is_of.ensures ∙ c.if-is_of.false)
