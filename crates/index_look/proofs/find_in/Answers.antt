-- The place of the first row that is not before the key. Assumes nothing.
use Rattle.wire.proofs.Basics.{◌∙◌, sym}
use Rattle.index_look.proofs.Steps.{found_some, found_none}
use Rattle.index_look.proofs.find_in.Goals as goal

pub returns-then-is_of : goal.returns-then-is_of
returns-then-is_of c =
    let a = c.args in
    found_some a.file.now a.n a.sender a.sequence _ c.rank-i.ensures.0 _ c.row_at-row.ensures (sym c.is_of.ensures ∙ c.if-is_of.true)

pub returns : goal.returns
returns c =
    let a = c.args in
    found_none a.file.now a.n a.sender a.sequence _ c.rank-i.ensures.0 _ c.row_at-row.ensures (sym c.is_of.ensures ∙ c.if-is_of.false)
