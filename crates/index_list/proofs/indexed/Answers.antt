-- The rows that were indexed, or the refusal. Assumes nothing.
use Rattle.wire.proofs.Basics.{◌∙◌, sym, ap, length}
use Rattle.log_index.specs.Index.{Answer, refuses, rows_in}
use Rattle.index_builder.specs.Adds.{says}
use Rattle.index_builder.proofs.Promises.{index-entries, index-room}
use Rattle.output.proofs.Adding.{ends_is}
use Rattle.index_list.specs.Lines.{index_lines_lem}
use Rattle.index_list.proofs.Listing.{lines-held}
use Rattle.index_list.proofs.indexed.Goals as goal

pub listed-requires : goal.listed-requires
listed-requires c =
    let a = c.args in
    index-room a.log.now _ _ (index-entries a.log.now a.index.now _ _ _ c.index_log.ensures c.in-Ok.is)

pub returns-in-Ok : goal.returns-in-Ok
returns-in-Ok c =
    let a = c.args in
    let i = index-entries a.log.now a.index.now _ _ _ c.index_log.ensures c.in-Ok.is in
    ends_is c.listed.ensures (lines-held a.log.now _ (length a.index.now) _ i (sym (ap says c.in-Ok.is) ∙ c.index_log.ensures.answer))

pub returns-in-Err : goal.returns-in-Err
returns-in-Err c =
    let a = c.args in
    ends_is c.refused.ensures (ap (λ (y : Answer). index_lines_lem y (rows_in a.log.now)) (ap refuses c.number.ensures ∙ sym (ap says c.in-Err.is) ∙ c.index_log.ensures.answer))
