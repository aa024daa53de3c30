-- The place of the first entry of the key, or the refusal. Assumes nothing.
use Rattle.wire.proofs.Basics.{◌∙◌, sym, ap}
use Rattle.wire.specs.Bytes.{Bytes}
use Rattle.output.proofs.Adding.{adds_is}
use Rattle.log_index.specs.Index.{Answer, refuses, first_entry_lem}
use Rattle.index_builder.specs.Adds.{says}
use Rattle.index_builder.proofs.Promises.{index-entries, finds-first}
use Rattle.index_lines.specs.Lines.{place_line, answer_line}
use Rattle.find.proofs.answer.Goals as goal

pub returns-in-Ok : goal.returns-in-Ok
returns-in-Ok c =
    let a = c.args in
    let all : Bytes a.log.now = λ i. (c.type_inv.log i).fits in
    let x = c.index_log.ensures in
    let i = index-entries a.log.now a.index.now _ _ _ x c.in-Ok.is in
    let f = c.find.ensures ∙ finds-first a.log.now all _ _ i a.sender a.sequence in
    let h = sym (ap says c.in-Ok.is) ∙ x.answer in
    adds_is c.pour_found.ensures (ap place_line f ∙ ap (λ (w : Answer). answer_line w (first_entry_lem a.log.now a.sender a.sequence)) h)

pub returns-in-Err : goal.returns-in-Err
returns-in-Err c =
    let a = c.args in
    let h = ap refuses c.number.ensures ∙ sym (ap says c.in-Err.is) ∙ c.index_log.ensures.answer in
    adds_is c.pour_refused.ensures (ap (λ (w : Answer). answer_line w (first_entry_lem a.log.now a.sender a.sequence)) h)
