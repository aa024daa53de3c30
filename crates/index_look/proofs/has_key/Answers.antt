-- The head, the entry at the place, its sender and its sequence. Assumes nothing.
use Rattle.wire.proofs.Basics.{◌∙◌, sym, ap, ne_eqb}
use Rattle.std.proofs.Common.{Ok}
use Rattle.flight_log.specs.First.{first_told}
use Rattle.flight_log.specs.Step.{step_told}
use Rattle.index_look.proofs.Steps.{has-head, has_end, has-refused, has_other, has-this}
use Rattle.index_look.proofs.has_key.Goals as goal

pub returns-in_default : goal.returns-in_default
returns-in_default c =
    let a = c.args in
    has-head a.log.now a.place a.sender a.sequence _ (sym c.first_entry.ensures ∙ ap first_told c.in_default.is)

pub returns-in_default-next_entry : goal.returns-in_default-next_entry
returns-in_default-next_entry c =
    let a = c.args in
    has-refused a.log.now a.place a.sender a.sequence _ _ (sym c.in-Ok.ensures) _ (sym c.next_entry.ensures ∙ ap step_told c.in_default-next_entry.is)

pub returns-in_default-step : goal.returns-in_default-step
returns-in_default-step c =
    let a = c.args in
    has_end a.log.now a.place a.sender a.sequence _ _ (sym c.in-Ok.ensures) (sym c.next_entry.ensures ∙ ap step_told (c.in-Ok-next_entry.is ∙ ap Ok c.in_default-step.is))

pub returns-then-entry-sender : goal.returns-then-entry-sender
returns-then-entry-sender c =
    let a = c.args in
    let d = sym c.next_entry.ensures ∙ ap step_told (c.in-Ok-next_entry.is ∙ ap Ok c.in-Some.is) in
    has-this a.log.now a.place a.sender a.sequence _ _ (sym c.in-Ok.ensures) _ d c.if-entry-sender.true _ c.part-datagram.ensures _ c.sequence_is.ensures

pub returns-else-entry-sender : goal.returns-else-entry-sender
returns-else-entry-sender c =
    let a = c.args in
    let d = sym c.next_entry.ensures ∙ ap step_told (c.in-Ok-next_entry.is ∙ ap Ok c.in-Some.is) in
    ne_eqb _ _ c.if-entry-sender.false ∙ has_other a.log.now a.place a.sender a.sequence _ _ (sym c.in-Ok.ensures) _ d c.if-entry-sender.false
