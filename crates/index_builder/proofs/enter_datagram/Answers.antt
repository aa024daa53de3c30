-- A row where the reader accepts the datagram, or none. Assumes nothing.
use Rattle.wire.proofs.Basics.{◌∙◌, sym, ap, ℕ}
use Rattle.datagram.specs.Read.{told}
use Rattle.log_index.specs.Rows.{row_of}
use Rattle.log_index.specs.Words.{entered}
use Rattle.index_builder.proofs.EntryTurns.{take_none, take-one}
use Rattle.index_builder.proofs.enter_datagram.Goals as goal

pub returns-in_default : goal.returns-in_default
returns-in_default c =
    let a = c.args in
    take_none a.sender a.place a.index.now a.n _ _ (sym c.read_datagram.ensures.answer ∙ ap told c.in_default.is)

pub returns : goal.returns
returns c =
    let a = c.args in
    take-one a.sender a.place a.index.now _ a.n _ _ (sym c.read_datagram.ensures.answer ∙ ap told c.in-Ok.is)
    (c.enter.ensures ∙ ap (λ (q : ℕ). entered a.index.now a.n (row_of a.sender q a.place)) c.from.ensures)
