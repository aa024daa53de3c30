-- `lmcp::start_of` meets its contract: the last two rows of the table are where the types begin and end.
use Rattle.wire.proofs.Basics.{◌∙◌, sym, ap, ℕ, List, get_or, arith}
use Rattle.lmcp.specs.Table.{pitsurv, starts_of}
use Rattle.lmcp.specs.InsidePacked.{cell}
use Rattle.lmcp.proofs.Codes.{begin-is, end_is, starts-end}
use Rattle.lmcp.proofs.start_of.Goals as goal

pub returns-then-t-lt8 : goal.returns-then-t-lt8
returns-then-t-lt8 c =
    let a = c.args in
    c.entry.ensures ∙ ap (λ (y : List (List ℕ)). cell y 20 a.t) c.table-rows.ensures ∙ begin-is a.version a.t c.if-t-lt8.true

pub returns-then-t-eq8 : goal.returns-then-t-eq8
returns-then-t-eq8 c =
    let a = c.args in
    c.entry-then-t-eq8.ensures ∙ ap (λ (y : List (List ℕ)). cell y 21 7) c.table-rows.ensures ∙ end_is a.version ∙ ap (λ (n : ℕ). get_or (starts_of (pitsurv a.version)) n 0) (sym c.if-t-eq8.true)

pub returns : goal.returns
returns c =
    let a = c.args in
    starts-end a.version a.t (omega (arith, c.if-t-eq8.false, c.if-t-lt8.false))
