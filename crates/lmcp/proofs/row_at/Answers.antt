-- `lmcp::row_at` meets its contract: the bytes of a row are the definition's row, and past the last stands the default.
use Rattle.wire.proofs.Basics.{◌∙◌, ◌≡◌, ap, ℕ, List}
use Rattle.lmcp.specs.Packed.{packed_of}
use Rattle.lmcp.specs.InsidePacked.{cell}
use Rattle.lmcp.proofs.Codes.{row_is, rows_end}
use Rattle.lmcp.proofs.row_at.Goals as goal

pub returns-then-i-lt-BEGINS : goal.returns-then-i-lt-BEGINS
returns-then-i-lt-BEGINS c =
    let a = c.args in
    let at : (k : ℕ) → cell c.table-rows.result a.i k ≡ cell (packed_of a.version) a.i k = λ k. ap (λ (y : List (List ℕ)). cell y a.i k) c.table-rows.ensures in
    row_is a.version a.i c.if-i-lt-BEGINS.true (c.entry.ensures ∙ at 0) (c.entry-then-i-lt-BEGINS.ensures ∙ at 1) (at 2) (c.entry-then-i-lt-BEGINS-2.ensures ∙ at 3)

pub returns : goal.returns
returns c = let a = c.args in rows_end a.version a.i c.if-i-lt-BEGINS.false
