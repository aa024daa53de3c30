-- The lines of the programs over an index, in ASCII. Definitions only.
use Rattle.std.proofs.Math.Option.{Option, none, some}
use Rattle.std.specs.Prelude.{List, ◌++◌, ℕ}
use Rattle.wire.specs.Text.{ascii}
use Rattle.text.specs.Text.{decimal}
use Rattle.log_index.specs.Rows.{Row}
use Rattle.log_index.specs.Index.{Answer, holds, refuses}

-- "sender 7 sequence 12 place 1"
abbrev pub row_line : Row → List ℕ
row_line r =
    (ascii "sender " ++ decimal r.sender)
    ++ (ascii " sequence " ++ decimal r.sequence)
    ++ (ascii " place " ++ decimal r.place ++ ascii "\n")

-- "refused 44"
abbrev pub refused_line : ℕ → List ℕ
refused_line number = ascii "refused " ++ decimal number ++ ascii "\n"

-- "place 1", or "none"
abbrev pub place_line : Option ℕ → List ℕ
place_line (some place) = ascii "place " ++ decimal place ++ ascii "\n"
place_line none = ascii "none\n"

-- what is said of a key: the log's or the index's refusal, or the place of its first entry
abbrev pub answer_line : Answer → Option ℕ → List ℕ
answer_line (refuses number) place = refused_line number
answer_line (holds n) place = place_line place
