-- The lines of the program `log_list`, in ASCII. Definitions only.
use Rattle.std.specs.Prelude.{List, [], ◌∷◌, ◌++◌, ℕ, ◌+◌, length}
use Rattle.flight_log.specs.Entries.{Entry}
use Rattle.flight_log.specs.Listed.{Listed, whole, broken, entries_in}
use Rattle.log_lines.specs.Lines.{entry_line, end_line, refused_line}

-- one line an entry, behind n entries before them, and the last line, by how many there are in all
abbrev pub lines_after : ℕ → List Entry → (ℕ → List ℕ) → List ℕ
lines_after n [] last = last n
lines_after n (e ∷ es) last = entry_line (n + 1) e.sender e.tick (length e.datagram) ++ lines_after (n + 1) es last

-- of a log: all its entries, or those before the refusal
abbrev pub log_lines_lem : Listed → List ℕ
log_lines_lem (whole es) = lines_after 0 es end_line
log_lines_lem (broken es number) = lines_after 0 es (refused_line number)

-- of the bytes of a log
abbrev pub list_lines : List ℕ → List ℕ
list_lines log = log_lines_lem (entries_in log)
