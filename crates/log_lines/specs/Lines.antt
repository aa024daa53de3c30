-- The lines of the programs over a log, in ASCII. Definitions only.
use Rattle.std.specs.Prelude.{Bool, List, [], ◌++◌, ℕ, ltb, length}
use Rattle.wire.specs.Choice.{◌when◌else◌}
use Rattle.wire.specs.Text.{ascii}
use Rattle.text.specs.Text.{decimal}
use Rattle.output.specs.declared.Output.{Output}
use Rattle.output.specs.Output.{Finishes, Ends}
use Rattle.flight_log.specs.Step.{Step}
use Rattle.flight_log.specs.Step.{Found, End, Refused}

-- "1 sender 7 tick 99 length 23"
abbrev pub entry_line : ℕ → ℕ → ℕ → ℕ → List ℕ
entry_line n sender tick len =
    decimal n
    ++ (ascii " sender " ++ decimal sender)
    ++ (ascii " tick " ++ decimal tick)
    ++ (ascii " length " ++ decimal len ++ ascii "\n")

-- "end 3", where n entries were read
abbrev pub end_line : ℕ → List ℕ
end_line n = ascii "end " ++ decimal n ++ ascii "\n"

-- "refused 43 after 2"
abbrev pub refused_line : ℕ → ℕ → List ℕ
refused_line number n = (ascii "refused " ++ decimal number) ++ (ascii " after " ++ decimal n ++ ascii "\n")

-- the last line, by the step that ended the reading
abbrev pub last_line : Step → ℕ → List ℕ
last_line End n = end_line n
last_line (Refused number) n = refused_line number n
last_line (Found e) n = []

-- "longer than 4194304 bytes"
abbrev pub longer_line : ℕ → List ℕ
longer_line most = (ascii "longer than " ++ decimal most) ++ ascii " bytes\n"

-- what is said of an input by a program that holds so many bytes: its lines, or that it is longer
abbrev pub input_lines : ℕ → (List ℕ → List ℕ) → List ℕ → List ℕ
input_lines most lines input =
    longer_line most when ltb most (length input) else
    lines input

-- so of what came
pub record Tells (most : ℕ) (lines : List ℕ → List ℕ) (before after : List ℕ) (r : Bool) : Type 0 where
  pub came : List ℕ
  pub said : Finishes before 0 (input_lines most lines came) after r

-- the same of a program's output, behind what it holds
pub record TellsTo (most : ℕ) (lines : List ℕ → List ℕ) (o o' : Output) (r : Bool) : Type 0 where
  pub came : List ℕ
  pub said : Ends o (input_lines most lines came) o' r
