-- The line of a receiver's answer, in ASCII. Definitions only.
use Rattle.std.specs.Prelude.{List, ◌++◌, ℕ}
use Rattle.wire.specs.Text.{ascii}
use Rattle.steps.specs.Receive.{Answer, Refused, Kept, Repeat, Delivered}
use Rattle.steps.specs.declared.Emptied.{Emptied}
use Rattle.steps.specs.declared.Emptied.TheVariants.{Nobody, Was}
use Rattle.text.specs.Text.{decimal}

-- " refused 7", " kept", " repeat" or " delivered 3"
abbrev pub answer_text : Answer → List ℕ
answer_text (Refused number) = ascii " refused " ++ decimal number
answer_text Kept = ascii " kept"
answer_text Repeat = ascii " repeat"
answer_text (Delivered place len) = ascii " delivered " ++ decimal len

-- the end of the line, and before it an emptied key: " emptied 0 7"
abbrev pub emptied_text : Emptied → List ℕ
emptied_text Nobody = ascii "\n"
emptied_text (Was key) =
    ascii " emptied " ++ decimal key.sender ++ (ascii " " ++ decimal key.sequence ++ ascii "\n")

-- line n
abbrev pub line : ℕ → Answer → Emptied → List ℕ
line n answer emptied = decimal n ++ answer_text answer ++ emptied_text emptied
