-- The lines of a count, in ASCII. Definitions only.
use Rattle.std.specs.Prelude.{List, [], ◌++◌, ℕ, zero, suc, eqb, get_or}
use Rattle.wire.specs.Text.{ascii}
use Rattle.wire.specs.Choice.{pick}
use Rattle.text.specs.Text.{decimal}

-- "entries 5", "kept 2", "repeated 1", "delivered 1"
abbrev pub total_lines : ℕ → ℕ → ℕ → ℕ → List ℕ
total_lines entries kept repeated delivered =
    (ascii "entries " ++ decimal entries ++ ascii "\n")
    ++ (ascii "kept " ++ decimal kept ++ ascii "\n")
    ++ (ascii "repeated " ++ decimal repeated ++ ascii "\n")
    ++ (ascii "delivered " ++ decimal delivered ++ ascii "\n")

-- "refused "
abbrev pub refused_word : List ℕ
refused_word = ascii "refused "

-- "refused 7 2", where 2 were refused by 7; a number that did not occur has no line
abbrev pub refused_line : ℕ → ℕ → List ℕ
refused_line number n = pick (eqb n 0) [] ((refused_word ++ decimal number) ++ (ascii " " ++ decimal n ++ ascii "\n"))

-- those of the numbers below n, rising
abbrev pub refused_lines : ℕ → List ℕ → List ℕ
refused_lines zero refused = []
refused_lines (suc n) refused = refused_lines n refused ++ refused_line n (get_or refused n 0)

-- "lists 3"
abbrev pub lists_line : ℕ → List ℕ
lists_line n = ascii "lists " ++ decimal n ++ ascii "\n"

-- "tile 9 pits 14 sure 11"
abbrev pub tile_line : ℕ → ℕ → ℕ → List ℕ
tile_line tile pits sure =
    (ascii "tile " ++ decimal tile)
    ++ (ascii " pits " ++ decimal pits)
    ++ (ascii " sure " ++ decimal sure ++ ascii "\n")

-- those of the first n tiles
abbrev pub tile_lines : ℕ → List ℕ → List ℕ → List ℕ → List ℕ
tile_lines zero tile pits sure = []
tile_lines (suc n) tile pits sure = tile_lines n tile pits sure ++ tile_line (get_or tile n 0) (get_or pits n 0) (get_or sure n 0)

-- "refused 43", the one line of a count that is refused
abbrev pub refusal_line : ℕ → List ℕ
refusal_line number = refused_word ++ decimal number ++ ascii "\n"
