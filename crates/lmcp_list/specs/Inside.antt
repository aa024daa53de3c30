-- INSIDE: a line by the reader's answer and the list that it left. Definitions only; no promise rests on them.
use Rattle.std.specs.Prelude.{List, ◌++◌, ℕ, ℤ, take}
use Rattle.wire.specs.Text.{ascii}
use Rattle.lmcp.specs.Found.{Found, Numbers, Refused}
use Rattle.text.specs.Text.{decimal}
use Rattle.lmcp_list.specs.Lines.{spaced, refused_text}

abbrev pub found_text : List ℤ → Found → List ℕ
found_text list (Numbers n) = ascii " list" ++ spaced (take n list)
found_text list (Refused e) = refused_text e

abbrev pub found_line : ℕ → List ℤ → Found → List ℕ
found_line n list found = decimal n ++ found_text list found ++ ascii "\n"
