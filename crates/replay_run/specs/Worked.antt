-- The paper's own case: `replay` on B, A, B, each after its length. Definitions only.
use Rattle.std.specs.Prelude.{List, ◌++◌, ℕ, length}
use Rattle.wire.specs.Text.{ascii}
use Rattle.wire.specs.Bytes.{bytes}
use Rattle.steps.specs.Worked.{A-of, B-of}

abbrev pub framed : List ℕ → List ℕ
framed d = bytes 2 (length d) ++ d

-- the paper's A and B have sequence 7
abbrev pub given : List ℕ
given = framed (B-of 7) ++ framed (A-of 7) ++ framed (B-of 7)

abbrev pub printed : List ℕ
printed = ascii "1 kept\n" ++ ascii "2 delivered 3\n" ++ ascii "3 repeat\n" ++ ascii "end 3\n"

-- the bytes of the program's input buffer
abbrev pub buffer_bytes : ℕ
buffer_bytes = 262_144
