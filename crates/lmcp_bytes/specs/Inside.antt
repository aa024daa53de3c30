-- INSIDE: what the program holds, and a line by the writer's answer. Definitions only; no promise rests on them.
use Rattle.std.specs.Prelude.{List, ℕ, ℤ, take}
use Rattle.lmcp.specs.Made.{Made, Bytes, Refused}
use Rattle.lmcp_bytes.specs.Lines.{bytes_text, refused_text, Holds}

abbrev pub holds : List ℤ → List ℕ → Holds
holds list bytes = record { list = list; bytes = bytes }

-- the bytes that the writer left, or its refusal
abbrev pub made_text : List ℕ → Made → List ℕ
made_text bytes (Bytes n) = bytes_text (take n bytes)
made_text bytes (Refused e) = refused_text e
