-- The lines of the program `lmcp_bytes`, in ASCII, and what they are about. Definitions only.
use Rattle.std.specs.Prelude.{◌≡◌, Bool, true, false, not, List, ◌++◌, ℕ, ◌/◌, ℤ, length, ltb, leb, eqb}
use Rattle.std.proofs.lemmas.List.Edits.{sets}
use Rattle.wire.specs.Choice.{pick, ◌when◌else◌}
use Rattle.wire.specs.Text.{ascii}
use Rattle.wire.specs.Bytes.{be}
use Rattle.wire.specs.Signed.{signed}
use Rattle.lmcp.specs.Made.{Made}
use Rattle.lmcp.specs.Run.{got, refused}
use Rattle.lmcp.specs.Write.{Write}
use Rattle.lmcp.specs.Message.{WrittenTo}
use Rattle.lmcp.specs.Lists.{write_list}
use Rattle.text.specs.Text.{decimal, hex}
use Rattle.output.specs.declared.Output.{Output}
use Rattle.output.specs.Output.{Adds}
use Rattle.record_lines.specs.Streams.{Rec, Stream, numbers_in}
use Rattle.record_lines.specs.Lines.{lines_of}

-- the numbers that the program holds
abbrev pub list_limit : ℕ
list_limit = 262_144

-- in two's complement
abbrev pub numbers_of : ℕ → List ℕ → List ℤ
numbers_of = numbers_in (signed 64)

-- the head's first byte: 0 leaves the checksum zero
abbrev pub calculated : List ℕ → Bool
calculated head = not (eqb (be 1 head) 0)

-- " longer than 262144 numbers"
abbrev pub longer_text : ℕ → List ℕ
longer_text n =
    ascii " longer than " ++ decimal n
    ++ ascii " numbers\n"

-- " bytes 4c4d4350"
abbrev pub bytes_text : List ℕ → List ℕ
bytes_text b = ascii " bytes " ++ hex b ++ ascii "\n"

-- " refused 29"
abbrev pub refused_text : ℕ → List ℕ
refused_text number = ascii " refused " ++ decimal number ++ ascii "\n"

-- a message, or its refusal, by a program that holds so many bytes of it
abbrev pub write_text : ℕ → Write → List ℕ
write_text room (got m rest) = pick (leb (length m) room) (bytes_text m) (refused_text 13)
write_text room (refused number) = refused_text number

-- a record's list, by a program that holds `most` numbers
abbrev pub list_text : ℕ → ℕ → Bool → List ℕ → List ℕ
list_text most room calculate body =
    longer_text most when ltb most (length body / 8) else
    write_text room (write_list calculate (numbers_of (length body / 8) body))

abbrev pub list_line : ℕ → ℕ → ℕ → Bool → List ℕ → List ℕ
list_line most room n calculate body = decimal n ++ list_text most room calculate body

-- line n, of a record
abbrev pub line : ℕ → ℕ → ℕ → Rec → List ℕ
line most room n x = list_line most room n (calculated x.head) x.body

-- of all records, with the last line
abbrev pub lines : ℕ → ℕ → Stream → List ℕ
lines most room = lines_of (line most room)

-- what the program holds: the number list and the message's bytes
pub record Holds : Type 0 where
  pub list : List ℤ
  pub bytes : List ℕ

-- The list that a body holds was written as a message.
pub record Made' (calculate : Bool) (body : List ℕ) (h h' : Holds) : Type 0 where
  pub taken : h'.list ≡ sets h.list 0 (numbers_of (length body / 8) body)
  pub made : Made
  pub written : WrittenTo (write_list calculate (numbers_of (length body / 8) body)) h.bytes made h'.bytes

-- It has more numbers than the program's list: list and bytes are not touched.
pub record Longer (h h' : Holds) : Type 0 where
  pub same-list : h'.list ≡ h.list
  pub same_bytes : h'.bytes ≡ h.bytes

abbrev pub by_length : Bool → Bool → List ℕ → Holds → Holds → Type 0
by_length true calculate body h h' = Longer h h'
by_length false calculate body h h' = Made' calculate body h h'

-- So of a record, and line n gives the message's bytes or its refusal, or says that the list is longer.
pub record Written (calculate : Bool) (body : List ℕ) (n : ℕ) (h : Holds) (out : Output) (h' : Holds) (out' : Output) : Type 0 where
  pub held : by_length (ltb (length h.list) (length body / 8)) calculate body h h'
  pub said : Adds out (list_line (length h.list) (length h.bytes) n calculate body) out'
