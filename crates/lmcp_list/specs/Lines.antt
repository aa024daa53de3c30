-- The lines of the program `lmcp_list`, in ASCII, and what they are about. Definitions only.
use Rattle.std.specs.Prelude.{List, [], ◌∷◌, ◌++◌, ℕ, leb, ℤ, length}
use Rattle.wire.specs.Choice.{pick}
use Rattle.wire.specs.Text.{ascii}
use Rattle.lmcp.specs.Found.{Found}
use Rattle.lmcp.specs.Run.{got, refused}
use Rattle.lmcp.specs.Read.{Read}
use Rattle.lmcp.specs.Message.{ReadTo}
use Rattle.lmcp.specs.Lists.{read_list}
use Rattle.text.specs.Text.{decimal, signed_decimal}
use Rattle.output.specs.declared.Output.{Output}
use Rattle.output.specs.Output.{Adds}
use Rattle.record_lines.specs.Streams.{Stream}
use Rattle.record_lines.specs.Lines.{lines_of}

-- the numbers that the program holds
abbrev pub list_limit : ℕ
list_limit = 262144

-- each number after a space
abbrev pub spaced : List ℤ → List ℕ
spaced [] = []
spaced (z ∷ l) = (32 ∷ signed_decimal z) ++ spaced l

-- " refused 22"
abbrev pub refused_text : ℕ → List ℕ
refused_text number = ascii " refused " ++ decimal number

-- " list 1 2 3" or a refusal, by a program that holds so many numbers
abbrev pub read_text : ℕ → Read → List ℕ
read_text most (got zs rest) = pick (leb (length zs) most) (ascii " list" ++ spaced zs) (refused_text 13)
read_text most (refused number) = refused_text number

-- line n, of a message
abbrev pub line : ℕ → ℕ → List ℕ → List ℕ
line most n message = decimal n ++ read_text most (read_list message) ++ ascii "\n"

-- of all messages, with the last line
abbrev pub lines : ℕ → Stream → List ℕ
lines most = lines_of (λ n x. line most n x.body)

-- The message was read into the list, and line n gives its numbers or its refusal.
pub record Listed (message : List ℕ) (n : ℕ) (list : List ℤ) (out : Output) (list' : List ℤ) (out' : Output) : Type 0 where
  pub found : Found
  pub read : ReadTo (read_list message) list found list'
  pub said : Adds out (line (length list) n message) out'
