-- THE LINES OF A PROGRAM over the records of its input, one a record, and the last line. Definitions only.
use Rattle.std.specs.Prelude.{Bool, false, ◌≡◌, List, ◌++◌, ℕ, ◌+◌, length, Option, Some, None}
use Rattle.wire.specs.Slices.{Buffer, ◌⇒◌}
use Rattle.stream.specs.declared.Kind.{Kind}
use Rattle.stream.specs.declared.Input.{Input}
use Rattle.stream.specs.Records.{Next, End, Cut, ended_as, unread}
use Rattle.output.specs.declared.Output.{Output}
use Rattle.output.specs.Output.{Finishes, Adds, last_line}
use Rattle.record_lines.specs.declared.Told.{Told}
use Rattle.record_lines.specs.Streams.{Rec, Stream, ended, cut, also, many, records_in}

-- what a program says: line n of a record, by what it knows before it; what it knows after it; and the last line, by how the input ended and
-- how many records were whole
pub record Says (S : Type 0) : Type 0 where
  pub line : ℕ → S → Rec → List ℕ
  pub after : S → Rec → S
  pub last : Next → ℕ → List ℕ

-- of records behind n others
abbrev pub lines_after : {S : Type 0} → Says S → ℕ → S → Stream → List ℕ
lines_after p n s ended = p.last End n
lines_after p n s cut = p.last Cut n
lines_after p n s (also x xs) = p.line (n + 1) s x ++ lines_after p (n + 1) (p.after s x) xs

-- a program that knows nothing of the records before
abbrev pub each : (ℕ → Rec → List ℕ) → Says Unit
each line = record { line = λ n s x. line n x; after = λ s x. s; last = last_line }

abbrev pub lines_of : (ℕ → Rec → List ℕ) → Stream → List ℕ
lines_of line = lines_after (each line) 0 tt

-- Of all that was unread in a buffer, and of what came behind it, the lines went out, from a place on.
pub record Tells (kind : Kind) (lines : Stream → List ℕ) (b : List ℕ) (i : Input) (out : Buffer) (at : ℕ) (r : Bool) : Type 0 where
  pub came : List ℕ
  pub said : Finishes out.before at (lines (records_in many kind (length b) (unread b i ++ came))) out.after r

-- a record by its parts
abbrev pub rec_of : List ℕ → List ℕ → Rec
rec_of head body = record { head = head; body = body }

-- the same of a program's output, which holds the same buffer
pub record TellsTo (kind : Kind) (lines : Stream → List ℕ) (b : List ℕ) (i : Input) (o o' : Output) (r : Bool) : Type 0 where
  pub same : o'.buf.ghost_name ≡ o.buf.ghost_name
  pub tells : Tells kind lines b i (o.buf.now ⇒ o'.buf.now) o.at r

-- So far as the input went, the lines of its records went out; what is left to say is the last line, by how the input ended.
pub record Reached {S : Type 0} (p : Says S) (s : S) (kind : Kind) (b : List ℕ) (i : Input) (o : Output) (t : Told) (o' : Output) : Type 0 where
  pub came : List ℕ
  pub text : List ℕ
  pub all : lines_after p 0 s (records_in many kind (length b) (unread b i ++ came)) ≡ text ++ p.last (ended_as t.ending) t.n
  pub adds : Adds o text o'

-- or the output closed before that
abbrev pub Reaches : {S : Type 0} → Says S → S → Kind → List ℕ → Input → Output → Option Told → Output → Type 0
Reaches p s kind b i o (Some t) o' = Reached p s kind b i o t o'
Reaches p s kind b i o None o' = TellsTo kind (lines_after p 0 s) b i o o' false
