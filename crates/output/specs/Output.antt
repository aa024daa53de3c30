-- Output through a buffer: text goes behind what is not written out yet, and a full buffer is written out whole. Definitions only.
use Rattle.std.specs.Prelude.{◌≡◌, Bool, true, false, List, ◌++◌, ℕ, ◌+◌, ◌*◌, ◌≤◌, ◌<◌, length, take}
use Rattle.wire.specs.Text.{ascii}
use Rattle.text.specs.Text.{decimal}
use Rattle.output.specs.declared.Output.{Output}
use Rattle.stream.specs.Records.{Next, Record, End, Cut}

-- a program's buffer has as many bytes or more
abbrev pub line_limit : ℕ
line_limit = 128

-- the place of an output that is closed: the system did not take all that was written out, and nothing more goes out
abbrev pub closed : ℕ
closed = 18446744073709551615

-- the length of a buffer: a line's or more, and no place of it means that the output is closed
abbrev pub Usable : ℕ → Type 0
Usable n = (line_limit ≤ n) × (n < closed)

-- The text follows what stood before a place and was not written out yet; now all before r is not. What was written out meanwhile, `gone`, is
-- whole buffers, each only once more text came than it had room for.
pub record Sends (before : List ℕ) (at : ℕ) (text after : List ℕ) (r : ℕ) : Type 0 where
  pub gone : List ℕ
  pub wholes : ℕ
  pub order : take at before ++ text ≡ gone ++ take r after
  pub whole : length gone ≡ wholes * length before
  pub needed : 0 < wholes → 0 < r
  pub within : r ≤ length after

-- the same, or the output is closed now, which cannot be while the text has room
pub record Goes (before : List ℕ) (at : ℕ) (text after : List ℕ) (r : ℕ) : Type 0 where
  pub sent : (r ≡ closed → ⊥) → Sends before at text after r
  pub shut : r ≡ closed → length before < at + length text

-- so of any text where the place lies within the buffer; an output that is closed stays so, and the buffer as it is
pub record Flows (before : List ℕ) (at : ℕ) (text after : List ℕ) (r : ℕ) : Type 0 where
  pub goes : at ≤ length before → Goes before at text after r
  pub stays : at ≡ closed → (r ≡ closed) × (after ≡ before)
  pub same_length : length after ≡ length before

abbrev pub Pours : List ℕ → ℕ → List ℕ → List ℕ → ℕ → Type 0
Pours before at text after r = Usable (length before) → Flows before at text after r

-- what is answered of all that stands before a place once it is written out: true where nothing does, false where the output is closed, and
-- otherwise what the system says
pub record WrittenOut (at : ℕ) (r : Bool) : Type 0 where
  pub nothing : at ≡ 0 → r ≡ true
  pub shut : at ≡ closed → r ≡ false

-- a program's last text, and all that is then not written out yet, which ends at a place
pub record Finishes (before : List ℕ) (at : ℕ) (text after : List ℕ) (r : Bool) : Type 0 where
  pub end : ℕ
  pub poured : Pours before at text after end
  pub told : WrittenOut end r

-- "end " where the input ended after its last record; "cut " where it ended inside one
abbrev pub last_word : Next → List ℕ
last_word End = ascii "end "
last_word Cut = ascii "cut "
last_word (Record at len left) = ascii "cut "

-- the last line, with how many records were whole
abbrev pub last_line : Next → ℕ → List ℕ
last_line next n = last_word next ++ decimal n ++ ascii "\n"

-- THE SAME OF A PROGRAM'S OUTPUT: the text goes behind what it holds, and it holds the same buffer
pub record Adds (before : Output) (text : List ℕ) (after : Output) : Type 0 where
  pub same : after.buf.ghost_name ≡ before.buf.ghost_name
  pub poured : Pours before.buf.now before.at text after.buf.now after.at

abbrev pub IsClosed : Output → Type 0
IsClosed o = o.at ≡ closed

-- its last text, and all that is not written out yet
pub record Ends (before : Output) (text : List ℕ) (after : Output) (r : Bool) : Type 0 where
  pub same : after.buf.ghost_name ≡ before.buf.ghost_name
  pub finished : Finishes before.buf.now before.at text after.buf.now r
