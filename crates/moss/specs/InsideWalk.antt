-- INSIDE: what only private contracts use. Definitions only; no promise of a public function rests on them.
use Rattle.std.specs.Prelude.{List, [], ◌∷◌, ℕ, ◌+◌, eqb, length, Result, Ok, Err, Some, None}
use Rattle.std.specs.Prelude as std
use Rattle.wire.specs.Choice.{pick}
use Rattle.refusals.specs.declared.Refusal.{Refusal}
use Rattle.refusals.specs.declared.Refusal.TheVariants.{BlocksDoNotFill}
use Rattle.refusals.specs.Numbers.{number_of}
use Rattle.moss.specs.Packet.{Given, gives, refuses, Packet}
use Rattle.moss.specs.Message.{Part}
use Rattle.moss.specs.declared.Header as code
use Rattle.moss.specs.declared.Place.{Place}
use Rattle.moss.specs.declared.Trail.{Trail}
use Rattle.std.proofs.Math.Option.{Option, none, some}
use Rattle.moss.specs.Limits.{head_length}
use Rattle.moss.specs.Answers.{Header, header_of, said, part_of}

abbrev pub start : Trail
start = record { count = 0; found = None }

-- past a block at a place with a message of m bytes, looking out for message n
abbrev pub past : Trail → ℕ → ℕ → ℕ → Trail
past t n at m = record { count = t.count + 1; found = pick (eqb t.count n) (Some (record { at = at + 2; len = m })) t.found }

abbrev pub past_all : Trail → ℕ → ℕ → List (List ℕ) → Trail
past_all t n at [] = t
past_all t n at (m ∷ ms) = past_all (past t n at (length m)) n (at + (2 + length m)) ms

-- the message that was looked out for, if it was passed
abbrev pub pointed : std.Option Place → Given Part
pointed (Some place) = gives (part_of place)
pointed None = refuses 54

abbrev pub walked : Trail → ℕ → ℕ → Option (List (List ℕ)) → Result Trail Refusal
walked t n at none = Err BlocksDoNotFill
walked t n at (some ms) = Ok (past_all t n at ms)

-- a packet's numbers and the message that was looked out for
pub record Looked : Type 0 where
  pub header : Header
  pub found : std.Option Place

abbrev pub looked : ℕ → Given Packet → Given Looked
looked n (refuses number) = refuses number
looked n (gives p) = gives (record { header = header_of p; found = (past_all start n head_length p.messages).found })

-- the code's answer
abbrev pub looks : Result (code.Header × std.Option Place) Refusal → Given Looked
looks (Ok (h, found)) = gives (record { header = said h; found = found })
looks (Err refusal) = refuses (number_of refusal)
