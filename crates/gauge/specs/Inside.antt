-- INSIDE: the lengths that a line has, on the way to it. Definitions only; no promise rests on them.
use Rattle.std.proofs.Math.Option.{Option, none, some}
use Rattle.std.specs.Prelude.{List, [], map, ℕ, length}
use Rattle.moss.specs.Packet.{Given, gives, refuses, Packet}

-- the lengths of messages that blocks hold, and of a packet's
abbrev pub lengths_in : Option (List (List ℕ)) → List ℕ
lengths_in none = []
lengths_in (some ms) = map length ms

abbrev pub lengths_of : Given Packet → List ℕ
lengths_of (refuses number) = []
lengths_of (gives p) = map length p.messages
