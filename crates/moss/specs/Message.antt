-- The n-th message of a packet, from 0: its bytes, its place and length, and refusal 54. Definitions only.
use Rattle.std.specs.Prelude.{List, [], ◌∷◌, ℕ, zero, suc, ◌+◌, length}
use Rattle.moss.specs.Limits.{head_length}
use Rattle.moss.specs.Packet.{Given, gives, refuses, Packet}

pub record Part : Type 0 where
  pub at : ℕ
  pub len : ℕ

-- message n of those whose blocks lie from a place on
abbrev pub located : ℕ → ℕ → List (List ℕ) → Given Part
located n at [] = refuses 54
located zero at (m ∷ ms) = gives (record { at = at + 2; len = length m })
located (suc n) at (m ∷ ms) = located n (at + (2 + length m)) ms

abbrev pub place_in : Given Packet → ℕ → Given Part
place_in (refuses number) n = refuses number
place_in (gives p) n = located n head_length p.messages

abbrev pub nth : ℕ → List (List ℕ) → List ℕ
nth n [] = []
nth zero (m ∷ ms) = m
nth (suc n) (m ∷ ms) = nth n ms

-- for a refusal it is empty
abbrev pub message_in : Given Packet → ℕ → List ℕ
message_in (refuses number) n = []
message_in (gives p) n = nth n p.messages
