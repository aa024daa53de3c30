-- A log: document 02, L1. Behind its head "each entry is sender, arrival tick, datagram length, then the bytes."
-- Definitions only.
use Rattle.std.specs.Prelude.{List, [], ◌∷◌, ◌++◌, ℕ, ◌^◌, ◌≤◌, ◌<◌, length}
use Rattle.varint.specs.Seven.{seven}
use Rattle.datagram.specs.Limits.{max_datagram}
use Rattle.flight_log.specs.Editions.{Edition, head_bytes}

pub record Entry : Type 0 where
  pub sender : ℕ
  pub tick : ℕ
  pub datagram : List ℕ

abbrev pub entry_of : ℕ → ℕ → List ℕ → Entry
entry_of s t d = record { sender = s; tick = t; datagram = d }

-- "sender and tick are 64-bit, length at most 65,535"
pub record Keeps (e : Entry) : Type 0 where
  pub sender : e.sender < 2 ^ 64
  pub tick : e.tick < 2 ^ 64
  pub len : length e.datagram ≤ max_datagram

abbrev pub AllKeep : List Entry → Type 0
AllKeep [] = Unit
AllKeep (e ∷ es) = Keeps e × AllKeep es

unfoldable pub entry_bytes : Entry → List ℕ
entry_bytes e = seven e.sender ++ seven e.tick ++ seven (length e.datagram) ++ e.datagram

unfoldable pub body_of : List Entry → List ℕ
body_of [] = []
body_of (e ∷ es) = entry_bytes e ++ body_of es

-- the log of an edition and a list of entries
unfoldable pub log_of : Edition → List Entry → List ℕ
log_of v es = head_bytes v ++ body_of es
