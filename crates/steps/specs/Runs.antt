-- Calls of `step`, one after another, each with what the one before left. Definitions only.
use Rattle.std.proofs.Math.Option.{Option}
use mathlib.Core.List.{List, [], ◌∷◌, zip_with}
use Rattle.std.specs.Prelude.{ℕ, length, replicate}
use Rattle.datagram.specs.Limits.{max_fragments}
use Rattle.datagram.specs.Said.{said}
use Rattle.steps.specs.Limits.{ledger_length}
use Rattle.steps.specs.Memory.{Key, key_of}
use Rattle.steps.specs.Receive.{Machine, After, opened, step, sequence_of}
use Rattle.steps.specs.Answers.{Reply, reply, emptied_key}

-- the machine, and the store and the ledger that are lent to it
pub record World : Type 0 where
  pub machine : Machine
  pub store : List ℕ
  pub ledger : List ℕ

abbrev pub lending : Machine → List ℕ → List ℕ → World
lending m store ledger = record { machine = m; store = store; ledger = ledger }

-- as a call leaves it
abbrev pub world_of : After → World
world_of a = lending a.machine a.store a.ledger

-- a fresh receiver
abbrev pub fresh : List ℕ → List ℕ → World
fresh store ledger = lending (opened (length store)) store ledger

-- a fresh receiver over a store of so many bytes, nothing in it and in the ledger yet
unfoldable pub begun : ℕ → World
begun size = lending (opened size) (replicate size 0) (replicate ledger_length 0)

-- a datagram comes, of that sender
pub record Arrival : Type 0 where
  pub sender : ℕ
  pub datagram : List ℕ

abbrev pub from : ℕ → List ℕ → Arrival
from sender d = record { sender = sender; datagram = d }

-- its key, as a receiver with slots of C bytes reads it
abbrev pub key_in : ℕ → Arrival → Key
key_in C x = key_of x.sender (sequence_of (said C max_fragments x.datagram))

-- one call
abbrev pub call : World → Arrival → After
call w x = step w.machine w.store w.ledger x.sender x.datagram

-- what each call leaves and answers, in the order of arrival
unfoldable pub run : World → List Arrival → List After
run w [] = []
run w (x ∷ xs) = let a : After = call w x in a ∷ run (world_of a) xs

-- what the last of these calls left
abbrev pub left_by : World → List After → World
left_by w [] = w
left_by w (a ∷ l) = left_by (world_of a) l

-- the answer and the emptied key beside it, in the values of document 01
pub record Heard : Type 0 where
  pub answer : Reply
  pub emptied : Option Key

abbrev pub heard : Arrival → After → Heard
heard x a = record { answer = reply x.datagram a.store a.answer; emptied = emptied_key a.emptied }

abbrev pub all_heard : World → List Arrival → List Heard
all_heard w xs = zip_with heard xs (run w xs)
