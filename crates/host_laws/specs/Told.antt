-- What a C host reads of a call of `qm_receive` or `qm_receive_within`, in the values of document 01: by its answer, the eight numbers and the name. Definitions only.
use Rattle.std.specs.Prelude.{Bool, ◌&&◌, ◌||◌, List, ℕ, eqb, get_or, take, drop}
use Rattle.std.proofs.Math.Option.{Option, none, some}
use Rattle.wire.specs.Choice.{pick, ◌when◌else◌}
use Rattle.wire.specs.Slices.{Buffer}
use Rattle.datagram.specs.Limits.{max_name}
use Rattle.steps.specs.declared.Key.{Key}
use Rattle.steps.specs.Memory.{key_of}
use Rattle.steps.specs.Answers.{Reply, refused_by, kept, repeat, delivered}
use Rattle.steps.specs.Runs.{Arrival, Heard}
use Rattle.arrival.specs.Demand.{Delivery, name_in, handed_by}
use Rattle.host_state.specs.Lengths.{outcome_count}
use Rattle.host_receiver.specs.Calls.{lacking}

-- what was lent for the outcome, before the call and after it, and what the call answered
pub record Returned : Type 0 where
  pub told : Buffer
  pub name : Buffer
  pub answer : ℕ

-- there was no room for an outcome
abbrev pub lacks : Returned → Bool
lacks c = lacking c.told.before c.name.before

-- the eight numbers, and the bytes of a name
abbrev pub numbers : Returned → List ℕ
numbers c = take outcome_count c.told.after

abbrev pub name_told : Returned → List ℕ
name_told c = name_in (take max_name c.name.after)

-- of a delivered message the second number is 1 where it stands in the datagram, else it stands in the store; the next two are its place there and its length
abbrev pub payload_told : List ℕ → List ℕ → List ℕ → List ℕ
payload_told d store n = take (get_or n 3 0) (drop (get_or n 2 0) (pick (eqb (get_or n 1 0) 1) d store))

-- the first number: 1 kept, 2 repeat, 3 delivered
abbrev pub outcome_told : List ℕ → List ℕ → List ℕ → Reply
outcome_told d store n =
    delivered (payload_told d store n) when eqb (get_or n 0 0) 3 else
    repeat when eqb (get_or n 0 0) 2 else
    kept

-- the next three: 1 where a key was emptied, its sender and its sequence
abbrev pub emptied_told : List ℕ → Option Key
emptied_told n = pick (eqb (get_or n 4 0) 1) (some (key_of (get_or n 5 0) (get_or n 6 0))) none

-- what a call to the datagram d told, with the store as it left it: answer 0 and the numbers, or the number of the refusal
abbrev pub heard_told : List ℕ → List ℕ → Returned → Heard
heard_told d store c =
    pick (eqb c.answer 0)
    (record { answer = outcome_told d store (numbers c); emptied = emptied_told (numbers c) })
    (record { answer = refused_by c.answer; emptied = none })

-- it was accepted: answer 0, and 1 kept or 3 delivered
abbrev pub accepted_in : List ℕ → Bool
accepted_in n = eqb (get_or n 0 0) 1 || eqb (get_or n 0 0) 3

abbrev pub accepted_told : Returned → Bool
accepted_told c = eqb c.answer 0 && accepted_in (numbers c)

-- what it handed over to that arrival: the eighth number is the sequence of its key
abbrev pub hands_told : Arrival → Returned → List ℕ → Option Delivery
hands_told x c store = handed_by (key_of x.sender (get_or (numbers c) 7 0)) (name_told c) (heard_told x.datagram store c).answer
