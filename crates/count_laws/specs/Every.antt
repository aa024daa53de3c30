-- OF EVERY LOG, with nothing supposed: what stands in its report, and what is certain to. Its proofs are `only-delivered` of proofs/Every and `strangers-counted` of
-- proofs/Strangers. Definitions only.
use Rattle.std.specs.Prelude.{◌≡◌, ◌↔◌, ◌⊎◌, Bool, true, false, List, [], ◌∷◌, ◌++◌, ℕ, length}
use Rattle.wire.specs.Choice.{pick}
use Rattle.datagram.specs.Read.{Read, Good, Refused}
use Rattle.steps.specs.Limits.{slot_size_of}
use Rattle.steps.specs.Answers.{delivered}
use Rattle.steps.specs.Runs.{World, Arrival, fresh, run, left_by}
use Rattle.arrival.specs.Demand.{Message}
use Rattle.arrival.specs.Strangers.{Start, part, Feed, begun, ◌▹◌, comes, complete, Begins, Supposed}
use Rattle.flight_log.specs.declared.reader.Limits.{Limits}
use Rattle.flight_log.specs.Editions.{limits_in_lem}
use Rattle.flight_log.specs.Entries.{Entry}
use Rattle.flight_log.specs.Listed.{whole, entries_in}
use Rattle.within_limits.specs.Within.{read_within_lem}
use Rattle.sorted_set.specs.Lists.{In}
use Rattle.count_rules.specs.Marks.{PitList, list_in}
use Rattle.count_rules.specs.Meaning.{Means}
use Rattle.count_rules.specs.Report.{report}
use Rattle.count_rules.specs.Run.{arrival_of, answer_to}
use Rattle.count_rules.specs.Run as entries
use Rattle.count_rules.specs.Count.{Report, reported, count_log_lem}

-- ==== "no tile, pit or sure mark stands in the report that no delivered list names"

-- what entries leave, each called with what the one before left
abbrev pub after_entries : Limits → World → List Entry → World
after_entries l w [] = w
after_entries l w (e ∷ es) = after_entries l (entries.left_by l w e) es

-- an entry of the log is answered Delivered, with this payload
pub record Delivers (store ledger log payload : List ℕ) : Type 0 where
  pub earlier : List Entry
  pub entry : Entry
  pub later : List Entry
  pub stands : entries_in log ≡ whole (earlier ++ entry ∷ later)
  pub answered : answer_to (limits_in_lem log) (after_entries (limits_in_lem log) (fresh store ledger) earlier) entry ≡ delivered payload

-- a list that such a payload is
pub record DeliveredList (store ledger log : List ℕ) (l : PitList) : Type 0 where
  pub payload : List ℕ
  pub delivers : Delivers store ledger log payload
  pub is : In l (list_in payload)

-- The lines are those of the delivered lists, and of no others: what tiles, pits and sure pits then stand there, `Means` says.
pub record FromDelivered (store ledger log : List ℕ) (r : Report) : Type 0 where
  pub lists : List PitList
  pub lines_are : r.lines ≡ report lists
  pub all-delivered : (l : PitList) → In l lists ↔ DeliveredList store ledger log l
  pub mean : Means lists

abbrev pub OnlyDelivered : Type 0
OnlyDelivered = (room : ℕ) (store ledger log : List ℕ) (r : Report) → count_log_lem room store ledger log ≡ reported r → FromDelivered store ledger log r

-- ==== "and every message that L12 promises is in it"

abbrev pub is_refusal : Read → Bool
is_refusal (Good h) = false
is_refusal (Refused n) = true

-- the arrivals that a log's limits let through to a receiver with slots of C bytes, in order
abbrev pub let_through : Limits → ℕ → List Entry → List Arrival
let_through l C [] = []
let_through l C (e ∷ es) = pick (is_refusal (read_within_lem l C e.datagram)) (let_through l C es) (arrival_of e ∷ let_through l C es)

-- L12's feed of these arrivals
abbrev pub fed : Feed → List Arrival → Feed
fed f [] = f
fed f (x ∷ xs) = fed (f ▹ comes x) xs

-- the message, and what its first fragment finds: what the earlier arrivals left of a fresh receiver
abbrev pub start_in : List ℕ → List ℕ → Message → List Arrival → ℕ → Start
start_in store ledger m earlier k = record { message = m; world = left_by (fresh store ledger) (run (fresh store ledger) earlier); first = k }

-- among these arrivals comes its last missing fragment
pub record Completed (σ : Start) (xs : List Arrival) : Type 0 where
  pub between : List Arrival
  pub last : Arrival
  pub rest : List Arrival
  pub stand : xs ≡ between ++ last ∷ rest
  pub supposed : Supposed σ (fed begun between)
  pub completes : complete σ (fed begun between ▹ comes last) ≡ true

-- L12's premises in a log: one of the arrivals that its limits let through is the message's first fragment, and it is complete then or by a later one
pub record PromisedIn (store ledger log : List ℕ) (m : Message) : Type 0 where
  pub entries : List Entry
  pub reads : entries_in log ≡ whole entries
  pub earlier : List Arrival
  pub first : ℕ
  pub later : List Arrival
  pub stand : let_through (limits_in_lem log) (slot_size_of (length store)) entries ≡ earlier ++ part m first ∷ later
  pub begins : Begins (start_in store ledger m earlier first)
  pub completed : (complete (start_in store ledger m earlier first) begun ≡ true) ⊎ Completed (start_in store ledger m earlier first) later

-- its payload is delivered
abbrev pub StrangersDelivered : Type 0
StrangersDelivered = (store ledger log : List ℕ) (m : Message) → PromisedIn store ledger log m → Delivers store ledger log m.payload

-- so its list is among those whose lines every report has
abbrev pub StrangersCounted : Type 0
StrangersCounted = (store ledger log : List ℕ) (r : Report) (d : FromDelivered store ledger log r) (m : Message) → PromisedIn store ledger log m
    → (l : PitList) → In l (list_in m.payload) → In l d.lists
