-- WHAT IS PROMISED OF THE COUNT. Its proofs are `entries-sum`, `report-sum`, `same-report`, `counted`, `count_promise` and `shown_promise` of proofs/. Definitions only.
use Rattle.std.specs.Prelude.{◌≡◌, true, List, [], ◌∷◌, map, ℕ, ◌+◌, ◌≤◌, ◌<◌, length}
use Rattle.std.proofs.Math.Option.{Option, none, some}
use Rattle.wire.specs.Sum.{sum}
use Rattle.datagram.specs.Read.{Refused}
use Rattle.steps.specs.Runs.{World, Arrival}
use Rattle.arrival.specs.Demand.{Scene, size, message, slot_bytes, parts, Feed, arrivals, in_order_of_completion, Supposed}
use Rattle.flight_log.specs.declared.reader.Limits.{Limits}
use Rattle.flight_log.specs.Editions.{limits_in_lem}
use Rattle.flight_log.specs.Entries.{Entry}
use Rattle.flight_log.specs.Listed.{whole, entries_in}
use Rattle.within_limits.specs.Within.{read_within_lem}
use Rattle.sorted_set.specs.Lists.{SameMembers}
use Rattle.count_rules.specs.Marks.{PitList}
use Rattle.count_rules.specs.Report.{Line, report}
use Rattle.count_rules.specs.Run.{arrival_of, answers, is_refused, how_many, kept_in, repeated_in, delivered_in, refused_in, payloads, lists_read}
use Rattle.count_rules.specs.Count.{max_entries, Report, Outcome, reported, no_report, answers_to, count_log_lem}

-- ==== "Entries equal the sum over the answers, each counted by its own definition from the log."

pub record AddsUp (l : Limits) (w : World) (es : List Entry) : Type 0 where
  pub entries : let rs = answers l w es in length es ≡ kept_in rs + (repeated_in rs + (delivered_in rs + sum (refused_in rs)))
  -- nothing is refused by 0
  pub none-by-0 : how_many (is_refused 0) (answers l w es) ≡ 0
  -- as many are answered Delivered as payloads are handed over
  pub delivered : delivered_in (answers l w es) ≡ length (payloads (answers l w es))

-- for all entries, within any limits, from every state, with whatever is lent
abbrev pub EntriesSum : Type 0
EntriesSum = (l : Limits) (w : World) (es : List Entry) → AddsUp l w es

-- so it is in every report that is given
abbrev pub ReportSum : Type 0
ReportSum = (room : ℕ) (store ledger log : List ℕ) (r : Report) → count_log_lem room store ledger log ≡ reported r
    → (r.entries ≡ r.kept + (r.repeated + (r.delivered + sum r.refused))) × (r.entries ≤ max_entries)

-- ==== which lists there are decides over the lines, not their order, nor how often each came

abbrev pub WhichLists : Type 0
WhichLists = (ls ms : List PitList) → SameMembers ls ms → report ls ≡ report ms

-- ==== the count of a log is the count of the messages

-- Arrivals are recorded as entries, in their order, at any ticks; among these stand any others that are refused for form within a log's limits, for slots of C bytes.
pub data Recorded (l : Limits) (C : ℕ) : List Arrival → List Entry → Type 0 where
  no_more : Recorded l C [] []
  own : {xs : List Arrival} {es : List Entry} (e : Entry) → Recorded l C xs es → Recorded l C (arrival_of e ∷ xs) (e ∷ es)
  stray : {xs : List Arrival} {es : List Entry} (e : Entry) (n : ℕ) → read_within_lem l C e.datagram ≡ Refused n → Recorded l C xs es → Recorded l C xs (e ∷ es)

-- these entries keep the arrivals of a feed
abbrev pub Keeps : Limits → Scene → Feed → List Entry → Type 0
Keeps l σ f es = Recorded l (slot_bytes σ) (arrivals σ f) es

-- A log's limits admit the messages: P of each message that is sent in fragments is within its payload limit, and n within its fragments.
-- They never concern a small message.
abbrev pub Admits : Limits → Scene → Type 0
Admits l σ = (i : ℕ) → i < size σ → (message σ i).fragmented ≡ true → (length (message σ i).payload ≤ l.payload) × (parts (message σ i) ≤ l.fragments)

-- a log of such entries, whose limits admit the messages
pub record LogOf (σ : Scene) (f : Feed) (log : List ℕ) : Type 0 where
  pub entries : List Entry
  pub reads : entries_in log ≡ whole entries
  pub keeps : Keeps (limits_in_lem log) σ f entries
  pub admits : Admits (limits_in_lem log) σ

-- the messages' payloads, each once
abbrev pub payloads_of : Scene → List (List ℕ)
payloads_of σ = map (λ m. m.payload) σ.messages

-- what those entries deliver, in order, within a log's limits, through a fresh receiver
abbrev pub delivered_by : Limits → Scene → List Entry → List (List ℕ)
delivered_by l σ es = payloads (answers_to l σ.store σ.ledger es)

-- Under demand 3's suppositions, and where the log's limits admit the messages, its count is that of the messages themselves, each once:
-- mixture, repeats, noise, the order of arrival, the ticks, the store's length and what it held do not matter, nor by which number noise is refused.
pub record Counted (l : Limits) (σ : Scene) (f : Feed) (es : List Entry) : Type 0 where
  pub tile-lines : report (lists_read (delivered_by l σ es)) ≡ report (lists_read (payloads_of σ))
  pub lists-read : length (lists_read (delivered_by l σ es)) ≡ length (lists_read (payloads_of σ))
  pub delivered : length (delivered_by l σ es) ≡ length (payloads_of σ)
  -- and what is delivered, in order, is as if the messages had been fed whole, one after another, in order of completion
  pub as-whole : (ds : List Entry) → Keeps l σ (in_order_of_completion σ f) ds → delivered_by l σ es ≡ delivered_by l σ ds

-- what may not depend on the arrivals
pub record Shown : Type 0 where
  pub delivered : ℕ
  pub lists : ℕ
  pub lines : List Line

abbrev pub shown_of : Report → Shown
shown_of r = record { delivered = r.delivered; lists = r.lists; lines = r.lines }

-- ==== TWO LOGS OF THE SAME MESSAGES COUNT THE SAME: late copies add no pit.
-- The messages may be cut and sent in other ways; stores, ledgers, number lists and the logs' editions may be others.
abbrev pub CountPromise : Type 0
CountPromise = (σ : Scene) (f : Feed) (log : List ℕ) (τ : Scene) (g : Feed) (log' : List ℕ)
    → Supposed σ f → LogOf σ f log → Supposed τ g → LogOf τ g log' → payloads_of σ ≡ payloads_of τ
    → (room room' : ℕ) (r r' : Report) → count_log_lem room σ.store σ.ledger log ≡ reported r → count_log_lem room' τ.store τ.ledger log' ≡ reported r'
    → shown_of r ≡ shown_of r'

-- And either both are counted or neither, where neither has over 4,096 entries (repeats are entries) and their number lists are as long:
-- by which of 13, 60 and 61 a log is refused may depend on the order of completion, and whether it is refused may not.
abbrev pub shown : Outcome → Option Shown
shown (reported r) = some (shown_of r)
shown (no_report n) = none

abbrev pub ShownPromise : Type 0
ShownPromise = (σ : Scene) (f : Feed) (log : List ℕ) (τ : Scene) (g : Feed) (log' : List ℕ)
    → Supposed σ f → (l : LogOf σ f log) → Supposed τ g → (m : LogOf τ g log') → payloads_of σ ≡ payloads_of τ
    → length l.entries ≤ max_entries → length m.entries ≤ max_entries
    → (room : ℕ) → shown (count_log_lem room σ.store σ.ledger log) ≡ shown (count_log_lem room τ.store τ.ledger log')
