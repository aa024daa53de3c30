-- A STRETCH OF A LOG, from a place, over any receiver and any sets: what each entry is answered, where and why it stops, and what is then lent.
-- Definitions only.
use Rattle.std.specs.Prelude.{◌≡◌, Bool, List, [], ◌∷◌, ◌++◌, ℕ, zero, suc, ◌+◌, eqb, ℤ, length}
use Rattle.wire.specs.Bytes.{Bytes}
use Rattle.wire.specs.Choice.{pick}
use Rattle.steps.specs.Receive as answer
use Rattle.steps.specs.Receive.{After, stay}
use Rattle.steps.specs.Answers.{Reply, refused_by, kept, repeat, delivered, reply}
use Rattle.steps.specs.Runs.{World, world_of}
use Rattle.receiver_state.specs.View.{shaped}
use Rattle.receiver.specs.Lent.{Lent, world_in}
use Rattle.lmcp.specs.Lists.{read_list}
use Rattle.flight_log.specs.declared.reader.Limits.{Limits}
use Rattle.flight_log.specs.Step.{Step}
use Rattle.flight_log.specs.Step as step
use Rattle.flight_log.specs.Editions.{limits_in_lem}
use Rattle.flight_log.specs.Entries.{Entry}
use Rattle.flight_log.specs.Listed.{Listed, whole, broken}
use Rattle.flight_log.specs.Said.{entry_said, read_at}
use Rattle.sorted_set.specs.Lists.{In}
use Rattle.count_rules.specs.Run.{called, kept_in, repeated_in, delivered_in, refused_in, payloads}
use Rattle.count_rules.specs.Walk.{list_at}
use Rattle.pit_marks.specs.declared.Sizes.{Sizes}
use Rattle.pit_marks.specs.Sets.{Sets, held_in}
use Rattle.pit_payloads.specs.Looked.{Looked}
use Rattle.pit_payloads.specs.Looked as looked
use Rattle.pit_payloads.specs.Looks.{Book, Left, left, in_read}
use Rattle.pit_payloads.specs.Took.{fault_in, lists_in, sizes_in}
use Rattle.stretch.specs.Stop.{Stop}
use Rattle.stretch.specs.Stop as stop
use Rattle.stretch.specs.declared.Totals.{Totals}
use Rattle.stretch.specs.Stop.{Stretch}

-- ---- what is lent: to the receiver, and the book of number list and sets

pub record Desk : Type 0 where
  pub lent : Lent
  pub book : Book

abbrev pub desk : Lent → Book → Desk
desk l b = record { lent = l; book = b }

-- what it shows, with how many numbers the sets have: a receiver with store and ledger, the number list and the sets
pub record Kit : Type 0 where
  pub world : World
  pub list : List ℤ
  pub sets : Sets
  pub sizes : Sizes

abbrev pub kit_of : Desk → Sizes → Kit
kit_of k had = record {
  world = world_in k.lent;
  list = k.book.list;
  sets = k.book.sets;
  sizes = had;
}

-- whether state and names have their lengths
abbrev pub in_shape : Desk → Bool
in_shape k = shaped k.lent.state k.lent.names

-- ---- one entry

-- the step list's call; a state or names of another length (b is false) is refused by 9
unfoldable pub called_on : Bool → Limits → World → Entry → After
called_on b l w e = pick b (called l w e) (stay w.machine w.store w.ledger (answer.Refused 9))

abbrev pub reply_on : Bool → Limits → World → Entry → Reply
reply_on b l w e = reply e.datagram (called_on b l w e).store (called_on b l w e).answer

-- only a delivered payload is read, and a PitList entered
abbrev pub looked_at : Kit → Reply → Left
looked_at k (refused_by n) = left looked.Other k.sets
looked_at k kept = left looked.Other k.sets
looked_at k repeat = left looked.Other k.sets
looked_at k (delivered b) = in_read (length k.list) (read_list b) k.sets k.sizes

-- what is lent after the call and what it answered
abbrev pub kit_with : Kit → World → Reply → Left → Kit
kit_with k w r x = record { world = w; list = list_at k.list r; sets = x.sets; sizes = sizes_in k.sizes x.answer }

pub record Entered : Type 0 where
  pub reply : Reply
  pub looked : Looked
  pub kit : Kit

abbrev pub entered_by : Kit → World → Reply → Entered
entered_by k w r = record { reply = r; looked = (looked_at k r).answer; kit = kit_with k w r (looked_at k r) }

unfoldable pub enter_on : Bool → Limits → Kit → Entry → Entered
enter_on b l k e = entered_by k (world_of (called_on b l k.world e)) (reply_on b l k.world e)

-- ---- a stretch

pub record Stretched : Type 0 where
  pub stop : Stop
  pub place : ℕ
  -- what each entry taken was answered, and how many lists were entered
  pub replies : List Reply
  pub lists : ℕ
  pub kit : Kit

abbrev pub here : Stop → ℕ → Kit → Stretched
here s place k = record { stop = s; place = place; replies = []; lists = 0; kit = k }

-- with answers and lists before
abbrev pub before : List Reply → ℕ → Stretched → Stretched
before rs n x = record { stop = x.stop; place = x.place; replies = rs ++ x.replies; lists = n + x.lists; kit = x.kit }

-- what stands against an entry ends the stretch behind it
abbrev pub unless_refused : Entered → ℕ → (ℕ → Kit → Stretched) → Stretched
unless_refused o next rest = pick (eqb (fault_in o.looked) 0) (rest next o.kit) (here (stop.Refused (fault_in o.looked)) next o.kit)

-- an entry is taken
abbrev pub taking : Entered → ℕ → (ℕ → Kit → Stretched) → Stretched
taking o next rest = before (o.reply ∷ []) (lists_in o.looked) (unless_refused o next rest)

-- by what the log has there; its end and its own refusal leave all as it was
abbrev pub by_step : Bool → Limits → List ℕ → ℕ → Kit → (ℕ → Kit → Stretched) → Step → Stretched
by_step b l log place k rest (step.Found e) = taking (enter_on b l k (entry_said log e)) e.next rest
by_step b l log place k rest step.End = here stop.End place k
by_step b l log place k rest (step.Refused n) = here (stop.Broken n) place k

-- at most so many entries, from a place
unfoldable pub stretch : Bool → Limits → List ℕ → ℕ → ℕ → Kit → Stretched
stretch b l log zero place k = here stop.Taken place k
stretch b l log (suc n) place k = by_step b l log place k (stretch b l log n) (read_at log place)

-- nothing stood against it
abbrev pub Clean : Stretched → Type 0
Clean x = (n : ℕ) → x.stop ≡ stop.Refused n → ⊥

-- what did, 0 for nothing
abbrev pub stop_fault : Stop → ℕ
stop_fault stop.Taken = 0
stop_fault stop.End = 0
stop_fault (stop.Broken n) = 0
stop_fault (stop.Refused n) = n

-- the entries before the log's end, or before its own refusal
abbrev pub entries_of : Listed → List Entry
entries_of (whole es) = es
entries_of (broken es n) = es

-- ---- the answer in the struct, each count by `count_rules`' own definition

abbrev pub totals_of : List Reply → ℕ → Totals
totals_of rs n = record { kept = kept_in rs; repeated = repeated_in rs; delivered = delivered_in rs; refused = refused_in rs; lists = n }

abbrev pub told_on : Stretched → Stretch
told_on x = record { stop = x.stop; place = x.place; entries = length x.replies; totals = totals_of x.replies x.lists; sizes = x.kit.sizes }

-- with what is lent; sizes above it count as what is lent
abbrev pub stretch_of : List ℕ → ℕ → ℕ → Desk → Sizes → Stretched
stretch_of log place most k had = stretch (in_shape k) (limits_in_lem log) log most place (kit_of k (held_in k.book.sets had))

-- THE CONTRACT of `count_on`: for all input, over any state
pub record CountsOn (log : List ℕ) (place most : ℕ) (k : Desk) (had : Sizes) (r : Stretch) (k' : Desk) : Type 0 where
  pub gave : r ≡ told_on (stretch_of log place most k had)
  -- what is lent afterwards: store, ledger, number list and sets, and the machine that state and names show
  pub shows : kit_of k' r.sizes ≡ (stretch_of log place most k had).kit
  pub words : length k'.lent.state ≡ length k.lent.state
  pub bytes : length k'.lent.names ≡ length k.lent.names
  -- where nothing was taken nothing is written
  pub still : r.entries ≡ 0 → k' ≡ k
  -- what was delivered is bytes
  pub handed : (b : List ℕ) → In b (payloads (stretch_of log place most k had).replies) → Bytes b
