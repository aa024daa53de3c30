-- STRETCHES ONE AFTER ANOTHER: a log in pieces, a flight, a season on one map. Definitions only.
use Rattle.std.specs.Prelude.{◌≡◌, Bool, true, List, [], ◌∷◌, ◌++◌, map, ℕ, suc, ◌+◌, eqb, ℤ, length}
use Rattle.wire.specs.Bytes.{Bytes}
use Rattle.wire.specs.Choice.{pick}
use Rattle.wire.specs.Overlay.{overlay}
use Rattle.wire.specs.Slices.{Buffer}
use Rattle.wire.specs.Taken.{taken}
use Rattle.steps.specs.Runs.{fresh}
use Rattle.flight_log.specs.declared.reader.Limits.{Limits}
use Rattle.flight_log.specs.Editions.{Edition, head_in, limits_in_lem}
use Rattle.flight_log.specs.Listed.{entries_in}
use Rattle.sorted_set.specs.Lists.{In, SameMembers, gather}
use Rattle.count_rules.specs.Marks.{PitList, list_in}
use Rattle.count_rules.specs.Report.{pits, sure_pits, Line, report}
use Rattle.count_rules.specs.Run.{payloads, lists_read}
use Rattle.count_rules.specs.Count.{answers_to}
use Rattle.pit_marks.specs.declared.Sizes.{Sizes}
use Rattle.pit_marks.specs.Sets.{Sets, Has}
use Rattle.pit_marks.specs.Lines.{Lays}
use Rattle.pit_payloads.specs.Took.{fault_over}
use Rattle.stretch.specs.Stop as stop
use Rattle.stretch.specs.declared.Totals.{Totals}
use Rattle.stretch.specs.Stop.{Stretch}
use Rattle.stretch.specs.Stretch.{Desk, Kit, Stretched, before, stretch, Clean, entries_of, CountsOn}

-- ---- in pieces

-- a stretch, and on from where it stopped
abbrev pub and_on : Bool → Limits → List ℕ → ℕ → Stretched → Stretched
and_on b l log n x = before x.replies x.lists (stretch b l log n x.place x.kit)

-- place by place
abbrev pub added_up : List ℕ → List ℕ → List ℕ
added_up [] ys = ys
added_up (x ∷ xs) [] = x ∷ xs
added_up (x ∷ xs) (y ∷ ys) = (x + y) ∷ added_up xs ys

abbrev pub both_totals : Totals → Totals → Totals
both_totals a b = record {
  kept = a.kept + b.kept;
  repeated = a.repeated + b.repeated;
  delivered = a.delivered + b.delivered;
  refused = added_up a.refused b.refused;
  lists = a.lists + b.lists;
}

-- the answers of two stretches added up; where and why the second stopped
abbrev pub both : Stretch → Stretch → Stretch
both a b = record { stop = b.stop; place = b.place; entries = a.entries + b.entries; totals = both_totals a.totals b.totals; sizes = b.sizes }

-- counted from the first byte on, where the head may be cut; or from any place of a log whose head is there
pub data Begun (log : List ℕ) (place : ℕ) : Type 0 where
  from_first_lem : place ≡ 0 → Begun log place
  past_head : (v : Edition) (rest : List ℕ) → head_in log ≡ taken v rest → Begun log place

-- A LOG THAT GROWS: a call on it, and one on from where that stopped after more was appended, are one call on the whole with the answers added up.
-- The first stopped for whatever reason but 13, 60 or 61: after so many entries, at the log's end, or at an entry that was there in part.
abbrev pub LogGrows : Type 0
LogGrows = (log more : List ℕ) → Bytes log → Bytes (log ++ more) → (place n j : ℕ) → Begun log place → (k : Desk) (had : Sizes) (r : Stretch) (k' : Desk) → CountsOn log place n k had r k'
    → ((i : ℕ) → r.stop ≡ stop.Refused i → ⊥) → (r'' : Stretch) (k'' : Desk) → CountsOn (log ++ more) r.place j k' r.sizes r'' k''
    → CountsOn (log ++ more) place (r.entries + j) k had (both r r'') k''

-- ---- when 13, 60 and 61 come

-- the first that stands against one of some payloads, after the lists seen, in sets of so many words and a number list of so many numbers; 0 for none
unfoldable pub first_over : Sizes → ℕ → List PitList → List (List ℕ) → ℕ
first_over words room seen [] = 0
first_over words room seen (p ∷ ps) = pick (eqb (fault_over words room seen p) 0) (first_over words room (list_in p ++ seen) ps) (fault_over words room seen p)

-- ---- a flight, and a season

-- the map: three sets, and how many numbers each has
pub record Map : Type 0 where
  pub sets : Sets
  pub sizes : Sizes

abbrev pub map_of : Kit → Map
map_of k = record { sets = k.sets; sizes = k.sizes }

-- it holds the lists ls, and nothing else
abbrev pub Shows : Map → List PitList → Type 0
Shows m ls = Has m.sets m.sizes ls

-- a log, and what is lent for it, however it is filled
pub record Flight : Type 0 where
  pub log : List ℕ
  pub store : List ℕ
  pub ledger : List ℕ
  pub list : List ℤ

-- each flight has a fresh receiver; the map is that of the flights before
abbrev pub set_out_lem : Flight → Map → Kit
set_out_lem f m = record { world = fresh f.store f.ledger; list = f.list; sets = m.sets; sizes = m.sizes }

-- to the log's end: an entry takes a byte at least
unfoldable pub flown : Flight → Map → Stretched
flown f m = stretch true (limits_in_lem f.log) f.log (suc (length f.log)) 0 (set_out_lem f m)

unfoldable pub season : List Flight → Map → Map
season [] m = m
season (f ∷ fs) m = season fs (map_of (flown f m).kit)

-- the lists read in a flight, whatever the map: of a log that is not whole, up to the entry that is refused
abbrev pub lists_of : Flight → List PitList
lists_of f = lists_read (payloads (answers_to (limits_in_lem f.log) f.store f.ledger (entries_of (entries_in f.log))))

abbrev pub lists_of_all : List Flight → List PitList
lists_of_all fs = gather lists_of fs

abbrev pub Handed : List (List ℕ) → Type 0
Handed ps = (b : List ℕ) → In b ps → Bytes b

-- nothing stood against any flight; logs and what was delivered are bytes, as lent memory is
unfoldable pub Unrefused : List Flight → Map → Type 0
Unrefused [] m = Unit {0}
Unrefused (f ∷ fs) m = Bytes f.log × Clean (flown f m) × Handed (payloads (flown f m).replies) × Unrefused fs (map_of (flown f m).kit)

-- ==== THE SEASON: its map holds the lists that were in it and all lists read in all flights, and nothing else
pub record Holds (fs : List Flight) (m : Map) (seen : List PitList) : Type 0 where
  pub lists : List PitList
  pub shows : Shows (season fs m) lists
  pub same : SameMembers lists (lists_of_all fs ++ seen)

abbrev pub SeasonHolds : Type 0
SeasonHolds = (fs : List Flight) (m : Map) (seen : List PitList) → Shows m seen → Unrefused fs m → Holds fs m seen

-- the tile lines of lists, at the start of three outputs
pub record LinesOf (ls : List PitList) (tile pit certain : Buffer) : Type 0 where
  pub numbers : tile.after ≡ overlay tile.before 0 (map (λ (l : Line). l.tile) (report ls))
  pub pits-of : pit.after ≡ overlay pit.before 0 (map (λ (l : Line). l.pits) (report ls))
  pub sure-of : certain.after ≡ overlay certain.before 0 (map (λ (l : Line). l.sure) (report ls))

-- what `put_lines` lays from it are the tile lines of all lists read in all flights, in sets of any length
abbrev pub SeasonLines : Type 0
SeasonLines = (fs : List Flight) (m : Map) (seen : List PitList) → Shows m seen → Unrefused fs m → (tile pit certain : Buffer)
    → Lays (season fs m).sets (season fs m).sizes tile pit certain → LinesOf (lists_of_all fs ++ seen) tile pit certain

-- ---- whatever was lent

-- what of a flight counts: its log, and how long store and ledger are; not what they hold
pub record Given : Type 0 where
  pub log : List ℕ
  pub store_length : ℕ
  pub ledger_size : ℕ

abbrev pub given : Flight → Given
given f = record { log = f.log; store_length = length f.store; ledger_size = length f.ledger }

abbrev pub ListsOfLog : Type 0
ListsOfLog = (f g : Flight) → given f ≡ given g → lists_of f ≡ lists_of g

-- the same logs: neither the order of the flights nor that one is given twice matters, nor with what store and ledger were filled
abbrev pub SameLogs : List Flight → List Flight → Type 0
SameLogs fs gs = SameMembers (map given fs) (map given gs)

abbrev pub AnyOrder : Type 0
AnyOrder = (fs gs : List Flight) → SameLogs fs gs → report (lists_of_all fs) ≡ report (lists_of_all gs)

abbrev pub Twice : Type 0
Twice = (x : Given) (xs : List Given) (fs gs : List Flight) → map given fs ≡ x ∷ x ∷ xs → map given gs ≡ x ∷ xs → report (lists_of_all fs) ≡ report (lists_of_all gs)

-- two teams' flights make one map, whichever comes first
abbrev pub WhicheverFirst : Type 0
WhicheverFirst = (xs ys : List Given) (fs gs : List Flight) → map given fs ≡ xs ++ ys → map given gs ≡ ys ++ xs → report (lists_of_all fs) ≡ report (lists_of_all gs)

-- a flight more takes no pit away, nor makes one unsure
abbrev pub NoneLost : Type 0
NoneLost = (fs gs : List Flight) → ((x : Given) → In x (map given fs) → In x (map given gs)) → (t p : ℕ)
    → (In p (pits (lists_of_all fs) t) → In p (pits (lists_of_all gs) t)) × (In p (sure_pits (lists_of_all fs) t) → In p (sure_pits (lists_of_all gs) t))
