-- THE PROMISE FOR CALLS OF THE CODE: of `count_log` and, for a C host, of `qm_count`; of each call only its contract is known. Its proofs are `code-count`, `code_loss`,
-- `code-every` and `host-count` of proofs/Calls. Definitions only.
use Rattle.std.specs.Prelude.{◌≡◌, false, List, [], ℕ, ◌≤◌, eqb, length, get_or, take, drop}
use Rattle.std.proofs.Math.Option.{Option, none, some}
use Rattle.wire.specs.Choice.{pick}
use Rattle.wire.specs.Slices.{short}
use Rattle.arrival.specs.Demand.{Scene, Feed, Supposed}
use Rattle.count_rules.specs.Count.{max_entries, first_fault}
use Rattle.count_rules.specs.Count as counting
use Rattle.count_rules.specs.Promise.{LogOf, payloads_of, Shown}
use Rattle.season.specs.Losses.{Arrives, came_whole}
use Rattle.count.specs.Answer.{Answer, Given, Refused}
use Rattle.count.specs.declared.Report.{Report}
use Rattle.count.specs.Answer.{Counted}
use Rattle.count.specs.Counts.{Loan, column_of, given, Counts}
use Rattle.host_count.specs.Numbers.{report_length}
use Rattle.host_count.specs.Told.{CountTold}
use Rattle.count_laws.specs.Losses.{shown_from}
use Rattle.count_laws.specs.Every.{FromDelivered}

-- a log of messages that demand 3 supposes, of at most 4,096 entries
pub record Kept (σ : Scene) (f : Feed) (log : List ℕ) : Type 0 where
  pub supposed : Supposed σ f
  pub log-of : LogOf σ f log
  pub few : length log-of.entries ≤ max_entries

-- what is lent is the scene's store and ledger, and a number list of so many numbers
pub record LentFor (σ : Scene) (room : ℕ) (l : Loan) : Type 0 where
  pub store : l.store ≡ σ.store
  pub ledger : l.ledger ≡ σ.ledger
  pub list : length l.list ≡ room

-- ---- `count_log`

-- what may not depend on the arrivals: deliveries, lists read, and the tile lines in their columns
pub record Columns : Type 0 where
  pub delivered : ℕ
  pub lists : ℕ
  pub tiles : ℕ
  pub tile : List ℕ
  pub pits : List ℕ
  pub sure : List ℕ

abbrev pub columns_in : Report → Columns
columns_in r = record { delivered = r.delivered; lists = r.lists; tiles = r.tiles; tile = r.tile; pits = r.pits; sure = r.sure }

-- none where it is refused
abbrev pub columns_by : Answer → Report → Option Columns
columns_by Given r = some (columns_in r)
columns_by (Refused n) r = none

abbrev pub columns : Counted → Option Columns
columns c = columns_by c.answer c.report

-- two calls, on two logs of the same messages, with number lists as long: both give the same columns, or both are refused
abbrev pub CodeCount : Type 0
CodeCount = (σ : Scene) (f : Feed) (log : List ℕ) (τ : Scene) (g : Feed) (log' : List ℕ) → Kept σ f log → Kept τ g log' → payloads_of σ ≡ payloads_of τ
    → (room : ℕ) (l l₁ m m₁ : Loan) (r s : Counted) → LentFor σ room l → LentFor τ room m → Counts log l r l₁ → Counts log' m s m₁ → columns r ≡ columns s

-- with losses: the columns of the messages that came whole
abbrev pub columns_of : Shown → Columns
columns_of s = record {
  delivered = s.delivered;
  lists = s.lists;
  tiles = length s.lines;
  tile = column_of (λ x. x.tile) s.lines;
  pits = column_of (λ x. x.pits) s.lines;
  sure = column_of (λ x. x.sure) s.lines;
}

abbrev pub CodeLoss : Type 0
CodeLoss = (σ : Scene) (f : Feed) (log : List ℕ) → Arrives σ f → (k : LogOf σ f log) → length k.entries ≤ max_entries → (room : ℕ) (l l₁ : Loan) (r : Counted)
    → LentFor σ room l → Counts log l r l₁ → columns r ≡ pick (eqb (first_fault room [] (came_whole σ f)) 0) (some (columns_of (shown_from (came_whole σ f)))) none

-- and of every log: what a call gives is a report whose lines are those of the delivered lists
pub record GivenFrom (log : List ℕ) (l : Loan) (r : Report) : Type 0 where
  pub report : counting.Report
  pub is : r ≡ given report
  pub from-delivered : FromDelivered l.store l.ledger log report

abbrev pub CodeEvery : Type 0
CodeEvery = (log : List ℕ) (l l₁ : Loan) (r : Counted) → Counts log l r l₁ → r.answer ≡ Given → GivenFrom log l r.report

-- ---- `qm_count`: its answer, and the numbers of its report

-- the fourth number, and those from the fifteenth on to the last of a report: lists, tiles, and three numbers of each of 256 tiles
pub record Told : Type 0 where
  pub delivered : ℕ
  pub others : List ℕ

abbrev pub told_in : List ℕ → Told
told_in report = record { delivered = get_or report 3 0; others = take 770 (drop 14 report) }

pub record SameTold (x y : ℕ) (report report' : List ℕ) : Type 0 where
  pub answer : y ≡ 0
  pub told : told_in report ≡ told_in report'

-- where the one answers 0, so does the other, and both tell the same
abbrev pub HostCount : Type 0
HostCount = (σ : Scene) (f : Feed) (log : List ℕ) (τ : Scene) (g : Feed) (log' : List ℕ) → Kept σ f log → Kept τ g log' → payloads_of σ ≡ payloads_of τ
    → (room : ℕ) (l l₁ m m₁ : Loan) (a a₁ b b₁ : List ℕ) (x y : ℕ) → LentFor σ room l → LentFor τ room m → short report_length a ≡ false → short report_length b ≡ false
    → CountTold log l a x l₁ a₁ → CountTold log' m b y m₁ b₁ → x ≡ 0 → SameTold x y a₁ b₁
