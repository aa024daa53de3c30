-- INSIDE: one answer, one payload, one entry. Definitions only; no promise of a public function rests on them.
use Rattle.std.specs.Prelude.{◌≡◌, List, [], ◌∷◌, ◌++◌, ℕ, ◌+◌, ◌^◌, ◌<◌, length, get_or, set}
use Rattle.wire.specs.Bytes.{Bytes}
use Rattle.steps.specs.Receive.{Answer, Refused, Kept, Repeat, Delivered}
use Rattle.steps.specs.Answers.{Reply}
use Rattle.flight_log.specs.declared.reader.Limits.{Limits}
use Rattle.flight_log.specs.Step.{Step}
use Rattle.flight_log.specs.Step as step
use Rattle.flight_log.specs.Entries.{Entry}
use Rattle.sorted_set.specs.Lists.{In}
use Rattle.count_rules.specs.Run.{payload_in}
use Rattle.pit_marks.specs.declared.Sizes.{Sizes}
use Rattle.pit_payloads.specs.Looked.{Looked}
use Rattle.pit_payloads.specs.Looks.{Book, Looks}
use Rattle.pit_payloads.specs.Took.{fault_in, lists_in, sizes_in}
use Rattle.stretch.specs.Stop.{Stop}
use Rattle.stretch.specs.Stop as stop
use Rattle.stretch.specs.declared.Totals.{Totals}
use Rattle.stretch.specs.Stop.{Stretch}
use Rattle.stretch.specs.Stretch.{Desk, kit_of, in_shape, Entered, enter_on, totals_of}

abbrev pub no_totals : Totals
no_totals = totals_of [] 0

-- so few that one more fits
pub record Few (t : Totals) : Type 0 where
  pub kept : t.kept + 1 < 2 ^ 64
  pub repeated : t.repeated + 1 < 2 ^ 64
  pub delivered : t.delivered + 1 < 2 ^ 64
  pub refused : (k : ℕ) → get_or t.refused k 0 + 1 < 2 ^ 64
  pub lists : t.lists + 1 < 2 ^ 64

-- one more at place k
abbrev pub one_more_lem : List ℕ → ℕ → List ℕ
one_more_lem by k = set by k (get_or by k 0 + 1)

-- one answer more
abbrev pub told_of : Totals → Answer → Totals
told_of t (Refused k) = record { kept = t.kept; repeated = t.repeated; delivered = t.delivered; refused = one_more_lem t.refused k; lists = t.lists }
told_of t Kept = record { kept = t.kept + 1; repeated = t.repeated; delivered = t.delivered; refused = t.refused; lists = t.lists }
told_of t Repeat = record { kept = t.kept; repeated = t.repeated + 1; delivered = t.delivered; refused = t.refused; lists = t.lists }
told_of t (Delivered p n) = record { kept = t.kept; repeated = t.repeated; delivered = t.delivered + 1; refused = t.refused; lists = t.lists }

-- n lists more
abbrev pub with_lists : Totals → ℕ → Totals
with_lists t n = record { kept = t.kept; repeated = t.repeated; delivered = t.delivered; refused = t.refused; lists = t.lists + n }

-- how far the stretch has come: what stands against it, or 0, the totals, and how many numbers the sets have
pub record Ran : Type 0 where
  pub fault : ℕ
  pub totals : Totals
  pub sizes : Sizes

abbrev pub ran : ℕ → Totals → Sizes → Ran
ran n t s = record { fault = n; totals = t; sizes = s }

-- by what the payload is
abbrev pub ran_by_lem : Totals → Sizes → Looked → Ran
ran_by_lem t s x = ran (fault_in x) (with_lists t (lists_in x)) (sizes_in s x)

pub record TakesPayload (payload : List ℕ) (b : Book) (totals : Totals) (sizes : Sizes) (r : Ran) (b' : Book) : Type 0 where
  pub bytes : Bytes payload
  pub answer : Looked
  pub looks : Looks payload b sizes answer b'
  pub gave : r ≡ ran_by_lem totals sizes answer

-- one entry more: what `enter_on` says of it; the totals are those of the answers rs and n lists, with its own
pub record Takes (o : Entered) (k : Desk) (totals : Totals) (r : Ran) (k' : Desk) : Type 0 where
  pub found : r.fault ≡ fault_in o.looked
  pub shows : kit_of k' r.sizes ≡ o.kit
  pub totals-are : (rs : List Reply) (n : ℕ) → totals ≡ totals_of rs n → r.totals ≡ totals_of (rs ++ o.reply ∷ []) (n + lists_in o.looked)
  pub words : length k'.lent.state ≡ length k.lent.state
  pub names : length k'.lent.names ≡ length k.lent.names
  pub handed : (b : List ℕ) → In b (payload_in o.reply) → Bytes b

abbrev pub TakesEntry : Limits → Entry → Desk → Totals → Sizes → Ran → Desk → Type 0
TakesEntry l e k totals sizes r k' = Takes (enter_on (in_shape k) l (kit_of k sizes) e) k totals r k'

-- why it stops where the log has no entry
abbrev pub stop_of_lem : Step → Stop
stop_of_lem (step.Found e) = stop.Taken
stop_of_lem step.End = stop.End
stop_of_lem (step.Refused n) = stop.Broken n

abbrev pub stopped_at : Stop → ℕ → ℕ → Ran → Stretch
stopped_at s place n r = record { stop = s; place = place; entries = n; totals = r.totals; sizes = r.sizes }
