-- TWO LOGS OF THE SAME MESSAGES COUNT THE SAME, or neither is counted. Assumes nothing.
use Rattle.wire.proofs.Basics.{◌∙◌, sym, ◌≡◌, ap, refl, subst, ℕ, ◌≤◌, ◌+◌, List, [], true, false, Bool, some, none, Option, length, eqb, ltb, le-ltb, ltb-false, arith}
use Rattle.wire.specs.Choice.{pick}
use Rattle.wire.specs.Sum.{sum}
use Rattle.steps.specs.Runs.{fresh}
use Rattle.arrival.specs.Demand.{Scene, Feed, Supposed}
use Rattle.flight_log.specs.declared.reader.Limits.{Limits}
use Rattle.flight_log.specs.Editions.{limits_in_lem}
use Rattle.flight_log.specs.Entries.{Entry}
use Rattle.flight_log.specs.Listed.{Listed, whole, broken, entries_in}
use Rattle.sorted_set.specs.Lists.{SameMembers}
use Rattle.sorted_set.proofs.Members.{flipped, chained}
use Rattle.count_rules.specs.Report.{report}
use Rattle.count_rules.specs.Run.{payloads, lists_read}
use Rattle.count_rules.specs.Count.{max_entries, first_fault, Report, report_of, reported, no_report, answers_to, count_entries, count_listed, count_log_lem}
use Rattle.count_rules.specs.Promise.{Keeps, Admits, LogOf, payloads_of, delivered_by, Counted, Shown, shown_of, ReportSum, CountPromise, shown, ShownPromise}
use Rattle.count_rules.proofs.Totals.{delivered-payloads, entries-sum}
use Rattle.count_rules.proofs.Delivered.{delivered_members}
use Rattle.count_rules.proofs.Limits.{same-faults}
use Rattle.count_rules.proofs.Counted.{counted}

-- the report of a scene's entries
abbrev report_in : Limits → Scene → List Entry → Report
report_in l σ es = report_of es (answers_to l σ.store σ.ledger es)

-- a log that is read whole
log_is : (σ : Scene) (f : Feed) (log : List ℕ) (l : LogOf σ f log) (room : ℕ)
    → count_log_lem room σ.store σ.ledger log ≡ count_entries (limits_in_lem log) room σ.store σ.ledger l.entries
unfolding count_log_lem
log_is σ f log l room = ap (count_listed (limits_in_lem log) room σ.store σ.ledger) l.reads

-- what is reported is the report of the entries, and they are not too many
record Reports (l : Limits) (store ledger : List ℕ) (es : List Entry) (r : Report) : Type 0 where
  few : length es ≤ max_entries
  is : r ≡ report_of es (answers_to l store ledger es)

reported-is : (l : Limits) (room : ℕ) (store ledger : List ℕ) (es : List Entry) (r : Report) → count_entries l room store ledger es ≡ reported r → Reports l store ledger es r
unfolding count_entries
reported-is l room store ledger es r e =
    go (ltb max_entries (length es)) refl (eqb (first_fault room [] (payloads (answers_to l store ledger es))) 0) e
  where
    go : (a : Bool) → ltb max_entries (length es) ≡ a → (b : Bool) → pick a (no_report 62) (pick b (reported (report_of es (answers_to l store ledger es))) (no_report (first_fault room [] (payloads (answers_to l store ledger es))))) ≡ reported r
        → Reports l store ledger es r
    go true p b q = absurd (let z : ◌≡◌ {A = ℕ} 0 1 = cc in let y : ⊥ = omega arith in y)
    go false p true q = record { few = ltb-false max_entries (length es) p; is = cc }
    go false p false q = absurd (let z : ◌≡◌ {A = ℕ} 0 1 = cc in let y : ⊥ = omega arith in y)

-- ENTRIES EQUAL THE SUM OVER THE ANSWERS
pub report-sum : ReportSum
unfolding count_log_lem report_of
report-sum room store ledger log r e = go (entries_in log) e
  where
    go : (x : Listed) → count_listed (limits_in_lem log) room store ledger x ≡ reported r → (r.entries ≡ r.kept + (r.repeated + (r.delivered + sum r.refused))) × (r.entries ≤ max_entries)
    go (whole es) q =
        let s : Reports (limits_in_lem log) store ledger es r = reported-is (limits_in_lem log) room store ledger es r q in
        rw s.is ((entries-sum (limits_in_lem log) (fresh store ledger) es).entries, s.few)
    go (broken es n) q = absurd (let z : ◌≡◌ {A = ℕ} 0 1 = cc in let y : ⊥ = omega arith in y)

-- of payloads, each once
abbrev of_payloads : List (List ℕ) → Shown
of_payloads ps = record { delivered = length ps; lists = length (lists_read ps); lines = report (lists_read ps) }

-- what a log shows are the messages' own
shown-is : (l : Limits) (σ : Scene) (f : Feed) → Supposed σ f → Admits l σ → (es : List Entry) → Keeps l σ f es → shown_of (report_in l σ es) ≡ of_payloads (payloads_of σ)
unfolding report_of
shown-is l σ f s a es k =
    let c : Counted l σ f es = counted l σ f s a es k in
    λ i. record { delivered = (delivered-payloads (answers_to l σ.store σ.ledger es) ∙ c.delivered) i; lists = c.lists-read i; lines = c.tile-lines i }

pub count_promise : CountPromise
count_promise σ f log τ g log' s l t m e room room' r r' p q =
    let a : r ≡ report_in (limits_in_lem log) σ l.entries = (reported-is (limits_in_lem log) room σ.store σ.ledger l.entries r (sym (log_is σ f log l room) ∙ p)).is in
    let b : r' ≡ report_in (limits_in_lem log') τ m.entries = (reported-is (limits_in_lem log') room' τ.store τ.ledger m.entries r' (sym (log_is τ g log' m room') ∙ q)).is in
    ap shown_of a ∙ shown-is (limits_in_lem log) σ f s l.admits l.entries l.keeps ∙ ap of_payloads e ∙ sym (ap shown_of b ∙ shown-is (limits_in_lem log') τ g t m.admits m.entries m.keeps)

-- what is shown, by whether something stands against it
shows : (l : Limits) (room : ℕ) (store ledger : List ℕ) (es : List Entry) → length es ≤ max_entries
    → shown (count_entries l room store ledger es)
    ≡ pick (eqb (first_fault room [] (payloads (answers_to l store ledger es))) 0) (some (shown_of (report_of es (answers_to l store ledger es)))) none
unfolding count_entries
shows l room store ledger es b = rw (le-ltb max_entries (length es) b) (go (eqb (first_fault room [] (payloads (answers_to l store ledger es))) 0))
  where
    go : (t : Bool) → shown (pick t (reported (report_of es (answers_to l store ledger es))) (no_report (first_fault room [] (payloads (answers_to l store ledger es)))))
        ≡ pick t (some (shown_of (report_of es (answers_to l store ledger es)))) none
    go true = refl
    go false = refl

pub shown_promise : ShownPromise
shown_promise σ f log τ g log' s l t m e a b room =
    let c : SameMembers (delivered_by (limits_in_lem log) σ l.entries) (delivered_by (limits_in_lem log') τ m.entries) =
    chained (subst (λ (ps : List (List ℕ)). SameMembers (delivered_by (limits_in_lem log) σ l.entries) ps) e (delivered_members σ f s (limits_in_lem log) l.admits l.entries l.keeps))
    (flipped (delivered_members τ g t (limits_in_lem log') m.admits m.entries m.keeps)) in
    let n : eqb (first_fault room [] (delivered_by (limits_in_lem log) σ l.entries)) 0 ≡ eqb (first_fault room [] (delivered_by (limits_in_lem log') τ m.entries)) 0 =
    same-faults room (delivered_by (limits_in_lem log) σ l.entries) (delivered_by (limits_in_lem log') τ m.entries) c in
    let r : shown_of (report_in (limits_in_lem log) σ l.entries) ≡ shown_of (report_in (limits_in_lem log') τ m.entries) =
    shown-is (limits_in_lem log) σ f s l.admits l.entries l.keeps ∙ ap of_payloads e ∙ sym (shown-is (limits_in_lem log') τ g t m.admits m.entries m.keeps) in
    ap shown (log_is σ f log l room)
    ∙ shows (limits_in_lem log) room σ.store σ.ledger l.entries a
    ∙ (λ i. pick {X = Option Shown} (n i) (some (r i)) none)
    ∙ sym (ap shown (log_is τ g log' m room) ∙ shows (limits_in_lem log') room τ.store τ.ledger m.entries b)
