-- What is shown of a log that is read whole, by the payloads that its entries deliver. Assumes nothing.
use Rattle.wire.proofs.Basics.{◌∙◌, sym, ◌≡◌, ap, refl, ℕ, ◌≤◌, List, [], true, false, Bool, some, none, length, eqb, ltb, eq-eqb, le-ltb, eqb-true, ltb-false, arith}
use Rattle.wire.specs.Choice.{pick}
use Rattle.wire.proofs.Choices.{never, zero-is-one}
use Rattle.steps.specs.Answers.{Reply}
use Rattle.flight_log.specs.Editions.{limits_in_lem}
use Rattle.flight_log.specs.Entries.{Entry}
use Rattle.flight_log.specs.Listed.{Listed, whole, broken, entries_in}
use Rattle.sorted_set.specs.Lists.{SameMembers, total}
use Rattle.sorted_set.proofs.Members.{gather-same}
use Rattle.sorted_set.proofs.Sums.{length-total, length-gather}
use Rattle.count_rules.specs.Marks.{list_in}
use Rattle.count_rules.specs.Run.{payloads, lists_read}
use Rattle.count_rules.specs.Count.{max_entries, first_fault, Report, report_of, Outcome, reported, no_report, answers_to, count_entries, count_listed, count_log_lem}
use Rattle.count_rules.specs.Promise.{shown_of, shown}
use Rattle.count_rules.proofs.ReportByLists.{same-report}
use Rattle.count_rules.proofs.Totals.{delivered-payloads}
use Rattle.host_count.specs.Told.{code_of}
use Rattle.count_laws.specs.Losses.{shown_from}

-- payloads with the same members and the same sums show the same
pub same-shown : (ps qs : List (List ℕ)) → SameMembers ps qs → ((w : List ℕ → ℕ) → total w ps ≡ total w qs) → shown_from ps ≡ shown_from qs
same-shown ps qs m s = λ i. record {
  delivered = (length-total ps ∙ s (λ p. 1) ∙ sym (length-total qs)) i;
  lists = (length-gather list_in ps ∙ s (λ p. length (list_in p)) ∙ sym (length-gather list_in qs)) i;
  lines = same-report (lists_read ps) (lists_read qs) (gather-same list_in ps qs m) i;
}

module _ (store ledger log : List ℕ) (es : List Entry) (reads : entries_in log ≡ whole es) (room : ℕ) where
  abbrev rs : List Reply
  rs = answers_to (limits_in_lem log) store ledger es

  abbrev pub payloads_in : List (List ℕ)
  payloads_in = payloads rs

  of-replies : shown_of (report_of es rs) ≡ shown_from payloads_in
  unfolding report_of
  of-replies = λ i. record { delivered = delivered-payloads rs i; lists = length (lists_read payloads_in); lines = (shown_from payloads_in).lines }

  abbrev unless_over : Bool → Bool → Outcome
  unless_over a b = pick a (no_report 62) (pick b (reported (report_of es rs)) (no_report (first_fault room [] payloads_in)))

  count-is : count_log_lem room store ledger log ≡ unless_over (ltb max_entries (length es)) (eqb (first_fault room [] payloads_in) 0)
  unfolding count_log_lem count_entries
  count-is = ap (count_listed (limits_in_lem log) room store ledger) reads

  pub shown_by : length es ≤ max_entries → shown (count_log_lem room store ledger log) ≡ pick (eqb (first_fault room [] payloads_in) 0) (some (shown_from payloads_in)) none
  shown_by few = ap shown (count-is ∙ ap (λ (a : Bool). unless_over a (eqb (first_fault room [] payloads_in) 0)) (le-ltb max_entries (length es) few)) ∙ go (eqb (first_fault room [] payloads_in) 0)
    where
      go : (b : Bool) → shown (unless_over false b) ≡ pick b (some (shown_from payloads_in)) none
      go true = ap some of-replies
      go false = refl

  -- of a report that is given
  pub record Given (r : Report) : Type 0 where
    pub few : length es ≤ max_entries
    pub passes : first_fault room [] payloads_in ≡ 0
    pub is : r ≡ report_of es rs
    pub shows : shown_of r ≡ shown_from payloads_in

  pub given_by : (r : Report) → count_log_lem room store ledger log ≡ reported r → Given r
  given_by r e = go (ltb max_entries (length es)) refl (eqb (first_fault room [] payloads_in) 0) refl (sym count-is ∙ e)
    where
      go : (a : Bool) → ltb max_entries (length es) ≡ a → (b : Bool) → eqb (first_fault room [] payloads_in) 0 ≡ b → unless_over a b ≡ reported r → Given r
      go true p b t q = zero-is-one cc
      go false p true t q =
          let z : report_of es rs ≡ r = cc in
          record { few = ltb-false max_entries (length es) p; passes = eqb-true (first_fault room [] payloads_in) 0 t; is = sym z; shows = ap shown_of (sym z) ∙ of-replies }
      go false p false t q = zero-is-one cc

  -- 0 is told of a report only
  pub zero-given : code_of (count_log_lem room store ledger log) ≡ 0 → count_log_lem room store ledger log ≡ reported (report_of es rs)
  zero-given e = go (ltb max_entries (length es)) (eqb (first_fault room [] payloads_in) 0) refl count-is
    where
      go : (a b : Bool) → eqb (first_fault room [] payloads_in) 0 ≡ b → count_log_lem room store ledger log ≡ unless_over a b → count_log_lem room store ledger log ≡ reported (report_of es rs)
      go true b t q = absurd (let z : 62 ≡ 0 = sym (ap code_of q) ∙ e in let y : ⊥ = omega arith in y)
      go false true t q = q
      go false false t q = absurd (let z : first_fault room [] payloads_in ≡ 0 = sym (ap code_of q) ∙ e in never (eq-eqb (first_fault room [] payloads_in) 0 z) t)

-- a report is given of a log that is read whole only
pub record ReadWhole (log : List ℕ) : Type 0 where
  pub entries : List Entry
  pub reads : entries_in log ≡ whole entries

pub read_whole : (room : ℕ) (store ledger log : List ℕ) (r : Report) → count_log_lem room store ledger log ≡ reported r → ReadWhole log
unfolding count_log_lem
read_whole room store ledger log r e = go (entries_in log) refl e
  where
    go : (x : Listed) → entries_in log ≡ x → count_listed (limits_in_lem log) room store ledger x ≡ reported r → ReadWhole log
    go (whole es) p q = record { entries = es; reads = p }
    go (broken es n) p q = zero-is-one cc
