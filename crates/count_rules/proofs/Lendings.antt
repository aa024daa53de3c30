-- WHATEVER STORE AND LEDGER HELD: what a log's entries are answered, and with it the count of a log, depends on how long they are, and on nothing else of them. Assumes nothing.
use Rattle.wire.proofs.Basics.{◌∙◌, sym, ◌≡◌, ap, refl, subst₂, ℕ, List, [], ◌∷◌, length, ltb}
use Rattle.wire.specs.Choice.{pick}
use Rattle.steps.specs.Receive.{Machine, After, opened}
use Rattle.steps.specs.Answers.{Reply}
use Rattle.steps.specs.Runs.{lending, world_of}
use Rattle.steps.proofs.Twins.{Two, two, Twin}
use Rattle.steps.proofs.Whatever.{Same, within_same, fresh-twin}
use Rattle.flight_log.specs.declared.reader.Limits.{Limits}
use Rattle.flight_log.specs.Editions.{limits_in_lem}
use Rattle.flight_log.specs.Entries.{Entry}
use Rattle.flight_log.specs.Listed.{Listed, whole, broken, entries_in}
use Rattle.within_limits.proofs.Deliveries.{within-is}
use Rattle.count_rules.specs.Run.{called, answers, payloads}
use Rattle.count_rules.specs.Count.{max_entries, first_fault, no_report, report_of, unless, answers_to, count_entries, count_listed, count_log_lem}

module _ (l : Limits) where
  called_same : (m : Machine) (t : Two) → Twin m t → (e : Entry) → Same e.datagram (called l (lending m t.store t.ledger) e) (called l (lending m t.store' t.ledger') e)
  unfolding called
  called_same m t w e =
      subst₂ (Same e.datagram) (sym (within-is l m t.store t.ledger e.sender e.datagram)) (sym (within-is l m t.store' t.ledger' e.sender e.datagram))
      (within_same l.payload l.fragments m t w e.sender e.datagram)

  answers-same : (es : List Entry) (m : Machine) (t : Two) → Twin m t → answers l (lending m t.store t.ledger) es ≡ answers l (lending m t.store' t.ledger') es
  unfolding answers
  answers-same [] m t w = refl
  answers-same (e ∷ es) m t w =
      let a : After = called l (lending m t.store t.ledger) e in
      let b : After = called l (lending m t.store' t.ledger') e in
      let s : Same e.datagram a b = called_same m t w e in
      let rest : answers l (world_of a) es ≡ answers l (world_of b) es =
      answers-same es a.machine (two a.store a.ledger b.store b.ledger) s.twin ∙ ap (λ (n : Machine). answers l (lending n b.store b.ledger) es) s.machine in
      λ i. s.replies i ∷ rest i

module _ (store ledger store' ledger' : List ℕ) (p : length store ≡ length store') (q : length ledger ≡ length ledger') where
  -- THE ANSWERS
  pub same-answers : (l : Limits) (es : List Entry) → answers_to l store ledger es ≡ answers_to l store' ledger' es
  same-answers l es =
      answers-same l es (opened (length store)) (two store ledger store' ledger') (fresh-twin (two store ledger store' ledger') p q)
      ∙ ap (λ (n : ℕ). answers l (lending (opened n) store' ledger') es) p

  -- THE COUNT OF A LOG
  pub same_count : (room : ℕ) (log : List ℕ) → count_log_lem room store ledger log ≡ count_log_lem room store' ledger' log
  unfolding count_log_lem count_entries
  same_count room log = go (entries_in log)
    where
      go : (x : Listed) → count_listed (limits_in_lem log) room store ledger x ≡ count_listed (limits_in_lem log) room store' ledger' x
      go (whole es) = ap (λ (rs : List Reply). pick (ltb max_entries (length es)) (no_report 62) (unless (first_fault room [] (payloads rs)) (report_of es rs))) (same-answers (limits_in_lem log) es)
      go (broken es n) = refl
