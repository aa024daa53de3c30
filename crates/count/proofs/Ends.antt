-- From the survey and the stretch to the count's answer. Assumes nothing.
use Rattle.wire.proofs.Basics.{◌∙◌, sym, ◌≡◌, ap, refl, subst, ℕ, ◌≤◌, suc, min, List, [], true, false, Bool, length, ltb, ℤ, eq-eqb, le-ltb, ne_eqb, ltb-false, arith}
use Rattle.wire.specs.Bytes.{Bytes}
use Rattle.wire.specs.Choice.{pick}
use Rattle.steps.specs.Answers.{Reply}
use Rattle.steps.specs.Receive.{opened}
use Rattle.steps.specs.Runs.{lending, fresh}
use Rattle.receiver_state.specs.View.{state_words_lem, name_bytes_lem, view, shaped}
use Rattle.receiver.specs.Calls.{Call}
use Rattle.open_and_payload.specs.Ends.{Opens}
use Rattle.flight_log.specs.declared.reader.Limits.{Limits}
use Rattle.flight_log.specs.Editions.{limits_in_lem}
use Rattle.flight_log.specs.Entries.{Entry}
use Rattle.flight_log.specs.Listed.{Listed, whole, broken, entries_in}
use Rattle.flight_log.specs.Said.{read_on, read_all}
use Rattle.flight_log.proofs.ReadingOn.{read-all}
use Rattle.sorted_set.specs.Lists.{In}
use Rattle.count_rules.specs.Marks.{PitList}
use Rattle.count_rules.specs.Report.{report}
use Rattle.count_rules.specs.Run.{payloads, lists_read}
use Rattle.count_rules.specs.Count.{max_entries, max_tiles, first_fault, report_of, Outcome, reported, no_report, answers_to, unless, count_entries, count_listed, count_log_lem}
use Rattle.count_rules.specs.Walk.{seen_after, at_first, walk, walk_entries, left_after, held_by, loan_of}
use Rattle.count_rules.proofs.Seen.{seen-report}
use Rattle.count_rules.proofs.EntryByEntry.{walk-agrees}
use Rattle.pit_marks.specs.declared.Sizes.{Sizes}
use Rattle.pit_marks.specs.Sets.{Sets, rooms, held_in, Has}
use Rattle.pit_marks.proofs.Told.{has-none}
use Rattle.stretch.specs.Stop as stop
use Rattle.stretch.specs.Stop.{Stretch}
use Rattle.stretch.specs.Stretch.{Desk, Kit, kit_of, in_shape, Stretched, stretch, Clean, stop_fault, entries_of, totals_of, stretch_of, CountsOn}
use Rattle.stretch.proofs.StretchAnswers.{clean-zero, clean-answers, refused-some}
use Rattle.count.specs.Answer.{Counted}
use Rattle.count.specs.Inside as surveyed
use Rattle.count.specs.Inside.{Surveyed}
use Rattle.count.specs.Counts.{counted, loan, Counts}
use Rattle.count.specs.Inside.{survey_of, Whole, own, report_with}
use Rattle.count.proofs.Walking.{Walks, held_of, stretch-walks, as-many-entries}

-- ---- by what the survey found

module _ (log store ledger : List ℕ) (list : List ℤ) where
  -- the count of a log that is listed so
  by-listed : (X : Listed) → entries_in log ≡ X → (n : ℕ) → count_listed (limits_in_lem log) (length list) store ledger X ≡ no_report n → left_after (limits_in_lem log) store ledger list X ≡ at_first store ledger list
      → (c : Counted) → c ≡ counted (no_report n) → Counts log (loan store ledger list) c (loan store ledger list)
  unfolding count_log_lem held_by
  by-listed X e n q h c g =
      let k : held_by store ledger list log ≡ at_first store ledger list = ap (left_after (limits_in_lem log) store ledger list) e ∙ h in
      record {
        outcome = no_report n;
        says = record {
          gave = sym (ap (count_listed (limits_in_lem log) (length list) store ledger) e ∙ q);
          left = ap loan_of (sym k);
        };
        gave = g;
      }

  -- refused before any call
  pub refused-first : (s : Surveyed) → s ≡ survey_of (entries_in log) → (n : ℕ) → s ≡ surveyed.Refused n → (c : Counted) → c ≡ counted (no_report n) → Counts log (loan store ledger list) c (loan store ledger list)
  unfolding count_entries
  refused-first s e n q c g = by (entries_in log) refl (sym e ∙ q)
    where
      too_many : (es : List Entry) → entries_in log ≡ whole es → (b : Bool) → ltb max_entries (length es) ≡ b → pick b (surveyed.Refused 62) (surveyed.Entries (length es)) ≡ surveyed.Refused n
          → Counts log (loan store ledger list) c (loan store ledger list)
      too_many es i true o u =
          let z : n ≡ 62 = cc in
          by-listed (whole es) i n (rw o (ap no_report (sym z))) (rw o) c g
      too_many es i false o u = absurd (let z : ◌≡◌ {A = ℕ} 0 1 = cc in let y : ⊥ = omega arith in y)

      by : (X : Listed) → entries_in log ≡ X → survey_of X ≡ surveyed.Refused n → Counts log (loan store ledger list) c (loan store ledger list)
      by (whole es) i u = too_many es i (ltb max_entries (length es)) refl u
      by (broken es k) i u = let z : k ≡ n = cc in by-listed (broken es k) i n (ap no_report z) refl c g

pub is_whole : (log : List ℕ) (s : Surveyed) → s ≡ survey_of (entries_in log) → (n : ℕ) → s ≡ surveyed.Entries n → Whole log n
is_whole log s e n q = by (entries_in log) refl (sym e ∙ q)
  where
    so-many : (es : List Entry) → entries_in log ≡ whole es → (b : Bool) → ltb max_entries (length es) ≡ b → pick b (surveyed.Refused 62) (surveyed.Entries (length es)) ≡ surveyed.Entries n → Whole log n
    so-many es i true o u = absurd (let z : ◌≡◌ {A = ℕ} 0 1 = cc in let y : ⊥ = omega arith in y)
    so-many es i false o u =
        let z : n ≡ length es = cc in
        let f : length es ≤ max_entries = ltb-false _ _ o in
        record { entries = es; is = i; size = z; few = omega arith }

    by : (X : Listed) → entries_in log ≡ X → survey_of X ≡ surveyed.Entries n → Whole log n
    by (whole es) i u = so-many es i (ltb max_entries (length es)) refl u
    by (broken es k) i u = absurd (let z : ◌≡◌ {A = ℕ} 0 1 = cc in let y : ⊥ = omega arith in y)

-- ---- after the stretch through a fresh receiver, into empty sets

abbrev no_sizes : Sizes
no_sizes = record { tiles = 0; pits = 0; sure = 0 }

none-held : (x : Sets) → held_in x no_sizes ≡ no_sizes
none-held x =
    let a : min 0 (length x.tiles) ≡ 0 = omega arith in
    let b : min 0 (length x.pits) ≡ 0 = omega arith in
    let c : min 0 (length x.sure) ≡ 0 = omega arith in
    λ i. record { tiles = a i; pits = b i; sure = c i }

module _ (log : List ℕ) (bytes : Bytes log) (n : ℕ) (W : Whole log n) (D : Desk) (w₀ names₀ : List ℕ) (call : Call) (O : Opens w₀ names₀ (length D.lent.store) call D.lent.state D.lent.names)
    (lw : length w₀ ≡ state_words_lem) (ln : length names₀ ≡ name_bytes_lem) (room : rooms D.book.sets ≡ own) (r : Stretch) (D' : Desk) (C : CountsOn log 0 n D no_sizes r D') where
  abbrev store : List ℕ
  store = D.lent.store

  abbrev ledger : List ℕ
  ledger = D.lent.ledger

  abbrev list : List ℤ
  list = D.book.list

  abbrev Counted-so : Counted → Type 0
  Counted-so c = Counts log (loan store ledger list) c (loan D'.lent.store D'.lent.ledger D'.book.list)

  abbrev es : List Entry
  es = W.entries

  abbrev L : Limits
  L = limits_in_lem log

  abbrev rs : List Reply
  rs = answers_to L store ledger es

  abbrev K : Kit
  K = record { world = fresh store ledger; list = list; sets = D.book.sets; sizes = no_sizes }

  abbrev X : Stretched
  X = stretch true L log n 0 K

  stretch-is : stretch_of log 0 n D no_sizes ≡ X
  stretch-is =
      let a : shaped w₀ names₀ ≡ true = rw (eq-eqb _ _ lw, eq-eqb _ _ ln) in
      let b : in_shape D ≡ true = rw (eq-eqb _ _ (O.words ∙ lw), eq-eqb _ _ (O.bytes ∙ ln)) in
      let m : view D.lent.state D.lent.names ≡ opened (length store) = O.machine ∙ rw a in
      λ i. stretch (b i) L log n 0 (record { world = lending (m i) store ledger; list = list; sets = D.book.sets; sizes = none-held D.book.sets i })

  kit-is : kit_of D' r.sizes ≡ X.kit
  kit-is = C.shows ∙ ap (λ (x : Stretched). x.kit) stretch-is

  handed : (b : List ℕ) → In b (payloads X.replies) → Bytes b
  handed b i = C.handed b (subst (λ (x : Stretched). In b (payloads x.replies)) (sym stretch-is) i)

  entries-are : entries_of (read_on n log 0) ≡ es
  unfolding read_all
  entries-are = ap (λ (k : ℕ). entries_of (read_on k log 0)) W.size ∙ as-many-entries log (suc (length log)) 0 es (read-all log bytes ∙ W.is)

  walks : Walks X (walk_entries L store ledger list es) []
  unfolding walk_entries
  walks =
      subst (λ (ds : List Entry). Walks X (walk L (length list) [] (at_first store ledger list) ds) []) entries-are
      (stretch-walks L log (length list) n 0 K [] (record { has = has-none D.book.sets; words = room }) refl handed)

  within : ltb max_entries (length es) ≡ false
  within = le-ltb max_entries (length es) (let a = W.few in omega (arith, W.size))

  faults : first_fault (length list) [] (payloads rs) ≡ stop_fault X.stop
  faults = sym (walk-agrees L store ledger list es).same-fault ∙ walks.found

  count-is : count_log_lem (length list) store ledger log ≡ unless (stop_fault X.stop) (report_of es rs)
  unfolding count_log_lem count_entries
  count-is = ap (count_listed L (length list) store ledger) W.is ∙ rw (within, faults)

  held-is : held_by store ledger list log ≡ held_of X.kit
  unfolding held_by
  held-is = ap (left_after L store ledger list) W.is ∙ rw within walks.held

  counts : (o : Outcome) → o ≡ unless (stop_fault X.stop) (report_of es rs) → (c : Counted) → c ≡ counted o → Counted-so c
  counts o e c g = record {
    outcome = o;
    says = record {
      gave = e ∙ sym count-is;
      left = ap (λ (x : Kit). loan x.world.store x.world.ledger x.list) kit-is ∙ ap loan_of (sym held-is);
    };
    gave = g;
  }

  stop_is : r.stop ≡ X.stop
  stop_is = ap (λ (x : Stretch). x.stop) C.gave ∙ ap (λ (x : Stretched). x.stop) stretch-is

  pub refused-then : (k : ℕ) → r.stop ≡ stop.Refused k → (c : Counted) → c ≡ counted (no_report k) → Counted-so c
  refused-then k e c g =
      let q : X.stop ≡ stop.Refused k = sym stop_is ∙ e in
      let z : k ≡ 0 → ⊥ = refused-some true L log n 0 K k q in
      counts (no_report k) (let u : stop_fault X.stop ≡ k = ap stop_fault q in rw (u, ne_eqb _ _ z)) c g

  abbrev seen : List PitList
  seen = seen_after [] (payloads rs)

  pub given-then : ((k : ℕ) → r.stop ≡ stop.Refused k → ⊥) → (c : Counted)
      → ((ms : List PitList) → Has D'.book.sets r.sizes ms → r.sizes.tiles ≤ max_tiles → c ≡ counted (reported (report_with n r.totals (report ms)))) → Counted-so c
  unfolding report_of
  given-then f c g =
      let q : Clean X = λ k e. f k (stop_is ∙ e) in
      let a : X.replies ≡ rs = clean-answers L log n 0 K q ∙ ap (λ (ds : List Entry). answers_to L store ledger ds) entries-are in
      let h₀ : Has X.kit.sets X.kit.sizes seen = subst (λ (ys : List Reply). Has X.kit.sets X.kit.sizes (seen_after [] (payloads ys))) a (walks.has q).has in
      let h : Has D'.book.sets r.sizes seen = subst (λ (k : Kit). Has k.sets k.sizes seen) (sym kit-is) h₀ in
      let t : length D'.book.sets.tiles ≡ max_tiles = ap (λ (k : Kit). length k.sets.tiles) kit-is ∙ ap (λ (x : Sizes). x.tiles) (walks.has q).words in
      let few : r.sizes.tiles ≤ max_tiles = (let z = h.the-tiles.size in omega arith) in
      let many : X.lists ≡ length (lists_read (payloads rs)) = walks.lists q ∙ ap (λ (ys : List Reply). length (lists_read (payloads ys))) a in
      let tot : r.totals ≡ totals_of rs (length (lists_read (payloads rs))) =
      ap (λ (x : Stretch). x.totals) C.gave ∙ (ap (λ (x : Stretched). totals_of x.replies x.lists) stretch-is ∙ (λ i. totals_of (a i) (many i))) in
      counts (reported (report_of es rs)) (let u : stop_fault X.stop ≡ 0 = clean-zero X.stop q in rw u) c
      (g seen h few ∙ (λ i. counted (reported (report_with (W.size i) (tot i) (seen-report (payloads rs) i)))))
