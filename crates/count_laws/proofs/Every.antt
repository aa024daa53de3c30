-- OF EVERY LOG the lines are those of the delivered lists, and of no others. Assumes nothing.
use Rattle.wire.proofs.Basics.{◌∙◌, sym, ◌≡◌, ap, refl, subst, ℕ, List, [], ◌∷◌, ◌++◌, inl, inr}
use Rattle.steps.specs.Answers.{Reply, refused_by, kept, repeat, delivered}
use Rattle.steps.specs.Runs.{World, fresh}
use Rattle.flight_log.specs.declared.reader.Limits.{Limits}
use Rattle.flight_log.specs.Editions.{limits_in_lem}
use Rattle.flight_log.specs.Entries.{Entry}
use Rattle.flight_log.specs.Listed.{whole, entries_in}
use Rattle.sorted_set.specs.Lists.{In}
use Rattle.sorted_set.proofs.Members.{in_left, in_right, in_either, gather_in, gather-from, Source}
use Rattle.count_rules.specs.Marks.{list_in}
use Rattle.count_rules.specs.Report.{report}
use Rattle.count_rules.specs.Run.{answer_to, left_by, answers, payload_in, payloads, lists_read}
use Rattle.count_rules.specs.Count.{Report, answers_to}
use Rattle.count_rules.specs.Promise.{Shown}
use Rattle.count_rules.proofs.Means.{lines-mean}
use Rattle.count_laws.specs.Every.{after_entries, Delivers, FromDelivered, OnlyDelivered}
use Rattle.count_laws.proofs.Shown.{given_by, ReadWhole, read_whole}

is-delivered : (y : Reply) (b : List ℕ) → In b (payload_in y) → y ≡ delivered b
is-delivered (refused_by n) b i = absurd i
is-delivered kept b i = absurd i
is-delivered repeat b i = absurd i
is-delivered (delivered c) b (inl e) = ap delivered (sym e)
is-delivered (delivered c) b (inr e) = absurd e

module _ (l : Limits) where
  -- one of the entries delivers it
  record OneOf (w : World) (es : List Entry) (b : List ℕ) : Type 0 where
    earlier : List Entry
    entry : Entry
    later : List Entry
    stands : es ≡ earlier ++ entry ∷ later
    answered : answer_to l (after_entries l w earlier) entry ≡ delivered b

  one_of : (w : World) (es : List Entry) (b : List ℕ) → In b (payloads (answers l w es)) → OneOf w es b
  unfolding answers
  one_of w [] b i = absurd i
  one_of w (e ∷ es) b i = elim (in_either b (payload_in (answer_to l w e)) (payloads (answers l (left_by l w e) es)) i) [
    | inl j ↦ record { earlier = []; entry = e; later = es; stands = refl; answered = is-delivered (answer_to l w e) b j }
    | inr j ↦
        let o : OneOf (left_by l w e) es b = one_of (left_by l w e) es b j in
        record { earlier = e ∷ o.earlier; entry = o.entry; later = o.later; stands = ap (λ (x : List Entry). e ∷ x) o.stands; answered = o.answered }
  ]

  delivers_in : (w : World) (earlier : List Entry) (e : Entry) (later : List Entry) (b : List ℕ) → answer_to l (after_entries l w earlier) e ≡ delivered b
      → In b (payloads (answers l w (earlier ++ e ∷ later)))
  unfolding answers
  delivers_in w [] e later b q = in_left b (payload_in (answer_to l w e)) (payloads (answers l (left_by l w e) later)) (subst (λ (y : Reply). In b (payload_in y)) (sym q) (inl refl))
  delivers_in w (x ∷ earlier) e later b q =
      in_right b (payload_in (answer_to l w x)) (payloads (answers l (left_by l w x) (earlier ++ e ∷ later))) (delivers_in (left_by l w x) earlier e later b q)

-- ---- of a log that is read whole

module _ (store ledger log : List ℕ) (es : List Entry) (reads : entries_in log ≡ whole es) where
  abbrev delivered-all : List (List ℕ)
  delivered-all = payloads (answers_to (limits_in_lem log) store ledger es)

  pub in-delivers : (b : List ℕ) → In b delivered-all → Delivers store ledger log b
  in-delivers b i =
      let o : OneOf (limits_in_lem log) (fresh store ledger) es b = one_of (limits_in_lem log) (fresh store ledger) es b i in
      record { earlier = o.earlier; entry = o.entry; later = o.later; stands = reads ∙ ap whole o.stands; answered = o.answered }

  same_entries : (ds : List Entry) → entries_in log ≡ whole ds → es ≡ ds
  same_entries ds e = let z : whole es ≡ whole ds = sym reads ∙ e in cc

  delivers-all : (b : List ℕ) → Delivers store ledger log b → In b delivered-all
  delivers-all b d =
      subst (λ (ds : List Entry). In b (payloads (answers_to (limits_in_lem log) store ledger ds))) (sym (same_entries (d.earlier ++ d.entry ∷ d.later) d.stands))
      (delivers_in (limits_in_lem log) (fresh store ledger) d.earlier d.entry d.later b d.answered)

  lists-are : (r : Report) → r.lines ≡ report (lists_read delivered-all) → FromDelivered store ledger log r
  lists-are r e = record {
    lists = lists_read delivered-all;
    lines_are = e;
    all-delivered = λ l. (
      (λ i. let s : Source list_in delivered-all l = gather-from list_in delivered-all l i in record { payload = s.x; delivers = in-delivers s.x s.inside; is = s.gives }),
      (λ d. gather_in list_in delivered-all d.payload l (delivers-all d.payload d.delivers) d.is),
    );
    mean = lines-mean (lists_read delivered-all);
  }

pub only-delivered : OnlyDelivered
only-delivered room store ledger log r e =
    let w : ReadWhole log = read_whole room store ledger log r e in
    lists-are store ledger log w.entries w.reads r (ap (λ (x : Shown). x.lines) (given_by store ledger log w.entries w.reads room r e).shows)
