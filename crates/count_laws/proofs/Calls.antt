-- Two calls on two logs of the same messages tell the same. Assumes nothing.
use Rattle.wire.proofs.Basics.{◌∙◌, sym, ◌≡◌, ap, refl, subst, ℕ, ◌≤◌, ◌+◌, ◌-◌, List, [], ◌∷◌, ◌++◌, append_assoc, map, true, false, Bool, inl, inr, some, none, Option·map, length, drop, take}
use Rattle.wire.proofs.Basics.{length-append, length-replicate, length-map, drop_at, take_at, eqb, ltb, eq-eqb, eqb-true, ltb-false, arith}
use Rattle.wire.specs.Choice.{pick}
use Rattle.wire.specs.Slices.{short}
use Rattle.wire.specs.Overlay.{overlay}
use Rattle.wire.proofs.Choices.{either, never}
use Rattle.wire.proofs.Overlays.{overlay-eq}
use Rattle.words.proofs.Builds.{length-build}
use Rattle.steps.specs.Answers.{Reply}
use Rattle.arrival.specs.Demand.{Scene, Feed}
use Rattle.flight_log.specs.Editions.{limits_in_lem}
use Rattle.lmcp.specs.Lists.{read_list}
use Rattle.sorted_set.specs.Lists.{rising}
use Rattle.count_rules.specs.Marks.{PitList, list_in}
use Rattle.count_rules.specs.Report.{tiles, Line, line, report}
use Rattle.count_rules.specs.Run.{is_refused, how_many, refusals, refused_in, lists_read}
use Rattle.count_rules.specs.Count.{max_tiles, max_pits, pits_in_all, too_long, fault, first_fault, Report, report_of, Outcome, reported, no_report, answers_to, count_log_lem}
use Rattle.season.specs.Losses.{came_whole}
use Rattle.count_rules.specs.Walk.{seen_after}
use Rattle.count_rules.proofs.Seen.{seen-report}
use Rattle.count_rules.specs.Promise.{payloads_of, Shown, shown_of, shown}
use Rattle.count_rules.proofs.Shows.{shown_promise}
use Rattle.count.specs.Answer.{Given, Refused}
use Rattle.count.specs.Answer.{Counted}
use Rattle.count.specs.Counts.{counted, given, zeros, column_of, Loan, Counts}
use Rattle.host_count.specs.Numbers.{report_length, numbers_of}
use Rattle.host_count.specs.Told.{code_of, report_left}
use Rattle.count_laws.specs.Calls.{Kept, LentFor, columns, CodeCount, columns_of, CodeLoss, GivenFrom, CodeEvery, told_in, HostCount}
use Rattle.count_laws.specs.Losses.{shown_from}
use Rattle.count_laws.proofs.Shown as shows
use Rattle.count_laws.proofs.Shown.{given_by, zero-given}
use Rattle.count_laws.proofs.Losses.{loss_promise}
use Rattle.count_laws.proofs.Every.{only-delivered}

-- ---- both are counted or both refused

module _ (σ : Scene) (f : Feed) (log : List ℕ) (τ : Scene) (g : Feed) (log' : List ℕ) (k : Kept σ f log) (h : Kept τ g log') (e : payloads_of σ ≡ payloads_of τ) (room : ℕ) where
  same-shown : shown (count_log_lem room σ.store σ.ledger log) ≡ shown (count_log_lem room τ.store τ.ledger log')
  same-shown = shown_promise σ f log τ g log' k.supposed k.log-of h.supposed h.log-of e k.few h.few room

lent-count : (σ : Scene) (room : ℕ) (l : Loan) → LentFor σ room l → (log : List ℕ) → count_log_lem (length l.list) l.store l.ledger log ≡ count_log_lem room σ.store σ.ledger log
lent-count σ room l t log = λ i. count_log_lem (t.list i) (t.store i) (t.ledger i) log

-- ---- `count_log`

columns-shown : (o : Outcome) → columns (counted o) ≡ Option·map columns_of (shown o)
columns-shown (reported r) = refl
columns-shown (no_report n) = refl

columns_of_lem : (σ : Scene) (room : ℕ) (log : List ℕ) (l l₁ : Loan) (r : Counted) → LentFor σ room l → Counts log l r l₁ → columns r ≡ Option·map columns_of (shown (count_log_lem room σ.store σ.ledger log))
columns_of_lem σ room log l l₁ r t c =
    ap columns c.gave ∙ (columns-shown c.outcome ∙ ap (λ (o : Outcome). Option·map columns_of (shown o)) (c.says.gave ∙ lent-count σ room l t log))

pub code-count : CodeCount
code-count σ f log τ g log' k h e room l l₁ m m₁ r s t u c d =
    columns_of_lem σ room log l l₁ r t c ∙ (ap (Option·map columns_of) (same-shown σ f log τ g log' k h e room) ∙ sym (columns_of_lem τ room log' m m₁ s u d))

map-picked : (b : Bool) (s : Shown) → Option·map columns_of (pick b (some s) none) ≡ pick b (some (columns_of s)) none
map-picked true s = refl
map-picked false s = refl

pub code_loss : CodeLoss
code_loss σ f log s k few room l l₁ r t c =
    columns_of_lem σ room log l l₁ r t c
    ∙ (ap (Option·map columns_of) (loss_promise σ f log s k few room) ∙ map-picked (eqb (first_fault room [] (came_whole σ f)) 0) (shown_from (came_whole σ f)))

pub code-every : CodeEvery
code-every log l l₁ r c e = go c.outcome c.says.gave c.gave
  where
    go : (o : Outcome) → o ≡ count_log_lem (length l.list) l.store l.ledger log → r ≡ counted o → GivenFrom log l r.report
    go (reported x) p q =
        record { report = x; is = ap (λ (z : Counted). z.report) q; from-delivered = only-delivered (length l.list) l.store l.ledger log x (sym p) }
    go (no_report n) p q = absurd (let y : Given ≡ Refused n = sym e ∙ ap (λ (z : Counted). z.answer) q in let z : ◌≡◌ {A = ℕ} 0 1 = cc in let x : ⊥ = omega arith in x)

-- ---- a report has at most 256 lines

fault-few : (room : ℕ) (seen : List PitList) (p : List ℕ) → fault room seen p ≡ 0 → length (tiles (list_in p ++ seen)) ≤ max_tiles
unfolding fault
fault-few room seen p e = go (too_long room (read_list p)) (ltb max_tiles (length (tiles (list_in p ++ seen)))) refl e
  where
    go : (a b : Bool) → ltb max_tiles (length (tiles (list_in p ++ seen))) ≡ b → ◌≡◌ {A = ℕ} (pick a 13 (pick b 60 (pick (ltb max_pits (pits_in_all (list_in p ++ seen))) 61 0))) 0 → length (tiles (list_in p ++ seen)) ≤ max_tiles
    go true b t q = absurd (let z : ⊥ = omega arith in z)
    go false true t q = absurd (let z : ⊥ = omega arith in z)
    go false false t q = ltb-false max_tiles (length (tiles (list_in p ++ seen))) t

few-then : (room : ℕ) (seen : List PitList) (ps : List (List ℕ)) → length (tiles seen) ≤ max_tiles → first_fault room seen ps ≡ 0 → length (tiles (seen_after seen ps)) ≤ max_tiles
unfolding first_fault
few-then room seen [] h e = h
few-then room seen (p ∷ ps) h e = elim (either (eqb (fault room seen p) 0)) [
  | inl t ↦ few-then room (list_in p ++ seen) ps (fault-few room seen p (eqb-true (fault room seen p) 0 t)) (rw t at e)
  | inr t ↦ never (eq-eqb (fault room seen p) 0 (rw t at e)) t
]

report-long : (ls : List PitList) → length (report ls) ≡ length (tiles ls)
unfolding report
report-long ls = length-map (tiles ls) (line ls)

few-lines : (room : ℕ) (ps : List (List ℕ)) → first_fault room [] ps ≡ 0 → length (report (lists_read ps)) ≤ max_tiles
unfolding rising
few-lines room ps e =
    let a : length (tiles (seen_after [] ps)) ≤ max_tiles = few-then room [] ps (omega arith) e in
    omega (arith, report-long (seen_after [] ps), ap (λ (x : List Line). length x) (seen-report ps))

-- ---- `qm_count`

-- the numbers behind those of the refusals
abbrev others_of : Shown → List ℕ
others_of s = (s.lists ∷ length s.lines ∷ []) ++ column_of (λ x. x.tile) s.lines ++ column_of (λ x. x.pits) s.lines ++ column_of (λ x. x.sure) s.lines

column-long : (f : Line → ℕ) (lines : List Line) → length lines ≤ max_tiles → length (column_of f lines) ≡ max_tiles
column-long f lines h = (let m : List ℕ = map f lines in omega (arith, length-append m (zeros (max_tiles - length m)), length-replicate {A = ℕ} (max_tiles - length m) 0, length-map lines f))

others-long : (s : Shown) → length s.lines ≤ max_tiles → length (others_of s) ≡ 770
others-long s h =
    let a : List ℕ = column_of (λ x. x.tile) s.lines in
    let b : List ℕ = column_of (λ x. x.pits) s.lines in
    let c : List ℕ = column_of (λ x. x.sure) s.lines in
    let f : List ℕ = s.lists ∷ length s.lines ∷ [] in
    omega (
      arith,
      length-append (f ++ a ++ b) c,
      length-append (f ++ a) b,
      length-append f a,
      column-long (λ x. x.tile) s.lines h,
      column-long (λ x. x.pits) s.lines h,
      column-long (λ x. x.sure) s.lines h,
    )

two-parts : (h r f a b c : List ℕ) → h ++ r ++ f ++ a ++ b ++ c ≡ (h ++ r) ++ (f ++ a ++ b ++ c)
two-parts h r f a b c = simp append_assoc

module _ (a : List ℕ) (room : short report_length a ≡ false) (r : Report) (few : length r.lines ≤ max_tiles) (ten : length r.refused ≡ refusals) where
  abbrev head : List ℕ
  head = (r.entries ∷ r.kept ∷ r.repeated ∷ r.delivered ∷ []) ++ r.refused

  abbrev others : List ℕ
  others = others_of (shown_of r)

  numbers-are : numbers_of (given r) ≡ head ++ others
  numbers-are =
      two-parts (r.entries ∷ r.kept ∷ r.repeated ∷ r.delivered ∷ []) r.refused (r.lists ∷ length r.lines ∷ [])
      (column_of (λ x. x.tile) r.lines) (column_of (λ x. x.pits) r.lines) (column_of (λ x. x.sure) r.lines)

  head-long : length head ≡ 14
  head-long = omega (arith, length-append (r.entries ∷ r.kept ∷ r.repeated ∷ r.delivered ∷ []) r.refused, ten)

  abbrev left : List ℕ
  left = drop (0 + length (numbers_of (given r))) a

  overlaid : overlay a 0 (numbers_of (given r)) ≡ numbers_of (given r) ++ left
  overlaid =
      let n : length (numbers_of (given r)) ≡ 784 = (ap (λ (x : List ℕ). length x) numbers-are ∙ (let z : length (head ++ others) ≡ 784 = omega (arith, length-append head others, head-long, others-long (shown_of r) few) in z)) in
      overlay-eq a 0 (numbers_of (given r)) (omega (arith, n, ltb-false (length a) report_length room))

  told_in_lem : told_in (overlay a 0 (numbers_of (given r))) ≡ record { delivered = r.delivered; others = others }
  told_in_lem =
      let d : overlay a 0 (numbers_of (given r)) ≡ head ++ (others ++ left) = overlaid ∙ (ap (λ (x : List ℕ). x ++ left) numbers-are ∙ append_assoc head others left) in
      ap told_in d
      ∙ (λ i. record { delivered = r.delivered; others = (ap (take 770) (drop_at head (others ++ left) 14 head-long) ∙ take_at others left 770 (others-long (shown_of r) few)) i })

-- another outcome that shows the same
record Also (s : Shown) (o : Outcome) : Type 0 where
  r : Report
  is : o ≡ reported r
  shows : shown_of r ≡ s

also : (s : Shown) (o : Outcome) → some s ≡ shown o → Also s o
also s (reported r) e = (let z : s ≡ shown_of r = cc in record { r = r; is = refl; shows = sym z })
also s (no_report n) e = absurd (let z : ◌≡◌ {A = ℕ} 0 1 = cc in let y : ⊥ = omega arith in y)

ten-of : (rs : List Reply) → length (refused_in rs) ≡ refusals
ten-of rs = length-build refusals (λ k. how_many (is_refused k) rs)

-- what a call that answers 0 tells
module _ (σ : Scene) (f : Feed) (log : List ℕ) (k : Kept σ f log) (room : ℕ) (r : Report) (q : count_log_lem room σ.store σ.ledger log ≡ reported r) where
  its : shows.Given σ.store σ.ledger log k.log-of.entries k.log-of.reads room r
  its = given_by σ.store σ.ledger log k.log-of.entries k.log-of.reads room r q

  its-few : length r.lines ≤ max_tiles
  its-few = subst (λ (x : List Line). length x ≤ max_tiles) (sym (ap (λ (s : Shown). s.lines) its.shows)) (few-lines room _ its.passes)

  its_ten : length r.refused ≡ refusals
  unfolding report_of
  its_ten = ap (λ (x : Report). length x.refused) its.is ∙ ten-of (answers_to (limits_in_lem log) σ.store σ.ledger k.log-of.entries)

  tells : (a a₁ : List ℕ) → short report_length a ≡ false → a₁ ≡ report_left (count_log_lem room σ.store σ.ledger log) a → told_in a₁ ≡ record { delivered = (shown_of r).delivered; others = others_of (shown_of r) }
  tells a a₁ h e = ap told_in (e ∙ ap (λ (o : Outcome). report_left o a) q) ∙ told_in_lem a h r its-few its_ten

pub host-count : HostCount
host-count σ f log τ g log' k h e room l l₁ m m₁ a a₁ b b₁ x y t u sa sb c d z =
    let p : x ≡ code_of (count_log_lem room σ.store σ.ledger log) =
    c.gave ∙ (ap (λ (s : Bool). pick s 13 (code_of (count_log_lem (length l.list) l.store l.ledger log))) sa ∙ ap code_of (lent-count σ room l t log)) in
    let v : y ≡ code_of (count_log_lem room τ.store τ.ledger log') =
    d.gave ∙ (ap (λ (s : Bool). pick s 13 (code_of (count_log_lem (length m.list) m.store m.ledger log'))) sb ∙ ap code_of (lent-count τ room m u log')) in
    let w : Report = report_of k.log-of.entries (answers_to (limits_in_lem log) σ.store σ.ledger k.log-of.entries) in
    let i : count_log_lem room σ.store σ.ledger log ≡ reported w = zero-given σ.store σ.ledger log k.log-of.entries k.log-of.reads room (sym p ∙ z) in
    let j : Also (shown_of w) (count_log_lem room τ.store τ.ledger log') = also (shown_of w) (count_log_lem room τ.store τ.ledger log') (sym (ap shown i) ∙ same-shown σ f log τ g log' k h e room) in
    let al : a₁ ≡ report_left (count_log_lem room σ.store σ.ledger log) a =
    c.report-left ∙ (ap (λ (s : Bool). pick s a (report_left (count_log_lem (length l.list) l.store l.ledger log) a)) sa ∙ ap (λ (o : Outcome). report_left o a) (lent-count σ room l t log)) in
    let bl : b₁ ≡ report_left (count_log_lem room τ.store τ.ledger log') b =
    d.report-left ∙ (ap (λ (s : Bool). pick s b (report_left (count_log_lem (length m.list) m.store m.ledger log') b)) sb ∙ ap (λ (o : Outcome). report_left o b) (lent-count τ room m u log')) in
    record {
      answer = v ∙ ap code_of j.is;
      told =
          tells σ f log k room w i a a₁ sa al
          ∙ ((λ n. record { delivered = (sym j.shows n).delivered; others = others_of (sym j.shows n) }) ∙ sym (tells τ g log' h room j.r j.is b b₁ sb bl));
    }
