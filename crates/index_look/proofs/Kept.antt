-- By the index file of a log, also one that has grown since, a key is found where the log first has it, and nothing is refused. Assumes nothing.
use Rattle.wire.proofs.Basics.{◌∙◌, sym, ◌≡◌, ap, refl, subst, ℕ, ◌≤◌, ◌+◌, ◌<◌, suc, zero, ◌^◌, List, [], ◌∷◌, ◌++◌, append_assoc, append-nil, true, inl, inr, length, drop, get_or, length-append}
use Rattle.wire.proofs.Basics.{drop-append_seam, eqb, le-ltb, eqb-true, arith}
use Rattle.wire.specs.Bytes.{Bytes}
use Rattle.wire.specs.Taken.{taken}
use Rattle.wire.proofs.Choices.{either, and_l, and_r, and-of}
use Rattle.flight_log.specs.Editions.{head_bytes, head_in, limits_of}
use Rattle.flight_log.specs.Entries.{body_of}
use Rattle.flight_log.specs.Said.{first_of}
use Rattle.flight_log.specs.declared.reader.Limits.{Limits}
use Rattle.flight_log.proofs.LogRoundTrip.{head-back}
use Rattle.log_index.specs.Rows as rows
use Rattle.log_index.specs.Rows.{Row, sorted, is_of}
use Rattle.log_index.specs.Index.{Gathered, gathered, rows_of, first_to, first_entry_lem}
use Rattle.log_index.proofs.Sorts.{none, All, all_map, all-at, sorted_all, sorted-length}
use Rattle.log_index.proofs.Added.{Indexable, indexable, rows-rising}
use Rattle.index_file.specs.File.{Fits, file_of, covered_in, count_in, is_file, file_row, rows_of_file}
use Rattle.index_file.proofs.Determines.{covered-back, count-back, is-file, row-at-back, rows_back}
use Rattle.index_look.specs.Keys.{behind_head, has_key, leads, ends_lead_lem}
use Rattle.index_look.specs.Look.{found_in_file, believed, looked_up_lem}
use Rattle.index_look.specs.Kept.{FileOf, found_said}
use Rattle.index_look.proofs.Halved.{found_in-sorted}
use Rattle.index_look.proofs.Leads.{Standing, rows-stand, rows_few}

-- ---- an answer that is no refusal

looked-good : (log f : List ℕ) (s q : ℕ) → is_file f ≡ true → covered_in f ≤ length log → ends_lead_lem log (file_row f) (count_in f) ≡ true
    → looked_up_lem log f s q ≡ believed log s q (found_in_file f (count_in f) s q)
unfolding looked_up_lem
looked-good log f s q a b c = rw (a, le-ltb (length log) (covered_in f) b, c) refl

ends_of : (log : List ℕ) (row : ℕ → Row) (n : ℕ) → ((i : ℕ) → i < n → leads log (row i) ≡ true) → ends_lead_lem log row n ≡ true
ends_of log row zero h = refl
ends_of log row (suc n) h = and-of (leads log (row 0)) (leads log (row n)) (h 0 (omega arith)) (h n (omega arith))

-- the first row of a key is believed where every row leads to its entry
module _ (log : List ℕ) (s q : ℕ) where
  own-leads : (r : Row) → is_of s q r ≡ true → leads log r ≡ true → has_key log r.place s q ≡ true
  own-leads r e l =
      let a : s ≡ r.sender = sym (eqb-true r.sender s (and_l (eqb r.sender s) (eqb r.sequence q) e)) in
      let b : q ≡ r.sequence = sym (eqb-true r.sequence q (and_r (eqb r.sender s) (eqb r.sequence q) e)) in
      (λ j. has_key log r.place (a j) (b j)) ∙ l

  first-believed : (rs : List Row) → All (λ r. leads log r ≡ true) rs → believed log s q (rows.first_of s q rs) ≡ found_said (rows.first_of s q rs)
  unfolding rows.first_of
  first-believed [] a = refl
  first-believed (r ∷ rs) a = elim (either (is_of s q r)) [
    | inl e ↦ rw (e, own-leads r e a.0) refl
    | inr e ↦ rw e (first-believed rs a.1)
  ]

-- ---- the file of a log, and others added behind the log

module _ (log rest f : List ℕ) (h : Bytes (log ++ rest)) (front : Bytes log) (small : length (log ++ rest) < 2 ^ 64) (k : FileOf log f) where
  abbrev big : List ℕ
  big = log ++ rest

  abbrev rs : List Row
  rs = k.rows

  abbrev i : Indexable log rs
  i = indexable log front rs k.from-log

  abbrev m : Limits
  m = limits_of i.edition

  abbrev head : List ℕ
  head = head_bytes i.edition

  abbrev body : List ℕ
  body = body_of i.entries

  split : big ≡ head ++ (body ++ rest)
  split = ap (λ (l : List ℕ). l ++ rest) (sym i.wrote) ∙ append_assoc head body rest

  head-there : head_in big ≡ taken i.edition (body ++ rest)
  head-there = ap head_in split ∙ head-back i.edition i.lawful (body ++ rest)

  body-there : drop (length head) big ≡ body ++ rest
  body-there = ap (drop (length head)) split ∙ drop-append_seam head (body ++ rest)

  standing : All (Standing big m) rs
  standing =
      subst (All (Standing big m)) (sym i.rows) (rows-stand big h m i.entries i.keep (length head) rest body-there)

  lead-of : (r : Row) → Standing big m r → leads big r ≡ true
  unfolding has_key
  lead-of r g = ap (λ t. behind_head big r.place r.sender r.sequence (first_of big t)) head-there ∙ g.leads

  leading : All (λ r. leads big r ≡ true) rs
  leading = all_map (Standing big m) (λ r. leads big r ≡ true) lead-of rs standing

  fitting : All Fits (sorted rs)
  fitting =
      sorted_all Fits rs
      (all_map (Standing big m) Fits (λ r g. record { sender = g.sender; sequence = g.sequence; place = let p = g.inside in omega (arith, p, small) }) rs standing)

  log-small : length log < 2 ^ 64
  log-small = let e = length-append log rest in omega (arith, e, small)

  few : length (sorted rs) < 2 ^ 64
  few =
      let a = sorted-length rs in
      let b : length rs ≡ length (rows_of m (length head) i.entries) = ap length i.rows in
      let c = rows_few m (length head) i.entries in
      let d : length head + length body ≡ length log = sym (length-append head body) ∙ ap length i.wrote in
      let e = log-small in
      omega (arith, a, b, c, d, e)

  count : count_in f ≡ length (sorted rs)
  count = ap count_in k.file ∙ count-back (length log) (sorted rs) log-small few fitting

  row-there : (j : ℕ) → j < length (sorted rs) → file_row f j ≡ get_or (sorted rs) j none
  row-there j b = ap (λ (g : List ℕ). file_row g j) k.file ∙ row-at-back (length log) (sorted rs) log-small few fitting j b

  ends : ends_lead_lem big (file_row f) (count_in f) ≡ true
  ends =
      ap (ends_lead_lem big (file_row f)) count
      ∙ ends_of big (file_row f) (length (sorted rs))
      (λ j b. ap (leads big) (row-there j b) ∙ all-at (λ r. leads big r ≡ true) (sorted rs) (sorted_all (λ r. leads big r ≡ true) rs leading) j b)

  covers : covered_in f ≡ length log
  covers = ap covered_in k.file ∙ covered-back (length log) (sorted rs) log-small few fitting

  rows-there : rows_of_file f ≡ sorted rs
  rows-there = ap rows_of_file k.file ∙ rows_back (length log) (sorted rs) log-small few fitting

  -- the place where the log first has the key, or none
  pub looked-first : (s q : ℕ) → looked_up_lem big f s q ≡ found_said (first_entry_lem log s q)
  looked-first s q =
      let is : is_file f ≡ true = ap is_file k.file ∙ is-file (length log) (sorted rs) log-small few fitting in
      let l : covered_in f ≤ length big = let e = length-append log rest in let c = covers in omega (arith, c, e) in
      let found : found_in_file f (count_in f) s q ≡ rows.first_of s q rs =
      ap (λ (n : ℕ). found_in_file f n s q) count ∙ found_in-sorted f rs (rows-rising log front rs k.from-log) row-there s q in
      looked-good big f s q is l ends
      ∙ ap (believed big s q) found
      ∙ first-believed big s q rs leading
      ∙ ap (λ (g : Gathered). found_said (first_to s q g)) (sym k.from-log)

-- a log has one index file
pub file-once : (log f g : List ℕ) → FileOf log f → FileOf log g → f ≡ g
file-once log f g a b =
    let e : gathered a.rows ≡ gathered b.rows = sym a.from-log ∙ b.from-log in
    let r : a.rows ≡ b.rows = cc in
    a.file ∙ ap (λ (l : List Row). file_of (length log) (sorted l)) r ∙ sym b.file

-- ---- what it says

module _ (log f : List ℕ) (h : Bytes log) (small : length log < 2 ^ 64) (k : FileOf log f) where
  all : Bytes (log ++ [])
  all = subst Bytes (sym (append-nil log)) h

  all_small : length (log ++ []) < 2 ^ 64
  all_small = subst (λ (l : List ℕ). length l < 2 ^ 64) (sym (append-nil log)) small

  pub file-count : count_in f ≡ length (sorted k.rows)
  file-count = count log [] f all h all_small k

  pub file-covers : covered_in f ≡ length log
  file-covers = covers log [] f all h all_small k

  pub file-rows : rows_of_file f ≡ sorted k.rows
  file-rows = rows-there log [] f all h all_small k
