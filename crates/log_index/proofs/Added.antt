-- A log that entries were added to: its rows are those of its front and then those from there on. And in a log places rise. Assumes nothing.
use Rattle.wire.proofs.Basics.{◌∙◌, sym, ◌≡◌, ap, refl, subst, ℕ, ◌≤◌, ◌+◌, ◌<◌, ◌-◌, suc, zero, List, [], ◌∷◌, ◌++◌, append_assoc, length, drop, length-append, drop-append_seam, arith}
use Rattle.wire.specs.Bytes.{Bytes}
use Rattle.wire.specs.Taken.{Taken, taken, refused}
use Rattle.datagram.specs.Read.{read_datagram_lem}
use Rattle.datagram.specs.Read.{Read}
use Rattle.datagram.specs.Read.{Good, Refused}
use Rattle.flight_log.specs.Editions.{Edition, Lawful, head_bytes, head_in, limits_of}
use Rattle.flight_log.specs.Entries.{Entry, AllKeep, entry_bytes, body_of}
use Rattle.flight_log.specs.Listed.{Listed, whole, broken, after, more, one_more_lem, list_by}
use Rattle.flight_log.specs.declared.reader.Limits.{Limits}
use Rattle.flight_log.proofs.LogRoundTrip.{entry-back, entry-some, HeadBack, back-body, back_head, head-back, one_more}
use Rattle.flight_log.proofs.AfterEntry.{rest-bytes}
use Rattle.log_index.specs.Rows.{Row}
use Rattle.log_index.specs.Index.{row_for, entry_row, rows_of, Gathered, gathered, stopped, rows_to, rows_from, rows_behind, rows_in, rows_after, rows_added}
use Rattle.log_index.proofs.Gathers.{ahead, rows-after, list-enough}
use Rattle.log_index.proofs.Sorts.{All, all_map}
use Rattle.log_index.proofs.Looks.{Rising}

-- ---- the entries of the front stand in front of those that are added

abbrev after_all : List Entry → Listed → Listed
after_all [] l = l
after_all (e ∷ es) l = after e (after_all es l)

list-front : (k : ℕ) (es : List Entry) → AllKeep es → (b : List ℕ) → Bytes b → length (body_of es ++ b) ≤ k → list_by k (body_of es ++ b) ≡ after_all es (list_by (length b) b)
unfolding body_of list_by
list-front k [] a b h l = list-enough k (length b) b h l (omega arith)
list-front zero (e ∷ es) a b h l = absurd (let z : ⊥ = omega (arith, entry-some e, length-append (entry_bytes e ++ body_of es) b, length-append (entry_bytes e) (body_of es)) in z)
list-front (suc k) (e ∷ es) a b h l =
    let c = append_assoc (entry_bytes e) (body_of es) b in
    let n = ap length c ∙ length-append (entry_bytes e) (body_of es ++ b) in
    ap (one_more_lem (list_by k)) c
    ∙ one_more (list_by k) (entry_bytes e ++ (body_of es ++ b)) (omega (arith, entry-some e, length-append (entry_bytes e) (body_of es ++ b)))
    ∙ ap (more (list_by k)) (entry-back e a.0 (body_of es ++ b))
    ∙ ap (after e) (list-front k es a.1 b h (omega (arith, entry-some e, n)))

-- ---- and so do their rows

pub ahead_none : (g : Gathered) → ahead [] g ≡ g
ahead_none (gathered rs) = refl
ahead_none (stopped n) = refl

pub ahead-both : (a b : List Row) (g : Gathered) → ahead a (ahead b g) ≡ ahead (a ++ b) g
ahead-both a b (gathered rs) = ap gathered (sym (append_assoc a b rs))
ahead-both a b (stopped n) = refl

rows-front : (m : Limits) (at : ℕ) (es : List Entry) (l : Listed) → rows_to m at (after_all es l) ≡ ahead (rows_of m at es) (rows_to m (at + length (body_of es)) l)
unfolding body_of rows_of
rows-front m at [] l =
    let e : at ≡ at + 0 = omega arith in
    ap (λ (k : ℕ). rows_to m k l) e ∙ sym (ahead_none (rows_to m (at + 0) l))
rows-front m at (e ∷ es) l =
    let n : at + length (entry_bytes e) + length (body_of es) ≡ at + length (entry_bytes e ++ body_of es) = omega (arith, length-append (entry_bytes e) (body_of es)) in
    rows-after m at e (after_all es l)
    ∙ ap (ahead (entry_row m at e)) (rows-front m (at + length (entry_bytes e)) es l)
    ∙ ahead-both (entry_row m at e) (rows_of m (at + length (entry_bytes e)) es) (rows_to m (at + length (entry_bytes e) + length (body_of es)) l)
    ∙ ap (λ (k : ℕ). ahead (entry_row m at e ++ rows_of m (at + length (entry_bytes e)) es) (rows_to m k l)) n

-- ---- the log

-- a log whose head and entries are lawful, with others behind it
module _ (v : Edition) (lawful : Lawful v) (es : List Entry) (keep : AllKeep es) (rest : List ℕ) (h : Bytes rest) where
  abbrev front : List ℕ
  front = head_bytes v ++ body_of es

  abbrev head : ℕ
  head = length (head_bytes v)

  size : length front ≡ head + length (body_of es)
  size = length-append (head_bytes v) (body_of es)

  head-all : head_in (front ++ rest) ≡ taken v (body_of es ++ rest)
  head-all = ap head_in (append_assoc (head_bytes v) (body_of es) rest) ∙ head-back v lawful (body_of es ++ rest)

  rows_all : rows_in (front ++ rest) ≡ ahead (rows_of (limits_of v) head es) (rows_to (limits_of v) (length front) (list_by (length rest) rest))
  unfolding rows_in rows_from
  rows_all =
      let f = front ++ rest in
      let b = body_of es ++ rest in
      let m = limits_of v in
      let n : length f - length b ≡ head = omega (arith, size, length-append front rest, length-append (body_of es) rest) in
      let d : drop head f ≡ b = ap (drop head) (append_assoc (head_bytes v) (body_of es) rest) ∙ drop-append_seam (head_bytes v) b in
      ap (rows_behind f) head-all
      ∙ ap (λ (k : ℕ). rows_to m k (list_by (length (drop k f)) (drop k f))) n
      ∙ ap (λ (c : List ℕ). rows_to m head (list_by (length c) c)) d
      ∙ ap (rows_to m head) (list-front (length b) es keep rest h (omega arith))
      ∙ rows-front m head es (list_by (length rest) rest)
      ∙ ap (λ (k : ℕ). ahead (rows_of m head es) (rows_to m k (list_by (length rest) rest))) (sym size)

  rows_behind_lem : rows_added (front ++ rest) (length front) ≡ rows_to (limits_of v) (length front) (list_by (length rest) rest)
  unfolding rows_added rows_from
  rows_behind_lem =
      let f = front ++ rest in
      ap (rows_after f (length front)) head-all
      ∙ ap (λ (c : List ℕ). rows_to (limits_of v) (length front) (list_by (length c) c)) (drop-append_seam front rest)

-- what is known of a log whose rows there are
pub record Indexable (log : List ℕ) (rs : List Row) : Type 0 where
  pub edition : Edition
  pub lawful : Lawful edition
  pub entries : List Entry
  pub keep : AllKeep entries
  pub wrote : head_bytes edition ++ body_of entries ≡ log
  pub rows : rs ≡ rows_of (limits_of edition) (length (head_bytes edition)) entries

pub indexable : (log : List ℕ) → Bytes log → (rs : List Row) → rows_in log ≡ gathered rs → Indexable log rs
unfolding rows_in rows_from
indexable log h rs e = by-head (head_in log) refl e
  where
    by-list : (v : Edition) (b : List ℕ) → HeadBack log v b → (l : Listed) → list_by (length b) b ≡ l → rows_to (limits_of v) (length (head_bytes v)) l ≡ gathered rs → Indexable log rs
    by-list v b k (broken es n) p q = absurd (let z : ◌≡◌ {A = ℕ} 0 1 = cc in omega arith)
    by-list v b k (whole es) p q =
        let t = back-body (length b) b (rest-bytes (head_bytes v) b log k.wrote h) (omega arith) es p in
        record { edition = v; lawful = k.lawful; entries = es; keep = t.keeps; wrote = ap (λ (c : List ℕ). head_bytes v ++ c) t.wrote ∙ k.wrote; rows = cc }

    by-head : (t : Taken Edition) → head_in log ≡ t → rows_behind log t ≡ gathered rs → Indexable log rs
    by-head (refused n) p q = absurd (let z : ◌≡◌ {A = ℕ} 0 1 = cc in omega arith)
    by-head (taken v b) p q =
        let k = back_head log h v b p in
        let l : length (head_bytes v) + length b ≡ length log = sym (length-append (head_bytes v) b) ∙ ap length k.wrote in
        let n : length log - length b ≡ length (head_bytes v) = omega arith in
        let d : drop (length (head_bytes v)) log ≡ b = ap (drop (length (head_bytes v))) (sym k.wrote) ∙ drop-append_seam (head_bytes v) b in
        let r = ap (λ (c : List ℕ). rows_to (limits_of v) (length (head_bytes v)) (list_by (length c) c)) (sym d)
        ∙ ap (λ (i : ℕ). rows_to (limits_of v) i (list_by (length (drop i log)) (drop i log))) (sym n) ∙ q in
        by-list v b k (list_by (length b) b) refl r

-- the rows of a log with others added: those of its front, and then those from there on
pub rows-added : (log rest : List ℕ) → Bytes log → Bytes rest → (rs : List Row) → rows_in log ≡ gathered rs
    → rows_in (log ++ rest) ≡ ahead rs (rows_added (log ++ rest) (length log))
rows-added log rest h k rs e =
    let i = indexable log h rs e in
    let a = rows_all i.edition i.lawful i.entries i.keep rest k ∙ ap (ahead (rows_of (limits_of i.edition) (length (head_bytes i.edition)) i.entries)) (sym (rows_behind_lem i.edition i.lawful i.entries i.keep rest k)) in
    subst (λ (f : List ℕ). rows_in (f ++ rest) ≡ ahead rs (rows_added (f ++ rest) (length f))) i.wrote
    (subst (λ (xs : List Row). rows_in ((head_bytes i.edition ++ body_of i.entries) ++ rest) ≡ ahead xs (rows_added ((head_bytes i.edition ++ body_of i.entries) ++ rest) (length (head_bytes i.edition ++ body_of i.entries)))) (sym i.rows) a)

-- ---- places rise

pub record Placed (at : ℕ) (rs : List Row) : Type 0 where
  pub from : All (λ r. at ≤ r.place) rs
  pub rising : Rising rs

placed_row : (s at : ℕ) (d : Read) (k : ℕ) (rs : List Row) → at < k → Placed k rs → Placed at (row_for s at d ++ rs)
placed_row s at (Refused n) k rs h p =
    record { from = all_map (λ r. k ≤ r.place) (λ r. at ≤ r.place) (λ r l. omega arith) rs p.from; rising = p.rising }
placed_row s at (Good g) k rs h p = record {
  from = (omega arith, all_map (λ r. k ≤ r.place) (λ r. at ≤ r.place) (λ r l. omega arith) rs p.from);
  rising = (all_map (λ r. k ≤ r.place) (λ r. at < r.place) (λ r l. omega arith) rs p.from, p.rising);
}

pub rows-placed : (m : Limits) (at : ℕ) (es : List Entry) → Placed at (rows_of m at es)
unfolding rows_of entry_row
rows-placed m at [] = record { from = tt; rising = tt }
rows-placed m at (e ∷ es) =
    placed_row e.sender at (read_datagram_lem m.payload m.fragments e.datagram) (at + length (entry_bytes e)) (rows_of m (at + length (entry_bytes e)) es)
    (omega (arith, entry-some e)) (rows-placed m (at + length (entry_bytes e)) es)

pub rows-rising : (log : List ℕ) → Bytes log → (rs : List Row) → rows_in log ≡ gathered rs → Rising rs
rows-rising log h rs e =
    let i = indexable log h rs e in
    subst (λ (xs : List Row). Rising xs) (sym i.rows) (rows-placed (limits_of i.edition) (length (head_bytes i.edition)) i.entries).rising
