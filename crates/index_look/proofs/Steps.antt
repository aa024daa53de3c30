-- What the functions ask, a step at a time. Assumes nothing.
use Rattle.wire.proofs.Basics.{◌∙◌, sym, ◌≡◌, ap, refl, ℕ, ◌≤◌, ◌<◌, List, true, false, Bool, ◌&&◌, some, none, length, drop, take, ltb, eq-eqb, le-ltb, ne_eqb, lt-ltb, arith}
use Rattle.wire.specs.Choice.{pick}
use Rattle.datagram.specs.Read.{read_datagram_lem}
use Rattle.flight_log.specs.Said.{first_in, next_at}
use Rattle.flight_log.specs.declared.reader.EntryAt.{EntryAt}
use Rattle.flight_log.specs.First as first
use Rattle.flight_log.specs.declared.reader.Limits.{Limits}
use Rattle.flight_log.specs.Step as step
use Rattle.log_index.specs.Rows.{Row, row_of, is_of}
use Rattle.log_index.specs.Words.{says}
use Rattle.std.proofs.Common.{Option}
use Rattle.index_file.specs.File.{covered_in, count_in, file_row}
use Rattle.index_file.specs.Files.{head_in}
use Rattle.index_file.specs.Head as head
use Rattle.index_file.proofs.Answers.{told_of_lem, told-refused}
use Rattle.index_look.specs.Keys.{sequence_is_lem, entry_has, behind_head, has_key, ends_lead_lem}
use Rattle.index_look.specs.Look.{file_rank, at_rank, found_in_file, believed, looked_up_lem}
use Rattle.index_look.specs.Looked.{Looked, Refused}

-- ---- the entry at a place

module _ (log : List ℕ) (place s q : ℕ) where
  pub has-head : (n : ℕ) → first_in log ≡ first.Refused n → false ≡ has_key log place s q
  unfolding has_key
  has-head n e = sym (ap (behind_head log place s q) e)

  module _ (at : ℕ) (m : Limits) (e : first_in log ≡ first.At at m) where
    behind : has_key log place s q ≡ entry_has log m s q (next_at log place)
    unfolding has_key
    behind = ap (behind_head log place s q) e

    pub has_end : next_at log place ≡ step.End → false ≡ has_key log place s q
    has_end d = sym (behind ∙ ap (entry_has log m s q) d)

    pub has-refused : (n : ℕ) → next_at log place ≡ step.Refused n → false ≡ has_key log place s q
    has-refused n d = sym (behind ∙ ap (entry_has log m s q) d)

    module _ (x : EntryAt) (d : next_at log place ≡ step.Found x) where
      pub has_other : (x.sender ≡ s → ⊥) → false ≡ has_key log place s q
      has_other n = sym (behind ∙ ap (entry_has log m s q) d ∙ ap (λ b. b && sequence_is_lem q (read_datagram_lem m.payload m.fragments (take x.len (drop x.at log)))) (ne_eqb x.sender s n))

      pub has-this : x.sender ≡ s → (b : List ℕ) → b ≡ take x.len (drop x.at log) → (r : Bool) → r ≡ sequence_is_lem q (read_datagram_lem m.payload m.fragments b) → r ≡ has_key log place s q
      has-this n b c r t =
          t
          ∙ ap (λ (l : List ℕ). sequence_is_lem q (read_datagram_lem m.payload m.fragments l)) c
          ∙ sym (behind ∙ ap (entry_has log m s q) d ∙ ap (λ b. b && sequence_is_lem q (read_datagram_lem m.payload m.fragments (take x.len (drop x.at log)))) (eq-eqb x.sender s n))

-- ---- a key at its place

module _ (f : List ℕ) (n s q i : ℕ) (r : i ≡ file_rank f n (row_of s q 0)) (row : Row) (e : row ≡ file_row f i) where
  at-its-rank : pick (ltb i n && is_of s q row) (some row.place) none ≡ found_in_file f n s q
  unfolding found_in_file
  at-its-rank = ap (λ (x : Row). pick (ltb i n && is_of s q x) (some x.place) none) e ∙ ap (at_rank f n s q) r

  pub found_some : (ltb i n && is_of s q row) ≡ true → some row.place ≡ found_in_file f n s q
  found_some h = ap (λ (t : Bool). pick t (some row.place) none) (sym h) ∙ at-its-rank

  pub found_none : (ltb i n && is_of s q row) ≡ false → none ≡ found_in_file f n s q
  found_none h = ap (λ (t : Bool). pick t (some row.place) none) (sym h) ∙ at-its-rank

-- ---- all of it

module _ (log f : List ℕ) (s q : ℕ) where
  pub looks_46 : (k : ℕ) → head_in f ≡ head.Refused k → Refused 46 ≡ looked_up_lem log f s q
  unfolding looked_up_lem
  looks_46 k e = rw (told-refused f k e).isnt refl

  module _ (covered n : ℕ) (e : head_in f ≡ head.Of covered n) where
    pub looks_longer : length log < covered → Refused 47 ≡ looked_up_lem log f s q
    unfolding looked_up_lem
    looks_longer h =
        let t = told_of_lem f covered n e in
        let c = t.covers in
        let b : ltb (length log) (covered_in f) ≡ true = lt-ltb (length log) (covered_in f) (omega (arith, c, h)) in
        rw (t.is, b) refl

    pub looks_astray : covered ≤ length log → ends_lead_lem log (file_row f) n ≡ false → Refused 47 ≡ looked_up_lem log f s q
    unfolding looked_up_lem
    looks_astray h l =
        let t = told_of_lem f covered n e in
        let c = t.covers in
        let b : ltb (length log) (covered_in f) ≡ false = le-ltb (length log) (covered_in f) (omega (arith, c, h)) in
        let d : ends_lead_lem log (file_row f) (count_in f) ≡ false = ap (ends_lead_lem log (file_row f)) (sym t.count) ∙ l in
        rw (t.is, b, d) refl

    pub looks-found : covered ≤ length log → ends_lead_lem log (file_row f) n ≡ true → (r : Looked) (x : Option ℕ) → says x ≡ found_in_file f n s q → r ≡ believed log s q (says x) → r ≡ looked_up_lem log f s q
    unfolding looked_up_lem
    looks-found h l r x g j =
        let t = told_of_lem f covered n e in
        let c = t.covers in
        let b : ltb (length log) (covered_in f) ≡ false = le-ltb (length log) (covered_in f) (omega (arith, c, h)) in
        let d : ends_lead_lem log (file_row f) (count_in f) ≡ true = ap (ends_lead_lem log (file_row f)) (sym t.count) ∙ l in
        let y : found_in_file f n s q ≡ found_in_file f (count_in f) s q = ap (λ (k : ℕ). found_in_file f k s q) t.count in
        rw (t.is, b, d) (j ∙ ap (believed log s q) (g ∙ y))
