-- Every row of a log leads to an entry of its key, also where the log has grown, and fits an index file. Assumes nothing.
use Rattle.wire.proofs.Basics.{◌∙◌, sym, ◌≡◌, ap, refl, subst, ℕ, ◌≤◌, ◌+◌, ◌<◌, ◌-◌, suc, ◌^◌, List, [], ◌∷◌, ◌++◌, append_assoc, true, false, Bool, ◌||◌, length, drop, take, length-append}
use Rattle.wire.proofs.Basics.{length-drop, length-take, List·getD-eq-default, drop-drop, get_or-take, drop-append_seam, eqb, ltb, leb, eq-eqb, dec_le, arith}
use Rattle.wire.specs.Bytes.{Bytes}
use Rattle.wire.specs.Taken.{taken}
use Rattle.wire.specs.Choice.{pick}
use Rattle.wire.proofs.Choices.{and-of}
use Rattle.wire.proofs.Numbers.{be-lt, drop-bytes}
use Rattle.datagram.specs.Limits.{max_datagram}
use Rattle.datagram.specs.Read.{sequence_in, size_in, number_in, count_in, magic_in, small_magic, fragment_magic, small_to, read_small_lem, formed, fragment_header, good_form, zero_to, read_fragment_lem, read_datagram_lem, place}
use Rattle.datagram.specs.Name.{name_length_lem}
use Rattle.datagram.specs.declared.Header.{Header}
use Rattle.std.proofs.Common.{Option, Some, None}
use Rattle.datagram.specs.declared.Place.{Place}
use Rattle.datagram.specs.Read.{Read}
use Rattle.datagram.specs.Read.{Good, Refused}
use Rattle.flight_log.specs.Entries.{Entry, Keeps, AllKeep, entry_bytes, body_of}
use Rattle.flight_log.specs.Listed.{entry_in}
use Rattle.flight_log.specs.Said.{entry_at, step_of, step_in, next_at}
use Rattle.flight_log.specs.declared.reader.Limits.{Limits}
use Rattle.flight_log.specs.Step.{Found}
use Rattle.flight_log.proofs.LogRoundTrip.{entry-back, entry-some}
use Rattle.flight_log.proofs.ReadingOn.{found_at}
use Rattle.log_index.specs.Rows.{Row}
use Rattle.log_index.specs.Index.{row_for, entry_row, rows_of}
use Rattle.log_index.proofs.Sorts.{All}
use Rattle.index_look.specs.Keys.{sequence_is_lem, entry_has}

-- ---- what the reader accepts has the sequence of its bytes

abbrev pub Says : List ℕ → Read → Type 0
Says d (Good h) = h.sequence ≡ sequence_in d
Says d (Refused n) = Unit {0}

says-small : (d : List ℕ) (n : Option ℕ) → Says d (small_to d n)
says-small d None = tt
says-small d (Some c) = refl

says-pick : (d : List ℕ) (b : Bool) (x y : Read) → Says d x → Says d y → Says d (pick b x y)
says-pick d true x y p q = p
says-pick d false x y p q = q

says-formed : (d : List ℕ) (p : Place) (at : ℕ) → Says d (formed d p at)
unfolding formed
says-formed d p at = says-pick d (good_form (fragment_header d p at)) (Good (fragment_header d p at)) (Refused 7) refl (tt {0})

says-zero : (d : List ℕ) (n : Option ℕ) → Says d (zero_to d n)
says-zero d None = tt
says-zero d (Some c) = says-formed d (place 20 c) (21 + c)

says-fragment : (m n : ℕ) (d : List ℕ) → Says d (read_fragment_lem m n d)
unfolding read_fragment_lem
says-fragment m n d =
    let z = zero_to d (name_length_lem (drop 20 d)) in
    let f = formed d (place 20 0) 20 in
    let named = pick (eqb (number_in d) 0) z f in
    let sized = pick (ltb m (size_in d)) (Refused 6) named in
    let odd = eqb (count_in d) 0 || (ltb n (count_in d) || leb (count_in d) (number_in d)) in
    says-pick d odd (Refused 5) sized (tt {0})
    (says-pick d (ltb m (size_in d)) (Refused 6) named (tt {0}) (says-pick d (eqb (number_in d) 0) z f (says-zero d (name_length_lem (drop 20 d))) (says-formed d (place 20 0) 20)))

pub says_all : (m n : ℕ) (d : List ℕ) → Says d (read_datagram_lem m n d)
unfolding read_datagram_lem read_small_lem
says_all m n d =
    let s = small_to d (name_length_lem (drop 8 d)) in
    let f = read_fragment_lem m n d in
    let long = pick (ltb (length d) 20) (Refused 1) f in
    let other = pick (eqb (magic_in d) fragment_magic) long (Refused 2) in
    let magic = pick (eqb (magic_in d) small_magic) s other in
    let eight = pick (ltb (length d) 8) (Refused 1) magic in
    says-pick d (ltb max_datagram (length d)) (Refused 3) eight (tt {0})
    (says-pick d (ltb (length d) 8) (Refused 1) magic (tt {0})
    (says-pick d (eqb (magic_in d) small_magic) s other (says-small d (name_length_lem (drop 8 d)))
    (says-pick d (eqb (magic_in d) fragment_magic) long (Refused 2) (says-pick d (ltb (length d) 20) (Refused 1) f (tt {0}) (says-fragment m n d)) (tt {0}))))

-- so it fits four bytes
good-sequence : (m n : ℕ) (d : List ℕ) → Bytes d → (h : Header) → read_datagram_lem m n d ≡ Good h → h.sequence < 2 ^ 32
good-sequence m n d b h e =
    let s : h.sequence ≡ sequence_in d = subst (Says d) e (says_all m n d) in
    subst (λ (k : ℕ). k < 2 ^ 32) (sym s) (be-lt 4 (drop 4 d) (drop-bytes d 4 b))

-- ---- the rows of entries that stand in a log

bytes_take : (k : ℕ) (b : List ℕ) → Bytes b → Bytes (take k b)
bytes_take k b h i = elim (dec_le (suc i) k) [
  | yes l ↦ rw (get_or-take k b i 0 l) (h i)
  | no l ↦
      let m : length (take k b) ≤ i = let e = length-take k b in omega (arith, e, l) in
      rw (List·getD-eq-default (take k b) 0 m) (omega arith)
]

-- what is true of each row: it leads to its entry, fits, and lies in the log
pub record Standing (log : List ℕ) (m : Limits) (r : Row) : Type 0 where
  pub leads : entry_has log m r.sender r.sequence (next_at log r.place) ≡ true
  pub sender : r.sender < 2 ^ 64
  pub sequence : r.sequence < 2 ^ 32
  pub inside : r.place < length log

module _ (log : List ℕ) (all : Bytes log) (m : Limits) where
  -- the entry at a place, and others behind it
  module _ (at : ℕ) (e : Entry) (keeps : Keeps e) (rest : List ℕ) (stands : drop at log ≡ entry_bytes e ++ rest) where
    taken-there : entry_in (drop at log) ≡ taken e rest
    taken-there = ap entry_in stands ∙ entry-back e keeps rest

    next-there : next_at log at ≡ Found (entry_at log e rest)
    unfolding next_at
    next-there = by (drop at log) refl
      where
        by : (b : List ℕ) → drop at log ≡ b → step_in log b ≡ Found (entry_at log e rest)
        by [] q =
            let l : length (entry_bytes e ++ rest) ≡ 0 = ap length (sym stands ∙ q) in
            absurd (let z : ⊥ = omega (arith, l, length-append (entry_bytes e) rest, entry-some e) in z)
        by (x ∷ b) q = ap (step_of log) (ap entry_in (sym q) ∙ taken-there)

    datagram-there : take (length e.datagram) (drop (entry_at log e rest).at log) ≡ e.datagram
    datagram-there = ap (λ (x : Entry). x.datagram) (found_at log all at e rest taken-there).said

    bytes-there : Bytes e.datagram
    bytes-there = subst Bytes datagram-there (bytes_take (length e.datagram) (drop (entry_at log e rest).at log) (drop-bytes log (entry_at log e rest).at all))

    has : (h : Header) → read_datagram_lem m.payload m.fragments e.datagram ≡ Good h → entry_has log m e.sender h.sequence (next_at log at) ≡ true
    has h g =
        ap (entry_has log m e.sender h.sequence) next-there
        ∙ and-of (eqb e.sender e.sender) (sequence_is_lem h.sequence (read_datagram_lem m.payload m.fragments (take (length e.datagram) (drop (entry_at log e rest).at log))))
        (eq-eqb e.sender e.sender refl)
        (ap (λ (d : List ℕ). sequence_is_lem h.sequence (read_datagram_lem m.payload m.fragments d)) datagram-there ∙ ap (sequence_is_lem h.sequence) g ∙ eq-eqb h.sequence h.sequence refl)

    within : at < length log
    within =
        let l : length log - at ≡ length (entry_bytes e) + length rest = sym (length-drop at log) ∙ ap length stands ∙ length-append (entry_bytes e) rest in
        omega (arith, l, entry-some e)

    front-stands : (d : Read) → read_datagram_lem m.payload m.fragments e.datagram ≡ d → (xs : List Row) → All (Standing log m) xs → All (Standing log m) (row_for e.sender at d ++ xs)
    front-stands (Refused n) g xs a = a
    front-stands (Good h) g xs a =
        (record { leads = has h g; sender = keeps.sender; sequence = good-sequence m.payload m.fragments e.datagram bytes-there h g; inside = within }, a)

  pub rows-stand : (es : List Entry) → AllKeep es → (at : ℕ) (rest : List ℕ) → drop at log ≡ body_of es ++ rest → All (Standing log m) (rows_of m at es)
  unfolding rows_of entry_row body_of
  rows-stand [] k at rest q = tt
  rows-stand (e ∷ es) k at rest q =
      let p : drop at log ≡ entry_bytes e ++ (body_of es ++ rest) = q ∙ append_assoc (entry_bytes e) (body_of es) rest in
      let n : drop (at + length (entry_bytes e)) log ≡ body_of es ++ rest =
      sym (drop-drop (length (entry_bytes e)) at log) ∙ ap (drop (length (entry_bytes e))) p ∙ drop-append_seam (entry_bytes e) (body_of es ++ rest) in
      front-stands at e k.0 (body_of es ++ rest) p (read_datagram_lem m.payload m.fragments e.datagram) refl (rows_of m (at + length (entry_bytes e)) es)
      (rows-stand es k.1 (at + length (entry_bytes e)) rest n)

-- no more rows than bytes
few-rows : (s at : ℕ) (d : Read) → length (row_for s at d) ≤ 1
few-rows s at (Good h) = omega arith
few-rows s at (Refused n) = omega arith

pub rows_few : (m : Limits) (at : ℕ) (es : List Entry) → length (rows_of m at es) ≤ length (body_of es)
unfolding rows_of entry_row body_of
rows_few m at [] = omega arith
rows_few m at (e ∷ es) =
    let d = read_datagram_lem m.payload m.fragments e.datagram in
    let xs = rows_of m (at + length (entry_bytes e)) es in
    let a = length-append (row_for e.sender at d) xs in
    let b = length-append (entry_bytes e) (body_of es) in
    omega (arith, a, b, few-rows e.sender at d, rows_few m (at + length (entry_bytes e)) es, entry-some e)
