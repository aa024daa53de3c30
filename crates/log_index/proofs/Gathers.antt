-- The rows of a log: entry by entry, and of a log that others were added to. Assumes nothing.
use Rattle.wire.proofs.Basics.{◌∙◌, sym, ◌≡◌, ap, refl, subst, ℕ, ◌≤◌, ◌+◌, ◌<◌, ◌-◌, suc, zero, List, [], ◌∷◌, ◌++◌, length, drop, take, length-append, length-drop, arith}
use Rattle.wire.specs.Bytes.{Bytes}
use Rattle.wire.specs.Taken.{Taken, taken, refused}
use Rattle.wire.proofs.Numbers.{drop-bytes}
use Rattle.datagram.specs.Read.{read_datagram_lem}
use Rattle.flight_log.specs.Entries.{Entry, entry_bytes}
use Rattle.flight_log.specs.Listed.{Listed, whole, broken, after, more, list_by, entry_in}
use Rattle.flight_log.specs.Said.{step_of, step_in, next_at, entry_at}
use Rattle.flight_log.specs.declared.reader.EntryAt.{EntryAt}
use Rattle.flight_log.specs.declared.reader.Limits.{Limits}
use Rattle.flight_log.specs.Step.{Found, End, Refused}
use Rattle.flight_log.proofs.LogRoundTrip.{back-entry, entry-some}
use Rattle.flight_log.proofs.AfterEntry.{rest-bytes}
use Rattle.flight_log.proofs.ReadingOn.{found_at}
use Rattle.flight_log.proofs.Reading.{next-end}
use Rattle.log_index.specs.Rows.{Row}
use Rattle.log_index.specs.Index.{row_for, entry_row, rows_of, Gathered, gathered, stopped, rows_to, rows_from}

-- rows in front of the rest
abbrev pub ahead : List Row → Gathered → Gathered
ahead rs (gathered more) = gathered (rs ++ more)
ahead rs (stopped n) = stopped n

pub rows-after : (m : Limits) (at : ℕ) (e : Entry) (es : Listed) → rows_to m at (after e es) ≡ ahead (entry_row m at e) (rows_to m (at + length (entry_bytes e)) es)
unfolding rows_of
rows-after m at e (whole es) = refl
rows-after m at e (broken es n) = refl

-- ---- as many turns as there are bytes are enough

pub list-enough : (j k : ℕ) (b : List ℕ) → Bytes b → length b ≤ j → length b ≤ k → list_by j b ≡ list_by k b
unfolding list_by
list-enough zero zero [] h l m = refl
list-enough zero (suc k) [] h l m = refl
list-enough (suc j) zero [] h l m = refl
list-enough (suc j) (suc k) [] h l m = refl
list-enough zero k (x ∷ b) h l m = absurd (let z : ⊥ = omega arith in z)
list-enough (suc j) zero (x ∷ b) h l m = absurd (let z : ⊥ = omega arith in z)
list-enough (suc j) (suc k) (x ∷ b) h l m = by-taken (list-enough j k) (entry_in (x ∷ b)) refl
  where
    by-taken : ((c : List ℕ) → Bytes c → length c ≤ j → length c ≤ k → list_by j c ≡ list_by k c) → (t : Taken Entry) → entry_in (x ∷ b) ≡ t → more (list_by j) t ≡ more (list_by k) t
    by-taken ih (refused n) q = refl
    by-taken ih (taken e c) q =
        let w = (back-entry (x ∷ b) h e c q).wrote in
        let s : length (entry_bytes e) + length c ≡ suc (length b) = sym (length-append (entry_bytes e) c) ∙ ap length w in
        let o = entry-some e in
        ap (after e) (ih c (rest-bytes (entry_bytes e) c (x ∷ b) w h) (omega arith) (omega arith))

-- ---- a step of the reader

-- what is known where an entry was found
pub record Goes (m : Limits) (log : List ℕ) (at : ℕ) (e : EntryAt) : Type 0 where
  pub on : at < e.next
  pub within : e.next ≤ length log
  pub rows : rows_from m log at ≡ ahead (row_for e.sender at (read_datagram_lem m.payload m.fragments (take e.len (drop e.at log)))) (rows_from m log e.next)

module _ (m : Limits) (log : List ℕ) (h : Bytes log) (at : ℕ) where
  found : (x : ℕ) (b : List ℕ) → drop at log ≡ x ∷ b → (e : Entry) (c : List ℕ) → entry_in (x ∷ b) ≡ taken e c → Goes m log at (entry_at log e c)
  unfolding rows_from list_by entry_row
  found x b d e c q =
      let f = found_at log h at e c (ap entry_in d ∙ q) in
      let g = drop-bytes log at h in
      let w = (back-entry (drop at log) g e c (ap entry_in d ∙ q)).wrote in
      let s : length (entry_bytes e) + length c ≡ length log - at = sym (length-append (entry_bytes e) c) ∙ ap length w ∙ length-drop at log in
      let o = entry-some e in
      let n : at + length (entry_bytes e) ≡ length log - length c = omega (arith, f.on, f.within) in
      let l : suc (length b) ≡ length log - at = sym (ap length d) ∙ length-drop at log in
      let k : list_by (length b) c ≡ list_by (length c) c = list-enough (length b) (length c) c (rest-bytes (entry_bytes e) c (drop at log) w g) (omega arith) (omega arith) in
      record {
        on = f.on;
        within = f.within;
        rows =
            ap (λ (r : List ℕ). rows_to m at (list_by (length r) r)) d
            ∙ ap (λ (t : Taken Entry). rows_to m at (more (list_by (length b)) t)) q
            ∙ ap (λ (r : Listed). rows_to m at (after e r)) k
            ∙ rows-after m at e (list_by (length c) c)
            ∙ (λ j. ahead (entry_row m at (sym f.said j)) (rows_to m (n j) (list_by (length (sym f.left j)) (sym f.left j))));
      }

  pub next-found : (e : EntryAt) → next_at log at ≡ Found e → Goes m log at e
  unfolding next_at
  next-found e q = by-rest (drop at log) refl q
    where
      by-taken : (x : ℕ) (b : List ℕ) → drop at log ≡ x ∷ b → (t : Taken Entry) → entry_in (x ∷ b) ≡ t → step_of log t ≡ Found e → Goes m log at e
      by-taken x b d (refused n) p r = absurd (let z : ◌≡◌ {A = ℕ} 0 1 = cc in omega arith)
      by-taken x b d (taken f c) p r =
          let s : entry_at log f c ≡ e = cc in
          subst (λ (u : EntryAt). Goes m log at u) s (found x b d f c p)

      by-rest : (b : List ℕ) → drop at log ≡ b → step_in log b ≡ Found e → Goes m log at e
      by-rest [] d r = absurd (let z : ◌≡◌ {A = ℕ} 0 1 = cc in omega arith)
      by-rest (x ∷ b) d r = by-taken x b d (entry_in (x ∷ b)) refl r

  pub next-ended : next_at log at ≡ End → rows_from m log at ≡ gathered []
  unfolding next_at rows_from list_by rows_of
  next-ended q = by-rest (drop at log) q
    where
      by-taken : (t : Taken Entry) → step_of log t ≡ End → ⊥
      by-taken (refused n) r = let z : ◌≡◌ {A = ℕ} 0 1 = cc in omega arith
      by-taken (taken f c) r = let z : ◌≡◌ {A = ℕ} 0 1 = cc in omega arith

      by-rest : (b : List ℕ) → step_in log b ≡ End → rows_to m at (list_by (length b) b) ≡ gathered []
      by-rest [] r = refl
      by-rest (x ∷ b) r = absurd (by-taken (entry_in (x ∷ b)) r)

  pub next-refused : (n : ℕ) → next_at log at ≡ Refused n → rows_from m log at ≡ stopped n
  unfolding next_at rows_from list_by
  next-refused n q = by-rest (drop at log) q
    where
      by-taken : (k : ℕ) (t : Taken Entry) → step_of log t ≡ Refused n → rows_to m at (more (list_by k) t) ≡ stopped n
      by-taken k (refused i) r = let e : i ≡ n = cc in ap stopped e
      by-taken k (taken f c) r = absurd (let z : ◌≡◌ {A = ℕ} 0 1 = cc in omega arith)

      by-rest : (b : List ℕ) → step_in log b ≡ Refused n → rows_to m at (list_by (length b) b) ≡ stopped n
      by-rest [] r = absurd (let z : ◌≡◌ {A = ℕ} 0 1 = cc in omega arith)
      by-rest (x ∷ b) r = by-taken (length b) (entry_in (x ∷ b)) r

  -- past the end there are none
  pub rows-past : length log ≤ at → rows_from m log at ≡ gathered []
  rows-past l = next-ended (next-end log at l)
