-- What the reader's answers say of the log, and that reading on to the end gives the entries in it. Assumes nothing.
use Rattle.wire.proofs.Basics.{◌∙◌, sym, ◌≡◌, ap, refl, ℕ, ◌≤◌, ◌+◌, ◌<◌, ◌-◌, suc, zero, List, [], ◌∷◌, ◌++◌, append_assoc, length, drop, take, length-append, length-drop, drop-drop}
use Rattle.wire.proofs.Basics.{take-append_seam, drop-append_seam, arith}
use Rattle.wire.specs.Bytes.{Bytes}
use Rattle.wire.specs.Taken.{Taken, taken, refused}
use Rattle.wire.proofs.Numbers.{drop-bytes}
use Rattle.varint.specs.Seven.{seven}
use Rattle.varint.proofs.Sevens.{groups-some}
use Rattle.flight_log.specs.Editions.{Edition, edition1, edition2, head_bytes, head_in, limits_of}
use Rattle.flight_log.specs.Entries.{Entry, entry_of, entry_bytes}
use Rattle.flight_log.specs.Listed.{entry_in, after, more, list_by, entries_after, entries_in}
use Rattle.flight_log.specs.Said.{first_of, entry_at, step_of, step_in, next_at, entry_said, says, said_of, said_in, read_at, place_after_lem, onward, read_on, read_all}
use Rattle.flight_log.specs.Step.{End, Refused}
use Rattle.flight_log.proofs.LogRoundTrip.{back-entry, back_head}
use Rattle.flight_log.proofs.Reading.{read-on, read_first, read-refused}

-- ---- where an entry lies

-- p, d and b one after another, up to the end of the log
record Lies (log p d b : List ℕ) (at : ℕ) : Type 0 where
  pub next : length log - length b ≡ at + length p + length d
  pub left : drop (length log - length b) log ≡ b
  pub bytes : take (length d) (drop (length log - length b - length d) log) ≡ d

lies : (log p d b : List ℕ) (at : ℕ) → 1 ≤ length p → p ++ d ++ b ≡ drop at log → Lies log p d b at
lies log p d b at o e =
    let l : length p + length d + length b ≡ length log - at = sym (simp length-append) ∙ ap length e ∙ length-drop at log in
    let n : length log - length b ≡ at + (length p + length d) = omega arith in
    let m : length log - length b - length d ≡ at + length p = omega arith in
    let split : length (p ++ d) ≡ length p + length d = length-append p d in
    let f : drop at log ≡ p ++ (d ++ b) = sym e ∙ append_assoc p d b in
    record {
      next = omega arith;
      left = ap (λ (k : ℕ). drop k log) n ∙ sym (drop-drop (length p + length d) at log) ∙ rw (← e, ← split) (drop-append_seam (p ++ d) b);
      bytes = ap (λ (k : ℕ). take (length d) (drop k log)) m ∙ rw (← drop-drop (length p) at log, f, drop-append_seam p (d ++ b)) (take-append_seam d b);
    }

pub record Found_at (log : List ℕ) (at : ℕ) (e : Entry) (b : List ℕ) : Type 0 where
  pub on : at < length log - length b
  pub within : length log - length b ≤ length log
  pub left : drop (length log - length b) log ≡ b
  pub said : entry_said log (entry_at log e b) ≡ e

pub found_at : (log : List ℕ) → Bytes log → (at : ℕ) (e : Entry) (b : List ℕ) → entry_in (drop at log) ≡ taken e b → Found_at log at e b
unfolding entry_bytes
found_at log h at e b q =
    let back = back-entry (drop at log) (drop-bytes log at h) e b q in
    let p = seven e.sender ++ seven e.tick ++ seven (length e.datagram) in
    let o : 1 ≤ length p = simp length-append (omega (arith, groups-some 9 e.sender)) in
    let l = lies log p e.datagram b at o back.wrote in
    record { on = omega (arith, l.next); within = omega arith; left = l.left; said = ap (entry_of e.sender e.tick) l.bytes }

-- ---- the reader's answer at any place, in the paper's values

pub says-next : (log : List ℕ) → Bytes log → (at : ℕ) → says log (next_at log at) ≡ said_in (drop at log)
unfolding next_at
says-next log h at = by-rest (drop at log) refl
  where
    by-taken : (x : ℕ) (b : List ℕ) → drop at log ≡ x ∷ b → (t : Taken Entry) → entry_in (x ∷ b) ≡ t → says log (step_of log t) ≡ said_of t
    by-taken x b e (refused n) q = refl
    by-taken x b e (taken d c) q =
        let f = found_at log h at d c (ap entry_in e ∙ q) in
        rw (f.said, f.left) refl

    by-rest : (b : List ℕ) → drop at log ≡ b → says log (step_in log b) ≡ said_in b
    by-rest [] e = refl
    by-rest (x ∷ b) e = by-taken x b e (entry_in (x ∷ b)) refl

-- ---- after a refusal the place stays, and the same refusal comes again

pub refused-again : (log : List ℕ) (at n : ℕ) → read_at log at ≡ Refused n → read_at log (place_after_lem at (read_at log at)) ≡ Refused n
refused-again log at n e = rw (ap (place_after_lem at) e) e

pub ended-again : (log : List ℕ) (at : ℕ) → read_at log at ≡ End → read_at log (place_after_lem at (read_at log at)) ≡ End
ended-again log at e = rw (ap (place_after_lem at) e) e

-- ---- reading on to the end

pub onward-lists : (log : List ℕ) → Bytes log → (k at j : ℕ) → 1 ≤ at → length log - at < k → length log - at ≤ j → read_on k log at ≡ list_by j (drop at log)
unfolding read_on list_by next_at
onward-lists log h zero at j p l m = absurd (let z : ⊥ = omega arith in z)
onward-lists log h (suc k) at j p l m =
    let n : at ≡ 0 → ⊥ = λ z. omega arith in
    ap (onward (read_on k log) log) (read-on log at n) ∙ by-rest (λ next i. onward-lists log h k next i) j m (drop at log) refl
  where
    by-taken : ((next i : ℕ) → 1 ≤ next → length log - next < k → length log - next ≤ i → read_on k log next ≡ list_by i (drop next log))
        → (j : ℕ) → length log - at ≤ suc j → (x : ℕ) (b : List ℕ) → drop at log ≡ x ∷ b → (t : Taken Entry) → entry_in (x ∷ b) ≡ t
        → onward (read_on k log) log (step_of log t) ≡ more (list_by j) t
    by-taken ih j m x b e (refused n) q = refl
    by-taken ih j m x b e (taken d c) q =
        let f = found_at log h at d c (ap entry_in e ∙ q) in
        rw f.said (ap (after d) (ih (length log - length c) j (omega (arith, f.on)) (omega (arith, f.on, f.within)) (omega (arith, f.on, f.within)) ∙ ap (list_by j) f.left))

    by-rest : ((next i : ℕ) → 1 ≤ next → length log - next < k → length log - next ≤ i → read_on k log next ≡ list_by i (drop next log))
        → (j : ℕ) → length log - at ≤ j → (b : List ℕ) → drop at log ≡ b → onward (read_on k log) log (step_in log b) ≡ list_by j b
    by-rest ih zero m [] e = refl
    by-rest ih (suc j) m [] e = refl
    by-rest ih zero m (x ∷ b) e = absurd (let z : ⊥ = omega (arith, sym (ap length e) ∙ length-drop at log) in z)
    by-rest ih (suc j) m (x ∷ b) e = by-taken ih j m x b e (entry_in (x ∷ b)) refl

-- ---- the head, and reading on from it

head-some : (v : Edition) → 1 ≤ length (head_bytes v)
head-some edition1 = omega arith
head-some (edition2 limit) = omega arith

-- where the entries begin
pub record Begins (log : List ℕ) (b : List ℕ) : Type 0 where
  pub some : 1 ≤ length log - length b
  pub left : drop (length log - length b) log ≡ b

pub begins : (log : List ℕ) → Bytes log → (v : Edition) (b : List ℕ) → head_in log ≡ taken v b → Begins log b
begins log h v b e =
    let w = (back_head log h v b e).wrote in
    let l : length (head_bytes v) + length b ≡ length log = sym (length-append (head_bytes v) b) ∙ ap length w in
    let n : length log - length b ≡ length (head_bytes v) = omega arith in
    record {
      some = omega (arith, head-some v);
      left = ap (λ (k : ℕ). drop k log) n ∙ rw (← w) (drop-append_seam (head_bytes v) b);
    }

-- the open reader begins at place 0; from there on to the end it reads the entries in the log, or those before the refusal and its number
pub read-all : (log : List ℕ) → Bytes log → read_all log ≡ entries_in log
unfolding read_all read_on entries_in entries_after
read-all log h = by-head (head_in log) refl
  where
    by-head : (t : Taken Edition) → head_in log ≡ t → onward (read_on (length log) log) log (read_at log 0) ≡ entries_after t
    by-head (refused n) p = ap (onward (read_on (length log) log) log) (read-refused log 0 n refl (ap (first_of log) p))
    by-head (taken v b) p =
        let g = begins log h v b p in
        let at = length log - length b in
        let one = read_first log 0 at (limits_of v) refl (ap (first_of log) p) in
        let same = one ∙ sym (read-on log at (λ z. omega (arith, g.some))) in
        ap (onward (read_on (length log) log) log) same
        ∙ onward-lists log h (suc (length log)) at (length b) g.some (omega (arith, g.some)) (omega (arith, g.some))
        ∙ ap (list_by (length b)) g.left
