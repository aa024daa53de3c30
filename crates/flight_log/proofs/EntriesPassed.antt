-- Reading a log from its head on, entry by entry: what was passed and what is still to come are the log's entries. Assumes nothing.
use Rattle.wire.proofs.Basics.{◌∙◌, sym, ◌≡◌, ap, refl, subst, ℕ, ◌≤◌, ◌+◌, ◌<◌, ◌-◌, suc, List, [], ◌∷◌, ◌++◌, append-nil, true, false, Bool, length, drop, length-append, eqb, eqb-true}
use Rattle.wire.proofs.Basics.{arith}
use native.Mathlib.Nat.{sub-zero}
use Rattle.wire.specs.Bytes.{Bytes}
use Rattle.wire.specs.Choice.{pick}
use Rattle.wire.specs.Taken.{Taken, taken, refused}
use Rattle.flight_log.specs.declared.reader.EntryAt.{EntryAt}
use Rattle.flight_log.specs.First.{First}
use Rattle.flight_log.specs.First as first
use Rattle.flight_log.specs.Step.{Step}
use Rattle.flight_log.specs.Step.{Found, End, Refused}
use Rattle.flight_log.specs.Entries.{Entry}
use Rattle.flight_log.specs.Listed.{entry_in, Listed, whole, broken, after, entries_in}
use Rattle.flight_log.specs.Said.{first_in, entry_at, step_of, step_in, next_at, entry_said, from_first, read_at, onward, read_on, read_all}
use Rattle.flight_log.proofs.ReadingOn.{found_at, read-all}

-- ---- an entry that is found lies ahead, within the log

pub record Ahead (log : List ℕ) (place : ℕ) (e : EntryAt) : Type 0 where
  pub on : place < e.next
  pub within : e.next ≤ length log
  pub size : length (entry_said log e).datagram ≡ e.len

module _ (log : List ℕ) (h : Bytes log) (e : EntryAt) where
  next-ahead : (place : ℕ) → next_at log place ≡ Found e → Ahead log place e
  unfolding next_at
  next-ahead place q = by-rest (drop place log) refl q
    where
      by-taken : (b : List ℕ) → drop place log ≡ b → (t : Taken Entry) → entry_in b ≡ t → step_of log t ≡ Found e → Ahead log place e
      by-taken b p (taken d c) u v =
          let f = found_at log h place d c (ap entry_in p ∙ u) in
          let w : entry_at log d c ≡ e = cc in
          subst (Ahead log place) w (record { on = f.on; within = f.within; size = ap (λ (x : Entry). length x.datagram) f.said })
      by-taken b p (refused n) u v = absurd (let z : ◌≡◌ {A = ℕ} 0 1 = cc in let y : ⊥ = omega arith in y)

      by-rest : (b : List ℕ) → drop place log ≡ b → step_in log b ≡ Found e → Ahead log place e
      by-rest [] p v = absurd (let z : ◌≡◌ {A = ℕ} 0 1 = cc in let y : ⊥ = omega arith in y)
      by-rest (x ∷ b) p v = by-taken (x ∷ b) p (entry_in (x ∷ b)) refl v

  first-ahead : (f : First) → from_first log f ≡ Found e → Ahead log 0 e
  first-ahead (first.At p lim) q = let a : Ahead log p e = next-ahead p q in let o = a.on in record { on = omega arith; within = a.within; size = a.size }
  first-ahead (first.Refused n) q = absurd (let z : ◌≡◌ {A = ℕ} 0 1 = cc in let y : ⊥ = omega arith in y)

  pub ahead : (place : ℕ) → read_at log place ≡ Found e → Ahead log place e
  unfolding read_at
  ahead place q = go (eqb place 0) refl q
    where
      go : (b : Bool) → eqb place 0 ≡ b → pick b (from_first log (first_in log)) (next_at log place) ≡ Found e → Ahead log place e
      go true p u = subst (λ (n : ℕ). Ahead log n e) (sym (eqb-true place 0 p)) (first-ahead (first_in log) u)
      go false p u = next-ahead place u

-- ---- the entries ds, and then what is listed

abbrev pub after_all : List Entry → Listed → Listed
after_all [] X = X
after_all (d ∷ ds) X = after d (after_all ds X)

after_more : (ds : List Entry) (e : Entry) (X : Listed) → after_all (ds ++ e ∷ []) X ≡ after_all ds (after e X)
after_more [] e X = refl
after_more (d ∷ ds) e X = ap (after d) (after_more ds e X)

pub after-whole : (ds es : List Entry) → after_all ds (whole es) ≡ whole (ds ++ es)
after-whole [] es = refl
after-whole (d ∷ ds) es = ap (after d) (after-whole ds es)

pub after-broken : (ds es : List Entry) (n : ℕ) → after_all ds (broken es n) ≡ broken (ds ++ es) n
after-broken [] es n = refl
after-broken (d ∷ ds) es n = ap (after d) (after-broken ds es n)

-- the entries ds were passed, and the reader stands at a place
pub record Passed (log : List ℕ) (ds : List Entry) (place : ℕ) : Type 0 where
  pub is : entries_in log ≡ after_all ds (read_on (suc (length log) - length ds) log place)
  pub fewer : length ds ≤ place
  pub within : place ≤ length log

pub passed_none : (log : List ℕ) → Bytes log → Passed log [] 0
unfolding read_all
passed_none log h = record { is = sym (read-all log h) ∙ ap (λ (k : ℕ). read_on k log 0) (sym (sub-zero (suc (length log)))); fewer = omega arith; within = omega arith }

module _ (log : List ℕ) (h : Bytes log) (ds : List Entry) (place : ℕ) (p : Passed log ds place) where
  turns : suc (length log) - length ds ≡ suc (length log - length ds)
  turns = let a = p.fewer in let b = p.within in omega arith

  here : (s : Step) → read_at log place ≡ s → entries_in log ≡ after_all ds (onward (read_on (length log - length ds) log) log s)
  unfolding read_on
  here s q =
      p.is ∙ (ap (λ (k : ℕ). after_all ds (read_on k log place)) turns ∙ ap (λ (x : Step). after_all ds (onward (read_on (length log - length ds) log) log x)) q)

  pub passed-more : (e : EntryAt) → read_at log place ≡ Found e → Passed log (ds ++ entry_said log e ∷ []) e.next
  passed-more e q =
      let a : Ahead log place e = ahead log h e place q in
      let o : place < e.next = a.on in
      let f = p.fewer in
      let n : length (ds ++ entry_said log e ∷ []) ≡ length ds + 1 = length-append ds (entry_said log e ∷ []) in
      let k : length log - length ds ≡ suc (length log) - length (ds ++ entry_said log e ∷ []) = omega arith in
      record {
        is =
            here (Found e) q
            ∙ (sym (after_more ds (entry_said log e) (read_on (length log - length ds) log e.next))
            ∙ ap (λ (j : ℕ). after_all (ds ++ entry_said log e ∷ []) (read_on j log e.next)) k);
        fewer = omega arith;
        within = a.within;
      }

  pub passed-all : read_at log place ≡ End → entries_in log ≡ whole ds
  passed-all q = here End q ∙ (after-whole ds [] ∙ ap whole (append-nil ds))

  pub passed-broken : (n : ℕ) → read_at log place ≡ Refused n → entries_in log ≡ broken ds n
  passed-broken n q = here (Refused n) q ∙ (after-broken ds [] n ∙ ap (λ (l : List Entry). broken l n) (append-nil ds))
