-- Counted, judged and then entered. Assumes nothing.
use Rattle.wire.proofs.Basics.{◌∙◌, sym, ◌≡◌, ap, refl, subst, ℕ, ◌≤◌, ◌+◌, ◌-◌, ◌*◌, ◌/◌, List, [], true, false, Bool, length, take, ltb, ltb-false, arith}
use Prim.Native.Nat.{max}
use Rattle.wire.specs.Taken.{Taken, taken, refused}
use Rattle.wire.proofs.Choices.{or_l, or_r}
use Rattle.flight_log.specs.Editions.{Edition, head_in, limits_of}
use Rattle.flight_log.specs.Said.{first_of, first_in}
use Rattle.flight_log.specs.declared.reader.Limits.{Limits}
use Rattle.flight_log.specs.First as first
use Rattle.log_index.specs.Limits.{max_index, batch_rows}
use Rattle.log_index.specs.Rows.{Row, sorted}
use Rattle.log_index.specs.Index.{Gathered, gathered, stopped, rows_from, rows_behind, rows_in, rows_after, rows_added, Answer, holds, refuses, no_room_in, answer_in}
use Rattle.log_index.specs.Words.{words_of, added_in}
use Rattle.log_index.proofs.Batches.{added-fresh}
use Rattle.std.proofs.Common.{Ok, Err}
use Rattle.refusals.specs.declared.Refusal.{Refusal}
use Rattle.refusals.specs.declared.Refusal.TheVariants.{IndexFull}
use Rattle.refusals.specs.Numbers.{number_of}
use Rattle.index_builder.specs.Adds.{Indexed, says, index_words, extended_in, IndexesIn, Indexes, AddsIn, Adds, rows_onward, rows_on}
use Rattle.index_builder.specs.InsideWalk.{Walked}

-- ---- room

module _ (most words n : ℕ) (room : no_room_in most words n ≡ false) where
  pub room-rows : n ≤ most
  room-rows = ltb-false most n (or_l (ltb most n) (ltb words (3 * n)) room)

  pub room_for : 3 * n ≤ words
  room_for = ltb-false words (3 * n) (or_r (ltb most n) (ltb words (3 * n)) room)

-- ---- the three answers

module _ (most words n : ℕ) (rs : List Row) where
  pub answer-full : no_room_in most words (n + length rs) ≡ true → answer_in most words n (gathered rs) ≡ refuses 44
  unfolding answer_in
  answer-full e = rw e

  pub answer-holds : no_room_in most words (n + length rs) ≡ false → answer_in most words n (gathered rs) ≡ holds (n + length rs)
  unfolding answer_in
  answer-holds e = rw e

-- a walk without words told how many rows there are, or the refusal
module _ (most b : ℕ) (v v' : List ℕ) (room : ℕ) (r : Indexed) where
  pub adds-refused : (g : Gathered) (w : List ℕ) (n : ℕ) (k : Refusal) → Walked g v 0 room r v' → r ≡ Err k → AddsIn most b g w n (Err k) w
  unfolding answer_in
  adds-refused (gathered rs) w n k f e =
      let q : refuses (number_of k) ≡ holds (0 + length rs) = sym (ap says e) ∙ f.answer in
      absurd (let z : ◌≡◌ {A = ℕ} 0 1 = cc in omega arith)
  adds-refused (stopped i) w n k f e = record { answer = sym (ap says e) ∙ f.answer; index = refl }

  pub adds-full : (g : Gathered) (w : List ℕ) (n k : ℕ) → Walked g v 0 room r v' → r ≡ Ok k → no_room_in most (length w) (n + k) ≡ true → AddsIn most b g w n (Err IndexFull) w
  adds-full (stopped i) w n k f e h =
      let q : holds k ≡ refuses i = sym (ap says e) ∙ f.answer in
      absurd (let z : ◌≡◌ {A = ℕ} 0 1 = cc in omega arith)
  adds-full (gathered rs) w n k f e h =
      let q : holds k ≡ holds (0 + length rs) = sym (ap says e) ∙ f.answer in
      let c : k ≡ 0 + length rs = cc in
      let d : k ≡ length rs = omega arith in
      let a = answer-full most (length w) n rs (ap (λ (i : ℕ). no_room_in most (length w) (n + i)) (sym d) ∙ h) in
      record { answer = sym a; index = ap (λ (x : Answer). extended_in b x (gathered rs) w n) (sym a) }

  pub adds-all : (g : Gathered) (w : List ℕ) (n k : ℕ) → Walked g v 0 room r v' → r ≡ Ok k → no_room_in most (length w) (n + k) ≡ false
      → (s : Indexed) (w' : List ℕ) (size : ℕ) → b ≡ size / 3 → 1 ≤ b → Walked g w n size s w' → AddsIn most b g w n s w'
  adds-all (stopped i) w n k f e h s w' size m o l =
      let q : holds k ≡ refuses i = sym (ap says e) ∙ f.answer in
      absurd (let z : ◌≡◌ {A = ℕ} 0 1 = cc in omega arith)
  adds-all (gathered rs) w n k f e h s w' size m o l =
      let q : holds k ≡ holds (0 + length rs) = sym (ap says e) ∙ f.answer in
      let c : k ≡ 0 + length rs = cc in
      let d : k ≡ length rs = omega arith in
      let a = answer-holds most (length w) n rs (ap (λ (i : ℕ). no_room_in most (length w) (n + i)) (sym d) ∙ h) in
      let o' : 1 ≤ size / 3 = omega (arith, m, o) in
      record { answer = l.answer ∙ sym a; index = l.words o' rs refl ∙ ap (λ (i : ℕ). added_in i w n rs) (sym m) ∙ ap (λ (x : Answer). extended_in b x (gathered rs) w n) (sym a) }

-- ---- the head

first_rows_lem : (log : List ℕ) (at : ℕ) (m : Limits) (t : Taken Edition) → first_of log t ≡ first.At at m → rows_behind log t ≡ rows_from m log at
first_rows_lem log at m (refused n) e = absurd (let z : ◌≡◌ {A = ℕ} 0 1 = cc in omega arith)
first_rows_lem log at m (taken v b) e = cc

pub head_rows : (log : List ℕ) (at : ℕ) (m : Limits) → first_in log ≡ first.At at m → rows_in log ≡ rows_from m log at
unfolding rows_in
head_rows log at m e = first_rows_lem log at m (head_in log) e

first_stops : (log : List ℕ) (n : ℕ) (t : Taken Edition) → first_of log t ≡ first.Refused n → rows_behind log t ≡ stopped n
first_stops log n (refused k) e = cc
first_stops log n (taken v b) e = absurd (let z : ◌≡◌ {A = ℕ} 0 1 = cc in omega arith)

pub head-stops : (log : List ℕ) (n : ℕ) → first_in log ≡ first.Refused n → rows_in log ≡ stopped n
unfolding rows_in
head-stops log n e = first_stops log n (head_in log) e

first-added : (log : List ℕ) (at from : ℕ) (m : Limits) (t : Taken Edition) → first_of log t ≡ first.At at m → rows_after log from t ≡ rows_from m log from
first-added log at from m (refused n) e = absurd (let z : ◌≡◌ {A = ℕ} 0 1 = cc in omega arith)
first-added log at from m (taken v b) e = let q : limits_of v ≡ m = cc in ap (λ (l : Limits). rows_from l log from) q

pub head-added : (log : List ℕ) (at from : ℕ) (m : Limits) → first_in log ≡ first.At at m → rows_added log from ≡ rows_from m log from
unfolding rows_added
head-added log at from m e = first-added log at from m (head_in log) e

first-after : (log : List ℕ) (from n : ℕ) (t : Taken Edition) → first_of log t ≡ first.Refused n → rows_after log from t ≡ stopped n
first-after log from n (refused k) e = cc
first-after log from n (taken v b) e = absurd (let z : ◌≡◌ {A = ℕ} 0 1 = cc in omega arith)

pub head-after : (log : List ℕ) (from n : ℕ) → first_in log ≡ first.Refused n → rows_added log from ≡ stopped n
unfolding rows_added
head-after log from n e = first-after log from n (head_in log) e

-- ---- afresh: what enters no rows at all is sorted

none-sorted : (w : List ℕ) → take (3 * 0) w ≡ words_of (sorted [])
unfolding words_of sorted
none-sorted w = refl

module _ (most b : ℕ) (one : 1 ≤ b) where
  fresh-words : (w : List ℕ) (rs : List Row) (t : Bool) → no_room_in most (length w) (0 + length rs) ≡ t
      → extended_in b (answer_in most (length w) 0 (gathered rs)) (gathered rs) w 0 ≡ index_words (answer_in most (length w) 0 (gathered rs)) (gathered rs) w
  fresh-words w rs true e =
      let a = answer-full most (length w) 0 rs e in
      ap (λ (x : Answer). extended_in b x (gathered rs) w 0) a ∙ ap (λ (x : Answer). index_words x (gathered rs) w) (sym a)
  fresh-words w rs false e =
      let a = answer-holds most (length w) 0 rs e in
      ap (λ (x : Answer). extended_in b x (gathered rs) w 0) a
      ∙ added-fresh b one w [] rs (none-sorted w) (room_for most (length w) (0 + length rs) e)
      ∙ ap (λ (x : Answer). index_words x (gathered rs) w) (sym a)

  pub fresh : (g : Gathered) (w : List ℕ) → extended_in b (answer_in most (length w) 0 g) g w 0 ≡ index_words (answer_in most (length w) 0 g) g w
  unfolding answer_in
  fresh (gathered rs) w = fresh-words w rs (no_room_in most (length w) (0 + length rs)) refl
  fresh (stopped k) w = refl

  pub indexes_in : (log w : List ℕ) (g : Gathered) (r : Indexed) (w' : List ℕ) → rows_in log ≡ g → AddsIn most b g w 0 r w' → IndexesIn most log w r w'
  indexes_in log w g r w' e a = record {
    answer = a.answer ∙ ap (answer_in most (length w) 0) (sym e);
    index = a.index ∙ fresh g w ∙ ap (λ (x : Gathered). index_words (answer_in most (length w) 0 x) x w) (sym e);
  }

pub indexes : (log w : List ℕ) (g : Gathered) (r : Indexed) (w' : List ℕ) → rows_in log ≡ g → Adds g w 0 r w' → Indexes log w r w'
indexes log w g r w' e a = indexes_in max_index batch_rows (omega arith) log w g r w' e a

pub adds_same : {most b : ℕ} (g h : Gathered) (w : List ℕ) (n : ℕ) (r : Indexed) (w' : List ℕ) → h ≡ g → AddsIn most b g w n r w' → AddsIn most b h w n r w'
adds_same {most} {b} g h w n r w' e a = subst (λ (x : Gathered). AddsIn most b x w n r w') (sym e) a

-- so many rows a batch, said otherwise
pub adds-batch : {most b k : ℕ} {g : Gathered} {w : List ℕ} {n : ℕ} {r : Indexed} {w' : List ℕ} → AddsIn most b g w n r w' → b ≡ k → AddsIn most k g w n r w'
adds-batch {most} {b} {k} {g} {w} {n} {r} {w'} a e = subst (λ (i : ℕ). AddsIn most i g w n r w') e a

pub stops : {most b : ℕ} (g : Gathered) (w : List ℕ) (n : ℕ) (k : Refusal) → g ≡ stopped (number_of k) → AddsIn most b g w n (Err k) w
unfolding answer_in
stops g w n k e = rw e (record { answer = refl; index = refl })

-- ---- from a place on, or from the first entry

first_on : (log : List ℕ) (at from : ℕ) (m : Limits) (t : Taken Edition) → first_of log t ≡ first.At at m → rows_onward log from t ≡ rows_from m log (max from at)
first_on log at from m (refused n) e = absurd (let z : ◌≡◌ {A = ℕ} 0 1 = cc in omega arith)
first_on log at from m (taken v b) e =
    let q : limits_of v ≡ m = cc in
    let p : length log - length b ≡ at = cc in
    λ j. rows_from (q j) log (max from (p j))

pub head-on : (log : List ℕ) (at from : ℕ) (m : Limits) → first_in log ≡ first.At at m → rows_on log from ≡ rows_from m log (max from at)
unfolding rows_on
head-on log at from m e = first_on log at from m (head_in log) e

first-none-on : (log : List ℕ) (from n : ℕ) (t : Taken Edition) → first_of log t ≡ first.Refused n → rows_onward log from t ≡ stopped n
first-none-on log from n (refused k) e = cc
first-none-on log from n (taken v b) e = absurd (let z : ◌≡◌ {A = ℕ} 0 1 = cc in omega arith)

pub head-none-on : (log : List ℕ) (from n : ℕ) → first_in log ≡ first.Refused n → rows_on log from ≡ stopped n
unfolding rows_on
head-none-on log from n e = first-none-on log from n (head_in log) e
