-- What the index promises: extended, it is the index worked out afresh; a key is found where the log first has it. Assumes nothing.
use Rattle.wire.proofs.Basics.{◌∙◌, sym, ◌≡◌, ap, refl, ℕ, ◌≤◌, ◌+◌, ◌-◌, ◌*◌, List, ◌++◌, append_assoc, true, false, Bool, inl, inr, length, drop, take, length-append, length-take, take-append-drop}
use Rattle.wire.proofs.Basics.{arith}
use Prim.Native.Nat.{max}
use Rattle.wire.specs.Bytes.{Bytes}
use Rattle.wire.specs.Choice.{pick}
use Rattle.wire.specs.Overlay.{overlay}
use Rattle.wire.specs.Taken.{Taken, taken, refused}
use Rattle.wire.proofs.Choices.{either}
use Rattle.wire.proofs.Overlays.{overlay-at}
use Rattle.flight_log.specs.Editions.{Edition, head_bytes, head_in, limits_of}
use Rattle.flight_log.specs.Entries.{body_of}
use Rattle.flight_log.proofs.LogRoundTrip.{head-back}
use Rattle.log_index.specs.Limits.{max_index, batch_rows, large_batch}
use Rattle.log_index.specs.Rows.{Row, sorted}
use Rattle.log_index.specs.Index.{Gathered, gathered, stopped, rows_from, rows_behind, rows_in, rows_after, rows_added, first_to, first_entry_lem, Answer, holds, refuses, no_room_in, answer_in}
use Rattle.log_index.specs.Words.{words_of, found_in}
use Rattle.log_index.proofs.Gathers.{ahead}
use Rattle.log_index.proofs.Added.{indexable, rows-added, rows-rising}
use Rattle.log_index.proofs.Sorts.{sorted-length}
use Rattle.log_index.proofs.Wordings.{words-length}
use Rattle.log_index.proofs.Batches.{added-fresh}
use Rattle.log_index.proofs.Looks.{found_first}
use Rattle.std.proofs.Common.{Ok, Err}
use Rattle.refusals.specs.Numbers.{number_of}
use Rattle.refusals.proofs.Names.{same_number}
use Rattle.index_builder.specs.Adds.{Indexed, says, index_words, extended_in, IndexOf, IndexesIn, Indexes, AddsIn, Extends, rows_onward, rows_on, IndexesOn}
use Rattle.index_builder.proofs.Answers.{room_for, answer-full, answer-holds, indexes_in, adds_same}

-- ---- extended

-- the rows that were there and those that are added, answered as all of them
module _ (most words : ℕ) (xs : List Row) where
  answer-ahead : (g : Gathered) → answer_in most words (length xs) g ≡ answer_in most words 0 (ahead xs g)
  unfolding answer_in
  answer-ahead (stopped k) = refl
  answer-ahead (gathered ys) =
      let e : length xs + length ys ≡ 0 + length (xs ++ ys) = omega (arith, length-append xs ys) in
      ap (λ (n : ℕ). pick (no_room_in most words n) (refuses 44) (holds n)) e

module _ (most b : ℕ) (one : 1 ≤ b) where
  words-ahead : (w : List ℕ) (xs : List Row) → take (3 * length xs) w ≡ words_of (sorted xs) → (g : Gathered)
      → extended_in b (answer_in most (length w) (length xs) g) g w (length xs) ≡ index_words (answer_in most (length w) 0 (ahead xs g)) (ahead xs g) w
  unfolding answer_in
  words-ahead w xs e (stopped k) = refl
  words-ahead w xs e (gathered ys) = by-room (no_room_in most (length w) (length xs + length ys)) refl
    where
      same : length xs + length ys ≡ 0 + length (xs ++ ys)
      same = omega (arith, length-append xs ys)

      by-room : (t : Bool) → no_room_in most (length w) (length xs + length ys) ≡ t
          → extended_in b (answer_in most (length w) (length xs) (gathered ys)) (gathered ys) w (length xs) ≡ index_words (answer_in most (length w) 0 (gathered (xs ++ ys))) (gathered (xs ++ ys)) w
      by-room true h =
          let a = answer-full most (length w) (length xs) ys h in
          let c = answer-full most (length w) 0 (xs ++ ys) (ap (no_room_in most (length w)) (sym same) ∙ h) in
          ap (λ (x : Answer). extended_in b x (gathered ys) w (length xs)) a ∙ ap (λ (x : Answer). index_words x (gathered (xs ++ ys)) w) (sym c)
      by-room false h =
          let a = answer-holds most (length w) (length xs) ys h in
          let c = answer-holds most (length w) 0 (xs ++ ys) (ap (no_room_in most (length w)) (sym same) ∙ h) in
          ap (λ (x : Answer). extended_in b x (gathered ys) w (length xs)) a
          ∙ added-fresh b one w xs ys e (room_for most (length w) (length xs + length ys) h)
          ∙ ap (λ (x : Answer). index_words x (gathered (xs ++ ys)) w) (sym c)

  pub extended_in_lem : (log rest w : List ℕ) → Bytes log → Bytes rest → (n : ℕ) → IndexOf log w n → (r : Indexed) (w' : List ℕ)
      → AddsIn most b (rows_added (log ++ rest) (length log)) w n r w' → IndexesIn most (log ++ rest) w r w'
  extended_in_lem log rest w h k n i r w' a =
      let xs = i.rows in
      let g = rows_added (log ++ rest) (length log) in
      let e = rows-added log rest h k xs i.from-log in
      let t : take (3 * length xs) w ≡ words_of (sorted xs) = ap (λ (m : ℕ). take (3 * m) w) (sym i.count) ∙ i.words in
      record {
        answer = a.answer ∙ ap (λ (m : ℕ). answer_in most (length w) m g) i.count ∙ answer-ahead most (length w) xs g ∙ ap (answer_in most (length w) 0) (sym e);
        index =
            a.index
            ∙ ap (λ (m : ℕ). extended_in b (answer_in most (length w) m g) g w m) i.count
            ∙ words-ahead w xs t g
            ∙ ap (λ (x : Gathered). index_words (answer_in most (length w) 0 x) x w) (sym e);
      }

-- an index of a log, extended by what was added behind it, is the index of all worked out afresh, refusals too
pub extended-afresh : (log rest w : List ℕ) → Bytes log → Bytes rest → (n : ℕ) → IndexOf log w n → (r : Indexed) (w' : List ℕ)
    → Extends (log ++ rest) (length log) w n r w' → Indexes (log ++ rest) w r w'
extended-afresh log rest w h k n i r w' a = extended_in_lem max_index batch_rows (omega arith) log rest w h k n i r w' a

-- ---- with the most rows that are asked for

on-first : (log : List ℕ) (t : Taken Edition) → rows_onward log 0 t ≡ rows_behind log t
on-first log (refused n) = refl
on-first log (taken v b) =
    let e : max 0 (length log - length b) ≡ length log - length b = omega arith in
    ap (rows_from (limits_of v) log) e

-- from the place 0 on: the whole log
pub on-all : (log : List ℕ) → rows_on log 0 ≡ rows_in log
unfolding rows_on rows_in
on-all log = on-first log (head_in log)

-- from behind a log on: what was added
pub on-added : (log rest : List ℕ) → Bytes log → (rs : List Row) → rows_in log ≡ gathered rs → rows_on (log ++ rest) (length log) ≡ rows_added (log ++ rest) (length log)
unfolding rows_on rows_added
on-added log rest h rs e =
    let i = indexable log h rs e in
    let head = head_bytes i.edition in
    let body = body_of i.entries in
    let split : log ++ rest ≡ head ++ (body ++ rest) = ap (λ (l : List ℕ). l ++ rest) (sym i.wrote) ∙ append_assoc head body rest in
    let t : head_in (log ++ rest) ≡ taken i.edition (body ++ rest) = ap head_in split ∙ head-back i.edition i.lawful (body ++ rest) in
    let d : length head + length body ≡ length log = sym (length-append head body) ∙ ap length i.wrote in
    let a = length-append log rest in
    let b = length-append body rest in
    let m : max (length log) (length (log ++ rest) - length (body ++ rest)) ≡ length log = omega (arith, a, b, d) in
    ap (rows_onward (log ++ rest) (length log)) t
    ∙ ap (rows_from (limits_of i.edition) (log ++ rest)) m
    ∙ sym (ap (rows_after (log ++ rest) (length log)) t)

-- worked out afresh
pub on-afresh : (log w : List ℕ) (most : ℕ) (r : Indexed) (w' : List ℕ) → IndexesOn log 0 w 0 most r w' → IndexesIn most log w r w'
on-afresh log w most r w' a = indexes_in most large_batch (omega arith) log w (rows_on log 0) r w' (sym (on-all log)) a

-- extended by what was added: the index of all worked out afresh, refusals too
pub on_extended : (log rest w : List ℕ) → Bytes log → Bytes rest → (n : ℕ) → IndexOf log w n → (most : ℕ) (r : Indexed) (w' : List ℕ)
    → IndexesOn (log ++ rest) (length log) w n most r w' → IndexesIn most (log ++ rest) w r w'
on_extended log rest w h k n i most r w' a =
    extended_in_lem most large_batch (omega arith) log rest w h k n i r w' (adds_same _ _ w n r w' (sym (on-added log rest h i.rows i.from-log)) a)

-- ---- what is left is an index

index-words : (most : ℕ) (log w : List ℕ) (n : ℕ) (w' : List ℕ) (g : Gathered) → rows_in log ≡ g → holds n ≡ answer_in most (length w) 0 g
    → w' ≡ index_words (answer_in most (length w) 0 g) g w → IndexOf log w' n
unfolding answer_in
index-words most log w n w' (stopped k) e a i = absurd (let z : ◌≡◌ {A = ℕ} 0 1 = cc in omega arith)
index-words most log w n w' (gathered rs) e a i = elim (either (no_room_in most (length w) (0 + length rs))) [
  | inl h ↦
      let q : holds n ≡ refuses 44 = a ∙ answer-full most (length w) 0 rs h in
      absurd (let z : ◌≡◌ {A = ℕ} 0 1 = cc in omega arith)
  | inr h ↦
      let b = answer-holds most (length w) 0 rs h in
      let q : holds n ≡ holds (0 + length rs) = a ∙ b in
      let c : n ≡ 0 + length rs = cc in
      let s = words_of (sorted rs) in
      let room = room_for most (length w) (0 + length rs) h in
      let l : length s ≡ 3 * length rs = words-length (sorted rs) ∙ ap (λ (k : ℕ). 3 * k) (sorted-length rs) in
      let f : 0 + length s ≤ length w = omega (arith, l, room) in
      let m : 3 * n ≡ length s = omega (arith, l) in
      let v : w' ≡ overlay w 0 s = i ∙ ap (λ (x : Answer). index_words x (gathered rs) w) b in
      record { rows = rs; from-log = e; count = omega arith; words = (λ j. take (m j) (v j)) ∙ overlay-at w 0 s f }
]

-- what `index_log` leaves is the index of the log
pub index-entries : {most : ℕ} (log w : List ℕ) (n : ℕ) (r : Indexed) (w' : List ℕ) → IndexesIn most log w r w' → r ≡ Ok n → IndexOf log w' n
index-entries {most} log w n r w' i e = index-words most log w n w' (rows_in log) refl (sym (ap says e) ∙ i.answer) i.index

pub index-left : {most : ℕ} (log w : List ℕ) (n : ℕ) (w' : List ℕ) → IndexesIn most log w (Ok n) w' → IndexOf log w' n
index-left {most} log w n w' i = index-words most log w n w' (rows_in log) refl i.answer i.index

-- in words for so many rows
pub index-room : (log w : List ℕ) (n : ℕ) → IndexOf log w n → 3 * n ≤ length w
index-room log w n i =
    let l : length (words_of (sorted i.rows)) ≡ 3 * length i.rows = words-length (sorted i.rows) ∙ ap (λ (k : ℕ). 3 * k) (sorted-length i.rows) in
    let t = sym (length-take (3 * n) w) ∙ ap length i.words in
    let c = i.count in
    omega (arith, l, t, c)

-- ---- a key is found

pub finds-first : (log : List ℕ) → Bytes log → (w : List ℕ) (n : ℕ) → IndexOf log w n → (s q : ℕ) → found_in w n s q ≡ first_entry_lem log s q
finds-first log h w n i s q =
    let xs = i.rows in
    let split : w ≡ words_of (sorted xs) ++ drop (3 * n) w = sym (take-append-drop (3 * n) w) ∙ ap (λ (u : List ℕ). u ++ drop (3 * n) w) i.words in
    (λ j. found_in (split j) (i.count j) s q)
    ∙ found_first s q xs (drop (3 * n) w) (rows-rising log h xs i.from-log)
    ∙ ap (first_to s q) (sym i.from-log)

-- ---- no second answer

pub says-once : (r s : Indexed) → says r ≡ says s → r ≡ s
says-once (Ok n) (Ok m) e = cc
says-once (Ok n) (Err s) e = cc
says-once (Err r) (Ok m) e = cc
says-once (Err r) (Err s) e = let f : number_of r ≡ number_of s = cc in ap Err (same_number r s f)

pub index-once : (log w : List ℕ) (r s : Indexed) (x y : List ℕ) → Indexes log w r x → Indexes log w s y → (r ≡ s) × (x ≡ y)
index-once log w r s x y a b = (says-once r s (a.answer ∙ sym b.answer), a.index ∙ sym b.index)

pub extend-once : (log : List ℕ) (from : ℕ) (w : List ℕ) (n : ℕ) (r s : Indexed) (x y : List ℕ) → Extends log from w n r x → Extends log from w n s y → (r ≡ s) × (x ≡ y)
extend-once log from w n r s x y a b = (says-once r s (a.answer ∙ sym b.answer), a.index ∙ sym b.index)

pub on-once : (log : List ℕ) (from : ℕ) (w : List ℕ) (n most : ℕ) (r s : Indexed) (x y : List ℕ) → IndexesOn log from w n most r x → IndexesOn log from w n most s y → (r ≡ s) × (x ≡ y)
on-once log from w n most r s x y a b = (says-once r s (a.answer ∙ sym b.answer), a.index ∙ sym b.index)
