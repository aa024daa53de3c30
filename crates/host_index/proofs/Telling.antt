-- An index has no more rows than the macro gives back; what is found in one that was made is the log's first entry; no second answer. Assumes nothing.
use Rattle.wire.proofs.Basics.{◌∙◌, sym, ◌≡◌, ap, subst, ℕ, ◌≤◌, ◌+◌, ◌<◌, ◌^◌, List, inl, inr, Option, length, le-ltb, lt-ltb, arith}
use Rattle.wire.specs.Bytes.{Bytes}
use Rattle.wire.specs.Overlay.{overlay}
use Rattle.wire.proofs.Choices.{either}
use Rattle.wire.proofs.Once.{one_answer}
use Rattle.log_index.specs.Limits.{max_index}
use Rattle.log_index.specs.Index.{Gathered, gathered, stopped, rows_in, first_entry_lem, holds, no_room_in, answer_in, answer_of}
use Rattle.log_index.specs.Words.{found_in, says}
use Rattle.std.proofs.Common.{Option as Maybe, Ok}
use Rattle.index_builder.specs.Adds as adds
use Rattle.index_builder.specs.Adds.{Indexed}
use Rattle.index_builder.proofs.Answers.{room-rows, answer-full, answer-holds}
use Rattle.index_builder.proofs.Promises.{index-left, finds-first}
use Rattle.host_index.specs.Told.{index_code, index_rows, Few, IndexTold, OnTold, place_count, place_numbers_lem, FindTold}

-- ---- an index has at most as many rows as are asked for, in 32 bits

answer-few : (most words n : ℕ) → most < 2 ^ 32 → (g : Gathered) → Few (answer_in most words n g)
unfolding answer_in
answer-few most words n m (stopped k) = tt
answer-few most words n m (gathered rs) = elim (either (no_room_in most words (n + length rs))) [
  | inl h ↦ subst Few (sym (answer-full most words n rs h)) tt
  | inr h ↦ subst Few (sym (answer-holds most words n rs h)) (let r = room-rows most words (n + length rs) h in omega (arith, r, m))
]

pub index-few : (log w : List ℕ) (r : Indexed) (w' : List ℕ) → adds.Indexes log w r w' → Few (adds.says r)
index-few log w r w' i = subst Few (sym i.answer) (answer-few max_index (length w) 0 (omega arith) (rows_in log))

pub on-few : (log : List ℕ) (from : ℕ) (w : List ℕ) (n most : ℕ) → most < 2 ^ 32 → (r : Indexed) (w' : List ℕ) → adds.IndexesOn log from w n most r w' → Few (adds.says r)
on-few log from w n most m r w' i = subst Few (sym i.answer) (answer-few most (length w) n m (adds.rows_on log from))

-- the header's macro gives back how many there are
pub rows_back : (n : ℕ) → Few (holds n) → index_rows (index_code (holds n)) ≡ n
rows_back n h = omega (arith, h)

-- ---- what is told

pub index-told : (log w : List ℕ) (r : Indexed) (w' : List ℕ) (x : ℕ) → adds.Indexes log w r w' → x ≡ index_code (adds.says r) → IndexTold log w x w'
index-told log w r w' x i e = record { gave = e ∙ ap index_code i.answer; left = i.index }

pub on-told : (log : List ℕ) (from : ℕ) (w : List ℕ) (n most : ℕ) (r : Indexed) (w' : List ℕ) (x : ℕ) → adds.IndexesOn log from w n most r w' → x ≡ index_code (adds.says r) → OnTold log from w n most x w'
on-told log from w n most r w' x i e = record { gave = e ∙ ap index_code i.answer; left = i.index }

module _ (w : List ℕ) (n s q : ℕ) (list : List ℕ) where
  pub find-short : length list < place_count → FindTold w n s q list 13 list
  find-short h = let t = lt-ltb (length list) place_count h in record { gave = rw t; left = rw t }

  -- the sequence goes in as a word
  pub find-told : (word : ℕ) (f : Maybe ℕ) (numbers list' : List ℕ) → place_count ≤ length list → word ≡ q → says f ≡ found_in w n s word → numbers ≡ place_numbers_lem (says f)
      → list' ≡ overlay list 0 numbers → FindTold w n s q list 0 list'
  find-told word f numbers list' h v e m l =
      let t = le-ltb (length list) place_count h in
      let found : says f ≡ found_in w n s q = e ∙ ap (found_in w n s) v in
      record { gave = rw t; left = rw t (l ∙ ap (overlay list 0) (m ∙ ap place_numbers_lem found)) }

-- ---- by an index that was made of a log a key is found where the log first has it

module _ (log : List ℕ) (all : Bytes log) (w : List ℕ) (n x : ℕ) (w' : List ℕ) (e : answer_of (length w) 0 (rows_in log) ≡ holds n) (i : IndexTold log w x w') where
  pub told-first : (s q : ℕ) (list : List ℕ) (answer : ℕ) (list' : List ℕ) → place_count ≤ length list → FindTold w' n s q list answer list'
      → list' ≡ overlay list 0 (place_numbers_lem (first_entry_lem log s q))
  told-first s q list answer list' h k =
      let t = le-ltb (length list) place_count h in
      let made : adds.Indexes log w (Ok n) w' = record { answer = sym e; index = i.left } in
      k.left ∙ rw t (ap (λ (o : Option ℕ). overlay list 0 (place_numbers_lem o)) (finds-first log all w' n (index-left log w n w' made) s q))

-- ---- no second answer, and no second list

pub index-told-once : (log w : List ℕ) (x y : ℕ) (a b : List ℕ) → IndexTold log w x a → IndexTold log w y b → (x ≡ y) × (a ≡ b)
index-told-once log w x y a b p q = (one_answer x y p.gave q.gave, one_answer a b p.left q.left)

pub find-told-once : (w : List ℕ) (n s q : ℕ) (list : List ℕ) (x y : ℕ) (a b : List ℕ) → FindTold w n s q list x a → FindTold w n s q list y b → (x ≡ y) × (a ≡ b)
find-told-once w n s q list x y a b p r = (one_answer x y p.gave r.gave, one_answer a b p.left r.left)

pub on-told-once : (log : List ℕ) (from : ℕ) (w : List ℕ) (n most x y : ℕ) (a b : List ℕ) → OnTold log from w n most x a → OnTold log from w n most y b → (x ≡ y) × (a ≡ b)
on-told-once log from w n most x y a b p q = (one_answer x y p.gave q.gave, one_answer a b p.left q.left)
