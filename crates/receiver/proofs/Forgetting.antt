-- Forgetting a sender: what was called on the way, put together into what the call promises.
use Rattle.wire.proofs.Basics.{◌∙◌, sym, ◌≡◌, ap, refl, ℕ, ◌+◌, ◌<◌, List, true, false, ◌≢◌, some, none, Option, length, eqb, eq-eqb, ne_eqb, add-one, arith}
use Rattle.wire.proofs.Choices.{and-false}
use Rattle.steps.specs.Limits.{slot_count}
use Rattle.steps.specs.Memory.{forget_keys, memory_ok}
use Rattle.steps.specs.Slots.{Slot, busy, slot_at, release, release_one_lem, release_of}
use Rattle.steps.specs.Receive.{Machine, with_slots, forget}
use Rattle.slots.specs.Words.{at, sender_word, count_word}
use Rattle.receiver_state.specs.View.{state_words_lem, name_bytes_lem, slots_of, memory_of, view, shaped}
use Rattle.receiver_state.specs.Inside.{Shaped, Drops}
use Rattle.receiver_state.proofs.StepListCases.{sender-is, count-is}
use Rattle.receiver.specs.Calls.{Changes, Forgets, forgotten}
use Rattle.receiver.specs.Inside.{Releases, ReleasesOne, ReleasesAll}
use Rattle.std.proofs.Common.{Ok, Err}
use Rattle.refusals.specs.declared.Refusal.TheVariants.{WrongMemory}

-- ---- one slot

module _ (w n : List ℕ) (i : ℕ) (h : i < slot_count) (from : ℕ) where
  same : (slots : List Slot) → release_one_lem from i (slots_of w n) ≡ slots → with_slots (view w n) slots (memory_of w) ≡ with_slots (view w n) (release_one_lem from i (slots_of w n)) (memory_of w)
  same slots e = ap (λ (l : List Slot). with_slots (view w n) l (memory_of w)) (sym e)

  pub free_stays : Shaped w n → at w i count_word ≡ 0 → ReleasesOne w n from i w n
  free_stays sh e = record { machine = same (slots_of w n) (rw (eq-eqb (slot_at (slots_of w n) i).count 0 (sym (count-is w n i h) ∙ e))); shape = sh }

  pub other-stays : Shaped w n → at w i sender_word ≢ from → ReleasesOne w n from i w n
  other-stays sh d = record {
    machine = same (slots_of w n) (rw (ne_eqb (slot_at (slots_of w n) i).key.sender from (λ q. d (sender-is w n i h ∙ q)), and-false (busy (slot_at (slots_of w n) i))));
    shape = sh;
  }

  pub its-goes : (w1 n1 : List ℕ) → at w i count_word ≢ 0 → at w i sender_word ≡ from → Releases w n i w1 n1 → ReleasesOne w n from i w1 n1
  its-goes w1 n1 d e R = record {
    machine = R.machine ∙ same (release (slots_of w n) i)
        (rw (ne_eqb (slot_at (slots_of w n) i).count 0 (λ q. d (count-is w n i h ∙ q)), eq-eqb (slot_at (slots_of w n) i).key.sender from (sym (sender-is w n i h) ∙ e)));
    shape = R.shape;
  }

-- ---- slot after slot

pub released-none : (w n : List ℕ) (from : ℕ) → Shaped w n → ReleasesAll w n from 0 w n
unfolding release_of
released-none w n from sh = record { machine = refl; shape = sh }

pub released-more : (w n w1 n1 w2 n2 : List ℕ) (from i : ℕ) → ReleasesAll w n from i w1 n1 → ReleasesOne w1 n1 from i w2 n2 → ReleasesAll w n from (i + 1) w2 n2
unfolding release_of
released-more w n w1 n1 w2 n2 from i A B = record {
  machine = B.machine ∙ ap (λ (m : Machine). with_slots m (release_one_lem from i m.slots) m.memory) A.machine
      ∙ ap (λ (k : ℕ). with_slots (view w n) (release_of from k (slots_of w n)) (memory_of w)) (sym (add-one i));
  shape = B.shape;
}

-- ---- refusals

module _ (w n : List ℕ) where
  pub unshaped : length w ≢ state_words_lem → shaped w n ≡ false
  unshaped d = rw (ne_eqb _ _ d)

  pub nameless : length n ≢ name_bytes_lem → shaped w n ≡ false
  nameless d = rw (ne_eqb (length n) name_bytes_lem d) (and-false (eqb (length w) state_words_lem))

  pub whole : length w ≡ state_words_lem → length n ≡ name_bytes_lem → shaped w n ≡ true
  whole a b = rw (eq-eqb _ _ a, eq-eqb _ _ b)

  pub refuses : (m : Machine) (o : Option ℕ) → view w n ≡ m → some 9 ≡ o → Changes m o w n (Err WrongMemory) w n
  refuses m o a b = record { gave = b; machine = a; words = refl; bytes = refl; still = λ k q. (refl, refl) }

  pub words-forgets : (from : ℕ) → length w ≢ state_words_lem → Forgets w n from (Err WrongMemory) w n
  unfolding forgotten
  words-forgets from d = rw (unshaped d) (refuses (view w n) (some 9) refl refl)

  pub names-forgets : (from : ℕ) → length n ≢ name_bytes_lem → Forgets w n from (Err WrongMemory) w n
  unfolding forgotten
  names-forgets from d = rw (nameless d) (refuses (view w n) (some 9) refl refl)

  pub memory-forgets : (from : ℕ) → length w ≡ state_words_lem → length n ≡ name_bytes_lem → memory_ok (memory_of w) ≡ false → Forgets w n from (Err WrongMemory) w n
  unfolding forgotten forget
  memory-forgets from a b d = rw (whole a b, d) (refuses (view w n) (some 9) refl refl)

-- ---- forgetting

pub never-some : (X : Type 0) (k : ℕ) → ◌≡◌ {A = Option ℕ} none (some k) → X
never-some X k q = let z : ◌≡◌ {A = ℕ} 0 1 = cc in absurd (let h : ⊥ = omega arith in h)

-- the memory is still in order once slots were freed
pub known-after : (w n w1 n1 : List ℕ) (from : ℕ) → memory_ok (memory_of w) ≡ true → ReleasesAll w n from slot_count w1 n1 → memory_ok (memory_of w1) ≡ true
known-after w n w1 n1 from k A = ap (λ (m : Machine). memory_ok m.memory) A.machine ∙ k

module _ (w n : List ℕ) (a : length w ≡ state_words_lem) (b : length n ≡ name_bytes_lem) where
  pub forgets : (from : ℕ) (w1 n1 w2 : List ℕ) → memory_ok (memory_of w) ≡ true → ReleasesAll w n from slot_count w1 n1 → Drops w1 from w2 → Forgets w n from (Ok tt) w2 n1
  unfolding forgotten forget
  forgets from w1 n1 w2 k A D = rw (whole w n a b, k) (record {
    gave = refl;
    machine = D.machine n1 ∙ ap (λ (x : Machine). with_slots x x.slots (forget_keys x.memory from)) A.machine;
    words = D.words ∙ sym a;
    bytes = A.shape.bytes ∙ sym b;
    still = λ j q. never-some _ j q;
  })
