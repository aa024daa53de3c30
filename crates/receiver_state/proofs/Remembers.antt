-- The memory of keys, lent to the crate `memory` as a part of the state and given back: all that is known of that crate's words stands here.
use Rattle.wire.proofs.Basics.{◌∙◌, ◌≡◌, ap, refl, subst, ℕ, ◌-◌, List, ◌++◌, true, Bool, length, drop, take, length-drop, replicate, take_all, arith}
use Rattle.wire.specs.Overlay.{overlay}
use Rattle.wire.proofs.Overlays.{length-overlay}
use Rattle.steps.specs.Memory.{key_of, Memory, empty_memory, is_remembered_lem, remember, forget_keys, memory_ok}
use Rattle.steps.specs.Receive.{with_slots}
use Rattle.memory.specs.Words.{memory_words, memory_in, Left}
use Rattle.memory.proofs.Views.{memory_injective}
use Rattle.receiver_state.specs.View.{memory_at, state_words_lem, slots_of, memory_of, view}
use Rattle.receiver_state.specs.Inside.{Holds, Remembers, Drops}
use Rattle.receiver_state.proofs.Windows.{part-back}
use Rattle.receiver_state.proofs.Bridge.{memory-view}

-- the memory of a fresh state
pub memory-fresh : memory_in (replicate memory_words 0) ≡ empty_memory
unfolding memory_in empty_memory
memory-fresh = refl

-- words that show the same memory are the same
pub memory-once : (a b : List ℕ) → length a ≡ memory_words → length b ≡ memory_words → memory_in a ≡ memory_in b → a ≡ b
memory-once a b p q e = memory_injective a b p q e

module _ (w : List ℕ) (e : length w ≡ state_words_lem) where
  abbrev lent : List ℕ
  lent = take (length w - memory_at) (drop memory_at w)

  memory-part : lent ≡ drop memory_at w
  memory-part = take_all (length w - memory_at) (drop memory_at w) (omega (arith, length-drop memory_at w))

  memory-long : length (drop memory_at w) ≡ memory_words
  memory-long = omega (arith, length-drop memory_at w)

  -- ---- what is asked

  pub in-order-is : (r : Bool) → r ≡ memory_ok (memory_in lent) → r ≡ memory_ok (memory_of w)
  in-order-is r er = er ∙ ap (λ (m : List ℕ). memory_ok (memory_in m)) memory-part

  pub remembered-is : (sender x q : ℕ) → x ≡ q → memory_ok (memory_of w) ≡ true → (r : Bool)
      → r ≡ is_remembered_lem (memory_in lent) (key_of sender x) → r ≡ is_remembered_lem (memory_of w) (key_of sender q)
  remembered-is sender x q ex k r er = er ∙ (λ i. is_remembered_lem (memory_in (memory-part i)) (key_of sender (ex i)))

  -- ---- what is given back

  module _ (m w1 : List ℕ) (l : length m ≡ memory_words) (ew : w1 ≡ take memory_at w ++ (m ++ drop (length w - memory_at) (drop memory_at w))) where
    back : w1 ≡ overlay w memory_at m
    back = ew ∙ part-back memory_at (length w) w m (omega arith) (omega arith) (omega arith)

    holds : Holds w (memory_in m) w1
    holds = record {
      machine = λ n. ap (λ (x : List ℕ). view x n) back ∙ memory-view w m e l n;
      words = ap length back ∙ length-overlay w memory_at m ∙ e;
    }

  -- what the crate `memory` left there
  left_there : (f : Memory → Memory) (m w1 : List ℕ) → Left lent (f (memory_in lent)) m
      → w1 ≡ take memory_at w ++ (m ++ drop (length w - memory_at) (drop memory_at w)) → Holds w (f (memory_of w)) w1
  left_there f m w1 L ew =
      let p : length lent ≡ memory_words = ap length memory-part ∙ memory-long in
      let H = holds m w1 (L.words ∙ p) ew in
      record {
        machine = λ n. H.machine n ∙ ap (with_slots (view w n) (slots_of w n)) (L.shows p ∙ ap (λ (x : List ℕ). f (memory_in x)) memory-part);
        words = H.words;
      }

  pub remembers : (a x q : ℕ) (m w1 : List ℕ) → x ≡ q → Left lent (remember (memory_in lent) (key_of a x)) m
      → w1 ≡ take memory_at w ++ (m ++ drop (length w - memory_at) (drop memory_at w)) → Remembers w (key_of a q) w1
  remembers a x q m w1 ex L ew = subst (λ (y : ℕ). Remembers w (key_of a y) w1) ex (left_there (λ (z : Memory). remember z (key_of a x)) m w1 L ew)

  pub drops : (a : ℕ) (m w1 : List ℕ) → memory_ok (memory_of w) ≡ true → Left lent (forget_keys (memory_in lent) a) m
      → w1 ≡ take memory_at w ++ (m ++ drop (length w - memory_at) (drop memory_at w)) → Drops w a w1
  drops a m w1 k L ew = left_there (λ (z : Memory). forget_keys z a) m w1 L ew
