-- Opening: what was called on the way, put together into what the call promises.
use Rattle.wire.proofs.Basics.{◌∙◌, sym, ◌≡◌, ap, refl, ℕ, List, ◌≢◌, some, length, set, replicate}
use Rattle.steps.specs.Limits.{slot_count, slot_size_of}
use Rattle.steps.specs.Held.{none_held}
use Rattle.steps.specs.Memory.{Memory}
use Rattle.steps.specs.Slots.{no_slot}
use Rattle.steps.specs.Receive.{opened}
use Rattle.receiver_state.specs.View.{store_word, room_word, state_words_lem, name_bytes_lem, slots_of, view}
use Rattle.receiver_state.proofs.Remembers.{memory-fresh}
use Rattle.std.proofs.Common.{Ok, Err}
use Rattle.refusals.specs.declared.Refusal.TheVariants.{WrongMemory}
use Rattle.receiver.proofs.Forgetting.{unshaped, nameless, whole, refuses, never-some}
use Rattle.open_and_payload.specs.Ends.{Opens}

module _ (w n : List ℕ) where
  pub words-opens : (k : ℕ) → length w ≢ state_words_lem → Opens w n k (Err WrongMemory) w n
  words-opens k d = rw (unshaped w n d) (refuses w n (view w n) (some 9) refl refl)

  pub names-opens : (k : ℕ) → length n ≢ name_bytes_lem → Opens w n k (Err WrongMemory) w n
  names-opens k d = rw (nameless w n d) (refuses w n (view w n) (some 9) refl refl)

fresh : (k c : ℕ) → c ≡ slot_size_of k → view (set (set (replicate state_words_lem 0) store_word k) room_word c) (replicate name_bytes_lem 0) ≡ opened k
unfolding slots_of opened none_held
fresh k c e =
    ap (λ (x : ℕ). view (set (set (replicate state_words_lem 0) store_word k) room_word x) (replicate name_bytes_lem 0)) e
    ∙ ap (λ (m : Memory). record { store_length = k; slot_size_lem = slot_size_of k; slots = replicate slot_count no_slot; memory = m }) memory-fresh

pub opens : (w n : List ℕ) → length w ≡ state_words_lem → length n ≡ name_bytes_lem → (k c : ℕ) (w1 w2 w3 n1 : List ℕ) → c ≡ slot_size_of k → w1 ≡ replicate (length w) 0
    → w2 ≡ set w1 store_word k → w3 ≡ set w2 room_word c → n1 ≡ replicate (length n) 0 → Opens w n k (Ok tt) w3 n1
opens w n a b k c w1 w2 w3 n1 ec e1 e2 e3 en =
    let z : w1 ≡ replicate state_words_lem 0 = e1 ∙ ap (λ (k : ℕ). replicate k 0) a in
    let y : w3 ≡ set (set (replicate state_words_lem 0) store_word k) room_word c =
    e3 ∙ ap (λ (x : List ℕ). set x room_word c) e2 ∙ ap (λ (x : List ℕ). set (set x store_word k) room_word c) z in
    let t : n1 ≡ replicate name_bytes_lem 0 = en ∙ ap (λ (k : ℕ). replicate k 0) b in
    rw (whole w n a b) (record {
      gave = refl;
      machine = (λ i. view (y i) (t i)) ∙ fresh k c ec;
      words = ap length y ∙ sym a;
      bytes = ap length t ∙ sym b;
      still = λ j q. never-some _ j q;
    })
