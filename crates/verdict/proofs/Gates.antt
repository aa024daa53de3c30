-- What is known behind the gates: of a state that is not refused by 9, and of a header that was read.
use Rattle.wire.proofs.Basics.{◌∙◌, ◌≡◌, refl, subst, ℕ, ◌<◌, ◌^◌, List, true, false, Bool, ◌&&◌, length, get_or, eqb, eqb-true, ℕ_discrete, arith}
use Rattle.wire.specs.Choice.{pick}
use Rattle.wire.proofs.Choices.{never, and_l, and_r}
use Rattle.datagram.specs.Limits.{max_fragments}
use Rattle.datagram.specs.Read.{read_datagram_lem, part_of}
use Rattle.datagram.specs.declared.Header.{Header}
use Rattle.datagram.specs.Read.{Good}
use Rattle.datagram.proofs.Names.{name-short}
use Rattle.datagram.proofs.Places.{Inside, SmallForm, FragmentForm, accepted-good, part_length}
use Rattle.steps.specs.Limits.{slot_count, ledger_length, slot_size_of}
use Rattle.steps.specs.Search.{all_below}
use Rattle.steps.specs.Memory.{memory_ok}
use Rattle.steps.specs.Slots.{slot_at}
use Rattle.steps.specs.Receive.{slot_ok, sound}
use Rattle.receiver_state.specs.View.{store_word, room_word, state_words_lem, name_bytes_lem, slots_of, memory_of, view, shaped, ready}
use Rattle.receiver_state.specs.Inside.{Ready, Told}

-- ---- a state that is not refused by 9

module _ (w n : List ℕ) (store ledger : ℕ) (e : ready w n store ledger ≡ true) where
  pub ready-shaped : shaped w n ≡ true
  ready-shaped = and_l (shaped w n) (sound (view w n) store ledger) e

  pub ready-sound : sound (view w n) store ledger ≡ true
  ready-sound = and_r (shaped w n) (sound (view w n) store ledger) e

  after_store : (eqb ledger ledger_length
      && (eqb (get_or w room_word 0) (slot_size_of store)
      && (all_below slot_count (λ s. slot_ok (get_or w room_word 0) (slot_at (slots_of w n) s)) && memory_ok (memory_of w)))) ≡ true
  unfolding sound
  after_store = and_r (eqb store (get_or w store_word 0)) _ ready-sound

  pub ready-ledger : ledger ≡ ledger_length
  ready-ledger = eqb-true _ _ (and_l (eqb ledger ledger_length) _ after_store)

  pub ready-is : Ready w n
  ready-is =
      let rest = and_r (eqb ledger ledger_length) _ after_store in
      let room : get_or w room_word 0 ≡ slot_size_of store = eqb-true _ _ (and_l (eqb (get_or w room_word 0) (slot_size_of store)) _ rest) in
      record {
        shape = record {
          words = eqb-true _ _ (and_l (eqb (length w) state_words_lem) (eqb (length n) name_bytes_lem) ready-shaped);
          bytes = eqb-true _ _ (and_r (eqb (length w) state_words_lem) (eqb (length n) name_bytes_lem) ready-shaped);
        };
        known = and_r (all_below slot_count (λ s. slot_ok (get_or w room_word 0) (slot_at (slots_of w n) s))) _ (and_r (eqb (get_or w room_word 0) (slot_size_of store)) _ rest);
        room = omega arith;
      }

-- ---- a header that was read

module _ (C : ℕ) (d : List ℕ) (h : Header) (e : read_datagram_lem C max_fragments d ≡ Good h) where
  ok : Inside d h × pick h.small (SmallForm d h) (FragmentForm C max_fragments d h)
  ok = accepted-good C max_fragments d h e

  long : length (part_of d h.payload) ≡ h.payload.len
  long = part_length d h.payload (omega (arith, ok.0.payload_in_lem))

  named : length (part_of d h.name) ≡ h.name.len
  named = part_length d h.name ok.0.name_in_lem

  fits : h.payload.len < 2 ^ 32
  fits = omega (arith, ok.0.payload_in_lem, ok.0.short)

  pub told : Told d h
  told = go h.small refl
    where
      go : (b : Bool) → h.small ≡ b → Told d h
      go true s =
          let k : SmallForm d h = subst (λ (b : Bool). pick b (SmallForm d h) (FragmentForm C max_fragments d h)) s ok.1 in
          record { short = name-short (part_of d h.name) k.named; long = long; fits = fits; few = λ z. never s z; small_at = λ z. k.place ∙ (rw named) }
      go false s =
          let k : FragmentForm C max_fragments d h = subst (λ (b : Bool). pick b (SmallForm d h) (FragmentForm C max_fragments d h)) s ok.1 in
          record {
            short = elim (ℕ_discrete h.number 0) [ yes z ↦ name-short (part_of d h.name) (k.named z) | no z ↦ omega (arith, named, k.nameless z) ];
            long = long;
            fits = fits;
            few = λ z. k.few;
            small_at = λ z. never z s;
          }
