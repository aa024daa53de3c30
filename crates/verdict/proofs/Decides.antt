-- Laws of verdicts: the header's verdict says what the step list's does, and what is known of each case.
use Rattle.wire.proofs.Basics.{◌∙◌, sym, ◌≡◌, ap, refl, ℕ, List, true, false, Bool, some, none, Option, length, get_or}
use Rattle.wire.specs.Choice.{pick}
use Rattle.datagram.specs.Limits.{max_fragments}
use Rattle.datagram.specs.Read.{read_datagram_lem, part_of}
use Rattle.datagram.specs.Said.{Fragment, fragment_in, says}
use Rattle.datagram.specs.Said as said
use Rattle.datagram.specs.declared.Header.{Header}
use Rattle.datagram.specs.Read.{Read}
use Rattle.datagram.specs.Read.{Good, Refused}
use Rattle.steps.specs.Limits.{slot_count}
use Rattle.steps.specs.Held.{is_held}
use Rattle.steps.specs.Memory.{key_of, is_remembered_lem}
use Rattle.steps.specs.Slots.{slot_at, find_open_lem}
use Rattle.steps.specs.Receive.{Machine, Verdict, refuse, again, deliver, join, begin, same_message, same_fragment_lem, agrees_with_all, step2, step3, step3or4, decide}
use Rattle.steps.proofs.Seats.{open-found}
use Rattle.std.proofs.Common.{Option as Maybe, Some, None}
use Rattle.slots.specs.Words.{key_in, first_below}
use Rattle.receiver_state.specs.View.{room_word, slots_of, view, ready}
use Rattle.receiver_state.specs.Inside.{Ready, Told}
use Rattle.steps.specs.InsideSearch.{option_of}
use Rattle.receiver_state.proofs.Bridge.{slots_length, open-slot}
use Rattle.verdict.specs.Decided.{with_header, verdict_of, by_read, decided}
use Rattle.verdict.specs.Decided as code
use Rattle.verdict.specs.Inside.{small_verdict, Possible}
use Rattle.verdict.proofs.Gates.{ready-is, told}

pick-holds : (P : Verdict → Type 0) (b : Bool) {x y : Verdict} → P x → P y → P (pick b x y)
pick-holds P true p q = p
pick-holds P false p q = q

-- what holds of every verdict that the step list can give on the datagram with that header
module _ (P : Verdict → Type 0) (m : Machine) (store ledger : List ℕ) (sender : ℕ) (d : List ℕ) (h : Header)
    (no : (k : ℕ) → P (refuse k)) (same : P again)
    (whole : h.small ≡ true → P (deliver (part_of d h.name) (length (part_of d h.payload))))
    (first : P (begin (fragment_in d h)))
    (next : (s : ℕ) → find_open_lem m.slots (key_of sender h.sequence) ≡ some s → P (join s (fragment_in d h))) where
  abbrev f : Fragment
  f = fragment_in d h

  at_small : h.small ≡ true → (o : Option ℕ) → P (step2 o (part_of d h.name) (part_of d h.payload))
  at_small s (some i) = no 8
  at_small s none = whole s

  at_open : (o : Option ℕ) → find_open_lem m.slots (key_of sender h.sequence) ≡ o → P (step3or4 m store ledger f o)
  unfolding step3
  at_open none e = first
  at_open (some i) e =
      let slot = slot_at m.slots i in
      pick-holds P (same_message slot f)
      (pick-holds P (is_held slot.held f.number)
      (pick-holds P (same_fragment_lem m.slot_size_lem store ledger i slot f) same (no 8))
      (pick-holds P (agrees_with_all ledger i slot f) (next i e) (no 8)))
      (no 8)

  pub every-verdict : P (decide m store ledger sender (says d (Good h)))
  unfolding decide
  every-verdict = go h.small refl
    where
      go : (b : Bool) → h.small ≡ b
          → P (decide m store ledger sender (pick b (said.small h.sequence (part_of d h.name) (part_of d h.payload)) (said.fragment f)))
      go true s = pick-holds P (is_remembered_lem m.memory (key_of sender h.sequence)) same (at_small s (find_open_lem m.slots (key_of sender h.sequence)))
      go false s = pick-holds P (is_remembered_lem m.memory (key_of sender h.sequence)) same (at_open (find_open_lem m.slots (key_of sender h.sequence)) refl)

-- the verdict with the header says what the step list's says
pub said-back : (m : Machine) (store ledger : List ℕ) (sender : ℕ) (d : List ℕ) (h : Header)
    → verdict_of d (with_header h (decide m store ledger sender (says d (Good h)))) ≡ decide m store ledger sender (says d (Good h))
said-back m store ledger sender d h =
    every-verdict (λ (v : Verdict). verdict_of d (with_header h v) ≡ v) m store ledger sender d h (λ k. refl) refl (λ s. refl) refl (λ s e. refl)

-- what is known of what is decided
pub possible : (w n store ledger : List ℕ) (sender : ℕ) (d : List ℕ) → Possible w n d (decided w n store ledger sender d)
unfolding decided
possible w n store ledger sender d = go (ready w n (length store) (length ledger)) refl
  where
    by : Ready w n → (x : Read) → read_datagram_lem (get_or w room_word 0) max_fragments d ≡ x → Possible w n d (by_read (view w n) store ledger sender d x)
    by r (Refused k) e = tt
    by r (Good h) e =
        let t : Told d h = told (get_or w room_word 0) d h e in
        every-verdict (λ (v : Verdict). Possible w n d (with_header h v)) (view w n) store ledger sender d h
        (λ k. tt) tt (λ s. (r, t, s)) (r, t) (λ s o. (r, t, (open-found (slots_of w n) (slots_length w n) (key_of sender h.sequence) s o).inside))

    go : (b : Bool) → ready w n (length store) (length ledger) ≡ b
        → Possible w n d (pick b (by_read (view w n) store ledger sender d (read_datagram_lem (get_or w room_word 0) max_fragments d)) (code.Refuse 9))
    go true e = by (ready-is w n (length store) (length ledger) e) (read_datagram_lem (get_or w room_word 0) max_fragments d) refl
    go false e = tt

-- ---- in the terms of the code

module _ (w n : List ℕ) (sender x q : ℕ) (ex : x ≡ q) where
  pub open_is : (g : Maybe ℕ) → g ≡ first_below (key_in w sender x) slot_count → find_open_lem (slots_of w n) (key_of sender q) ≡ option_of g
  open_is g eg = open-slot w n sender q ∙ ap option_of (sym (eg ∙ ap (λ (y : ℕ). first_below (key_in w sender y) slot_count) ex))

pub small-verdict : (d : List ℕ) (h : Header) (g : Maybe ℕ) → small_verdict h g ≡ with_header h (step2 (option_of g) (part_of d h.name) (part_of d h.payload))
small-verdict d h (Some s) = refl
small-verdict d h None = refl

module _ (w n store ledger : List ℕ) (sender : ℕ) (d : List ℕ) where
  pub unready : ready w n (length store) (length ledger) ≡ false → decided w n store ledger sender d ≡ code.Refuse 9
  unfolding decided
  unready e = rw e

  module _ (e : ready w n (length store) (length ledger) ≡ true) where
    pub decided-refused : (k : ℕ) → read_datagram_lem (get_or w room_word 0) max_fragments d ≡ Refused k → decided w n store ledger sender d ≡ code.Refuse k
    unfolding decided
    decided-refused k r = rw e (ap (by_read (view w n) store ledger sender d) r)

    pub decided-good : (h : Header) → read_datagram_lem (get_or w room_word 0) max_fragments d ≡ Good h
        → decided w n store ledger sender d ≡ with_header h (decide (view w n) store ledger sender (says d (Good h)))
    unfolding decided
    decided-good h r = rw e (ap (by_read (view w n) store ledger sender d) r)
