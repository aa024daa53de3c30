-- What is received within a log's limits: the receiver's own, or the limits' refusal. Assumes nothing.
use Rattle.wire.proofs.Basics.{◌∙◌, sym, ◌≡◌, ap, refl, subst, ℕ, ◌≤◌, List, true, false, Bool, ◌&&◌, length, get_or}
use Rattle.wire.specs.Choice.{pick}
use Rattle.wire.proofs.Choices.{and_l, and_r}
use Rattle.datagram.specs.Limits.{max_fragments}
use Rattle.datagram.specs.Read.{read_datagram_lem, magic_in, small_magic}
use Rattle.datagram.specs.Said.{says, said}
use Rattle.datagram.specs.declared.Header.{Header}
use Rattle.datagram.specs.Read.{Read}
use Rattle.datagram.specs.Read.{Good, Refused}
use Rattle.refusals.specs.declared.Refusal.{Refusal}
use Rattle.refusals.specs.Numbers.{number_of}
use Rattle.steps.specs.declared.Answer.TheVariants as given
use Rattle.steps.specs.Receive as answer
use Rattle.steps.specs.declared.Emptied.TheVariants.{Nobody}
use Rattle.steps.specs.Slots.{no_name_lem}
use Rattle.steps.specs.Receive.{Machine, After, stay, sound, decide, act, receive, step}
use Rattle.receiver_state.specs.View.{room_word, view, shaped, ready}
use Rattle.receiver.specs.Lent.{Lent, lent}
use Rattle.receiver.specs.Calls.{received, Leaves, Follows, Receives}
use Rattle.receiver.proofs.Settling.{told_is}
use Rattle.receiver.specs.declared.Outcome.{Outcome}
use Rattle.flight_log.specs.declared.reader.Limits.{Limits}
use Rattle.within_limits.specs.Within.{read_within_lem, step_within, received_within, ReceivesWithin}
use Rattle.within_limits.proofs.Readers.{within-good, within_loose, within-small}

-- ---- the step list

module _ (l : Limits) (m : Machine) (store ledger : List ℕ) (sender : ℕ) (d : List ℕ) where
  -- where the reader says the same, so does the call
  pub step_same : read_within_lem l m.slot_size_lem d ≡ read_datagram_lem m.slot_size_lem max_fragments d → step_within l m store ledger sender d ≡ step m store ledger sender d
  unfolding step_within step said
  step_same e = ap (λ (r : Read). pick (sound m (length store) (length ledger)) (receive m store ledger sender (says d r)) (stay m store ledger (answer.Refused 9))) e

  -- what the limits admit is received as ever
  pub step-good : (h : Header) → read_within_lem l m.slot_size_lem d ≡ Good h → step_within l m store ledger sender d ≡ step m store ledger sender d
  step-good h e = step_same (e ∙ sym (within-good l m.slot_size_lem d h e))

  -- so is all, where the limits are not below the receiver's, and every small message
  pub step_loose : m.slot_size_lem ≤ l.payload → max_fragments ≤ l.fragments → step_within l m store ledger sender d ≡ step m store ledger sender d
  step_loose p n = step_same (within_loose l m.slot_size_lem d p n)

  pub step_small : magic_in d ≡ small_magic → step_within l m store ledger sender d ≡ step m store ledger sender d
  step_small e = step_same (within-small l m.slot_size_lem d e)

  -- a state that is not sound is refused by 9 as ever
  pub step-nine : sound m (length store) (length ledger) ≡ false → step_within l m store ledger sender d ≡ step m store ledger sender d
  unfolding step_within step
  step-nine e = rw e refl

  -- the refusal within the limits is passed on, and nothing is altered
  pub step-refused : (k : ℕ) → sound m (length store) (length ledger) ≡ true → read_within_lem l m.slot_size_lem d ≡ Refused k
      → step_within l m store ledger sender d ≡ stay m store ledger (answer.Refused k)
  unfolding step_within receive act decide
  step-refused k s e = rw (s, e) refl

-- ---- over the lent words

module _ (l : Limits) (w n store ledger : List ℕ) (sender : ℕ) (d : List ℕ) where
  alike : step_within l (view w n) store ledger sender d ≡ step (view w n) store ledger sender d
      → received_within l (lent w n store ledger) sender d ≡ received (lent w n store ledger) sender d
  unfolding received_within received
  alike e = ap (λ (a : After). pick (shaped w n) a (stay (view w n) store ledger (answer.Refused 9))) e

  pub received-good : (h : Header) → read_within_lem l (get_or w room_word 0) d ≡ Good h → received_within l (lent w n store ledger) sender d ≡ received (lent w n store ledger) sender d
  received-good h e = alike (step-good l (view w n) store ledger sender d h e)

  pub received-nine : ready w n (length store) (length ledger) ≡ false → received_within l (lent w n store ledger) sender d ≡ received (lent w n store ledger) sender d
  unfolding received_within received
  received-nine e = go (shaped w n) e
    where
      go : (s : Bool) → (s && sound (view w n) (length store) (length ledger)) ≡ false
          → pick s (step_within l (view w n) store ledger sender d) (stay (view w n) store ledger (answer.Refused 9))
          ≡ pick s (step (view w n) store ledger sender d) (stay (view w n) store ledger (answer.Refused 9))
      go true f = step-nine l (view w n) store ledger sender d f
      go false f = refl

  pub received-refused : (k : ℕ) → ready w n (length store) (length ledger) ≡ true → read_within_lem l (get_or w room_word 0) d ≡ Refused k
      → received_within l (lent w n store ledger) sender d ≡ stay (view w n) store ledger (answer.Refused k)
  unfolding received_within
  received-refused k r e =
      let s = and_l (shaped w n) (sound (view w n) (length store) (length ledger)) r in
      let o = and_r (shaped w n) (sound (view w n) (length store) (length ledger)) r in
      rw s (step-refused l (view w n) store ledger sender d k o e)

  -- ---- the contract, by each of the code's ways

  pub by-receive : received_within l (lent w n store ledger) sender d ≡ received (lent w n store ledger) sender d → {r : Outcome} {l' : Lent}
      → Receives (lent w n store ledger) sender d r l' → ReceivesWithin l (lent w n store ledger) sender d r l'
  by-receive e {r} {l'} = subst (λ (a : After). Follows a (lent w n store ledger) sender d r l') (sym e)

  refusal : (k : Refusal) → Leaves (stay (view w n) store ledger (answer.Refused (number_of k))) (record { answer = given.Refused k; emptied = Nobody; name = no_name_lem }) (lent w n store ledger)
  unfolding stay
  refusal k = record { answer = refl; emptied = refl; name = refl; machine = refl; store = refl; ledger = refl }

  pub by-limits : (k : Refusal) → ready w n (length store) (length ledger) ≡ true → read_within_lem l (get_or w room_word 0) d ≡ Refused (number_of k)
      → ReceivesWithin l (lent w n store ledger) sender d (record { answer = given.Refused k; emptied = Nobody; name = no_name_lem }) (lent w n store ledger)
  by-limits k r e = subst (λ (a : After). Follows a (lent w n store ledger) sender d (record { answer = given.Refused k; emptied = Nobody; name = no_name_lem }) (lent w n store ledger))
      (sym (received-refused (number_of k) r e))
      (record { leaves = refusal k; tells = told_is sender d _ _ (lent w n store ledger) (refusal k); words = refl; bytes = refl; still = λ j f. refl })
