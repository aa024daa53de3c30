-- A message whose key is neither open nor remembered is accepted, and so promised: an emptied message that is sent again is delivered.
use Rattle.wire.proofs.Basics.{◌∙◌, sym, ◌≡◌, ap, refl, subst, ℕ, true, false, some, none, Option, length}
use Rattle.wire.proofs.Choices.{never}
use Rattle.datagram.specs.Limits.{max_fragments}
use Rattle.datagram.specs.Said.{Fragment, said}
use Rattle.steps.specs.Limits.{slot_size_of}
use Rattle.steps.specs.declared.Emptied.TheVariants.{Nobody}
use Rattle.steps.specs.Memory.{key_of, is_remembered_lem}
use Rattle.steps.specs.Slots.{find_open_lem}
use Rattle.steps.specs.Receive.{Machine, After, stay, receive}
use Rattle.steps.specs.Runs.{World, Arrival, call}
use Rattle.steps.specs.Reach.{receives, found, is_stored}
use Rattle.steps.proofs.Branches.{Course, unmoved, given, joined, begun, course, step-sound, fragment-begin, step5-stores}
use Rattle.steps.proofs.RunComputed.{step5-ledger}
use Rattle.steps.proofs.Reaches.{Good, good-sound, reached-good}
use Rattle.steps.proofs.Emptying.{emptied-unknown}
use Rattle.arrival.specs.Demand.{Message, key, datagram}
use Rattle.arrival.specs.Strangers.{Start, part, Begins, Promised, ComesAnew, next_after, SentAgain}
use Rattle.arrival.proofs.Pieces.{piece, Cut, cut-within}
use Rattle.arrival.proofs.Watched.{step5-store, stored-accepted}
use Rattle.arrival.proofs.Strangers.{strangers}

not_found : (o : Option ℕ) → found o ≡ false → o ≡ none
not_found none e = refl
not_found (some s) e = never refl e

module _ (σ : Start) (a : ComesAnew σ) where
  abbrev m : Message
  m = σ.message

  abbrev w : World
  w = σ.world

  abbrev mach : Machine
  mach = w.machine

  abbrev C : ℕ
  C = slot_size_of a.opened-over

  good : Good a.opened-over mach
  good = reached-good a.opened-over mach a.reached

  cut : Cut C m
  cut = cut-within C m a.lawful a.no-larger

  abbrev f : Fragment
  f = piece C m σ.first

  its-key : key_of m.sender f.sequence ≡ key m
  its-key = ap (key_of m.sender) (cut.its-sequence σ.first a.its_own)

  is-begun : is_stored (call w (part m σ.first)).answer ≡ true
  is-begun =
      ap (λ (o : After). is_stored o.answer)
      (step-sound mach w.store w.ledger m.sender (datagram m σ.first) (rw (a.store-fits, a.ledger-fits) (good-sound a.opened-over mach good))
      ∙ ap (λ (c : ℕ). receive mach w.store w.ledger m.sender (said c max_fragments (datagram m σ.first))) good.sized
      ∙ ap (receive mach w.store w.ledger m.sender) (cut.reads σ.first a.its_own)
      ∙ fragment-begin mach w.store w.ledger m.sender f (ap (is_remembered_lem mach.memory) its-key ∙ a.unknown.not-remembered)
      (ap (find_open_lem mach.slots) its-key ∙ not_found (find_open_lem mach.slots (key m)) a.unknown.not-open))
      ∙ step5-stores mach _ w.store w.ledger _ f _

  pub anew-begins : Begins σ
  anew-begins = record {
    opened-over = a.opened-over;
    reached = a.reached;
    lawful = a.lawful;
    its_own = a.its_own;
    not-open = a.unknown.not-open;
    accepted = stored-accepted (call w (part m σ.first)).answer is-begun;
  }

  pub anew-promised : Promised σ
  anew-promised = strangers σ anew-begins

-- a call leaves store and ledger of their lengths
module _ (w : World) (x : Arrival) where
  abbrev Long : After → Type 0
  Long a = (length a.store ≡ length w.store) × (length a.ledger ≡ length w.ledger)

  call_long : Long (call w x)
  unfolding stay
  call_long = go (course w.machine w.store w.ledger x.sender x.datagram)
    where
      go : Course w.machine w.store w.ledger x.sender (said w.machine.slot_size_lem max_fragments x.datagram) (call w x) → Long (call w x)
      go (unmoved y t e) = subst Long (sym e) (refl, refl)
      go (given q name payload t p e) = subst Long (sym e) (refl, refl)
      go (joined f s t p e) =
          subst Long (sym e) (step5-store w.machine w.machine.slots w.store w.ledger Nobody s f, step5-ledger w.machine w.machine.slots w.store w.ledger Nobody s f)
      go (begun f t u p e) = subst Long (sym e) (step5-store w.machine _ w.store w.ledger _ _ f, step5-ledger w.machine _ w.store w.ledger _ _ f)

-- THE THEOREM
pub sent-again : SentAgain
sent-again w x m h k b = anew-promised (next_after w x m k) (record {
  opened-over = h.opened-over;
  reached = receives h.reached w.store w.ledger x.sender x.datagram;
  store-fits = (call_long w x).0 ∙ h.store-fits;
  ledger-fits = (call_long w x).1 ∙ h.ledger-fits;
  lawful = h.lawful;
  no-larger = h.no-larger;
  its_own = b;
  unknown = emptied-unknown h.reached w.store w.ledger x.sender x.datagram (key m) h.emptied;
})
