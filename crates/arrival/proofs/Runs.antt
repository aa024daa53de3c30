-- A run of calls is a run of `step`: demand 3 for the code.
use Rattle.wire.proofs.Basics.{◌∙◌, sym, ◌≡◌, ap, refl, subst, ℕ, List, true, false, Bool, some, none, Option, length}
use mathlib.Core.Option.{some-ne-none}
use Rattle.wire.specs.Choice.{pick}
use Rattle.steps.specs.Receive.{After, opened, step}
use Rattle.steps.specs.Answers.{reply}
use Rattle.steps.specs.Runs.{World, key_in, run, heard}
use Rattle.receiver_state.proofs.Unique.{shaped-still}
use Rattle.receiver.specs.declared.Outcome.{Outcome}
use Rattle.receiver.specs.Calls.{Call}
use Rattle.receiver_state.specs.View.{view, shaped}
use Rattle.receiver.specs.Lent.{Lent, lent}
use Rattle.receiver.specs.Calls.{refusal_of, Receives, received, told}
use Rattle.open_and_payload.specs.Ends.{Opens}
use Rattle.arrival.specs.Demand.{Scene, slot_bytes, Event, Feed, start, ◌▹◌, sender_of, bytes_of, arrival, name_in, handed_by, push, call, after, delivery, deliveries, Supposed, AllAnswered}
use Rattle.arrival.specs.Runs.{Calls, opens, calls, turns_away, hands_over, handed_over, EachCall, CodePromised}
use Rattle.arrival.proofs.WithinCalls.{takes-are, turned_same}
use Rattle.arrival.proofs.Track.{Lawful, fair-of}
use Rattle.arrival.proofs.Order.{after_more}
use Rattle.arrival.proofs.Demand3.{delivered-own, demand3, each-answered}

-- what is lent shows the world of the step list
record Shows (σ : Scene) (f : Feed) (l : Lent) : Type 0 where
  shape : shaped l.state l.names ≡ true
  machine : view l.state l.names ≡ (after σ f).machine
  store : l.store ≡ (after σ f).store
  ledger : l.ledger ≡ (after σ f).ledger

-- an opening that is not refused was of a state and names of their lengths
pub was-shaped : (b : Bool) → pick {X = Option ℕ} b none (some 9) ≡ none → b ≡ true
was-shaped true e = refl
was-shaped false e = absurd (some-ne-none 9 e)

module _ (σ : Scene) where
  opening-shows : (w n : List ℕ) (r : Call) (w' n' : List ℕ) → Opens w n (length σ.store) r w' n' → refusal_of r ≡ none
      → Shows σ start (lent w' n' σ.store σ.ledger)
  unfolding after run
  opening-shows w n r w' n' o q =
      let s : shaped w n ≡ true = was-shaped (shaped w n) (sym o.gave ∙ q) in
      record {
        shape = shaped-still w n w' n' o.words o.bytes s;
        machine = o.machine ∙ ap (λ (b : Bool). pick b (opened (length σ.store)) (view w n)) s;
        store = refl;
        ledger = refl;
      }

  module _ (f : Feed) (l : Lent) (h : Shows σ f l) (e : Event) where
    -- the call is the step list's
    received_is : received l (sender_of σ e) (bytes_of σ e) ≡ call σ (after σ f) e
    unfolding received
    received_is = rw h.shape (λ i. step (h.machine i) (h.store i) (h.ledger i) (sender_of σ e) (bytes_of σ e))

    module _ (r : Outcome) (l' : Lent)
        (k : Receives l (sender_of σ e) (bytes_of σ e) r l') where
      call-shows : Shows σ (f ▹ e) l'
      call-shows = record {
        shape = shaped-still l.state l.names l'.state l'.names k.words k.bytes h.shape;
        machine = k.leaves.machine ∙ ap (λ (a : After). a.machine) received_is ∙ sym (ap (λ (w : World). w.machine) (after_more σ f e));
        store = k.leaves.store ∙ ap (λ (a : After). a.store) received_is ∙ sym (ap (λ (w : World). w.store) (after_more σ f e));
        ledger = k.leaves.ledger ∙ ap (λ (a : After). a.ledger) received_is ∙ sym (ap (λ (w : World). w.ledger) (after_more σ f e));
      }

      -- and hands over the same
      call-hands : hands_over (slot_bytes σ) (arrival σ e) r l'.store ≡ delivery σ f e
      unfolding delivery
      call-hands = λ i.
          handed_by (key_in (slot_bytes σ) (arrival σ e))
          (name_in ((k.leaves.name ∙ ap (λ (a : After). a.name) received_is) i))
          (reply (bytes_of σ e) ((k.leaves.store ∙ ap (λ (a : After). a.store) received_is) i) ((k.leaves.answer ∙ ap (λ (a : After). a.answer) received_is) i))

      -- and tells the same
      call-tells : told (bytes_of σ e) l'.store r ≡ heard (arrival σ e) (call σ (after σ f) e)
      call-tells = k.tells ∙ ap (heard (arrival σ e)) received_is

  shows : {f : Feed} {l : Lent} → Calls σ f l → Shows σ f l
  shows (opens w n r w' n' o q) = opening-shows w n r w' n' o q
  shows (calls {f = f} {l = l} c e r l' k) = call-shows f l (shows c) e r l' (takes-are l (arrival σ e) k)
  shows (turns_away {f = f} {l = l} c r l' k) = subst (Shows σ f) (sym (turned_same l r l' k)) (shows c)

  hands : {f : Feed} {l : Lent} → (c : Calls σ f l) → handed_over c ≡ deliveries σ f
  unfolding deliveries
  hands (opens w n r w' n' o q) = refl
  hands (calls {f = f} {l = l} c e r l' k) = λ i. push (call-hands f l (shows c) e r l' (takes-are l (arrival σ e) k) i) (hands c i)
  hands (turns_away c r l' k) = hands c

  each-call : {f : Feed} {l : Lent} → (c : Calls σ f l) → AllAnswered σ f → EachCall c
  each-call (opens w n r w' n' o q) z = tt
  each-call (calls {f = f} {l = l} c e r l' k) z =
      let t : Receives l (sender_of σ e) (bytes_of σ e) r l' = takes-are l (arrival σ e) k in
      (each-call c z.0, call-hands f l (shows c) e r l' t, call-tells f l (shows c) e r l' t ∙ z.1)
  each-call (turns_away c r l' k) z = each-call c z

-- DEMAND 3 FOR THE CODE
pub code-demand3 : (σ : Scene) (f : Feed) → Supposed σ f → (l : Lent) (c : Calls σ f l) → CodePromised σ f l c
code-demand3 σ f s l c =
    let h : Shows σ f l = shows σ c in
    let law : Lawful σ = record { distinct = s.distinct; sent = s.sent; ledger-fits = s.ledger-fits } in
    record {
      machine = h.machine;
      store = h.store;
      ledger = h.ledger;
      each-call = each-call σ c (each-answered σ f s);
      delivered = hands σ c;
      their-own = hands σ c ∙ delivered-own σ law f (fair-of σ f s.mixture s.never-over-eight s.few-senders s.never_too-late);
      promised = demand3 σ f s;
    }
