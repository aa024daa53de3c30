-- The promise with strangers about, for calls of the code: each is the step list's, by its contract.
use Rattle.wire.proofs.Basics.{◌∙◌, sym, ◌≡◌, ap, refl, subst, ℕ, List, true, Bool}
use Rattle.wire.specs.Choice.{pick}
use Rattle.steps.specs.Receive.{After, opened, step, step_within, forget}
use Rattle.steps.proofs.Limited.{within-reached}
use Rattle.steps.specs.Answers.{answer_told, reply}
use Rattle.steps.specs.Runs.{World, lending, world_of, Arrival, key_in, call}
use Rattle.steps.specs.Reach.{Reached, opens, receives, forgets, is_accepted}
use Rattle.receiver_state.proofs.Unique.{shaped-still}
use Rattle.receiver.specs.declared.Outcome.{Outcome}
use Rattle.receiver.specs.Calls.{Call}
use Rattle.receiver_state.specs.View.{view, shaped}
use Rattle.receiver.specs.Lent.{Lent, lent, world_in}
use Rattle.receiver.specs.Calls.{Receives, received, Forgets, forgotten}
use Rattle.arrival.specs.Demand.{Message, datagram, handed_by, name_in}
use Rattle.arrival.specs.Strangers.{Start, part, Begins, Feed, after}
use Rattle.arrival.specs.Strangers as strange
use Rattle.arrival.specs.StrangersRuns.{Led, by-open, by-receive, by-within, by-forget, start_of, Calls, begins, takes, drops, turns_away, hands, CodeBegins, CodePromised, CodeStrangers}
use Rattle.arrival.specs.ArrivalCalls.{received_within}
use Rattle.arrival.proofs.WithinCalls.{takes-are, turned_same}
use Rattle.arrival.proofs.Runs.{was-shaped}
use Rattle.arrival.proofs.Strangers.{strangers}

-- ---- the states that calls lead to are states that the step list reaches

pub record LedTo (n : ℕ) (w nm : List ℕ) : Type 0 where
  pub shape : shaped w nm ≡ true
  pub reached : Reached n (view w nm)

pub led-to : {n : ℕ} {w nm : List ℕ} → Led n w nm → LedTo n w nm
unfolding received forgotten
led-to {n} (by-open w nm r w' nm' o q) =
    let s : shaped w nm ≡ true = was-shaped (shaped w nm) (sym o.gave ∙ q) in
    record {
      shape = shaped-still w nm w' nm' o.words o.bytes s;
      reached = subst (Reached n) (sym (o.machine ∙ ap (λ (b : Bool). pick b (opened n) (view w nm)) s)) opens;
    }
led-to {n} (by-receive {w = w} {nm = nm} l store ledger sender d r l' k) =
    let t : LedTo n w nm = led-to l in
    let e : (received (lent w nm store ledger) sender d).machine ≡ (step (view w nm) store ledger sender d).machine = rw t.shape in
    record {
      shape = shaped-still w nm l'.state l'.names k.words k.bytes t.shape;
      reached = subst (Reached n) (sym (k.leaves.machine ∙ e)) (receives t.reached store ledger sender d);
    }
led-to {n} (by-within {w = w} {nm = nm} l payload fragments store ledger x r l' k) =
    let t : LedTo n w nm = led-to l in
    let e : (received_within payload fragments (lent w nm store ledger) x).machine ≡ (step_within payload fragments (view w nm) store ledger x.sender x.datagram).machine = rw t.shape in
    record {
      shape = shaped-still w nm l'.state l'.names k.words k.bytes t.shape;
      reached = subst (Reached n) (sym (k.leaves.machine ∙ e)) (within-reached payload fragments (view w nm) store ledger x.sender x.datagram t.reached);
    }
led-to {n} (by-forget {w = w} {nm = nm} l sender r w' nm' k) =
    let t : LedTo n w nm = led-to l in
    let e : (forgotten w nm sender).machine ≡ (forget (view w nm) sender).machine = rw t.shape in
    record {
      shape = shaped-still w nm w' nm' k.words k.bytes t.shape;
      reached = subst (Reached n) (sym (k.machine ∙ e)) (forgets t.reached sender);
    }

-- ---- a call is the step list's

record Shows (w : World) (l : Lent) : Type 0 where
  shape : shaped l.state l.names ≡ true
  world : world_in l ≡ w

module _ (w : World) (l : Lent) (h : Shows w l) (x : Arrival) (r : Outcome) (l' : Lent) (k : Receives l x.sender x.datagram r l') where
  received_is : received l x.sender x.datagram ≡ call w x
  unfolding received
  received_is = rw h.shape (ap (λ (v : World). call v x) h.world)

  takes-shows : Shows (world_of (call w x)) l'
  takes-shows = record {
    shape = shaped-still l.state l.names l'.state l'.names k.words k.bytes h.shape;
    world = λ i. world_of (record {
      machine = (k.leaves.machine ∙ ap (λ (a : After). a.machine) received_is) i;
      store = (k.leaves.store ∙ ap (λ (a : After). a.store) received_is) i;
      ledger = (k.leaves.ledger ∙ ap (λ (a : After). a.ledger) received_is) i;
      answer = answer_told r.answer;
      emptied = r.emptied;
      name = r.name;
    });
  }

  takes-answers : answer_told r.answer ≡ (call w x).answer
  takes-answers = k.leaves.answer ∙ ap (λ (a : After). a.answer) received_is

  takes-hands : hands l x r l' ≡ strange.hands_over w x
  takes-hands = λ i.
      handed_by (key_in (h.world i).machine.slot_size_lem x) (name_in ((k.leaves.name ∙ ap (λ (a : After). a.name) received_is) i))
      (reply x.datagram ((k.leaves.store ∙ ap (λ (a : After). a.store) received_is) i) (takes-answers i))

drops-shows : (w : World) (l : Lent) → Shows w l → (sender : ℕ) (r : Call) (v nm : List ℕ) → Forgets l.state l.names sender r v nm
    → Shows (lending (forget w.machine sender).machine w.store w.ledger) (lent v nm l.store l.ledger)
unfolding forgotten
drops-shows w l h sender r v nm k =
    let e : (forgotten l.state l.names sender).machine ≡ (forget (view l.state l.names) sender).machine = rw h.shape in
    record {
      shape = shaped-still l.state l.names v nm k.words k.bytes h.shape;
      world = (λ i. lending ((k.machine ∙ e) i) l.store l.ledger) ∙ ap (λ (u : World). lending (forget u.machine sender).machine u.store u.ledger) h.world;
    }

-- ---- the promise

module _ (m : Message) (l₀ : Lent) (k₀ : ℕ) (r₀ : Outcome) (l₁ : Lent) (b : CodeBegins m l₀ k₀ r₀ l₁) where
  abbrev σ : Start
  σ = start_of m l₀ k₀

  first : Shows σ.world l₀
  first = record { shape = (led-to b.led).shape; world = refl }

  taken : Receives l₀ m.sender (datagram m k₀) r₀ l₁
  taken = takes-are l₀ (part m k₀) b.taken

  begins-so : Begins σ
  begins-so = record {
    opened-over = b.opened-over;
    reached = (led-to b.led).reached;
    lawful = b.lawful;
    its_own = b.its_own;
    not-open = b.not-open;
    accepted = sym (ap is_accepted (takes-answers σ.world l₀ first (part m k₀) r₀ l₁ taken)) ∙ b.accepted;
  }

  shows : {f : Feed} {l : Lent} → Calls l₁ f l → Shows (after σ f) l
  unfolding after
  shows begins = takes-shows σ.world l₀ first (part m k₀) r₀ l₁ taken
  shows (takes {f = f} {l = l} c x r l' k) = takes-shows (after σ f) l (shows c) x r l' (takes-are l x k)
  shows (drops {f = f} {l = l} c sender r w nm k) = drops-shows (after σ f) l (shows c) sender r w nm k
  shows (turns_away {f = f} {l = l} c r l' k) = subst (Shows (after σ f)) (sym (turned_same l r l' k)) (shows c)

  promised : CodePromised m l₀ k₀ r₀ l₁
  promised = record {
    at_once = λ e. takes-hands σ.world l₀ first (part m k₀) r₀ l₁ taken ∙ (strangers σ begins-so).at_once e;
    at_last = λ f l c s x r l' k e. takes-hands (after σ f) l (shows c) x r l' (takes-are l x k) ∙ (strangers σ begins-so).at_last f x s e;
  }

-- A PROMISE WITH STRANGERS ABOUT, FOR THE CODE
pub code-strangers : CodeStrangers
code-strangers m l₀ k₀ r₀ l₁ b = promised m l₀ k₀ r₀ l₁ b
