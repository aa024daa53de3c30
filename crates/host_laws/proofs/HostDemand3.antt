-- A run of C calls is a run of calls of the code, and tells what these hand over: demand 3 for the C calls. Assumes nothing.
use Rattle.wire.proofs.Basics.{◌∙◌, sym, ◌≡◌, ap, refl, subst, ℕ, length}
use Rattle.steps.proofs.Reaches.{reached-good}
use Rattle.receiver_state.specs.View.{view}
use Rattle.receiver.specs.Lent.{Lent, lent}
use Rattle.arrival.specs.Demand.{Scene, slot_bytes, Event, Feed, arrival, push}
use Rattle.arrival.specs.ArrivalCalls.{Takes}
use Rattle.arrival.specs.Runs.{Calls, hands_over}
use Rattle.arrival.specs.Runs as runs
use Rattle.arrival.specs.StrangersRuns.{Led, by-open}
use Rattle.arrival.proofs.Runs.{code-demand3}
use Rattle.arrival.proofs.StrangersRuns.{led-to}
use Rattle.host_laws.specs.Told.{Returned, hands_told}
use Rattle.host_laws.specs.HostRuns.{HostCalls, opens, calls, turns_away, handed_over, EachCall, HostDemand3}
use Rattle.host_laws.proofs.Calls.{Code, as_code, code-heard, code-hands, turned, opened, takes-led}

-- the run of the code, over what is lent or the same
record AsCode (σ : Scene) (f : Feed) (l : Lent) (h : HostCalls σ f l) : Type 0 where
  at : Lent
  is : at ≡ l
  code : Calls σ f at
  led : Led (length σ.store) l.state l.names
  same : handed_over h ≡ runs.handed_over code
  each : runs.EachCall code → EachCall h

module _ (σ : Scene) where
  -- the slots are of the scene's size
  led-sized : (l : Lent) → Led (length σ.store) l.state l.names → (view l.state l.names).slot_size_lem ≡ slot_bytes σ
  led-sized l h = (reached-good (length σ.store) (view l.state l.names) (led-to h).reached).sized

  hands : (l : Lent) → Led (length σ.store) l.state l.names → (e : Event) (c : Returned) (l' : Lent) (a : Code l (arrival σ e) c l')
      → hands_told (arrival σ e) c l'.store ≡ hands_over (slot_bytes σ) (arrival σ e) a.outcome l'.store
  hands l h e c l' a =
      code-hands l (arrival σ e) c l' a
      ∙ ap (λ (C : ℕ). hands_over C (arrival σ e) a.outcome l'.store) (led-sized l h)

  as-run : {f : Feed} {l : Lent} → (h : HostCalls σ f l) → AsCode σ f l h
  as-run (opens w n w' n' o) = record {
    at = lent w' n' σ.store σ.ledger;
    is = refl;
    code = runs.opens w n o.call w' n' o.opens (opened w n (length σ.store) w' n' o);
    led = by-open w n o.call w' n' o.opens (opened w n (length σ.store) w' n' o);
    same = refl;
    each = λ z. tt;
  }
  as-run (calls {f = f} {l = l} h e c l' k) =
      let r : AsCode σ f l h = as-run h in
      let a : Code l (arrival σ e) c l' = as_code l (arrival σ e) c l' k in
      let w = hands l r.led e c l' a in
      record {
        at = l';
        is = refl;
        code = runs.calls r.code e a.outcome l' (subst (λ (y : Lent). Takes y (arrival σ e) a.outcome l') (sym r.is) a.takes);
        led = takes-led (length σ.store) l (arrival σ e) a.outcome l' a.takes r.led;
        same = λ i. push (w i) (r.same i);
        each = λ z. (r.each z.0, w ∙ z.1, code-heard l (arrival σ e) c l' a ∙ z.2);
      }
  as-run (turns_away {f = f} {l = l} h l' k) =
      let r : AsCode σ f l h = as-run h in
      let t : l' ≡ l = turned l l' k in
      record {
        at = r.at;
        is = r.is ∙ sym t;
        code = r.code;
        led = subst (λ (y : Lent). Led (length σ.store) y.state y.names) (sym t) r.led;
        same = r.same;
        each = r.each;
      }

  pub sized : (f : Feed) (l : Lent) → HostCalls σ f l → (view l.state l.names).slot_size_lem ≡ slot_bytes σ
  sized f l h = led-sized l (as-run h).led

-- DEMAND 3 FOR THE C CALLS
pub host-demand3 : HostDemand3
host-demand3 σ f s l h =
    let r : AsCode σ f l h = as-run σ h in
    let p = code-demand3 σ f s r.at r.code in
    record {
      machine = ap (λ (y : Lent). view y.state y.names) (sym r.is) ∙ p.machine;
      store = ap (λ (y : Lent). y.store) (sym r.is) ∙ p.store;
      ledger = ap (λ (y : Lent). y.ledger) (sym r.is) ∙ p.ledger;
      each-call = r.each p.each-call;
      delivered = r.same ∙ p.delivered;
      their-own = r.same ∙ p.their-own;
      promised = p.promised;
    }
