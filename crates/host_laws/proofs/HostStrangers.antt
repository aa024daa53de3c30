-- The promise with strangers about, for the C calls: each is a call of the code. Assumes nothing.
use Rattle.wire.proofs.Basics.{◌∙◌, sym, ◌≡◌, subst, ℕ, List, inl, inr}
use Rattle.wire.proofs.Choices.{either}
use Rattle.receiver.specs.Lent.{Lent, lent}
use Rattle.arrival.specs.Strangers.{Feed, part}
use Rattle.arrival.specs.StrangersRuns.{Led, Calls, CodeBegins}
use Rattle.arrival.specs.StrangersRuns as runs
use Rattle.arrival.proofs.StrangersRuns.{code-strangers}
use Rattle.host_laws.specs.Told.{lacks}
use Rattle.host_laws.specs.HostStrangers.{HostLed, by-open, by-receive, by-within, by-forget, HostCalls, begins, takes, drops, turns_away, HostStrangers}
use Rattle.host_laws.proofs.Calls.{Code, as_code, code-accepted, code-hands, turned, opened, within-takes}

module _ (n : ℕ) where
  still-led : (w nm store ledger : List ℕ) (l' : Lent) → l' ≡ lent w nm store ledger → Led n w nm → Led n l'.state l'.names
  still-led w nm store ledger l' e = subst (λ (y : Lent). Led n y.state y.names) (sym e)

  led : {w nm : List ℕ} → HostLed n w nm → Led n w nm
  led (by-open w nm w' nm' o) = runs.by-open w nm o.call w' nm' o.opens (opened w nm n w' nm' o)
  led (by-receive {w = w} {nm = nm} h store ledger x c l' k) = elim (either (lacks c)) [
    | inl t ↦ still-led w nm store ledger l' (k.short t).stays (led h)
    | inr f ↦ let a = k.heard f in runs.by-receive (led h) store ledger x.sender x.datagram a.outcome l' a.receives
  ]
  led (by-within {w = w} {nm = nm} h limits store ledger x c l' k) = elim (either (lacks c)) [
    | inl t ↦ still-led w nm store ledger l' (k.short t).stays (led h)
    | inr f ↦
        let a = k.heard f in
        runs.by-within (led h) limits.payload limits.fragments store ledger x a.outcome l' (within-takes limits (lent w nm store ledger) x a.outcome l' a.receives)
  ]
  led (by-forget {w = w} {nm = nm} h sender answer w' nm' o) = runs.by-forget (led h) sender o.call w' nm' o.forgets

as-run : (l₁ : Lent) {f : Feed} {l : Lent} → HostCalls l₁ f l → Calls l₁ f l
as-run l₁ begins = runs.begins
as-run l₁ (takes {f = f} {l = l} h x c l' k) = let a : Code l x c l' = as_code l x c l' k in runs.takes (as-run l₁ h) x a.outcome l' a.takes
as-run l₁ (drops h sender answer w nm o) = runs.drops (as-run l₁ h) sender o.call w nm o.forgets
as-run l₁ (turns_away {f = f} {l = l} h l' k) = subst (Calls l₁ f) (sym (turned l l' k)) (as-run l₁ h)

-- A PROMISE WITH STRANGERS ABOUT, FOR THE C CALLS
pub host-strangers : HostStrangers
host-strangers m l₀ k₀ c₀ l₁ b =
    let a : Code l₀ (part m k₀) c₀ l₁ = as_code l₀ (part m k₀) c₀ l₁ b.taken in
    let begun : CodeBegins m l₀ k₀ a.outcome l₁ = record {
      opened-over = b.opened-over;
      led = led b.opened-over b.led;
      lawful = b.lawful;
      its_own = b.its_own;
      not-open = b.not-open;
      taken = a.takes;
      accepted = sym (code-accepted l₀ (part m k₀) c₀ l₁ a) ∙ b.accepted;
    } in
    let p = code-strangers m l₀ k₀ a.outcome l₁ begun in
    record {
      at_once = λ e. code-hands l₀ (part m k₀) c₀ l₁ a ∙ p.at_once e;
      at_last = λ f l h s x c l' k e.
          let z : Code l x c l' = as_code l x c l' k in
          code-hands l x c l' z ∙ p.at_last f l (as-run l₁ h) s x z.outcome l' z.takes e;
    }
