-- What forget leaves of the slots: none of that sender, and the others as they were, in their order.
use Rattle.wire.proofs.Basics.{◌∙◌, sym, ◌≡◌, ap, refl, subst, ℕ, ◌≤◌, ◌<◌, suc, zero, List, true, false, Bool, ◌&&◌, ◌≢◌, length, eqb, eq-eqb, eqb-true, not-suc-le-zero, ℕ_discrete, arith}
use Rattle.wire.specs.Choice.{pick}
use Rattle.wire.proofs.Choices.{never, and_l, and_r, and-of}
use Rattle.steps.specs.Limits.{slot_count}
use Rattle.steps.specs.Memory.{Key}
use Rattle.steps.specs.Slots.{Slot, busy, release, release_of}
use Rattle.steps.proofs.Seats.{busy_at, key_at, same-its-key, freed, left_busy}
use Rattle.steps.proofs.Ranks.{Ranks, Shrunk, was-open, shrunk-none, shrunk-then, shrunk-release}

-- the slots below a of that sender are freed
pub record Released (from a : ℕ) (slots new : List Slot) : Type 0 where
  pub shrunk : Shrunk slots new
  pub none_left : (s : ℕ) → s < a → busy_at new s ≡ true → (key_at new s).sender ≢ from
  pub others-stay : (s : ℕ) → busy_at slots s ≡ true → (key_at slots s).sender ≢ from → busy_at new s ≡ true

pub released : (from a : ℕ) → a ≤ slot_count → (slots : List Slot) → length slots ≡ slot_count → Ranks slots → Released from a slots (release_of from a slots)
unfolding release_of
released from zero b slots e o = record {
  shrunk = shrunk-none slots e o;
  none_left = λ s h. absurd (not-suc-le-zero h);
  others-stay = λ s y n. y;
}
released from (suc a) b slots e o =
    go (release_of from a slots) (released from a (omega arith) slots e o)
    (busy_at (release_of from a slots) a && eqb (key_at (release_of from a slots) a).sender from) refl
  where
    go : (r : List Slot) → Released from a slots r → (c : Bool) → (busy_at r a && eqb (key_at r a).sender from) ≡ c → Released from (suc a) slots (pick c (release r a) r)
    go r t false q = record {
      shrunk = t.shrunk;
      none_left = λ s h y. elim (ℕ_discrete s a) [
        | yes z ↦ λ k. never (and-of (busy_at r a) (eqb (key_at r a).sender from) (subst (λ (x : ℕ). busy_at r x ≡ true) z y) (eq-eqb (key_at r a).sender from (subst (λ (x : ℕ). (key_at r x).sender ≡ from) z k))) q
        | no z ↦ t.none_left s (omega arith) y
      ];
      others-stay = t.others-stay;
    }
    go r t true q =
        let open-a : busy_at r a ≡ true = and_l (busy_at r a) (eqb (key_at r a).sender from) q in
        let from-a : (key_at r a).sender ≡ from = eqb-true (key_at r a).sender from (and_r (busy_at r a) (eqb (key_at r a).sender from) q) in
        let h : Shrunk r (release r a) = shrunk-release r t.shrunk.eight t.shrunk.ranks a b open-a in
        let its : (s : ℕ) → busy_at (release r a) s ≡ true → (key_at r s).sender ≡ (key_at (release r a) s).sender = λ s y. sym (ap (λ (x : Key). x.sender) (same-its-key (h.as_before s y))) in
        record {
          shrunk = shrunk-then t.shrunk h;
          none_left = λ s l y k. elim (ℕ_discrete s a) [
            | yes z ↦ never y (gone s z)
            | no z ↦ t.none_left s (omega arith) (was-open h s y) (its s y ∙ k)
          ];
          others-stay = λ s y n.
              let still : busy_at r s ≡ true = t.others-stay s y n in
              let z : s ≢ a = λ z. n (sym (ap (λ (x : Key). x.sender) (same-its-key (t.shrunk.as_before s still))) ∙ subst (λ (x : ℕ). (key_at r x).sender ≡ from) (sym z) from-a) in
              left_busy r a s z ∙ still;
        }
      where
        gone : (s : ℕ) → s ≡ a → busy_at (release r a) s ≡ false
        gone s z = ap (busy_at (release r a)) z ∙ ap busy (freed r a t.shrunk.eight b)
