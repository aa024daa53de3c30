-- A state of the receiver's lengths is opened, and its receiver is then a fresh one. Assumes nothing.
use Rattle.wire.proofs.Basics.{◌∙◌, sym, ◌≡◌, ap, ℕ, List, true, Bool, some, none, length, replicate, length-replicate, eq-eqb, arith}
use Rattle.wire.specs.Choice.{pick}
use Rattle.wire.proofs.Choices.{and-of}
use Rattle.refusals.specs.Numbers.{number_of}
use Rattle.steps.specs.Receive.{Machine, opened}
use Rattle.steps.specs.Runs.{lending}
use Rattle.receiver_state.specs.View.{view, shaped, state_words_lem, name_bytes_lem}
use Rattle.receiver_state.proofs.Unique.{shaped-still}
use Rattle.receiver.specs.Lent.{lent, world_in}
use Rattle.receiver.specs.Calls.{refusal_of}
use Rattle.receiver.specs.Calls.{Call}
use Rattle.std.proofs.Common.{Err}
use Rattle.refusals.specs.declared.Refusal.{Refusal}
use Rattle.open_and_payload.specs.Ends.{Opens}

-- zeros of the receiver's lengths
pub zeros-shaped : shaped (replicate state_words_lem 0) (replicate name_bytes_lem 0) ≡ true
zeros-shaped =
    and-of _ _ (eq-eqb (length (replicate {A = ℕ} state_words_lem 0)) state_words_lem (length-replicate {A = ℕ} state_words_lem 0))
    (eq-eqb (length (replicate {A = ℕ} name_bytes_lem 0)) name_bytes_lem (length-replicate {A = ℕ} name_bytes_lem 0))

module _ (w n : List ℕ) (size : ℕ) (r : Call) (w' n' : List ℕ) (e : shaped w n ≡ true) (h : Opens w n size r w' n') where
  pub opened_view : view w' n' ≡ opened size
  opened_view = h.machine ∙ ap (λ (t : Bool). pick t (opened size) (view w n)) e

  pub opened-world : (store ledger : List ℕ) → world_in (lent w' n' store ledger) ≡ lending (opened size) store ledger
  opened-world store ledger = ap (λ (m : Machine). lending m store ledger) opened_view

  pub opened-shaped : shaped w' n' ≡ true
  opened-shaped = shaped-still w n w' n' h.words h.bytes e

  pub opened-done : (k : Refusal) → r ≡ Err k → ⊥
  opened-done k q =
      let z : some (number_of k) ≡ none = sym (ap refusal_of q) ∙ h.gave ∙ ap (λ (t : Bool). pick t none (some 9)) e in
      let y : ◌≡◌ {A = ℕ} 0 1 = cc in
      omega arith
