-- A CALL WITHIN FURTHER LIMITS is the call without them, or a refusal that alters nothing: so such calls lead to no state that calls without limits do not reach.
use Rattle.wire.proofs.Basics.{◌∙◌, sym, ◌≡◌, ap, refl, subst, ℕ, min, List, true, false, inl, inr, length, arith}
use Rattle.wire.specs.Choice.{pick}
use Rattle.wire.proofs.Choices.{either}
use Rattle.datagram.specs.Limits.{max_fragments}
use Rattle.datagram.specs.Read.{read_datagram_lem}
use Rattle.datagram.specs.Said.{Said, refused, says, said}
use Rattle.datagram.specs.Read.{Read}
use Rattle.datagram.specs.Read as read
use Rattle.datagram.proofs.Larger.{larger}
use Rattle.steps.specs.Receive.{Machine, After, Refused, stay, receive, sound, step, step_within}
use Rattle.steps.specs.Reach.{Reached, receives}
use Rattle.steps.proofs.Branches.{receive-refused}

module _ (payload fragments : ℕ) (m : Machine) (store ledger : List ℕ) (sender : ℕ) (d : List ℕ) where
  abbrev within : After
  within = step_within payload fragments m store ledger sender d

  pub data Limited : Type 0 where
    as_ever : step_within payload fragments m store ledger sender d ≡ step m store ledger sender d → Limited
    turned_away : (k : ℕ) → step_within payload fragments m store ledger sender d ≡ stay m store ledger (Refused k) → Limited

  -- where the limits let the datagram through, the call is as ever
  pub let_through_lem : said (min m.slot_size_lem payload) (min max_fragments fragments) d ≡ said m.slot_size_lem max_fragments d
      → step_within payload fragments m store ledger sender d ≡ step m store ledger sender d
  unfolding step_within step
  let_through_lem e = ap (λ (r : Said). pick (sound m (length store) (length ledger)) (receive m store ledger sender r) (stay m store ledger (Refused 9))) e

  unsound : sound m (length store) (length ledger) ≡ false → within ≡ stay m store ledger (Refused 9)
  unfolding step_within
  unsound e = rw e

  turned : (k : ℕ) → sound m (length store) (length ledger) ≡ true → said (min m.slot_size_lem payload) (min max_fragments fragments) d ≡ refused k → within ≡ stay m store ledger (Refused k)
  unfolding step_within
  turned k e q = rw (e, q) (receive-refused m store ledger sender k)

  pub limited : Limited
  unfolding said
  limited = go (read_datagram_lem (min m.slot_size_lem payload) (min max_fragments fragments) d) refl
    where
      go : (r : Read) → read_datagram_lem (min m.slot_size_lem payload) (min max_fragments fragments) d ≡ r → Limited
      go (read.Good h) q = as_ever (let_through_lem (ap (says d)
          (q ∙ sym (larger d (min m.slot_size_lem payload) (min max_fragments fragments) m.slot_size_lem max_fragments (omega arith) (omega arith) h q))))
      go (read.Refused k) q = elim (either (sound m (length store) (length ledger))) [
        | inl e ↦ turned_away k (turned k e (ap (says d) q))
        | inr e ↦ turned_away 9 (unsound e)
      ]

  pub within-reached : {n : ℕ} → Reached n m → Reached n (step_within payload fragments m store ledger sender d).machine
  unfolding stay
  within-reached {n} r = go limited
    where
      go : Limited → Reached n within.machine
      go (as_ever e) = subst (λ (a : After). Reached n a.machine) (sym e) (receives r store ledger sender d)
      go (turned_away k e) = subst (λ (a : After). Reached n a.machine) (sym e) r
