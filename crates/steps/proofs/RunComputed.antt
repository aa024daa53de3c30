-- A run is computed without counting the ledger's numbers at each call, since no call alters how many there are. The worked cases are computed so.
use Rattle.wire.proofs.Basics.{◌∙◌, ◌≡◌, ap, refl, ℕ, List, [], ◌∷◌, length, set}
use Rattle.wire.specs.Choice.{pick}
use Rattle.wire.proofs.Choices.{pick_all}
use Rattle.datagram.specs.Limits.{max_fragments}
use Rattle.datagram.specs.Said.{Fragment, said}
use Rattle.steps.specs.Memory.{Key}
use Rattle.steps.specs.Slots.{Slot, slot_at, seat, opening, filled, all_held_lem, Emptied, Nobody}
use Rattle.steps.specs.Receive.{Machine, After, Refused, stay, Verdict, refuse, again, deliver, join, begin, step5, act, receive, sound, step}
use Rattle.steps.specs.Runs.{World, world_of, Arrival, call, run}
use Rattle.steps.proofs.Stores.{length-ledger}

-- ---- how long the ledger is stays

pub step5-ledger : (m : Machine) (slots : List Slot) (store ledger : List ℕ) (gone : Emptied) (s : ℕ) (f : Fragment)
    → length (step5 m slots store ledger gone s f).ledger ≡ length ledger
unfolding step5
step5-ledger m slots store ledger gone s f =
    pick_all (λ (a : After). length a.ledger ≡ length ledger) (all_held_lem (filled (slot_at slots s) f)) (λ z. length-ledger ledger s f) (λ z. length-ledger ledger s f)

act-ledger : (m : Machine) (store ledger : List ℕ) (k : Key) (v : Verdict) → length (act m store ledger k v).ledger ≡ length ledger
unfolding act stay
act-ledger m store ledger k (refuse n) = refl
act-ledger m store ledger k again = refl
act-ledger m store ledger k (deliver name n) = refl
act-ledger m store ledger k (join s f) = step5-ledger m m.slots store ledger Nobody s f
act-ledger m store ledger k (begin f) =
    step5-ledger m (set (seat m.slots).slots (seat m.slots).at (opening (seat m.slots).slots k f)) store ledger (seat m.slots).emptied (seat m.slots).at f

call-ledger : (w : World) (x : Arrival) → length (call w x).ledger ≡ length w.ledger
unfolding step receive stay
call-ledger w x =
    pick_all (λ (a : After). length a.ledger ≡ length w.ledger) (sound w.machine (length w.store) (length w.ledger))
    (λ z. act-ledger w.machine w.store w.ledger _ _) (λ z. refl)

-- ---- a run whose ledger has n numbers

abbrev call_at : ℕ → World → Arrival → After
call_at n w x =
    pick (sound w.machine (length w.store) n)
    (receive w.machine w.store w.ledger x.sender (said w.machine.slot_size_lem max_fragments x.datagram))
    (stay w.machine w.store w.ledger (Refused 9))

unfoldable pub run_at : ℕ → World → List Arrival → List After
run_at n w [] = []
run_at n w (x ∷ xs) = let a : After = call_at n w x in a ∷ run_at n (world_of a) xs

call-at : (n : ℕ) (w : World) (x : Arrival) → length w.ledger ≡ n → call w x ≡ call_at n w x
unfolding step
call-at n w x e = λ i. call_at (e i) w x

pub run-at : (n : ℕ) (w : World) → length w.ledger ≡ n → (xs : List Arrival) → run w xs ≡ run_at n w xs
unfolding run run_at
run-at n w e [] = refl
run-at n w e (x ∷ xs) =
    ap (λ (l : List After). call w x ∷ l) (run-at n (world_of (call w x)) (call-ledger w x ∙ e) xs)
    ∙ ap (λ (a : After). a ∷ run_at n (world_of a) xs) (call-at n w x e)
