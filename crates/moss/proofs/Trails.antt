-- What the walk has found when it has passed all blocks: their number, and the message that was looked out for. Assumes nothing.
use Rattle.wire.proofs.Basics.{◌∙◌, sym, ◌≡◌, ap, refl, ℕ, ◌≤◌, ◌+◌, ◌<◌, suc, zero, List, [], ◌∷◌, length, eq-eqb, ne_eqb, arith}
use native.Mathlib.Decide.{dec_lt}
use Rattle.std.proofs.Common.{Some}
use Rattle.moss.specs.Packet.{refuses}
use Rattle.moss.specs.Message.{located}
use Rattle.moss.specs.InsideWalk.{start, past, past_all, pointed}
use Rattle.moss.specs.declared.Trail.{Trail}

-- the number of blocks
pub all-count : (t : Trail) (n at : ℕ) (ms : List (List ℕ)) → (past_all t n at ms).count ≡ t.count + length ms
all-count t n at [] = omega arith
all-count t n at (m ∷ ms) = omega (arith, all-count (past t n at (length m)) n (at + (2 + length m)) ms)

past-other : (t : Trail) (n at m : ℕ) → (t.count ≡ n → ⊥) → (past t n at m).found ≡ t.found
past-other t n at m h = rw (ne_eqb t.count n h)

past-this : (t : Trail) (n at m : ℕ) → t.count ≡ n → (past t n at m).found ≡ Some (record { at = at + 2; len = m })
past-this t n at m h = rw (eq-eqb t.count n h)

-- a message that was passed stays found
all-kept : (t : Trail) (n at : ℕ) (ms : List (List ℕ)) → n < t.count → (past_all t n at ms).found ≡ t.found
all-kept t n at [] h = refl
all-kept t n at (m ∷ ms) h =
    all-kept (past t n at (length m)) n (at + (2 + length m)) ms (omega arith)
    ∙ past-other t n at (length m) (λ e. omega arith)

-- message j of those that are still to be passed
all_found : (t : Trail) (n j at : ℕ) (ms : List (List ℕ)) → n ≡ t.count + j → j < length ms → located j at ms ≡ pointed (past_all t n at ms).found
all_found t n j at [] e h = absurd (let z : ⊥ = omega arith in z)
all_found t n zero at (m ∷ ms) e h =
    ap pointed (sym (all-kept (past t n at (length m)) n (at + (2 + length m)) ms (omega arith) ∙ past-this t n at (length m) (omega arith)))
all_found t n (suc j) at (m ∷ ms) e h =
    all_found (past t n at (length m)) n j (at + (2 + length m)) ms (omega arith) (omega arith)

-- a message that is not among them is not found
all-passed : (t : Trail) (n at : ℕ) (ms : List (List ℕ)) → t.count + length ms ≤ n → (past_all t n at ms).found ≡ t.found
all-passed t n at [] h = refl
all-passed t n at (m ∷ ms) h =
    all-passed (past t n at (length m)) n (at + (2 + length m)) ms (omega arith)
    ∙ past-other t n at (length m) (λ e. omega arith)

all_missed : (j at : ℕ) (ms : List (List ℕ)) → length ms ≤ j → located j at ms ≡ refuses 54
all_missed j at [] h = refl
all_missed zero at (m ∷ ms) h = absurd (let z : ⊥ = omega arith in z)
all_missed (suc j) at (m ∷ ms) h = all_missed j (at + (2 + length m)) ms (omega arith)

-- the walk points to the n-th message, or there is none
pub walk-points : (n at : ℕ) (ms : List (List ℕ)) → pointed (past_all start n at ms).found ≡ located n at ms
walk-points n at ms =
    elim (dec_lt n (length ms)) [
      | yes h ↦ sym (all_found start n n at ms (omega arith) h)
      | no h ↦ ap pointed (all-passed start n at ms (omega arith)) ∙ sym (all_missed n at ms (omega arith))
    ]
