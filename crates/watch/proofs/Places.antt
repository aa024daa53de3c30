-- Laws of a sender's place in a list. Assumes nothing.
use Rattle.wire.proofs.Basics.{◌∙◌, ◌≡◌, ap, refl, ℕ, ◌≤◌, ◌+◌, ◌<◌, suc, List, [], ◌∷◌, ◌++◌, true, false, Bool, length, get_or, eqb, eq-eqb, eqb-true}
use Rattle.wire.proofs.Basics.{arith}
use Rattle.std.specs.Prelude.{◌==◌, cond, not, nat_lt, Some, None, position}
use Rattle.std.specs.List.{position_or_len}
use Rattle.wire.proofs.Basics.{le-ltb, lt-ltb}
use native.Mathlib.Decide.{dec_lt}
use Rattle.std.specs.Option.{unwrap_or}
use Rattle.wire.specs.Choice.{pick}
use Rattle.watch.specs.Senders.{place}

-- the place is where a search from the front comes to
place-first : (sender : ℕ) (l : List ℕ) → position_or_len (λ s. s == sender) l ≡ place sender l
place-first sender [] = refl
place-first sender (s ∷ l) = by-test (eqb s sender) (place-first sender l)
  where
    by-test : (t : Bool) → position_or_len (λ x. x == sender) l ≡ place sender l
        → cond (not t) (1 + position_or_len (λ x. x == sender) l) 0 ≡ pick t 0 (suc (place sender l))
    by-test true h = refl
    by-test false h = omega (arith, h)

place-le-by : (t : Bool) (n m : ℕ) → n ≤ m → pick t 0 (suc n) ≤ suc m
place-le-by true n m h = omega arith
place-le-by false n m h = omega arith

pub place-le : (sender : ℕ) (l : List ℕ) → place sender l ≤ length l
place-le sender [] = omega arith
place-le sender (s ∷ l) = place-le-by (eqb s sender) (place sender l) (length l) (place-le sender l)

place-at-by : (sender s : ℕ) (l : List ℕ) (t : Bool) → eqb s sender ≡ t → (place sender l < length l → get_or l (place sender l) 0 ≡ sender)
    → pick t 0 (suc (place sender l)) < suc (length l) → get_or (s ∷ l) (pick t 0 (suc (place sender l))) 0 ≡ sender
place-at-by sender s l true e f h = eqb-true s sender e
place-at-by sender s l false e f h = f (omega arith)

-- a sender that has a place stands there
pub place_at_lem : (sender : ℕ) (l : List ℕ) → place sender l < length l → get_or l (place sender l) 0 ≡ sender
place_at_lem sender [] h = absurd (let z : 0 < 0 = h in omega arith)
place_at_lem sender (s ∷ l) h = place-at-by sender s l (eqb s sender) refl (place_at_lem sender l) h

-- a new sender at the end of the list stands there
place-new-by : (t : Bool) (n m k : ℕ) → pick t 0 (suc n) ≡ suc m → (n ≡ m → k ≡ m) → pick t 0 (suc k) ≡ suc m
place-new-by true n m k e f = e
place-new-by false n m k e f = ap suc (f (omega arith))

pub place-new : (sender : ℕ) (l : List ℕ) → place sender l ≡ length l → place sender (l ++ sender ∷ []) ≡ length l
place-new sender [] e = rw (eq-eqb sender sender refl)
place-new sender (s ∷ l) e =
    place-new-by (eqb s sender) (place sender l) (length l) (place sender (l ++ sender ∷ [])) e (place-new sender l)

-- the place that it gives, or the list's length
or-last : (k n : ℕ) → k ≤ n → unwrap_or (cond (nat_lt k n) (Some k) None) n ≡ k
or-last k n h =
    elim (dec_lt k n) [
      | yes l ↦ rw (lt-ltb k n l) refl
      | no l ↦ rw (le-ltb k n (omega arith)) (omega arith)
    ]

pub position-place : (sender : ℕ) (l : List ℕ) (n : ℕ) → n ≡ length l → unwrap_or (position (λ s. s == sender) l) n ≡ place sender l
position-place sender l n e =
    let p = place-first sender l in
    ap (unwrap_or (position (λ s. s == sender) l)) e
    ∙ or-last (position_or_len (λ s. s == sender) l) (length l) (omega (arith, p, place-le sender l))
    ∙ p
