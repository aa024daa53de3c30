-- Laws of message blocks: one turn of the walk. Assumes nothing.
use Rattle.wire.proofs.Basics.{◌∙◌, sym, ◌≡◌, ap, refl, ℕ, ◌≤◌, ◌+◌, ◌<◌, ◌-◌, suc, zero, List, [], ◌∷◌, some, none, Option, length, drop, length-drop, drop_of_length-le}
use Rattle.wire.proofs.Basics.{length-take-le, drop-drop, le-ltb, lt-ltb, arith}
use Rattle.wire.specs.Choice.{pick}
use Rattle.wire.specs.Bytes.{be}
use Rattle.moss.specs.Blocks.{is_cut, first_message, behind, before, nothing_in, messages_within, messages_in}
use Rattle.moss.specs.InsideWalk.{past, walked}
use Rattle.moss.specs.declared.Trail.{Trail}
use Rattle.std.proofs.Common.{Ok, Err}
use Rattle.refusals.specs.declared.Refusal.TheVariants.{BlocksDoNotFill}

-- any number of turns that is enough gives the same
pub same-turns : (s t : ℕ) (b : List ℕ) → length b ≤ s → length b ≤ t → messages_within s b ≡ messages_within t b
unfolding messages_within
same-turns zero zero [] h l = refl
same-turns zero (suc t) [] h l = refl
same-turns (suc s) zero [] h l = refl
same-turns (suc s) (suc t) [] h l = refl
same-turns zero t (x ∷ b) h l = absurd (let z : ⊥ = omega arith in z)
same-turns (suc s) zero (x ∷ b) h l = absurd (let z : ⊥ = omega arith in z)
same-turns (suc s) (suc t) (x ∷ b) h l =
    let d : length (behind (x ∷ b)) ≡ length (x ∷ b) - (2 + be 2 (x ∷ b)) = length-drop (2 + be 2 (x ∷ b)) (x ∷ b) in
    ap (λ (o : Option (List (List ℕ))). pick (is_cut (x ∷ b)) none (before (first_message (x ∷ b)) o)) (same-turns s t (behind (x ∷ b)) (omega arith) (omega arith))

-- a block at the front: its message, then those behind it
pub messages-next : (b : List ℕ) → 0 < length b → 2 + be 2 b ≤ length b → messages_in b ≡ before (first_message b) (messages_in (behind b))
unfolding messages_within
messages-next [] h l = absurd (let z : ⊥ = omega arith in z)
messages-next (x ∷ b) h l =
    let d : length (behind (x ∷ b)) ≡ length (x ∷ b) - (2 + be 2 (x ∷ b)) = length-drop (2 + be 2 (x ∷ b)) (x ∷ b) in
    rw (le-ltb (length (x ∷ b)) (2 + be 2 (x ∷ b)) l)
    (ap (before (first_message (x ∷ b))) (same-turns (length b) (length (behind (x ∷ b))) (behind (x ∷ b)) (omega arith) (omega arith)))

-- a block that is cut
pub messages-cut : (b : List ℕ) → 0 < length b → length b < 2 + be 2 b → messages_in b ≡ none
unfolding messages_within
messages-cut [] h l = absurd (let z : ⊥ = omega arith in z)
messages-cut (x ∷ b) h l = rw (lt-ltb (length (x ∷ b)) (2 + be 2 (x ∷ b)) l)

pub messages-none : messages_in [] ≡ some []
unfolding messages_within
messages-none = refl

-- ---- the walk

walked-before : (t : Trail) (n at k : ℕ) (m : List ℕ) (o : Option (List (List ℕ))) → length m ≡ k
    → walked t n at (before m o) ≡ walked (past t n at k) n (at + (2 + k)) o
walked-before t n at k m none e = refl
walked-before t n at k m (some ms) e = rw (← e) refl

module _ (s : List ℕ) (t : Trail) (n at : ℕ) (inside : at < length s) where
  -- what is left of s
  some_left : 0 < length (drop at s)
  some_left = rw (length-drop at s) (omega arith)

  pub walk-next : (k : ℕ) → k ≡ be 2 (drop at s) → 2 + k ≤ length s - at
      → walked t n at (messages_in (drop at s)) ≡ walked (past t n at k) n (at + (2 + k)) (messages_in (drop (at + (2 + k)) s))
  walk-next k e h =
      let b : List ℕ = drop at s in
      let long : length b ≡ length s - at = length-drop at s in
      let fits : 2 + be 2 b ≤ length b = omega arith in
      let size : length (first_message b) ≡ k = length-take-le (be 2 b) (drop 2 b) (rw (length-drop 2 b) (omega arith)) ∙ sym e in
      let rest : behind b ≡ drop (at + (2 + k)) s = ap (λ (j : ℕ). drop (2 + j) b) (sym e) ∙ drop-drop (2 + k) at s in
      ap (walked t n at) (messages-next b some_left fits)
      ∙ walked-before t n at k (first_message b) (messages_in (behind b)) size
      ∙ ap (λ (l : List ℕ). walked (past t n at k) n (at + (2 + k)) (messages_in l)) rest

  pub walk-broken : (k : ℕ) → k ≡ be 2 (drop at s) → length s - at < 2 + k → walked t n at (messages_in (drop at s)) ≡ Err BlocksDoNotFill
  walk-broken k e h =
      let long : length (drop at s) ≡ length s - at = length-drop at s in
      ap (walked t n at) (messages-cut (drop at s) some_left (omega arith))

pub walk_end : (s : List ℕ) (t : Trail) (n at : ℕ) → length s ≤ at → walked t n at (messages_in (drop at s)) ≡ Ok t
walk_end s t n at h = ap (λ (l : List ℕ). walked t n at (messages_in l)) (drop_of_length-le s h) ∙ ap (walked t n at) messages-none

-- ---- what H and E carry

pub nothing-inside : (b : List ℕ) → 0 < length b → nothing_in b ≡ none
nothing-inside [] h = absurd (let z : ⊥ = omega arith in z)
nothing-inside (x ∷ b) h = refl

pub nothing-at-end : (s : List ℕ) (at : ℕ) → length s ≤ at → nothing_in (drop at s) ≡ some []
nothing-at-end s at h = ap nothing_in (drop_of_length-le s h)
