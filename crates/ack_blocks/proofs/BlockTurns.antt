-- The walk over the blocks, a turn at a time. Assumes nothing.
use Rattle.wire.proofs.Basics.{◌∙◌, ◌≡◌, ap, refl, ℕ, ◌≤◌, ◌+◌, ◌<◌, ◌-◌, suc, zero, List, [], ◌∷◌, true, false, Bool, ◌||◌, length, drop, length-drop, drop_of_length-le, drop-drop, eq-eqb, le-ltb}
use Rattle.wire.proofs.Basics.{ne_eqb, lt-ltb, arith}
use Rattle.wire.proofs.Choices.{or-false}
use Rattle.ack_blocks.specs.Limits.{max_blocks}
use Rattle.ack_blocks.specs.Blocks.{Block, has, acknowledges}
use Rattle.ack_blocks.specs.Read.{Given, gives, refuses, size_in, block_in, fault_in, before, first_then, blocks_within, blocks_in, told, asked}
use Rattle.wire.specs.Choice.{pick}
use Rattle.wire.proofs.Basics.{eqb, eqb-true, eqb-false}
use Rattle.ack_blocks.specs.InsideWalk.{judged, also}
use Rattle.ack_blocks.proofs.BlockCases.{size-some}

-- any number of turns that is enough gives the same
pub same-turns : (s t : ℕ) (b : List ℕ) → length b ≤ s → length b ≤ t → blocks_within s b ≡ blocks_within t b
unfolding blocks_within
same-turns zero zero [] h l = refl
same-turns zero (suc t) [] h l = refl
same-turns (suc s) zero [] h l = refl
same-turns (suc s) (suc t) [] h l = refl
same-turns zero t (x ∷ b) h l = absurd (let z : ⊥ = omega arith in z)
same-turns (suc s) zero (x ∷ b) h l = absurd (let z : ⊥ = omega arith in z)
same-turns (suc s) (suc t) (x ∷ b) h l =
    let k : ℕ = size_in (x ∷ b) in
    let p : 0 < k = size-some (x ∷ b) in
    let d : length (drop k (x ∷ b)) ≡ length (x ∷ b) - k = length-drop k (x ∷ b) in
    ap (first_then (x ∷ b)) (same-turns s t (drop k (x ∷ b)) (omega arith) (omega arith))

-- a block at the front, then those behind it; or what is wrong with it
pub blocks-next : (b : List ℕ) → 0 < length b → fault_in b ≡ 0 → blocks_in b ≡ before (block_in b) (blocks_in (drop (size_in b) b))
unfolding blocks_within
blocks-next [] h e = absurd (let z : ⊥ = omega arith in z)
blocks-next (x ∷ b) h e =
    let k : ℕ = size_in (x ∷ b) in
    let p : 0 < k = size-some (x ∷ b) in
    let d : length (drop k (x ∷ b)) ≡ length (x ∷ b) - k = length-drop k (x ∷ b) in
    rw (eq-eqb (fault_in (x ∷ b)) 0 e)
    (ap (before (block_in (x ∷ b))) (same-turns (length b) (length (drop k (x ∷ b))) (drop k (x ∷ b)) (omega arith) (omega arith)))

pub blocks-bad : (b : List ℕ) → 0 < length b → (fault_in b ≡ 0 → ⊥) → blocks_in b ≡ refuses (fault_in b)
unfolding blocks_within
blocks-bad [] h e = absurd (let z : ⊥ = omega arith in z)
blocks-bad (x ∷ b) h e = rw (ne_eqb (fault_in (x ∷ b)) 0 e)

pub blocks_end : blocks_in [] ≡ gives []
unfolding blocks_within
blocks_end = refl

-- ---- the question

pub also-none : (g : Given Bool) → g ≡ also false g
also-none (gives x) = refl
also-none (refuses k) = refl

or_assoc : (a b c : Bool) → (a || (b || c)) ≡ ((a || b) || c)
or_assoc true b c = refl
or_assoc false b c = refl

also-before : (f : Bool) (n : ℕ) (k : Block) (g : Given (List Block)) → also f (told n (before k g)) ≡ also (f || has k n) (told n g)
also-before f n k (refuses number) = refl
also-before f n k (gives bs) = ap gives (or_assoc f (has k n) (acknowledges bs n))

module _ (s : List ℕ) (f : Bool) (n at : ℕ) (inside : at < length s) where
  some_left : 0 < length (drop at s)
  some_left = rw (length-drop at s) (omega arith)

  pub walk-next : fault_in (drop at s) ≡ 0
      → also f (told n (blocks_in (drop at s))) ≡ also (f || has (block_in (drop at s)) n) (told n (blocks_in (drop (at + size_in (drop at s)) s)))
  walk-next e =
      ap (λ (g : Given (List Block)). also f (told n g)) (blocks-next (drop at s) some_left e)
      ∙ also-before f n (block_in (drop at s)) (blocks_in (drop (size_in (drop at s)) (drop at s)))
      ∙ ap (λ (l : List ℕ). also (f || has (block_in (drop at s)) n) (told n (blocks_in l))) (drop-drop (size_in (drop at s)) at s)

  pub walk-bad : (fault_in (drop at s) ≡ 0 → ⊥) → also f (told n (blocks_in (drop at s))) ≡ refuses (fault_in (drop at s))
  walk-bad e = ap (λ (g : Given (List Block)). also f (told n g)) (blocks-bad (drop at s) some_left e)

pub walk_end : (s : List ℕ) (f : Bool) (n at : ℕ) → length s ≤ at → also f (told n (blocks_in (drop at s))) ≡ gives f
walk_end s f n at h =
    ap (λ (l : List ℕ). also f (told n (blocks_in l))) (drop_of_length-le s h)
    ∙ ap (λ (g : Given (List Block)). also f (told n g)) blocks_end
    ∙ ap gives (or-false f)

pub asked-long : (b : List ℕ) (n : ℕ) → max_blocks < length b → asked b n ≡ refuses 77
unfolding asked
asked-long b n h = rw (lt-ltb max_blocks (length b) h)

pub asked-fits : (b : List ℕ) (n : ℕ) → length b ≤ max_blocks → asked b n ≡ told n (blocks_in b)
unfolding asked
asked-fits b n h = rw (le-ltb max_blocks (length b) h)

-- ---- what is wrong with a block, or nothing

pub judged-good : (fault : ℕ) → gives tt ≡ judged fault → fault ≡ 0
judged-good fault e = by-test (eqb fault 0) refl e
  where
    by-test : (b : Bool) → eqb fault 0 ≡ b → ◌≡◌ {A = Given (Unit {0})} (gives tt) (pick b (gives tt) (refuses fault)) → fault ≡ 0
    by-test true h q = eqb-true fault 0 h
    by-test false h q = absurd (let z : ◌≡◌ {A = ℕ} 0 1 = cc in omega arith)

pub judged-bad : (number fault : ℕ) → refuses number ≡ judged fault → (number ≡ fault) × (fault ≡ 0 → ⊥)
judged-bad number fault e = by-test (eqb fault 0) refl e
  where
    by-test : (b : Bool) → eqb fault 0 ≡ b → ◌≡◌ {A = Given (Unit {0})} (refuses number) (pick b (gives tt) (refuses fault)) → (number ≡ fault) × (fault ≡ 0 → ⊥)
    by-test true h q = absurd (let z : ◌≡◌ {A = ℕ} 0 1 = cc in omega arith)
    by-test false h q = (cc, eqb-false fault 0 h)
