-- What is wrong with message blocks, by what the walk found; and the types by their letters. Assumes nothing.
use Rattle.wire.proofs.Basics.{◌∙◌, sym, ◌≡◌, ap, refl, ℕ, List, true, false, some, none, Option, arith}
use Rattle.std.proofs.Common.{Ok, Err}
use Rattle.refusals.specs.declared.Refusal.{Refusal}
use Rattle.refusals.specs.declared.Refusal.TheVariants.{BlocksDoNotFill}
use Rattle.refusals.specs.Numbers.{number_of}
use Rattle.moss.specs.Blocks.{nothing_in}
use Rattle.moss.specs.Packet.{known_kind, carried, fill_fault, block_fault_lem}
use Rattle.moss.specs.Answers.{letter_of}
use Rattle.moss.specs.InsideWalk.{start, walked}
use Rattle.moss.specs.declared.Trail.{Trail}
use Rattle.moss.specs.declared.Kind.{Kind}
use Rattle.moss.specs.declared.Kind.TheVariants.{Data, Heartbeat, End}

pub known-letter : (kind : Kind) → known_kind (letter_of kind) ≡ true
known-letter Data = refl
known-letter Heartbeat = refl
known-letter End = refl

-- a type has one letter
pub one-letter : (x y : Kind) → letter_of x ≡ letter_of y → x ≡ y
one-letter Data Data e = refl
one-letter Heartbeat Heartbeat e = refl
one-letter End End e = refl
one-letter Data Heartbeat e = absurd (omega (arith, e))
one-letter Data End e = absurd (omega (arith, e))
one-letter Heartbeat Data e = absurd (omega (arith, e))
one-letter Heartbeat End e = absurd (omega (arith, e))
one-letter End Data e = absurd (omega (arith, e))
one-letter End Heartbeat e = absurd (omega (arith, e))

-- H and E carry nothing
pub carries-none : (kind : Kind) (b : List ℕ) → (kind ≡ Data → ⊥) → carried (letter_of kind) b ≡ nothing_in b
carries-none Data b h = absurd (h refl)
carries-none Heartbeat b h = refl
carries-none End b h = refl

pub broken-is : (t : Trail) (n at : ℕ) (o : Option (List (List ℕ))) (r : Refusal) → walked t n at o ≡ Err r → (o ≡ none) × (r ≡ BlocksDoNotFill)
broken-is t n at none r e = (refl, cc)
broken-is t n at (some ms) r e = absurd (let z : ◌≡◌ {A = ℕ} 0 1 = cc in omega arith)

fill-broken : (o : Option (List (List ℕ))) (r : Refusal) → walked start 0 0 o ≡ Err r → fill_fault o ≡ number_of r
fill-broken o r e = let p = broken-is start 0 0 o r e in ap fill_fault p.0 ∙ ap number_of (sym p.1)

fill-filled : (o : Option (List (List ℕ))) (t : Trail) → walked start 0 0 o ≡ Ok t → fill_fault o ≡ 0
fill-filled none t e = absurd (let z : ◌≡◌ {A = ℕ} 0 1 = cc in omega arith)
fill-filled (some ms) t e = refl

pub fault-type : (letter : ℕ) (b : List ℕ) → known_kind letter ≡ false → block_fault_lem letter b ≡ 52
unfolding block_fault_lem
fault-type letter b h = rw h

module _ (letter : ℕ) (b : List ℕ) (kind : Kind) (is : letter_of kind ≡ letter) where
  known : known_kind letter ≡ true
  known = ap known_kind (sym is) ∙ known-letter kind

  pub fault-broken : (r : Refusal) → walked start 0 0 (carried (letter_of kind) b) ≡ Err r → block_fault_lem letter b ≡ number_of r
  unfolding block_fault_lem
  fault-broken r e = rw (known, ← is) (fill-broken (carried (letter_of kind) b) r e)

  pub fault-filled : (t : Trail) → walked start 0 0 (carried (letter_of kind) b) ≡ Ok t → block_fault_lem letter b ≡ 0
  unfolding block_fault_lem
  fault-filled t e = rw (known, ← is) (fill-filled (carried (letter_of kind) b) t e)
