-- No second answer satisfies a contract of this crate. Assumes nothing.
use Rattle.wire.proofs.Basics.{◌∙◌, sym, ◌≡◌, ℕ, List}
use Rattle.wire.specs.Bytes.{Number}

-- Every contract of the form `r ≡ definition inputs`, here and in the crates above, allows one answer: any two that satisfy it are the same.
pub one_answer {ℓ} : {X : Type ℓ} {given : X} (r s : X) → r ≡ given → s ≡ given → r ≡ s
one_answer r s p q = p ∙ sym q

pub number-once : {b : List ℕ} {at k : ℕ} (r s : ℕ) → Number b at k r → Number b at k s → r ≡ s
number-once r s p q = one_answer r s p.value q.value
