-- The length of an array of zeros, over any length, so that no list of that many is written out.
use Rattle.wire.proofs.Basics.{sym, ◌≡◌, ℕ, length, replicate, length-replicate}

pub zeros : (n : ℕ) → n ≡ length {A = ℕ} (replicate n 0)
zeros n = sym (length-replicate {A = ℕ} n 0)
