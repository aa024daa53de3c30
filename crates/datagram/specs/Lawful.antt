-- Lawful cutting, in document 01's words. Definition only.
use Rattle.std.specs.Prelude.{◌≡◌, List, ℕ, ◌+◌, ◌<◌, length}
use Rattle.datagram.specs.Said.{Fragment, fragment, said}

-- The datagrams d 0 to d (n - 1), at least one, are one message, lawfully cut: fragments 0 to n - 1 each have good form, with the same sequence, P and n,
-- and each begins where the one before ends.
pub record LawfullyCut (max_size_lem max_count_lem n : ℕ) (d : ℕ → List ℕ) : Type 0 where
  pub at_least_one : 0 < n
  pub sequence : ℕ
  pub size : ℕ
  pub piece : ℕ → Fragment
  pub good : (k : ℕ) → k < n → said max_size_lem max_count_lem (d k) ≡ fragment (piece k)
  pub numbers : (k : ℕ) → k < n → (piece k).number ≡ k
  pub sequences : (k : ℕ) → k < n → (piece k).sequence ≡ sequence
  pub sizes : (k : ℕ) → k < n → (piece k).size ≡ size
  pub counts : (k : ℕ) → k < n → (piece k).count ≡ n
  pub follows : (k : ℕ) → k + 1 < n → (piece (k + 1)).offset ≡ (piece k).offset + length (piece k).bytes
