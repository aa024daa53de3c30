-- Cases of `typed`. Assumes nothing.
use Rattle.wire.proofs.Basics.{◌≡◌, ℕ, ◌≤◌, ◌<◌, true, false, length, eqb, eq-eqb, le-ltb, ne_eqb, lt-ltb, arith}
use Rattle.wire.proofs.Choices.{and-false}
use Rattle.lmcp.specs.Table.{Table}
use Rattle.lmcp.specs.Read.{typed}

module _ (T : Table) (t n : ℕ) where
  pub typed-low : n < 1 → false ≡ typed T t n
  unfolding typed
  typed-low h = simp (le-ltb 0 n (omega arith))

  pub typed-high : length T.types ≤ n → false ≡ typed T t n
  unfolding typed
  typed-high h = simp (le-ltb n (length T.types) h, and-false)

  module _ (l : 1 ≤ n) (u : n < length T.types) where
    pub typed_any : t ≡ 0 → true ≡ typed T t n
    unfolding typed
    typed_any e = simp (lt-ltb 0 n l, lt-ltb n (length T.types) u, eq-eqb t 0 e)

    pub typed-declared : (t ≡ 0 → ⊥) → eqb n t ≡ typed T t n
    unfolding typed
    typed-declared e = simp (lt-ltb 0 n l, lt-ltb n (length T.types) u, ne_eqb t 0 e)
