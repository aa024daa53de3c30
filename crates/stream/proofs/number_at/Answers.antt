-- A number of at most 4 bytes. Assumes nothing.
use Rattle.wire.proofs.Basics.{◌∙◌, ◌≡◌, ap, subst, ℕ, ◌≤◌, ◌<◌, ◌^◌, min, drop, pow-le-pow_right, arith}
use native.Mathlib.Nat.{lt_of_lt_of_le}
use Rattle.wire.specs.Bytes.{be}
use Rattle.stream.proofs.number_at.Goals as goal

pub returns : goal.returns
returns c =
    let n = c.number.ensures in
    let k = c.args.k in
    let e : min k 8 ≡ k = omega arith in
    let m : 256 ^ k ≤ 256 ^ 4 = pow-le-pow_right (omega arith) c.requires in (
      n.value ∙ ap (λ (j : ℕ). be j (drop c.args.at c.args.b.now)) e,
      lt_of_lt_of_le (subst (λ (j : ℕ). c.number.result < 256 ^ j) e n.fits) m,
    )
