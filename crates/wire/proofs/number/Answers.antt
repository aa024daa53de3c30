use Rattle.wire.proofs.Basics.{◌∙◌, ◌≡◌, ap, refl, subst, ℕ, ◌<◌, ◌^◌, min, drop, arith}
use Rattle.wire.specs.Bytes.{be}
use Rattle.wire.proofs.Numbers.{be-turn, pow-turn, fits-turn}
use Rattle.wire.proofs.number.Goals as goal

pub loop-i-init : goal.loop-i-init
unfolding be
loop-i-init c = (refl, omega arith)

pub overflow_mul-v : goal.overflow_mul-v
overflow_mul-v c = omega (arith, fits-turn c.loop-i.i c.loop-i.v (omega arith) c.loop-i.invariant.1)

pub overflow_add-v : goal.overflow_add-v
overflow_add-v c = omega (arith, c.byte_at.ensures.1, fits-turn c.loop-i.i c.loop-i.v (omega arith) c.loop-i.invariant.1)

pub loop-i-preserved : goal.loop-i-preserved
loop-i-preserved c =
    let inv = c.loop-i.invariant in
    let a = c.args in (
      be-turn a.s.now a.at _ _ _ inv.0 c.byte_at.ensures.0,
      pow-turn _ _ _ inv.1 c.byte_at.ensures.1,
    )

pub returns : goal.returns
returns c =
    let inv = c.loop-i.invariant in
    let a = c.args in
    let e : c.loop-i.i ≡ min a.k 8 = omega arith in
    record {
      value = inv.0 ∙ ap (λ (j : ℕ). be j (drop a.at a.s.now)) e;
      fits = subst (λ (j : ℕ). c.loop-i.v < 256 ^ j) e inv.1;
    }
