use Rattle.wire.proofs.Basics.{◌∙◌, sym, ◌≡◌, ap, ℕ, ◌∷◌, ◌&&◌, true, length, get_or, drop, arith}
use Rattle.ack_writer.specs.Write.{rising, one_block, blocks_of}
use Rattle.ack_writer.proofs.Runs.{rising-start, rising-on, rising_breaks, rising-end, blocks_start, run_on, run_breaks, run_ends}
use Rattle.ack_writer.proofs.run_from.Goals as goal

pub loop-i-init : goal.loop-i-init
loop-i-init c =
    let a = c.args in
    (omega arith, (omega arith, (rising-start a.list.now a.from (omega arith), blocks_start a.list.now a.from (omega arith))))

pub returns-then-not-follows : goal.returns-then-not-follows
returns-then-not-follows c =
    let a = c.args in
    let l = c.loop-i in
    record {
      after = l.invariant.0;
      inside = l.invariant.1.0;
      rise = l.invariant.1.1.0 ∙ rising_breaks a.list.now l.last l.i c.loop-i-test.true;
      blocks = l.invariant.1.1.1 ∙ run_breaks a.list.now _ l.last l.i c.loop-i-test.true (sym c.follows.ensures ∙ c.if-not-follows.true);
    }

pub loop-i-preserved : goal.loop-i-preserved
loop-i-preserved c =
    let a = c.args in
    let l = c.loop-i in
    let h = c.loop-i-test.true in
    let f = sym c.follows.ensures ∙ c.if-not-follows.false in (
      omega arith,
      (omega arith, (l.invariant.1.1.0 ∙ rising-on a.list.now l.last l.i h f, l.invariant.1.1.1 ∙ run_on a.list.now _ l.last l.i h f)),
    )

pub returns : goal.returns
returns c =
    let a = c.args in
    let l = c.loop-i in
    let e : l.i ≡ length a.list.now = omega (arith, l.invariant.1.0, c.loop-i-test.false) in
    record {
      after = omega (arith, e, l.invariant.0);
      inside = omega arith;
      rise = l.invariant.1.1.0 ∙ rising-end a.list.now l.last l.i c.loop-i-test.false ∙ ap (λ (k : ℕ). true && rising (drop k a.list.now)) e;
      blocks = l.invariant.1.1.1 ∙ run_ends a.list.now _ l.last l.i c.loop-i-test.false ∙ ap (λ (k : ℕ). one_block (get_or a.list.now a.from 0) l.last ∷ blocks_of (drop k a.list.now)) e;
    }
