use Rattle.wire.proofs.Basics.{◌∙◌, sym, ◌≡◌, ℕ, not-false, not-true, arith}
use Rattle.ack_writer.proofs.Runs.{room_makes}
use Rattle.ack_writer.proofs.ListTurns.{sofar-start, sofar-next, sofar-falls, sofar-room, sofar-laid}
use Rattle.ack_writer.proofs.lay.Goals as goal

pub loop-i-init : goal.loop-i-init
loop-i-init c =
    let a = c.args in
    sofar-start a.list.now a.blocks.now

pub shape_of-blocks-then-not-run : goal.shape_of-blocks-then-not-run
shape_of-blocks-then-not-run c = c.loop-i.invariant.size

pub returns-then-not-run : goal.returns-then-not-run
returns-then-not-run c =
    let a = c.args in
    let l = c.loop-i in
    let r = c.run_from-run.ensures in
    record {
      answer = sym (sofar-falls a.list.now a.blocks.now l.blocks l.at l.i _ _ a.room l.invariant r (not-true _ c.if-not-run.true));
      laid = λ n e. absurd (let z : ◌≡◌ {A = ℕ} 0 1 = cc in omega arith);
    }

pub loop-i-smaller : goal.loop-i-smaller
loop-i-smaller c = let r = c.run_from-run.ensures in omega (arith, r.after, r.inside)

pub loop-i-preserved : goal.loop-i-preserved
loop-i-preserved c =
    let a = c.args in
    let l = c.loop-i in
    let r = c.run_from-run.ensures in
    let u = not-false _ c.if-not-run.false in
    sofar-next a.list.now a.blocks.now l.blocks _ l.at l.i _ _ _ l.invariant r u c.put_next-at.ensures

pub shape_of-blocks : goal.shape_of-blocks
shape_of-blocks c = c.loop-i.invariant.size

pub returns : goal.returns
returns c =
    let a = c.args in
    let l = c.loop-i in
    let e = c.loop-i-test.false in
    let r = c.room_for.ensures in
    record {
      answer = r ∙ sofar-room a.list.now a.blocks.now l.blocks l.at l.i l.invariant e a.room;
      laid = λ n g. sofar-laid a.list.now a.blocks.now l.blocks l.at l.i l.invariant e (room_makes l.at a.room n (sym r ∙ g)).fits;
    }
