-- `cutter::Message::plan` meets its contract. Assumes nothing.
use Rattle.wire.proofs.Basics.{le-ltb, lt-ltb, le-leb, lt-leb}
use Rattle.cutter.specs.Cut.{plan_of}
use Rattle.cutter.proofs.Message.plan.Goals as goal

pub returns-then-self-gt-MAX_PAYLOAD : goal.returns-then-self-gt-MAX_PAYLOAD
unfolding plan_of
returns-then-self-gt-MAX_PAYLOAD c = rw (lt-ltb _ _ c.if-self-gt-MAX_PAYLOAD.true)

pub returns-then-n : goal.returns-then-n
unfolding plan_of
returns-then-n c =
    rw (le-ltb _ _ c.if-self-gt-MAX_PAYLOAD.false, lt-ltb _ _ (rw c.count-n.ensures at c.if-n.true))

pub returns-then-n-index : goal.returns-then-n-index
unfolding plan_of
returns-then-n-index c =
    let n = c.count-n.ensures in
    rw (le-ltb _ _ c.if-self-gt-MAX_PAYLOAD.false, le-ltb _ _ (rw n at c.if-n.false), le-leb _ _ (rw n at c.if-n-index.true))

pub returns-then-room-len : goal.returns-then-room-len
unfolding plan_of
returns-then-room-len c =
    let n = c.count-n.ensures in
    rw (
      le-ltb _ _ c.if-self-gt-MAX_PAYLOAD.false,
      le-ltb _ _ (rw n at c.if-n.false),
      lt-leb _ _ (rw n at c.if-n-index.false),
      lt-ltb _ _ (rw c.length-len.ensures at c.if-room-len.true),
    )

pub returns : goal.returns
unfolding plan_of
returns c =
    let n = c.count-n.ensures in
    let l = c.length-len.ensures in
    rw (
      le-ltb _ _ c.if-self-gt-MAX_PAYLOAD.false,
      le-ltb _ _ (rw n at c.if-n.false),
      lt-leb _ _ (rw n at c.if-n-index.false),
      le-ltb _ _ (rw l at c.if-room-len.false),
      n,
      l,
    )
