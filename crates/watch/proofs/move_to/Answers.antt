-- A sender's watch moves to a number. Assumes nothing.
use Rattle.wire.proofs.Basics.{sym}
use Rattle.watch.proofs.WatchCases.{moved_claims, moved-full, moved-known, moved_new}
use Rattle.watch.proofs.move_to.Goals as goal

pub returns-then-count-gt-SENDERS : goal.returns-then-count-gt-SENDERS
returns-then-count-gt-SENDERS c = let a = c.args in sym (moved_claims a.w a.sender a.number c.if-count-gt-SENDERS.true)

pub returns-then-at-ge-SENDERS : goal.returns-then-at-ge-SENDERS
returns-then-at-ge-SENDERS c =
    let a = c.args in
    sym (moved-full a.w a.sender a.number c.find-at.result c.if-count-gt-SENDERS.false c.find-at.ensures c.if-at-ge-SENDERS.true)

pub returns-then-count-at : goal.returns-then-count-at
returns-then-count-at c =
    let a = c.args in
    sym (moved_new a.w a.sender a.number c.find-at.result c.if-count-gt-SENDERS.false c.find-at.ensures c.if-at-ge-SENDERS.false c.if-count-at.true)

pub returns-else-count-at : goal.returns-else-count-at
returns-else-count-at c =
    let a = c.args in
    sym (moved-known a.w a.sender a.number c.find-at.result c.if-count-gt-SENDERS.false c.find-at.ensures c.if-at-ge-SENDERS.false c.if-count-at.false)
