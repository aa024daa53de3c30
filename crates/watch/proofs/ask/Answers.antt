-- What a sender's number says. Assumes nothing.
use Rattle.wire.proofs.Basics.{◌∙◌, sym, ap}
use mir.Syntax.{w32}
use Rattle.std.proofs.lemmas.Int.{to_z-of_z}
use Rattle.differences.specs.Difference.{told}
use Rattle.watch.proofs.WatchCases.{asked_claims, asked-known, asked-new, asked-full}
use Rattle.watch.proofs.ask.Goals as goal

pub returns-then-count-gt-SENDERS : goal.returns-then-count-gt-SENDERS
returns-then-count-gt-SENDERS c = let a = c.args in sym (asked_claims a.w a.sender a.number c.if-count-gt-SENDERS.true)

pub returns-then-at-count : goal.returns-then-at-count
returns-then-at-count c =
    let a = c.args in
    let d = c.sequence_difference in
    c.tell.ensures
    ∙ ap (told a.number) (to_z-of_z w32 d.result (record { sfits = d.type_inv }) ∙ d.ensures)
    ∙ sym (asked-known a.w a.sender a.number c.find-at.result c.if-count-gt-SENDERS.false c.find-at.ensures c.if-at-count.true)

pub returns-then-at-lt-SENDERS : goal.returns-then-at-lt-SENDERS
returns-then-at-lt-SENDERS c =
    let a = c.args in
    sym (asked-new a.w a.sender a.number c.find-at.result c.if-count-gt-SENDERS.false c.find-at.ensures c.if-at-count.false c.if-at-lt-SENDERS.true)

pub returns : goal.returns
returns c =
    let a = c.args in
    sym (asked-full a.w a.sender a.number c.find-at.result c.if-count-gt-SENDERS.false c.find-at.ensures c.if-at-count.false c.if-at-lt-SENDERS.false)
