-- What a record is answered. Assumes nothing.
use Rattle.wire.proofs.Basics.{◌∙◌, sym, ◌-◌, length, drop, length-drop, take_all, arith}
use Rattle.ack_blocks.specs.Read.{asked}
use Rattle.acks.proofs.Records.{answer-short, answer-whole}
use Rattle.acks.proofs.answer.Goals as goal

pub returns-then-b-lt-NUMBER : goal.returns-then-b-lt-NUMBER
returns-then-b-lt-NUMBER c = sym (answer-short c.args.b.now c.if-b-lt-NUMBER.true)

pub returns : goal.returns
returns c =
    let b = c.args.b.now in
    let blocks = take_all (length b - 8) (drop 8 b) (omega (arith, length-drop 8 b)) in
    let number = c.number-number.ensures.value in
    c.ask.ensures ∙ (λ i. asked (blocks i) (number i)) ∙ sym (answer-whole b c.if-b-lt-NUMBER.false)
