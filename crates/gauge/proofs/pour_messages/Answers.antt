-- The lengths of a data packet's messages. Assumes nothing.
use Rattle.wire.proofs.Basics.{ap, ℕ, List, ◌++◌}
use Rattle.wire.specs.Text.{ascii}
use Rattle.moss.specs.Answers as answers
use Rattle.moss.specs.Answers.{letter_of}
use Rattle.output.proofs.Adding.{adds_none, adds_then, adds_is}
use Rattle.gauge.specs.Lines.{spaced}
use Rattle.gauge.proofs.Texts.{blocks-filled, blocks_lengths, none-told}
use Rattle.gauge.proofs.pour_messages.Goals as goal

pub returns-in_default : goal.returns-in_default
returns-in_default c = adds_is (adds_none _) (none-told c.args.header.kind _ c.in_default.not-Data)

pub pour_lengths-requires : goal.pour_lengths-requires
pour_lengths-requires c = blocks-filled c.args.p.now (answers.said c.args.header) c.requires (ap letter_of c.in-Data.is)

pub returns : goal.returns
returns c =
    let a = c.args in
    let lengths = blocks_lengths a.p.now (answers.said a.header) c.requires (ap letter_of c.in-Data.is) in
    rw c.in-Data.is
    (adds_is (adds_then c.pour.ensures c.pour_lengths.ensures) (ap (λ (l : List ℕ). ascii " messages" ++ spaced l) lengths))
