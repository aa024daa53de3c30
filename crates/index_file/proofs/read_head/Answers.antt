-- The length, the first byte, whole rows, and as many as the head says. Assumes nothing.
use Rattle.index_file.proofs.Steps.{head-short, head-other, head-odd, head-count, head-good}
use Rattle.index_file.proofs.read_head.Goals as goal

pub returns-then-file-lt-HEAD_LENGTH : goal.returns-then-file-lt-HEAD_LENGTH
returns-then-file-lt-HEAD_LENGTH c = head-short c.args.file.now c.if-file-lt-HEAD_LENGTH.true

pub returns-then-file-ne-EDITION : goal.returns-then-file-ne-EDITION
returns-then-file-ne-EDITION c = head-other c.args.file.now c.if-file-ne-EDITION.true

pub returns-then-rest-ne0 : goal.returns-then-rest-ne0
returns-then-rest-ne0 c = head-odd c.args.file.now c.if-rest-ne0.true

pub returns-then-number-n : goal.returns-then-number-n
returns-then-number-n c = head-count c.args.file.now _ c.number.ensures c.if-number-n.true

pub returns : goal.returns
returns c =
    let f = c.args.file.now in
    head-good f _ c.number.ensures c.if-file-lt-HEAD_LENGTH.false c.if-file-ne-EDITION.false c.if-rest-ne0.false c.if-number-n.false _ c.number-2.ensures
