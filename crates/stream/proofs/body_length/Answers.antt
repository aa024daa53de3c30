-- How many bytes follow a head. Assumes nothing.
use Rattle.wire.proofs.Basics.{◌∙◌, arith}
use Rattle.stream.specs.Records.{body_length_lem}
use Rattle.stream.proofs.body_length.Goals as goal

pub returns-in-Bytes2 : goal.returns-in-Bytes2
unfolding body_length_lem
returns-in-Bytes2 c = rw c.in-Bytes2.is (c.number_at.ensures.0 ∙ omega arith)

pub returns-in-Bytes4 : goal.returns-in-Bytes4
unfolding body_length_lem
returns-in-Bytes4 c = rw c.in-Bytes4.is (c.number_at-in-Bytes4.ensures.0 ∙ omega arith)

pub returns-in-Numbers : goal.returns-in-Numbers
unfolding body_length_lem
returns-in-Numbers c = rw c.in-Numbers.is (omega (arith, c.number_at-in-Numbers.ensures.0))

pub returns-in-Entry : goal.returns-in-Entry
unfolding body_length_lem
returns-in-Entry c = rw c.in-Entry.is (c.number_at-in-Entry.ensures.0 ∙ omega arith)
