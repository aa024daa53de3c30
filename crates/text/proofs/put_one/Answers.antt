-- One byte at a place. Assumes nothing.
use Rattle.text.proofs.Puts.{put_byte, put-no-byte}
use Rattle.text.proofs.put_one.Goals as goal

pub returns-then-at-out : goal.returns-then-at-out
returns-then-at-out c = let a = c.args in put_byte a.out.now a.at a.b c.if-at-out.true

pub returns : goal.returns
returns c = let a = c.args in put-no-byte a.out.now a.at a.b c.if-at-out.false
