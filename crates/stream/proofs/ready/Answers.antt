-- Bytes made ready, where they stand or at the front. Assumes nothing.
use Rattle.stream.proofs.Taking.{ready-fill, ready-front}
use Rattle.stream.proofs.ready.Goals as goal

pub returns-then-want-buf : goal.returns-then-want-buf
returns-then-want-buf c =
    ready-fill c.args.buf.now c.args.input c.args.want c.fill-e.new.buf c.fill-e.result c.requires.0 c.if-want-buf.true c.fill-e.ensures

pub returns : goal.returns
returns c =
    ready-front c.args.buf.now c.args.input c.args.want c.to_front-n.new.buf c.to_front-n.result c.fill-e-2.new.buf c.fill-e-2.result c.requires.2 c.to_front-n.ensures c.fill-e-2.ensures
