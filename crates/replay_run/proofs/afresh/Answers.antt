-- A fresh receiver is opened, and the datagrams are replayed over it. Assumes nothing.
use Rattle.wire.proofs.Basics.{replicate, subst, rules}
use Rattle.steps.specs.Limits.{ledger_length}
use Rattle.steps.specs.Runs.{World, begun}
use Rattle.stream.specs.declared.Kind.TheVariants.{Bytes2}
use Rattle.record_lines.specs.Lines.{lines_after, TellsTo}
use Rattle.open_and_payload.proofs.Opened.{zeros-shaped, opened-world}
use Rattle.replay_run.specs.Lines.{says, store_bytes}
use Rattle.replay_run.proofs.afresh.Goals as goal

pub returns : goal.returns
unfolding begun
returns c =
    let e = opened-world _ _ _ _ _ _ zeros-shaped c.open.ensures (replicate store_bytes 0) (replicate ledger_length 0) in
    let t : TellsTo Bytes2 (lines_after says 0 (begun store_bytes)) c.args.buf.now c.args.input c.new-out.result c.tell.new.out c.tell.result =
    subst (λ (w : World). TellsTo Bytes2 (lines_after says 0 w) c.args.buf.now c.args.input c.new-out.result c.tell.new.out c.tell.result) e c.tell.ensures in
    search rules
