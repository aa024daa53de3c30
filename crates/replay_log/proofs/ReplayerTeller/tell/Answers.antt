-- A fresh receiver is opened, which is not refused, and the log is replayed over it. Assumes nothing.
use Rattle.wire.proofs.Basics.{replicate, subst}
use Rattle.steps.specs.Limits.{ledger_length}
use Rattle.steps.specs.Runs.{World, begun}
use Rattle.output.specs.Output.{Ends}
use Rattle.output.proofs.Zeros.{zeros}
use Rattle.open_and_payload.proofs.Opened.{zeros-shaped, opened-done, opened-world, opened-shaped}
use Rattle.replay_log.specs.Lines.{store_bytes, lines_from}
use Rattle.replay_log.proofs.ReplayerTeller.tell.Goals as goal

-- the longest array by its length, since looking for it takes seconds

pub returns-in_default : goal.returns-in_default
returns-in_default c =
    absurd (opened-done _ _ _ _ _ _ zeros-shaped c.open.ensures _ c.in_default.is)

pub slice_bounds-replay-end-3 : goal.slice_bounds-replay-end-3
slice_bounds-replay-end-3 c = zeros 2_097_152

pub replay-requires : goal.replay-requires
replay-requires c =
    record { shaped = opened-shaped _ _ _ _ _ _ zeros-shaped c.open.ensures; limits = c.limits_in.ensures }

pub returns : goal.returns
unfolding begun
returns c =
    subst (λ (w : World). Ends c.args.out.now (lines_from w c.args.log.now) c.replay.new.out c.replay.result)
    (opened-world _ _ _ _ _ _ zeros-shaped c.open.ensures (replicate store_bytes 0) (replicate ledger_length 0)) c.replay.ensures
