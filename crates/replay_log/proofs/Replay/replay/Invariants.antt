-- Entry by entry. The loop's invariant: the entries passed have their lines. Assumes nothing.
use Rattle.wire.proofs.Basics.{◌-◌, length}
use Rattle.receiver.specs.Lent.{world_in}
use Rattle.replay_log.specs.Inside.{lent_in, Stays}
use Rattle.replay_log.proofs.Replaying.{Going}
use Rattle.replay_log.proofs.Replay.replay.Given as goal

abbrev pub invariant-loop-step : goal.invariant-loop-step
invariant-loop-step l =
    Stays l.initial.self l.self
    × Going l.log l.initial.self.limits (world_in (lent_in l.initial.self)) l.initial.out (world_in (lent_in l.self)) l.out l.place l.n

abbrev pub decreases-loop-step : goal.decreases-loop-step
decreases-loop-step l = length l.log - l.place
