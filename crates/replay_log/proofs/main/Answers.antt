-- Nothing is asked of the two buffers but their lengths, which are those written. Assumes nothing.
use Rattle.output.proofs.Zeros.{zeros}
use Rattle.replay_log.proofs.main.Goals as goal

-- over any length, so that no list of that many zeros is written out

pub slice_bounds-run-end : goal.slice_bounds-run-end
slice_bounds-run-end c = zeros _

pub slice_bounds-run-end-2 : goal.slice_bounds-run-end-2
slice_bounds-run-end-2 c = zeros _

pub returns : goal.returns
returns c = tt
