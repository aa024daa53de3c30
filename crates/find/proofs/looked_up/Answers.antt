-- Nothing is asked of the buffer but its length, which is the one written: by a law over any length, so that no list of that many zeros is
-- written out. Assumes nothing.
use Rattle.output.proofs.Zeros.{zeros}
use Rattle.find.proofs.looked_up.Goals as goal

pub slice_bounds-run_over-end : goal.slice_bounds-run_over-end
slice_bounds-run_over-end c = zeros _
