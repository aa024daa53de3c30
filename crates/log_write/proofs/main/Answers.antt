-- Arrays are lent as slices, each as long as it says: by a law, since they are too long to count. Assumes nothing.
use Rattle.output.proofs.Zeros.{zeros}
use Rattle.log_write.proofs.main.Goals as goal

pub slice_bounds-made-end : goal.slice_bounds-made-end
slice_bounds-made-end c = zeros _

pub slice_bounds-made-end-2 : goal.slice_bounds-made-end-2
slice_bounds-made-end-2 c = zeros _

pub slice_bounds-made-end-3 : goal.slice_bounds-made-end-3
slice_bounds-made-end-3 c = zeros _
