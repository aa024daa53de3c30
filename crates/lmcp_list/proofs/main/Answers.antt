-- Arrays are lent as slices, each as long as it says: by a law, since they are too long to count. Assumes nothing.
use Rattle.wire.proofs.Basics.{sym, ◌≡◌, ℕ, length, replicate, length-replicate, ℤ, pos, rules}
use Rattle.output.proofs.Zeros.{zeros}
use Rattle.lmcp_list.proofs.main.Goals as goal

numbers : (n : ℕ) → n ≡ length {A = ℤ} (replicate n (pos 0))
numbers n = sym (length-replicate {A = ℤ} n (pos 0))

pub slice_bounds-run-end : goal.slice_bounds-run-end
slice_bounds-run-end c = zeros _

pub slice_bounds-run-end-2 : goal.slice_bounds-run-end-2
slice_bounds-run-end-2 c = numbers _

pub slice_bounds-run-end-3 : goal.slice_bounds-run-end-3
slice_bounds-run-end-3 c = zeros _

pub run-requires : goal.run-requires
run-requires c = (sym (numbers _), search rules)

pub returns : goal.returns
returns c = tt
