-- Arrays are lent as slices, each as long as it says: by a law, since they are too long to count. Assumes nothing.
use Rattle.wire.proofs.Basics.{sym, ◌≡◌, ℕ, length, replicate, length-replicate, ℤ, pos, rules}
use Rattle.output.proofs.Zeros.{zeros}
use Rattle.lmcp_bytes.proofs.main.Goals as goal

numbers : (n : ℕ) → n ≡ length {A = ℤ} (replicate n (pos 0))
numbers n = sym (length-replicate {A = ℤ} n (pos 0))

pub slice_bounds-run-end : goal.slice_bounds-run-end
slice_bounds-run-end c = zeros _

pub slice_bounds-run-end-2 : goal.slice_bounds-run-end-2
slice_bounds-run-end-2 c = numbers _

pub slice_bounds-run-end-3 : goal.slice_bounds-run-end-3
slice_bounds-run-end-3 c = zeros _

pub slice_bounds-run-end-4 : goal.slice_bounds-run-end-4
slice_bounds-run-end-4 c = zeros _

pub run-requires : goal.run-requires
run-requires c = ((sym {a = 262144} (numbers 262144), sym {a = 1048576} (zeros 1048576)), search rules)

pub returns : goal.returns
returns c = tt
