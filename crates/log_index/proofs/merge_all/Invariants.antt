-- The loop: what is merged and what is to be merged are all. Assumes nothing.
use Rattle.wire.proofs.Basics.{◌≡◌, ◌≤◌, length}
use Rattle.log_index.specs.Words.{merged_by}
use Rattle.log_index.proofs.merge_all.Given as goal

abbrev pub invariant-loop-j : goal.invariant-loop-j
invariant-loop-j l = (l.high ≤ l.n) × ((length l.index ≡ length l.initial.index) × (merged_by l.j l.batch l.index l.high ≡ merged_by l.m l.batch l.initial.index l.n))
