-- `memory::may_have` meets its contract. The loop's invariant: while no low half was seen, none of the sequences passed is the one. Assumes nothing.
use Rattle.wire.proofs.Basics.{◌≡◌, ℕ, ◌+◌, ◌<◌, false, get_or}
use Rattle.memory.specs.Words.{sequences_at}
use Rattle.memory.proofs.may_have.Given as goal

abbrev pub invariant-loop-key : goal.invariant-loop-key
invariant-loop-key l = l.seen ≡ false → (k : ℕ) → k < l.key-index → get_or l.memory (sequences_at l.i + k) 0 ≡ l.sequence → ⊥
