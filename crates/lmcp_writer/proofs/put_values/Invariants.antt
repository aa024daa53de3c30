-- `lmcp_writer::put_values` meets its contract.
use Rattle.wire.proofs.Basics.{◌≡◌, ◌≤◌, ◌+◌, ◌-◌, ◌*◌, length, drop, sets}
use Rattle.lmcp_writer.specs.InsidePuts.{spelled}
use Rattle.lmcp_writer.proofs.put_values.Given as goal

abbrev pub invariant-loop-k : goal.invariant-loop-k
invariant-loop-k l =
    (length l.out ≡ length l.initial.out) × ((l.to + (l.n - l.k) * l.w ≤ length l.initial.out) × (sets l.out l.to (spelled (l.n - l.k) l.w (drop (l.from.p + l.k) l.list)) ≡ sets l.initial.out l.fn.from.q (spelled l.n l.w (drop l.fn.from.p l.list))))
