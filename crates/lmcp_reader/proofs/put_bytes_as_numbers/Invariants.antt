-- `lmcp_reader::put_bytes_as_numbers` meets its contract.
use Rattle.wire.proofs.Basics.{◌≡◌, ◌+◌, ◌-◌, length, drop, sets}
use Rattle.lmcp_reader.specs.InsidePuts.{bytes_as_numbers}
use Rattle.lmcp_reader.proofs.put_bytes_as_numbers.Given as goal

abbrev pub invariant-loop-k : goal.invariant-loop-k
invariant-loop-k l =
    (length l.list ≡ length l.initial.list) × (sets l.list (l.from.q + l.k) (bytes_as_numbers (l.n - l.k) (drop (l.from.p + l.k) l.s)) ≡ sets l.initial.list l.from.q (bytes_as_numbers l.n (drop l.from.p l.s)))
