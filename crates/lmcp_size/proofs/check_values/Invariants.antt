-- `lmcp_size::check_values` meets its contract.
use Rattle.wire.proofs.Basics.{◌-◌, [], drop}
use Rattle.lmcp.specs.Run.{repeat}
use Rattle.lmcp.specs.Write.{write_value}
use Rattle.lmcp.specs.InsideEnds.{begun, Sofar, Few15}
use Rattle.lmcp_size.proofs.check_values.Given as goal

abbrev pub invariant-loop : goal.invariant-loop
invariant-loop l = Sofar Few15 (begun l.list [] l.fn.from.q) (repeat l.n (write_value l.kind l.w) (drop l.fn.from.p l.list)) (repeat (l.n - l.counter) (write_value l.kind l.w)) l.spot.p l.spot.q []
