-- The walk that only checks, a cycle of four functions: each step is one of `lmcp`'s, over no output. The measure falls with the depth that is left and,
-- at one depth, from fields to a row, objects and an object.
use Rattle.wire.proofs.Basics.{◌+◌, ◌-◌, ◌*◌, [], drop, slice}
use Rattle.lmcp.specs.Run.{repeat}
use Rattle.lmcp.specs.Table.{pitsurv, rows_of, fields_of}
use Rattle.lmcp.specs.InsideEnds.{begun, Sofar, Few15}
use Rattle.lmcp_size.specs.InsideSteps.{write_object, write_fields}
use Rattle.lmcp_size.proofs.Walk.+walk.Given as goal

abbrev pub invariant-check_fields-loop-i : goal.invariant-check_fields-loop-i
invariant-check_fields-loop-i l =
    let v = l.self.packed.version in
    Sofar Few15 (begun l.self.list.now [] l.fn.from.q) (write_fields v l.deep (fields_of (pitsurv v) l.t) (drop l.fn.from.p l.self.list.now)) (write_fields v l.deep (slice l.i l.end (rows_of (pitsurv v)))) l.spot.p l.spot.q []

abbrev pub invariant-check_objects-loop : goal.invariant-check_objects-loop
invariant-check_objects-loop l =
    let f = write_object l.self.packed.version l.deep l.declared in
    Sofar Few15 (begun l.self.list.now [] l.fn.from.q) (repeat l.n f (drop l.fn.from.p l.self.list.now)) (repeat (l.n - l.counter) f) l.spot.p l.spot.q []

abbrev pub decreases-check_fields : goal.decreases-check_fields
decreases-check_fields l = 4 * l.deep + 3

abbrev pub decreases-check_object : goal.decreases-check_object
decreases-check_object l = 4 * l.deep + 0

abbrev pub decreases-check_objects : goal.decreases-check_objects
decreases-check_objects l = 4 * l.deep + 1

abbrev pub decreases-check_row : goal.decreases-check_row
decreases-check_row l = 4 * l.deep + 2
