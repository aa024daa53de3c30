-- The walk that writes, a cycle of four functions, over what is in order. The measure falls with the depth that is left and, at one depth, from
-- fields to a row, objects and an object.
use Rattle.wire.proofs.Basics.{◌≡◌, ◌+◌, ◌-◌, ◌*◌, length, drop, slice}
use Rattle.lmcp.specs.Run.{repeat}
use Rattle.lmcp.specs.Table.{pitsurv, rows_of, fields_of}
use Rattle.lmcp.specs.InsideEnds.{begun, Sofar}
use Rattle.lmcp_check.specs.InsideSteps.{read_object, read_fields}
use Rattle.lmcp.specs.InsideAhead.{Few0}
use Rattle.lmcp_reader.specs.InsidePuts.{Ahead}
use Rattle.lmcp_reader.proofs.Walk.+walk.Given as goal

abbrev pub invariant-put_fields-loop-i : goal.invariant-put_fields-loop-i
invariant-put_fields-loop-i l =
    let s = l.self.s.now in
    let v = l.self.packed.version in
    let rest = read_fields v l.deep (slice l.i l.end (rows_of (pitsurv v))) in
    (length l.list ≡ length l.initial.list)
    × (Sofar Few0 (begun s l.initial.list l.fn.from.q) (read_fields v l.deep (fields_of (pitsurv v) l.t) (drop l.fn.from.p s)) rest l.spot.p l.spot.q l.list × Ahead (rest (drop l.spot.p s)) l.spot.q)

abbrev pub invariant-put_objects-loop : goal.invariant-put_objects-loop
invariant-put_objects-loop l =
    let s = l.self.s.now in
    let f = read_object l.self.packed.version l.deep l.declared in
    (length l.list ≡ length l.initial.list)
    × (Sofar Few0 (begun s l.initial.list l.fn.from.q) (repeat l.n f (drop l.fn.from.p s)) (repeat (l.n - l.counter) f) l.spot.p l.spot.q l.list × Ahead (repeat (l.n - l.counter) f (drop l.spot.p s)) l.spot.q)

abbrev pub decreases-put_fields : goal.decreases-put_fields
decreases-put_fields l = 4 * l.deep + 3

abbrev pub decreases-put_object : goal.decreases-put_object
decreases-put_object l = 4 * l.deep + 0

abbrev pub decreases-put_objects : goal.decreases-put_objects
decreases-put_objects l = 4 * l.deep + 1

abbrev pub decreases-put_row : goal.decreases-put_row
decreases-put_row l = 4 * l.deep + 2
