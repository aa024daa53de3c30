-- The walk that checks, a cycle of four functions. The measure falls with the depth that is left and, at one depth, from fields to a step, objects and an object.
use Rattle.wire.proofs.Basics.{◌≤◌, ◌+◌, ◌-◌, ◌*◌, drop, get_or, slice}
use Rattle.lmcp.specs.Run.{repeat}
use Rattle.lmcp.specs.Table.{pitsurv, rows_of, starts_of, fields_of}
use Rattle.lmcp_check.specs.InsideSteps.{read_object, read_fields}
use Rattle.lmcp_check.specs.InsideChecks.{Upto}
use Rattle.lmcp_check.proofs.Walk.+walk.Given as goal

abbrev pub invariant-check_fields-loop-i : goal.invariant-check_fields-loop-i
invariant-check_fields-loop-i l =
    let v = l.self.packed.version in
    (l.i ≤ l.end) × ((get_or (starts_of (pitsurv v)) l.t 0 ≤ l.i) × Upto l.self.s.now (read_fields v l.deep (fields_of (pitsurv v) l.t) (drop l.at l.self.s.now)) (read_fields v l.deep (slice l.i l.end (rows_of (pitsurv v)))) l.p)

abbrev pub decreases-check_fields-loop-i : goal.decreases-check_fields-loop-i
decreases-check_fields-loop-i l = l.end - l.i

abbrev pub invariant-check_objects-loop : goal.invariant-check_objects-loop
invariant-check_objects-loop l =
    let v = l.self.packed.version in
    Upto l.self.s.now (repeat l.n (read_object v l.deep l.declared) (drop l.at l.self.s.now)) (repeat (l.n - l.counter) (read_object v l.deep l.declared)) l.p

abbrev pub decreases-check_fields : goal.decreases-check_fields
decreases-check_fields l = 4 * l.deep + 3

abbrev pub decreases-check_object : goal.decreases-check_object
decreases-check_object l = 4 * l.deep + 0

abbrev pub decreases-check_objects : goal.decreases-check_objects
decreases-check_objects l = 4 * l.deep + 1

abbrev pub decreases-check_row : goal.decreases-check_row
decreases-check_row l = 4 * l.deep + 2
