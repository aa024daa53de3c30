-- A number of the list from a place on; past its end there are none. Assumes nothing.
use Rattle.wire.proofs.Basics.{◌∙◌, sym, ◌+◌, drop, get_or, length-drop, List·getD-eq-default, get_or-drop, pos, arith}
use Rattle.lmcp.proofs.Sizes.{through}
use Rattle.mark_rows.proofs.number_at.Goals as goal

pub returns-then-i-room : goal.returns-then-i-room
returns-then-i-room c =
    let a = c.args in
    through (get_or a.list.now (a.place + a.i) (pos 0)) (record { sfits = omega arith }) ∙ sym (get_or-drop a.place a.list.now a.i (pos 0))

pub returns : goal.returns
returns c =
    let a = c.args in
    sym (List·getD-eq-default (drop a.place a.list.now) (pos 0) (rw (length-drop a.place a.list.now) (omega arith)))
