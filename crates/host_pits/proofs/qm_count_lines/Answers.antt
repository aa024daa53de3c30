-- By whether there is room for the tiles. Assumes nothing.
use Rattle.pit_marks.specs.Sets.{sets_of}
use Rattle.host_pits.proofs.LineTelling.{not_written, written-so}
use Rattle.host_pits.proofs.qm_count_lines.Goals as goal

pub returns-then-no_room : goal.returns-then-no_room
returns-then-no_room c =
    let a = c.args in
    not_written (sets_of a.tiles.now a.pits.now a.sure.now) (record { tiles = a.had_tiles; pits = a.had_pits; sure = a.had_sure }) a.tile.now a.pit.now a.certain.now
    c.least.result c.least.ensures c.no_room.result c.no_room.ensures c.if-no_room.true

pub returns : goal.returns
returns c =
    let a = c.args in
    written-so (sets_of a.tiles.now a.pits.now a.sure.now) (record { tiles = a.had_tiles; pits = a.had_pits; sure = a.had_sure }) a.tile.now a.pit.now a.certain.now
    (record { tiles = c.least.result; pits = c.least-2.result; sure = c.least-3.result })
    (λ i. record { tiles = c.least.ensures i; pits = c.least-2.ensures i; sure = c.least-3.ensures i })
    c.no_room.result
    c.no_room.ensures
    c.if-no_room.false _ _ _ c.put_lines.ensures
