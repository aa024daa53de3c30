-- Where there is room for the pits. Assumes nothing.
use Rattle.tile_pits.specs.Pits.{map_of}
use Rattle.tile_pits.proofs.TileGiven.{given}
use Rattle.tile_pits.proofs.pits_from.Goals as goal

pub returns : goal.returns
returns c =
    let a = c.args in
    let p = c.pits_of-first in
    given (map_of a.pits.now a.had_pits a.sure.now a.had_sure) a.tile a.number.now a.certain.now p.result.1 p.ensures.many p.result.0 p.ensures.first p.ensures.within
    c.if-number-n.false c.if-certain-n.false _ _ c.put_pits.ensures
