-- The lines are laid into arrays of zeros. Assumes nothing.
use Rattle.pit_marks.specs.Told.{sets_in}
use Rattle.count.proofs.ReportStruct.{given_is}
use Rattle.count.proofs.given.Goals as goal

pub returns : goal.returns
returns c =
    let a = c.args in
    λ seen h o. given_is a.entries a.totals a.sizes (sets_in a.sets.now) seen h o _ _ _ c.put_lines.ensures
