-- The entry went to its space, and from there out. Assumes nothing.
use Rattle.output.proofs.Sending.{pours-is}
use Rattle.log_write.proofs.Keeping.{kept_pours, kept-never, of-numbers}
use Rattle.log_write.proofs.keep.Goals as goal

pub returns : goal.returns
returns c =
    let a = c.args in
    let k = of-numbers _ _ _ _ _ _ a.d.now _ _ c.number-sender.ensures.value c.number-tick.ensures.value c.append.ensures in
    kept_pours a.space.now _ a.out.now _ a.at _ _ c.requires k _ _ c.in-Ok.is (pours-is c.pour.ensures c.part.ensures)

pub returns-in_default : goal.returns-in_default
returns-in_default c =
    let a = c.args in
    let k = of-numbers _ _ _ _ _ _ a.d.now _ _ c.number-sender.ensures.value c.number-tick.ensures.value c.append.ensures in
    kept-never a.space.now _ a.out.now _ a.at _ _ c.requires k _ _ c.in_default.is
