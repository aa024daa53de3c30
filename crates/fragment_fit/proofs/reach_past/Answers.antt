-- `fragment_fit::reach_past` meets its contract. Assumes nothing.
use Rattle.fragment_fit.proofs.Aparts.{past, past_by}
use Rattle.fragment_fit.proofs.reach_past.Goals as goal

-- src/lib.rt:259:9

-- src/lib.rt:255:1

pub returns-then-place-offset : goal.returns-then-place-offset
returns-then-place-offset c =
    let a = c.args in
    past a.offset a.len a.place c.if-place-offset.true

pub returns : goal.returns
returns c =
    let a = c.args in
    past_by a.offset a.len a.place c.if-place-offset.false
