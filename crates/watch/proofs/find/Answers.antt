-- Where a sender stands. Assumes nothing.
use Rattle.wire.proofs.Basics.{◌∙◌, sym, ap, ℕ, take, length-take-le}
use Rattle.std.specs.Prelude.{Option}
use Rattle.std.specs.Option.{unwrap_or}
use Rattle.watch.proofs.Places.{position-place}
use Rattle.watch.proofs.find.Goals as goal

pub returns : goal.returns
returns c =
    let a = c.args in
    c.unwrap_or.ensures
    ∙ ap (λ (o : Option ℕ). unwrap_or o a.count) c.position_of.ensures
    ∙ position-place a.sender (take a.count a.senders.now) a.count (sym (length-take-le a.count a.senders.now c.requires))
