-- `within_limits::read_within` meets its contract. Assumes nothing.
use Rattle.wire.proofs.Basics.{◌∙◌, ◌≡◌, refl, min, rules}
use Rattle.within_limits.proofs.read_within.Goals as goal

pub returns : goal.returns
returns c =
    let e : c.min.result ≡ min c.args.room c.args.limits.payload = search rules in
    c.read_datagram.ensures.answer ∙ rw (e, c.fewest.ensures) refl
