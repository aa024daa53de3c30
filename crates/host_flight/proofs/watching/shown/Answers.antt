-- `host_flight::watching::shown` meets its contract. Assumes nothing.
use Rattle.wire.proofs.Basics.{◌∙◌}
use Rattle.wire.proofs.Overlays.{overlay-whole}
use Rattle.host_flight.proofs.watching.shown.Goals as goal

pub returns : goal.returns
returns c =
    let x = c.put_each.ensures ∙ overlay-whole _ c.args.senders.now c.requires.0 in
    let y = c.put_each-2.ensures ∙ overlay-whole _ c.args.lasts.now c.requires.1 in
    λ i. record { senders = x i; lasts = y i; count = c.args.count }
