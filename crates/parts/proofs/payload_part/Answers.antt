-- `parts::payload_part` meets its contract. Assumes nothing.
use Rattle.wire.proofs.Basics.{◌∙◌, ap}
use Rattle.datagram.specs.Read.{part_of}
use Rattle.parts.specs.Parts.{payload_of}
use Rattle.parts.proofs.payload_part.Goals as goal

pub returns : goal.returns
unfolding payload_of
returns c = c.part_at.ensures ∙ ap (part_of c.args.d.now) c.places.ensures.payload
