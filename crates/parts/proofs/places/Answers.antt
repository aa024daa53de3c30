-- `parts::places` meets its contract. Assumes nothing.
use Rattle.wire.proofs.Basics.{ap}
use Rattle.parts.specs.Parts.{name_place_lem, payload_place_lem}
use Rattle.parts.proofs.places.Goals as goal

pub returns-in-Ok : goal.returns-in-Ok
returns-in-Ok c = let e = c.in-Ok.ensures.answer in record { name = ap name_place_lem e; payload = ap payload_place_lem e }

pub returns-in-Err : goal.returns-in-Err
returns-in-Err c = let e = c.in-Err.ensures.answer in record { name = ap name_place_lem e; payload = ap payload_place_lem e }
