-- The two parts are the name and the payload of what the datagram says, by the reader's own limits. Assumes nothing.
use Rattle.wire.proofs.Basics.{◌≡◌, refl, ℕ, List, true, false, Bool}
use Rattle.wire.specs.Choice.{pick}
use Rattle.datagram.specs.Limits.{max_payload, max_fragments}
use Rattle.datagram.specs.Read.{Read, Good, Refused, read_datagram_lem, part_of}
use Rattle.datagram.specs.Said.{Said, small, fragment, fragment_in, says, name_in, payload_in, said}
use Rattle.parts.specs.Parts.{name_place_lem, payload_place_lem, name_of, payload_of}

module _ (d : List ℕ) where
  part-said : (r : Read) → (part_of d (name_place_lem r) ≡ name_in (says d r)) × (part_of d (payload_place_lem r) ≡ payload_in (says d r))
  part-said (Refused n) = (refl, refl)
  part-said (Good h) = go h.small
    where
      go : (b : Bool) → let s : Said = pick b (small h.sequence (part_of d h.name) (part_of d h.payload)) (fragment (fragment_in d h)) in
          (part_of d h.name ≡ name_in s) × (part_of d h.payload ≡ payload_in s)
      go true = (refl, refl)
      go false = (refl, refl)

  pub name-said : name_of d ≡ name_in (said max_payload max_fragments d)
  unfolding name_of said
  name-said = (part-said (read_datagram_lem max_payload max_fragments d)).0

  pub payload-said : payload_of d ≡ payload_in (said max_payload max_fragments d)
  unfolding payload_of said
  payload-said = (part-said (read_datagram_lem max_payload max_fragments d)).1
