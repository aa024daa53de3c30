-- The name and the payload, as the parts of the datagram that hold them, by the reader's own limits. Definitions only.
use Rattle.std.specs.Prelude.{List, ℕ}
use Rattle.datagram.specs.Limits.{max_payload, max_fragments}
use Rattle.datagram.specs.Read.{Read, Good, Refused, place, read_datagram_lem, part_of}
use Rattle.datagram.specs.declared.Place.{Place}

abbrev pub name_place_lem : Read → Place
name_place_lem (Good h) = h.name
name_place_lem (Refused n) = place 0 0

abbrev pub payload_place_lem : Read → Place
payload_place_lem (Good h) = h.payload
payload_place_lem (Refused n) = place 0 0

unfoldable pub name_of : List ℕ → List ℕ
name_of d = part_of d (name_place_lem (read_datagram_lem max_payload max_fragments d))

unfoldable pub payload_of : List ℕ → List ℕ
payload_of d = part_of d (payload_place_lem (read_datagram_lem max_payload max_fragments d))
