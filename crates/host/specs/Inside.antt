-- INSIDE: what only private contracts use. Definitions only; no promise of a public function rests on them.
use Rattle.std.specs.Prelude.{◌^◌, ◌<◌}
use Rattle.datagram.specs.declared.Header.{Header}

-- places that fit a field of 32 bits
pub record PlacesFit (h : Header) : Type 0 where
  pub name-at : h.name.at < 2 ^ 32
  pub name-len : h.name.len < 2 ^ 32
  pub payload-at : h.payload.at < 2 ^ 32
  pub payload-len : h.payload.len < 2 ^ 32
