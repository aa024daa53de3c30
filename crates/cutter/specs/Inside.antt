-- INSIDE: what only private contracts use. Definitions only; no promise of a public function rests on them.
use Rattle.std.specs.Prelude.{true, false, List, ℕ, ◌+◌, eqb, length}
use Rattle.wire.specs.Choice.{pick}
use Rattle.datagram.specs.Read.{place}
use Rattle.datagram.specs.declared.Header.{Header}
use Rattle.cutter.specs.Cut.{count_of, begins_at_lem, piece_of}

-- the same with places: the header that a small datagram and fragment k are to have
abbrev pub small_header : ℕ → List ℕ → List ℕ → Header
small_header q name payload = record {
  small = true;
  sequence = q;
  size = length payload;
  offset = 0;
  number = 0;
  count = 1;
  name = place 8 (length name);
  payload = place (9 + length name) (length payload);
}

abbrev pub cut_header : ℕ → List ℕ → List ℕ → ℕ → ℕ → Header
cut_header q name payload m k = record {
  small = false;
  sequence = q;
  size = length payload;
  offset = begins_at_lem (length name) m k;
  number = k;
  count = count_of (length name) (length payload) m;
  name = place 20 (pick (eqb k 0) (length name) 0);
  payload = place (pick (eqb k 0) (21 + length name) 20) (length (piece_of name payload m k));
}
