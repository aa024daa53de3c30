-- The numbers of documents 01 and 02 (L10) that bound datagrams. Nothing else in any specs/ writes them out.
use Rattle.std.specs.Prelude.{ℕ}
pub use Rattle.names.specs.Limits.{max_name}

-- the largest payload
abbrev pub max_payload : ℕ
max_payload = 1_048_576

-- the most fragments of a message
abbrev pub max_fragments : ℕ
max_fragments = 1_024

-- the longest datagram
abbrev pub max_datagram : ℕ
max_datagram = 65_535
