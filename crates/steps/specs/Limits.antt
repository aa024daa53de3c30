-- The numbers of document 01 that bound the receiver; those of datagrams are the datagram reader's. Nothing else in specs/ writes them out.
use Rattle.std.specs.Prelude.{ℕ, ◌*◌, ◌/◌, min}
use Rattle.datagram.specs.Limits.{max_payload, max_fragments}

-- how many messages may be open at once
abbrev pub slot_count : ℕ
slot_count = 8

-- for how many senders delivered keys are remembered, and how many for each
abbrev pub senders_most : ℕ
senders_most = 16

abbrev pub keys_each : ℕ
keys_each = 32

-- offset and length for each fragment of each slot: 16,384 numbers
abbrev pub ledger_length : ℕ
ledger_length = 2 * (max_fragments * slot_count)

-- C, the slot size of a store of that many bytes
abbrev pub slot_size_of : ℕ → ℕ
slot_size_of n = min (n / slot_count) max_payload
