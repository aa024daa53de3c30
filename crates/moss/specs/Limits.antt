-- The numbers of a MossUDP packet and of its refusals. Definitions only.
use Rattle.std.specs.Prelude.{ℕ, ◌+◌}

-- the session's bytes
abbrev pub session_length : ℕ
session_length = 10

-- packet length (4), session, sequence (4), type (1)
abbrev pub head_length : ℕ
head_length = 4 + session_length + 4 + 1

-- a packet is a datagram
abbrev pub max_packet : ℕ
max_packet = 65_535

-- a block's length has 2 bytes
abbrev pub max_message : ℕ
max_message = 65_535

-- the types: U data, H heartbeat, E end of session
abbrev pub letter_u : ℕ
letter_u = 0x55

abbrev pub letter_h : ℕ
letter_h = 0x48

abbrev pub letter_e : ℕ
letter_e = 0x45
