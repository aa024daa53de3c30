-- How long what is written is. Definitions only.
use Rattle.std.specs.Prelude.{◌≡◌, Bool, length}
use Rattle.lmcp.specs.Made.{Made, Bytes, Refused}
use Rattle.lmcp.specs.Run.{got, refused}
use Rattle.lmcp.specs.Write.{Write}

-- the bytes of the message, or the number of the refusal
abbrev pub sized : Write → Made
sized (got m r) = Bytes (length m)
sized (refused n) = Refused n

-- the answer is that of what is written, whether the checksum is calculated or left zero
abbrev pub SizeOf : (Bool → Write) → Made → Type 0
SizeOf W answer = (calculate : Bool) → answer ≡ sized (W calculate)
