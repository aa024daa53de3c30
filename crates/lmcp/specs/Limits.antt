-- The limits and the fixed bytes of LMCP messages. Definitions only.
use Rattle.std.specs.Prelude.{List, [], ◌∷◌, ◌++◌, ℕ, ◌*◌, ◌^◌, ◌<◌}
use Rattle.wire.specs.Text.{ascii}
use Rattle.wire.specs.Bytes.{be}

-- the longest whole message, in bytes
abbrev pub max_message : ℕ
max_message = 1048576

-- what a longest message must be for its sum never to wrap: so many bytes, each at most 255, sum to less than 2 ^ 32
abbrev pub SumsBelow : ℕ → Type 0
SumsBelow limit = 255 * limit < 2 ^ 32

-- the deepest object; the root has depth 1
abbrev pub deepest : ℕ
deepest = 16

-- "LMCP"
abbrev pub magic : List ℕ
magic = ascii "LMCP"

-- "PITSURV" and a zero byte
abbrev pub series : ℕ
series = be 8 (ascii "PITSURV" ++ 0 ∷ [])
