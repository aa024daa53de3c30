-- Worked packets of the gauge, byte by byte as source document 002 has them. Definitions only.
use Rattle.std.specs.Prelude.{ℕ, List, [], ◌∷◌, ◌++◌, replicate}
use Rattle.differences.specs.Noted.{Noted, first, forward, same, late, restarted, refused}

-- a packet of 19 + n bytes: its length field, ten session bytes s, the low byte of its sequence, its type, its blocks
abbrev packet : ℕ → ℕ → ℕ → ℕ → List ℕ → List ℕ
packet n s q kind blocks = 0 ∷ 0 ∷ 0 ∷ n ∷ replicate 10 s ++ 0 ∷ 0 ∷ 0 ∷ q ∷ kind ∷ blocks

-- the number before 0
abbrev wrapping : ℕ → List ℕ → List ℕ
wrapping n blocks = 0 ∷ 0 ∷ 0 ∷ n ∷ replicate 10 0x41 ++ 0xff ∷ 0xff ∷ 0xff ∷ 0xff ∷ 0x55 ∷ blocks

-- with one byte more of its sequence
abbrev further : ℕ → ℕ → ℕ → ℕ → ℕ → List ℕ → List ℕ
further n s h q kind blocks = 0 ∷ 0 ∷ 0 ∷ n ∷ replicate 10 s ++ 0 ∷ 0 ∷ h ∷ q ∷ kind ∷ blocks

abbrev pub come : List (List ℕ)
come =
    -- two messages, of 0 bytes and of 1, the first of them numbered 2^32 - 1; a heartbeat
    wrapping 24 (0 ∷ 0 ∷ 0 ∷ 1 ∷ 7 ∷ [])
    ∷ packet 19 0x41 1 0x48 []
    -- two messages left out; again; a late one; the end of the session
    ∷ packet 21 0x41 3 0x55 (0 ∷ 0 ∷ [])
    ∷ packet 21 0x41 3 0x55 (0 ∷ 0 ∷ [])
    ∷ packet 21 0x41 1 0x55 (0 ∷ 0 ∷ [])
    ∷ packet 19 0x41 4 0x45 []
    -- shorter than 19; length field wrong; type u; a block one byte short; a byte left over; H with a block
    ∷ replicate 18 0
    ∷ packet 20 0x41 4 0x48 []
    ∷ packet 19 0x41 4 0x75 []
    ∷ packet 22 0x41 4 0x55 (0 ∷ 2 ∷ 9 ∷ [])
    ∷ packet 22 0x41 4 0x55 (0 ∷ 0 ∷ 9 ∷ [])
    ∷ packet 21 0x41 4 0x48 (0 ∷ 0 ∷ [])
    -- another session, that goes on; and the earlier one again
    ∷ packet 21 0x42 9 0x55 (0 ∷ 0 ∷ [])
    ∷ packet 21 0x42 10 0x55 (0 ∷ 0 ∷ [])
    ∷ packet 19 0x41 4 0x48 []
    -- far ahead, back by 1,024, back by 1,025: a restart, and a heartbeat after it
    ∷ further 21 0x41 8 0 0x55 (0 ∷ 0 ∷ [])
    ∷ further 21 0x41 4 0 0x55 (0 ∷ 0 ∷ [])
    ∷ further 21 0x41 3 0xff 0x55 (0 ∷ 0 ∷ [])
    ∷ further 19 0x41 4 0 0x48 []
    ∷ []

abbrev pub gives : List Noted
gives =
    first
    ∷ forward 0
    ∷ forward 2
    ∷ same
    ∷ late 2
    ∷ forward 0
    ∷ refused 50
    ∷ refused 51
    ∷ refused 52
    ∷ refused 53
    ∷ refused 53
    ∷ refused 53
    ∷ first
    ∷ forward 0
    ∷ first
    ∷ forward 2044
    ∷ late 1024
    ∷ restarted 1023
    ∷ forward 0
    ∷ []
