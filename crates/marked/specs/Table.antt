-- Cases m1 to m13 of document 01: what is asked, and what the paper says is given. Definitions only.
use Rattle.std.specs.Prelude.{List, [], ◌∷◌, ℕ, pos, take}
use Rattle.datagram.specs.Said.{refused, small}
use Rattle.steps.specs.Answers.{refused_by, kept, repeat, delivered}
use Rattle.differences.specs.Noted as watched
use Rattle.lmcp.specs.Run as run
use Rattle.marked.specs.Ask.{Ask, reading, receiving, cutting, watching, opening, small', fragments, Given, said', replied, cut', seen, numbers}

pub record Case : Type 0 where
  pub number : ℕ
  pub ask : Ask
  pub gives : Given

abbrev m : ℕ → Ask → Given → Case
m n a g = record { number = n; ask = a; gives = g }

-- the datagram of m1
abbrev one : List ℕ
one = 0x4c ∷ 0x43 ∷ 0x30 ∷ 0x32 ∷ 0 ∷ 0 ∷ 0 ∷ 7 ∷ 0x50 ∷ 0 ∷ 0x41 ∷ []

-- A and B; B with offset 0; B with P 4 and offset 2
abbrev A : List ℕ
A = 0x4c ∷ 0x43 ∷ 0x30 ∷ 0x33 ∷ 0 ∷ 0 ∷ 0 ∷ 7 ∷ 0 ∷ 0 ∷ 0 ∷ 3 ∷ 0 ∷ 0 ∷ 0 ∷ 0 ∷ 0 ∷ 0 ∷ 0 ∷ 2 ∷ 0x50 ∷ 0 ∷ 0x41 ∷ []

abbrev B : List ℕ
B = 0x4c ∷ 0x43 ∷ 0x30 ∷ 0x33 ∷ 0 ∷ 0 ∷ 0 ∷ 7 ∷ 0 ∷ 0 ∷ 0 ∷ 3 ∷ 0 ∷ 0 ∷ 0 ∷ 1 ∷ 0 ∷ 1 ∷ 0 ∷ 2 ∷ 0x42 ∷ 0x43 ∷ []

abbrev B₀ : List ℕ
B₀ = 0x4c ∷ 0x43 ∷ 0x30 ∷ 0x33 ∷ 0 ∷ 0 ∷ 0 ∷ 7 ∷ 0 ∷ 0 ∷ 0 ∷ 3 ∷ 0 ∷ 0 ∷ 0 ∷ 0 ∷ 0 ∷ 1 ∷ 0 ∷ 2 ∷ 0x42 ∷ 0x43 ∷ []

abbrev B₄ : List ℕ
B₄ = 0x4c ∷ 0x43 ∷ 0x30 ∷ 0x33 ∷ 0 ∷ 0 ∷ 0 ∷ 7 ∷ 0 ∷ 0 ∷ 0 ∷ 4 ∷ 0 ∷ 0 ∷ 0 ∷ 2 ∷ 0 ∷ 1 ∷ 0 ∷ 2 ∷ 0x42 ∷ 0x43 ∷ []

-- a Ping whose checksum ends in these two bytes, and a null root
abbrev ping : ℕ → ℕ → List ℕ
ping a b =
    0x4c ∷ 0x4d ∷ 0x43 ∷ 0x50 ∷ 0 ∷ 0 ∷ 0 ∷ 0x0f ∷ 1 ∷ 0x50 ∷ 0x49 ∷ 0x54 ∷ 0x53 ∷ 0x55 ∷ 0x52 ∷ 0x56 ∷ 0 ∷ 0 ∷ 0 ∷ 0 ∷ 1 ∷ 0 ∷ 1 ∷ 0 ∷ 0 ∷ a ∷ b ∷ []

abbrev null : List ℕ
null = 0x4c ∷ 0x4d ∷ 0x43 ∷ 0x50 ∷ 0 ∷ 0 ∷ 0 ∷ 1 ∷ 0 ∷ 0 ∷ 0 ∷ 1 ∷ 0x2d ∷ []

abbrev pub cases : List Case
cases =
    -- name P, payload 41; its first 7 bytes; its zero byte removed
    m 1 (reading one) (said' (small 7 (0x50 ∷ []) (0x41 ∷ [])))
    ∷ m 2 (reading (take 7 one)) (said' (refused 1))
    ∷ m 3 (reading (0x4c ∷ 0x43 ∷ 0x30 ∷ 0x32 ∷ 0 ∷ 0 ∷ 0 ∷ 7 ∷ 0x50 ∷ 0x41 ∷ [])) (said' (refused 4))
    ∷ m 4 (receiving (B ∷ A ∷ [])) (replied (kept ∷ delivered (0x41 ∷ 0x42 ∷ 0x43 ∷ []) ∷ []))
    ∷ m 5 (receiving (B ∷ B ∷ A ∷ B ∷ [])) (replied (kept ∷ repeat ∷ delivered (0x41 ∷ 0x42 ∷ 0x43 ∷ []) ∷ repeat ∷ []))
    -- B with offset 0; A, then B with P 4 and offset 2
    ∷ m 6 (receiving (B₀ ∷ [])) (replied (refused_by 7 ∷ []))
    ∷ m 7 (receiving (A ∷ B₄ ∷ [])) (replied (kept ∷ refused_by 8 ∷ []))
    ∷ m 8 (cutting 83) (cut' (small' 83))
    ∷ m 8 (cutting 84) (cut' (fragments (71 ∷ 13 ∷ [])))
    ∷ m 8 (cutting 147) (cut' (fragments (71 ∷ 76 ∷ [])))
    ∷ m 8 (cutting 148) (cut' (fragments (71 ∷ 76 ∷ 1 ∷ [])))
    ∷ m 9 (watching (0xffffffff ∷ 1 ∷ [])) (seen (watched.first ∷ watched.forward 1 ∷ []))
    ∷ m 10 (watching (0 ∷ 0x80000000 ∷ [])) (seen (watched.first ∷ watched.restarted 2_147_483_648 ∷ []))
    ∷ m 11 (opening (ping 0x03 0x7b)) (numbers (run.got (pos 1 ∷ pos 1 ∷ []) []))
    -- last byte 7c; checksum zero
    ∷ m 12 (opening (ping 0x03 0x7c)) (numbers (run.refused 22))
    ∷ m 12 (opening (ping 0 0)) (numbers (run.got (pos 1 ∷ pos 1 ∷ []) []))
    ∷ m 13 (opening null) (numbers (run.refused 23))
    ∷ []
