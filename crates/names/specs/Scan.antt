-- Names byte by byte: RFC 3629, section 4, as a scan that knows how many bytes of a code point are to come, and from which to which the next
-- may be. Definitions only.
use Rattle.std.specs.Prelude.{Bool, ◌&&◌, List, [], ◌∷◌, ℕ, ◌-◌, eqb, leb}
use Rattle.wire.specs.Choice.{pick, ◌when◌else◌}
use Rattle.names.specs.declared.Scan.{Scan}

abbrev pub within : ℕ → ℕ → ℕ → Bool
within low high x = leb low x && leb x high

-- n bytes 80 to BF are to come; none, at the start and after each code point
abbrev pub tails : ℕ → Scan
tails n = record { left = n; low = 0x80; high = 0xbf }

abbrev pub start : Scan
start = tails 0

-- no byte helps any more
abbrev pub bad : Scan
bad = record { left = 1; low = 1; high = 0 }

-- after E0 and F0 no overlong form, after ED no surrogate, after F4 nothing above 10FFFF
abbrev pub low_after_lem : ℕ → ℕ
low_after_lem x = pick (eqb x 0xe0) 0xa0 (pick (eqb x 0xf0) 0x90 0x80)

abbrev pub high_after_lem : ℕ → ℕ
high_after_lem x = pick (eqb x 0xed) 0x9f (pick (eqb x 0xf4) 0x8f 0xbf)

abbrev pub after : ℕ → ℕ → Scan
after n x = record { left = n; low = low_after_lem x; high = high_after_lem x }

-- what the first byte of a code point leads to; of one byte, those from 32 to 126
abbrev pub first : ℕ → Scan
first x =
    start when within 32 126 x else
    after 1 x when within 0xc2 0xdf x else
    after 2 x when within 0xe0 0xef x else
    after 3 x when within 0xf0 0xf4 x else
    bad

abbrev pub next : Scan → ℕ → Scan
next s x = pick (eqb s.left 0) (first x) (pick (within s.low s.high x) (tails (s.left - 1)) bad)

abbrev pub scan : Scan → List ℕ → Scan
scan s [] = s
scan s (x ∷ xs) = scan (next s x) xs
