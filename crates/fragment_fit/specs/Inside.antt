-- INSIDE: what only private contracts use. Definitions only; no promise of a public function rests on them.
use Rattle.std.specs.Prelude.{Bool, not, ◌&&◌, ◌||◌, List, ℕ, ◌+◌, ◌-◌, ◌*◌, leb, ltb, get_or}
use Rattle.wire.specs.Choice.{pick}
use Rattle.steps.specs.Held.{is_held}
use Rattle.fragment_fit.specs.Fits.{fits_in_lem}
use Rattle.held_bits.specs.InsideBits.{bit_in}

-- d bytes from o on, and e bytes from p on, which are the lower where they are below: the lower reach past where the higher begin
abbrev pub crosses : Bool → ℕ → ℕ → ℕ → ℕ → Bool
crosses below o d p e = pick below (ltb o (p + e)) (ltb p (o + d))

-- fragment j of all, beside fragment k
abbrev pub apart_at : List ℕ → List ℕ → ℕ → ℕ → ℕ → ℕ → Bool
apart_at h l k o d j = not (is_held h j && crosses (ltb j k) o d (get_or l (2 * j) 0) (get_or l (2 * j + 1) 0))

-- fragments k - 1 and k + 1, where there are such
abbrev pub near_fit_lem : List ℕ → List ℕ → ℕ → ℕ → ℕ → ℕ → Bool
near_fit_lem h l n k o d = (leb k 0 || fits_in_lem h l k o d (k - 1)) && (leb n (k + 1) || fits_in_lem h l k o d (k + 1))

-- fragment b of a run, whose bit is bit b of a word, and whose entry stands b entries after a place, is not held or does not cross
abbrev pub apart_in : ℕ → List ℕ → ℕ → Bool → ℕ → ℕ → ℕ → Bool
apart_in w l at below o d b = not (bit_in w b && crosses below o d (get_or l (at + 2 * b) 0) (get_or l (at + 2 * b + 1) 0))
