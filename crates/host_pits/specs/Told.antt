-- WHAT THE C HOST IS TOLD OF A TILE'S PITS, for all that it may lend. Definitions only.
use Rattle.std.specs.Prelude.{◌≡◌, true, false, List, [], ◌∷◌, ℕ}
use Rattle.wire.specs.Overlay.{overlay}
use Rattle.wire.specs.Slices.{Buffer, short}
use Rattle.tile_pits.specs.Pits as given
use Rattle.tile_pits.specs.Pits.{Pits, Map, GivesPits}

abbrev pub pits_code : Pits → ℕ
pits_code (given.Many n) = 0
pits_code (given.Refused e) = e

abbrev pub pits_numbers : Pits → List ℕ
pits_numbers (given.Many n) = n ∷ []
pits_numbers (given.Refused e) = []

pub record Unwritten (number certain told : Buffer) (answer : ℕ) : Type 0 where
  pub gave : answer ≡ 13
  pub numbers : number.after ≡ number.before
  pub sureness : certain.after ≡ certain.before
  pub nothing : told.after ≡ told.before

pub record Written (x : Map) (t : ℕ) (number certain told : Buffer) (answer : ℕ) : Type 0 where
  pub given : Pits
  pub gives : GivesPits x t number certain given
  pub gave : answer ≡ pits_code given
  pub list : told.after ≡ overlay told.before 0 (pits_numbers given)

pub record PitsTold (x : Map) (t : ℕ) (number certain told : Buffer) (answer : ℕ) : Type 0 where
  pub unwritten : short 1 told.before ≡ true → Unwritten number certain told answer
  pub written : short 1 told.before ≡ false → Written x t number certain told answer
