-- WHICH PITS A TILE HAS, out of the sets: the tile's part of the pits, and whether each stands among the sure ones too. For words that are no sets this
-- says what comes of them all the same. Definitions only.
use Rattle.std.specs.Prelude.{◌≡◌, Bool, ◌||◌, List, ℕ, ◌+◌, ◌%◌, ltb, length, get_or, Result, Ok, Err}
use Rattle.wire.specs.Choice.{pick}
use Rattle.wire.specs.Overlay.{overlay}
use Rattle.wire.specs.Slices.{Buffer}
use Rattle.words.specs.Builds.{build}
use Rattle.sorted_set.specs.Halving.{rank_in, is_there}
use Rattle.count_rules.specs.Keys.{span, pit_key}
use Rattle.refusals.specs.declared.Refusal.{Refusal}
use Rattle.refusals.specs.Numbers.{number_of}
use Rattle.pit_marks.specs.Lines.{pits_in}

-- the pits of all tiles and the sure ones, with how many numbers each has
pub record Map : Type 0 where
  pub pits : List ℕ
  pub had-pits : ℕ
  pub sure : List ℕ
  pub had-sure : ℕ

abbrev pub map_of : List ℕ → ℕ → List ℕ → ℕ → Map
map_of p n s m = record { pits = p; had-pits = n; sure = s; had-sure = m }

-- where tile t's pits begin
abbrev pub first_of : List ℕ → ℕ → ℕ → ℕ
first_of w n t = rank_in w n (pit_key (t % span) 0)

-- how many the tile has, as its line says
abbrev pub many_in : Map → ℕ → ℕ
many_in x t = pits_in x.pits x.had-pits t

-- number i of its part: the pit under its tile
abbrev pub key_at : Map → ℕ → ℕ → ℕ
key_at x t i = get_or x.pits (first_of x.pits x.had-pits t + i) 0

-- the pits, without the tile
unfoldable pub numbers_in : Map → ℕ → List ℕ
numbers_in x t = build (many_in x t) (λ i. key_at x t i % span)

-- 1 for each that is sure, else 0
unfoldable pub certain_in : Map → ℕ → List ℕ
certain_in x t = build (many_in x t) (λ i. pick (is_there x.sure x.had-sure (key_at x t i)) 1 0)

-- one of the two has no room for them
abbrev pub lacking : ℕ → List ℕ → List ℕ → Bool
lacking n number certain = ltb (length number) n || ltb (length certain) n

-- how many the tile has, or the number of the refusal
pub data Pits : Type 0 where
  Many : ℕ → Pits
  Refused : ℕ → Pits

-- what the code says
abbrev pub told : Result ℕ Refusal → Pits
told (Ok n) = Many n
told (Err r) = Refused (number_of r)

-- how many, or that there is no room
abbrev pub pits_given : Bool → ℕ → Pits
pits_given lacks n = pick lacks (Refused 13) (Many n)

-- THE CONTRACT: the answer, and both outputs, which stay where there is no room
pub record GivesPits (x : Map) (t : ℕ) (number certain : Buffer) (r : Pits) : Type 0 where
  pub gave : r ≡ pits_given (lacking (many_in x t) number.before certain.before) (many_in x t)
  pub numbers : number.after ≡ pick (lacking (many_in x t) number.before certain.before) number.before (overlay number.before 0 (numbers_in x t))
  pub sureness : certain.after ≡ pick (lacking (many_in x t) number.before certain.before) certain.before (overlay certain.before 0 (certain_in x t))
