-- What becomes of three sets, kept in lent words with how many numbers each has, when a PitList's tile and marks are entered. Definitions only.
use Rattle.std.specs.Prelude.{◌≡◌, Bool, true, false, List, [], ◌∷◌, ℕ, ◌%◌, ℤ, length, drop, Option, Some, None}
use Rattle.lmcp.specs.Table.{second}
use Rattle.sorted_set.specs.Halving.{entered, words_with}
use Rattle.count_rules.specs.Marks.{Mark, at, marks_in}
use Rattle.count_rules.specs.Keys.{span, pit_key}
use Rattle.pit_marks.specs.declared.Sizes.{Sizes}
use Rattle.pit_marks.specs.Taken.{Taken}
use Rattle.pit_marks.specs.Taken as taken
use Rattle.pit_marks.specs.Sets.{Sets, sets_of}

-- tiles and pits are uint32
abbrev pub key_in : ℕ → ℕ → ℕ
key_in t p = pit_key (t % span) (p % span)

abbrev pub with_tiles : ℕ → Sizes → Sizes
with_tiles n had = record { tiles = n; pits = had.pits; sure = had.sure }

abbrev pub with_pits : ℕ → Sizes → Sizes
with_pits n had = record { tiles = had.tiles; pits = n; sure = had.sure }

abbrev pub with_sure : ℕ → Sizes → Sizes
with_sure n had = record { tiles = had.tiles; pits = had.pits; sure = n }

-- the number of the refusal, 0 for none; and the sizes, told by a refusal too
abbrev pub fault_of : Taken → ℕ
fault_of (taken.Now now) = 0
fault_of (taken.Refused now n) = n

abbrev pub sizes_of : Taken → Sizes
sizes_of (taken.Now now) = now
sizes_of (taken.Refused now n) = now

-- ---- the pits of all tiles, and the sure ones

-- the answer, and the words then
pub record Pitted : Type 0 where
  pub answer : Taken
  pub pits : List ℕ
  pub sure : List ℕ

abbrev pub pitted : Taken → List ℕ → List ℕ → Pitted
pitted r pits sure = record { answer = r; pits = pits; sure = sure }

abbrev pub sure_entered : Option ℕ → List ℕ → List ℕ → Sizes → Pitted
sure_entered (Some n) pits sure had = pitted (taken.Now (with_sure n had)) pits sure
sure_entered None pits sure had = pitted (taken.Refused had 61) pits sure

-- a sure one is entered there too
abbrev pub if_sure : Bool → ℕ → List ℕ → List ℕ → Sizes → Pitted
if_sure true x pits sure had = sure_entered (entered sure had.sure x) pits (words_with sure had.sure x) had
if_sure false x pits sure had = pitted (taken.Now had) pits sure

abbrev pub pit_entered : Option ℕ → Bool → ℕ → List ℕ → List ℕ → Sizes → Pitted
pit_entered (Some n) s x pits sure had = if_sure s x pits sure (with_pits n had)
pit_entered None s x pits sure had = pitted (taken.Refused had 61) pits sure

unfoldable pub enter_pit_lem : Bool → ℕ → List ℕ → List ℕ → Sizes → Pitted
enter_pit_lem s x pits sure had = pit_entered (entered pits had.pits x) s x (words_with pits had.pits x) sure had

-- on with k, unless refused
abbrev pub onward : (List ℕ → List ℕ → Sizes → Pitted) → Taken → List ℕ → List ℕ → Pitted
onward k (taken.Now now) pits sure = k pits sure now
onward k (taken.Refused now n) pits sure = pitted (taken.Refused now n) pits sure

abbrev pub followed : Pitted → (List ℕ → List ℕ → Sizes → Pitted) → Pitted
followed p k = onward k p.answer p.pits p.sure

-- mark by mark, under tile t
unfoldable pub enter_marks : ℕ → List Mark → List ℕ → List ℕ → Sizes → Pitted
enter_marks t [] pits sure had = pitted (taken.Now had) pits sure
enter_marks t (m ∷ ms) pits sure had = followed (enter_pit_lem m.sure (key_in t m.pit) pits sure had) (enter_marks t ms)

-- ---- a list: its tile before its pits

pub record Listed : Type 0 where
  pub answer : Taken
  pub sets : Sets

abbrev pub besides : List ℕ → Pitted → Listed
besides tiles p = record { answer = p.answer; sets = sets_of tiles p.pits p.sure }

abbrev pub tile_entered : Option ℕ → List ℕ → (List ℕ → List ℕ → Sizes → Pitted) → Sets → Sizes → Listed
tile_entered (Some n) tiles k x had = besides tiles (k x.pits x.sure (with_tiles n had))
tile_entered None tiles k x had = besides tiles (pitted (taken.Refused had 60) x.pits x.sure)

-- the elements of a list begin behind its version, type, tile and count, and go to the end of the numbers: each takes one at least
abbrev pub elements_of : List ℤ → List Mark
elements_of l = marks_in (second (at l 0)) (length (drop 4 l)) (drop 4 l)

unfoldable pub enter_list_lem : List ℤ → Sets → Sizes → Listed
enter_list_lem l x had =
    tile_entered (entered x.tiles had.tiles (at l 2)) (words_with x.tiles had.tiles (at l 2)) (enter_marks (at l 2) (elements_of l)) x had

-- THE CONTRACT of a list: the answer, with the sizes then, and the sets
pub record EntersList (l : List ℤ) (x : Sets) (had : Sizes) (r : Taken) (x' : Sets) : Type 0 where
  pub gave : r ≡ (enter_list_lem l x had).answer
  pub left : x' ≡ (enter_list_lem l x had).sets
