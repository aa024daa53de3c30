-- The words of a lent slice whose first n are a set: where a number belongs among them, by halving, and entering it once. For words that do not
-- rise this says what comes of them all the same. Definitions only.
use Rattle.std.specs.Prelude.{◌≡◌, Bool, ◌&&◌, List, ◌∷◌, ◌++◌, ℕ, ◌+◌, ◌-◌, ◌≤◌, min, ltb, eqb, length, get_or, take, drop, Option, Some, None, Result, Ok, Err}
use Rattle.wire.specs.Choice.{pick}
use Rattle.wire.specs.Halving.{halve}
use Rattle.sorted_set.specs.Lists.{Rising}

-- no more than there are
abbrev pub held : List ℕ → ℕ → ℕ
held w n = min n (length w)

-- whether the word at a place is below x: then x belongs behind it
abbrev pub smaller : List ℕ → ℕ → ℕ → Bool
smaller w x i = ltb (get_or w i 0) x

-- the place of x among the first n words
unfoldable pub rank_in : List ℕ → ℕ → ℕ → ℕ
rank_in w n x = halve (held w n) (smaller w x) 0 (held w n)

-- the words from a place up to the n-th moved up by one, and x at the place
abbrev pub inserted : List ℕ → ℕ → ℕ → ℕ → List ℕ
inserted w at n x = take at w ++ (x ∷ (take (n - at) (drop at w) ++ drop (n + 1) w))

-- x stands at its place
abbrev pub is_there : List ℕ → ℕ → ℕ → Bool
is_there w n x = ltb (rank_in w n x) (held w n) && eqb (get_or w (rank_in w n x) 0) x

-- where it stands, or else where it belongs
abbrev pub found_in : List ℕ → ℕ → ℕ → Result ℕ ℕ
found_in w n x = pick (is_there w n x) (Ok (rank_in w n x)) (Err (rank_in w n x))

abbrev pub no_room_lem : List ℕ → ℕ → Bool
no_room_lem w n = eqb (held w n) (length w)

-- how many there are with x, or that there is no room; and what the words are then
unfoldable pub entered : List ℕ → ℕ → ℕ → Option ℕ
entered w n x = pick (is_there w n x) (Some (held w n)) (pick (no_room_lem w n) None (Some (held w n + 1)))

unfoldable pub words_with : List ℕ → ℕ → ℕ → List ℕ
words_with w n x = pick (is_there w n x) w (pick (no_room_lem w n) w (inserted w (rank_in w n x) (held w n) x))

pub record Enters (w : List ℕ) (n x : ℕ) (r : Option ℕ) (w' : List ℕ) : Type 0 where
  pub gave : r ≡ entered w n x
  pub left : w' ≡ words_with w n x

-- ---- a set of numbers in lent words

-- the first n words are the rising list l
pub record Holds (w : List ℕ) (n : ℕ) (l : List ℕ) : Type 0 where
  pub size : n ≤ length w
  pub front : take n w ≡ l
  pub rises : Rising l
