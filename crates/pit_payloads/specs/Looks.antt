-- What becomes of the number list and of the three sets when one payload is taken. Definitions only.
use Rattle.std.specs.Prelude.{◌≡◌, List, ℕ, eqb, ltb, ℤ, length}
use Rattle.wire.specs.Choice.{pick}
use Rattle.wire.specs.Slices.{Slice, SignedSlice}
use Rattle.lmcp.specs.Run.{got, refused}
use Rattle.lmcp.specs.Read.{Read}
use Rattle.lmcp.specs.Message.{listed}
use Rattle.lmcp.specs.Lists.{read_list}
use Rattle.count_rules.specs.Marks.{at}
use Rattle.pit_marks.specs.declared.Sizes.{Sizes}
use Rattle.pit_marks.specs.Taken.{Taken}
use Rattle.pit_marks.specs.Taken as taken
use Rattle.pit_marks.specs.Sets.{Sets, sets_of}
use Rattle.pit_marks.specs.Enters.{Listed, enter_list_lem}
use Rattle.pit_payloads.specs.Looked.{Looked}
use Rattle.pit_payloads.specs.Looked as looked

-- what payloads are entered into: the number list, and the sets
pub record Book : Type 0 where
  pub list : List ℤ
  pub sets : Sets

abbrev pub book : List ℤ → Sets → Book
book list x = record { list = list; sets = x }

abbrev pub book_before : SignedSlice → Slice → Slice → Slice → Book
book_before list t p s = book list.entry.now (sets_of t.entry.now p.entry.now s.entry.now)

abbrev pub book_after : SignedSlice → Slice → Slice → Slice → Book
book_after list t p s = book list.exit.now (sets_of t.exit.now p.exit.now s.exit.now)

-- the answer, and the sets then
pub record Left : Type 0 where
  pub answer : Looked
  pub sets : Sets

abbrev pub left : Looked → Sets → Left
left a x = record { answer = a; sets = x }

abbrev pub looked_by : Taken → Looked
looked_by (taken.Now now) = looked.Listed now
looked_by (taken.Refused now n) = looked.Refused now n

abbrev pub with_list : Listed → Left
with_list e = left (looked_by e.answer) e.sets

-- the numbers of an accepted message: type 5 is a PitList
abbrev pub in_numbers : List ℤ → Sets → Sizes → Left
in_numbers l x had = pick (eqb (at l 1) 5) (with_list (enter_list_lem l x had)) (left looked.Other x)

-- what the reader makes of it: numbers for which the list is too short are refused by 13; a message that is not accepted is no list
abbrev pub in_read : ℕ → Read → Sets → Sizes → Left
in_read room (got l r) x had = pick (ltb room (length l)) (left (looked.Refused had 13) x) (in_numbers l x had)
in_read room (refused n) x had = left looked.Other x

pub record Leaves (e : Left) (r : Looked) (x' : Sets) : Type 0 where
  pub gave : r ≡ e.answer
  pub sets-left : x' ≡ e.sets

-- THE CONTRACT of a payload, for the lent number list and the sets, and what they hold afterwards
pub record Looks (payload : List ℕ) (b : Book) (had : Sizes) (r : Looked) (b' : Book) : Type 0 where
  pub list_left : b'.list ≡ listed (read_list payload) b.list
  pub leaves : Leaves (in_read (length b.list) (read_list payload) b.sets had) r b'.sets
