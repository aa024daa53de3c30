-- WHAT THE C HOST IS TOLD OF A MESSAGE AND OF A LIST'S MARKS, for all that it may lend. Definitions only.
use Rattle.std.specs.Prelude.{◌≡◌, true, false, List, [], ◌∷◌, ℕ, ℤ}
use Rattle.wire.specs.Overlay.{overlay}
use Rattle.wire.specs.Slices.{Buffer, short}
use Rattle.lmcp.specs.Found.{Found}
use Rattle.lmcp.specs.Found as found
use Rattle.lmcp.specs.Message.{ReadTo}
use Rattle.lmcp.specs.Lists.{read_list}
use Rattle.mark_rows.specs.Rows as rows
use Rattle.mark_rows.specs.Rows.{Rows, GivesRows}

-- 13, and what was lent beside the numbers that tell stays
pub record Unread (list list' : List ℤ) (told : Buffer) (answer : ℕ) : Type 0 where
  pub gave : answer ≡ 13
  pub stays : list' ≡ list
  pub nothing : told.after ≡ told.before

-- ---- a message

-- 0, or the number of the refusal; and what is told: how many numbers, or nothing
abbrev pub message_code : Found → ℕ
message_code (found.Numbers n) = 0
message_code (found.Refused e) = e

abbrev pub message_numbers : Found → List ℕ
message_numbers (found.Numbers n) = n ∷ []
message_numbers (found.Refused e) = []

-- the reader's answer, told
pub record Read (message : List ℕ) (numbers numbers' : List ℤ) (told : Buffer) (answer : ℕ) : Type 0 where
  pub found : Found
  pub reads : ReadTo (read_list message) numbers found numbers'
  pub gave : answer ≡ message_code found
  pub list : told.after ≡ overlay told.before 0 (message_numbers found)

pub record MessageTold (message : List ℕ) (numbers numbers' : List ℤ) (told : Buffer) (answer : ℕ) : Type 0 where
  pub unread : short 1 told.before ≡ true → Unread numbers numbers' told answer
  pub read : short 1 told.before ≡ false → Read message numbers numbers' told answer

-- ---- the marks of a list

-- whether it is a PitList, its tile, how many rows
abbrev pub marks_code : Rows → ℕ
marks_code (rows.Of t n) = 0
marks_code rows.Other = 0
marks_code (rows.Refused e) = e

abbrev pub marks_numbers : Rows → List ℕ
marks_numbers (rows.Of t n) = 1 ∷ t ∷ n ∷ []
marks_numbers rows.Other = 0 ∷ 0 ∷ 0 ∷ []
marks_numbers (rows.Refused e) = []

pub record Marked (l before after : List ℤ) (told : Buffer) (answer : ℕ) : Type 0 where
  pub given : Rows
  pub gives : GivesRows l before given after
  pub gave : answer ≡ marks_code given
  pub list : told.after ≡ overlay told.before 0 (marks_numbers given)

pub record MarksTold (l before after : List ℤ) (told : Buffer) (answer : ℕ) : Type 0 where
  pub unread : short 3 told.before ≡ true → Unread before after told answer
  pub marked : short 3 told.before ≡ false → Marked l before after told answer
