-- What the C host is told of a log: of its head three numbers, of an entry six, at the start of a lent list. Definitions only.
use Rattle.std.specs.Prelude.{◌≡◌, List, [], ◌∷◌, ℕ, ltb, length}
use Rattle.wire.specs.Choice.{pick}
use Rattle.wire.specs.Overlay.{overlay}
use Rattle.flight_log.specs.declared.reader.EntryAt.{EntryAt}
use Rattle.flight_log.specs.First.{First}
use Rattle.flight_log.specs.First as first
use Rattle.flight_log.specs.declared.reader.Limits.{Limits}
use Rattle.flight_log.specs.Step.{Step, Found, End, Refused}
use Rattle.flight_log.specs.Said.{first_in, next_at}

-- ---- the head: where the first entry begins, the largest payload of the log, and the most fragments of a message

abbrev pub head_count : ℕ
head_count = 3

abbrev pub first_code : First → ℕ
first_code (first.At place limits) = 0
first_code (first.Refused n) = n

abbrev pub head_numbers : ℕ → Limits → List ℕ
head_numbers place limits = place ∷ limits.payload ∷ limits.fragments ∷ []

-- a refusal leaves the list
abbrev pub first_left : First → List ℕ → List ℕ
first_left (first.At place limits) list = overlay list 0 (head_numbers place limits)
first_left (first.Refused n) list = list

-- 13 where the list has no room, before all else
pub record FirstTold (log list : List ℕ) (answer : ℕ) (list' : List ℕ) : Type 0 where
  pub gave : answer ≡ pick (ltb (length list) head_count) 13 (first_code (first_in log))
  pub left : list' ≡ pick (ltb (length list) head_count) list (first_left (first_in log) list)

-- ---- an entry: 1, its sender and tick, where its datagram lies and how long it is, and the place after it

abbrev pub entry_count : ℕ
entry_count = 6

abbrev pub entry_numbers : EntryAt → List ℕ
entry_numbers e = 1 ∷ e.sender ∷ e.tick ∷ e.at ∷ e.len ∷ e.next ∷ []

-- at the end of the log there is none, and the place after it is the same
abbrev pub end_numbers : ℕ → List ℕ
end_numbers at = 0 ∷ 0 ∷ 0 ∷ at ∷ 0 ∷ at ∷ []

abbrev pub step_code : Step → ℕ
step_code (Found e) = 0
step_code End = 0
step_code (Refused n) = n

abbrev pub step_left : ℕ → Step → List ℕ → List ℕ
step_left at (Found e) list = overlay list 0 (entry_numbers e)
step_left at End list = overlay list 0 (end_numbers at)
step_left at (Refused n) list = list

pub record NextTold (log : List ℕ) (at : ℕ) (list : List ℕ) (answer : ℕ) (list' : List ℕ) : Type 0 where
  pub gave : answer ≡ pick (ltb (length list) entry_count) 13 (step_code (next_at log at))
  pub left : list' ≡ pick (ltb (length list) entry_count) list (step_left at (next_at log at) list)
