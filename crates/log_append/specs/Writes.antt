-- What the writer answers and leaves: document 02, L1 and L10. "The writer gives 42, then 13", and 45 before 42. It writes edition 2. Definitions only.
use Rattle.std.specs.Prelude.{◌≡◌, List, [], ◌∷◌, ◌++◌, ℕ, ◌+◌, ltb, length, Result, Ok, Err}
use Rattle.wire.specs.Choice.{pick}
use Rattle.wire.specs.Overlay.{overlay}
use Rattle.datagram.specs.Limits.{max_datagram, max_payload}
use Rattle.flight_log.specs.Editions.{edition2, head_bytes}
use Rattle.flight_log.specs.Entries.{Entry, entry_bytes}
use Rattle.refusals.specs.declared.Refusal.{Refusal}
use Rattle.refusals.specs.Numbers.{number_of}

-- the place after what was written, or the number of the refusal
pub data Answer : Type 0 where
  wrote : ℕ → Answer
  refused : ℕ → Answer

-- what the code's answer says
abbrev pub says : Result ℕ Refusal → Answer
says (Ok next) = wrote next
says (Err r) = refused (number_of r)

-- bytes at a place of an output of n bytes: 13 where they do not fit
abbrev pub fitted : ℕ → ℕ → List ℕ → Answer
fitted n at b = pick (ltb n (at + length b)) (refused 13) (wrote (at + length b))

unfoldable pub begin_answer : ℕ → ℕ → Answer
begin_answer n limit = pick (ltb max_payload limit) (refused 45) (fitted n 0 (head_bytes (edition2 limit)))

unfoldable pub append_answer : ℕ → ℕ → Entry → Answer
append_answer n at e = pick (ltb max_datagram (length e.datagram)) (refused 42) (fitted n at (entry_bytes e))

-- a refusal leaves the output; else the bytes stand at the place, and the rest stays
abbrev pub output : Answer → List ℕ → ℕ → List ℕ → List ℕ
output (wrote next) out at b = overlay out at b
output (refused n) out at b = out

pub record Began (out : List ℕ) (limit : ℕ) (r : Result ℕ Refusal) (out' : List ℕ) : Type 0 where
  pub answer : says r ≡ begin_answer (length out) limit
  pub left : out' ≡ output (says r) out 0 (head_bytes (edition2 limit))

pub record Appended (out : List ℕ) (at : ℕ) (e : Entry) (r : Result ℕ Refusal) (out' : List ℕ) : Type 0 where
  pub answer : says r ≡ append_answer (length out) at e
  pub left : out' ≡ output (says r) out at (entry_bytes e)

-- `begin` with a limit, and then `append` of each entry at the place that the call before answered: the entries, the place and the output by now
pub data Kept (out : List ℕ) (limit : ℕ) : List Entry → ℕ → List ℕ → Type 0 where
  begun : {at : ℕ} {out' : List ℕ} → Began out limit (Ok at) out' → Kept out limit [] at out'
  added : {es : List Entry} {e : Entry} {at at' : ℕ} {mid out' : List ℕ} → Kept out limit es at mid → Appended mid at e (Ok at') out' → Kept out limit (es ++ e ∷ []) at' out'
