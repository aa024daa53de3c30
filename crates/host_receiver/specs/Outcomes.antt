-- An outcome as the C host is told it: eight numbers at the start of a lent list, and the name's bytes at the start of lent bytes. Definitions only.
use Rattle.std.specs.Prelude.{◌≡◌, List, [], ◌∷◌, ◌++◌, ℕ}
use Rattle.wire.specs.Overlay.{overlay}
use Rattle.steps.specs.declared.PayloadAt.{PayloadAt}
use Rattle.steps.specs.declared.PayloadAt.TheVariants.{InDatagram, InStore}
use Rattle.steps.specs.Receive.{Answer}
use Rattle.steps.specs.Receive.{Refused, Kept, Repeat, Delivered}
use Rattle.steps.specs.declared.Emptied.{Emptied}
use Rattle.steps.specs.declared.Emptied.TheVariants.{Nobody, Was}
use Rattle.steps.specs.Answers.{answer_told}
use Rattle.receiver.specs.declared.Outcome.{Outcome}
use Rattle.wire.specs.Slices.{Buffer}

-- 3 delivered; 1 in the datagram, 2 in the store; the payload's place and length
abbrev pub place_numbers_lem : PayloadAt → ℕ → List ℕ
place_numbers_lem (InDatagram at) len = 3 ∷ 1 ∷ at ∷ len ∷ []
place_numbers_lem (InStore at) len = 3 ∷ 2 ∷ at ∷ len ∷ []

-- 1 kept, 2 repeat, 3 delivered; of a refusal no number is told
abbrev pub answer_numbers_lem : Answer → List ℕ
answer_numbers_lem (Refused n) = 0 ∷ 0 ∷ 0 ∷ 0 ∷ []
answer_numbers_lem Kept = 1 ∷ 0 ∷ 0 ∷ 0 ∷ []
answer_numbers_lem Repeat = 2 ∷ 0 ∷ 0 ∷ 0 ∷ []
answer_numbers_lem (Delivered place len) = place_numbers_lem place len

-- whether a slot was emptied, and its key
abbrev pub emptied_numbers : Emptied → List ℕ
emptied_numbers Nobody = 0 ∷ 0 ∷ 0 ∷ []
emptied_numbers (Was key) = 1 ∷ key.sender ∷ key.sequence ∷ []

-- and the sequence of the datagram that was received
abbrev pub later_numbers_lem : Emptied → ℕ → List ℕ
later_numbers_lem e sequence = emptied_numbers e ++ sequence ∷ []

abbrev pub outcome_numbers : ℕ → Outcome → List ℕ
outcome_numbers sequence o = answer_numbers_lem (answer_told o.answer) ++ later_numbers_lem o.emptied sequence

-- the number of a refusal, or 0
abbrev pub answer_code : Answer → ℕ
answer_code (Refused n) = n
answer_code Kept = 0
answer_code Repeat = 0
answer_code (Delivered place len) = 0

-- a refusal leaves what was lent
abbrev pub unless_refused : Answer → List ℕ → List ℕ → List ℕ
unless_refused (Refused n) lent new = lent
unless_refused Kept lent new = new
unless_refused Repeat lent new = new
unless_refused (Delivered place len) lent new = new

-- as the answer has it, to a datagram with that sequence
pub record Tells (sequence : ℕ) (o : Outcome) (told name : Buffer) (answer : ℕ) : Type 0 where
  pub gave : answer ≡ answer_code (answer_told o.answer)
  pub numbers : told.after ≡ unless_refused (answer_told o.answer) told.before (overlay told.before 0 (outcome_numbers sequence o))
  pub bytes : name.after ≡ unless_refused (answer_told o.answer) name.before (overlay name.before 0 o.name)
