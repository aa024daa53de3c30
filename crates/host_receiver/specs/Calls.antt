-- What receiving promises the C host: each is the receiver's own call, told in numbers. Definitions only.
use Rattle.std.specs.Prelude.{◌≡◌, Bool, true, false, ◌||◌, List, ℕ, ltb, length}
use Rattle.datagram.specs.Limits.{max_name}
use Rattle.datagram.specs.Read.{sequence_in}
use Rattle.receiver.specs.Lent.{Lent}
use Rattle.receiver.specs.Calls.{Receives}
use Rattle.receiver.specs.declared.Outcome.{Outcome}
use Rattle.flight_log.specs.declared.reader.Limits.{Limits}
use Rattle.within_limits.specs.Within.{ReceivesWithin}
use Rattle.host_state.specs.Lengths.{outcome_count}
use Rattle.wire.specs.Slices.{Buffer}
use Rattle.host_receiver.specs.Outcomes.{Tells}

-- what is lent for the outcome has no room for it
abbrev pub lacking : List ℕ → List ℕ → Bool
lacking told name = ltb (length told) outcome_count || ltb (length name) max_name

-- 13, and all that was lent stays
pub record Untouched (l : Lent) (told name : Buffer) (answer : ℕ) (l' : Lent) : Type 0 where
  pub gave : answer ≡ 13
  pub stays : l' ≡ l
  pub list : told.after ≡ told.before
  pub given : name.after ≡ name.before

-- the receiver's own call, and its outcome told, with the sequence of the datagram. A call is what holds of its outcome and of what is lent afterwards
pub record Heard (call : Outcome → Lent → Type 0) (sequence : ℕ) (told name : Buffer) (answer : ℕ) (l' : Lent) : Type 0 where
  pub outcome : Outcome
  pub receives : call outcome l'
  pub tells : Tells sequence outcome told name answer

-- either way: the room for an outcome is asked first
pub record Told (call : Outcome → Lent → Type 0) (sequence : ℕ) (l : Lent) (told name : Buffer) (answer : ℕ) (l' : Lent) : Type 0 where
  pub short : lacking told.before name.before ≡ true → Untouched l told name answer l'
  pub heard : lacking told.before name.before ≡ false → Heard call sequence told name answer l'

abbrev pub ReceiveTold : Lent → ℕ → List ℕ → Buffer → Buffer → ℕ → Lent → Type 0
ReceiveTold l sender d told name answer l' = Told (Receives l sender d) (sequence_in d) l told name answer l'

-- out of a log with those limits
abbrev pub WithinTold : Limits → Lent → ℕ → List ℕ → Buffer → Buffer → ℕ → Lent → Type 0
WithinTold limits l sender d told name answer l' = Told (ReceivesWithin limits l sender d) (sequence_in d) l told name answer l'
