-- DATAGRAMS MAY BE LOST: demand 3's suppositions without that each comes, and the messages that came whole. Definitions only.
use Rattle.std.specs.Prelude.{◌≡◌, List, [], ◌∷◌, ◌++◌, ℕ, zero, suc, length}
use Rattle.wire.specs.Choice.{pick}
use Rattle.steps.specs.Limits.{ledger_length}
use Rattle.arrival.specs.Demand.{Scene, size, message, Distinct, EachSent, Feed, Mixture, done, NeverOverEight, AtMost16Senders, NeverTooLate}

pub record Arrives (σ : Scene) (f : Feed) : Type 0 where
  pub distinct : Distinct σ
  pub sent : EachSent σ
  pub ledger-fits : length σ.ledger ≡ ledger_length
  pub mixture : Mixture σ f
  pub never-over-eight : NeverOverEight σ f
  pub few-senders : AtMost16Senders σ
  pub never_too-late : NeverTooLate σ f

-- of the first n messages, the payloads of those all of whose datagrams came
abbrev pub whole_of : Scene → Feed → ℕ → List (List ℕ)
whole_of σ f zero = []
whole_of σ f (suc i) = pick (done σ f i) ((message σ i).payload ∷ []) [] ++ whole_of σ f i

abbrev pub came_whole : Scene → Feed → List (List ℕ)
came_whole σ f = whole_of σ f (size σ)
