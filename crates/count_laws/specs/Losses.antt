-- WITH LOSSES: beside `count_promise`, for a log in which not every datagram came. Its proofs are `whole_means`, `loss_promise` and `counted-whole` of proofs/Losses.
-- Definitions only.
use Rattle.std.specs.Prelude.{◌≡◌, ◌↔◌, true, List, [], ℕ, ◌≤◌, ◌<◌, eqb, length}
use Rattle.std.proofs.Math.Option.{none, some}
use Rattle.wire.specs.Choice.{pick}
use Rattle.arrival.specs.Demand.{Scene, size, message, parts, Feed, got}
use Rattle.sorted_set.specs.Lists.{In}
use Rattle.count_rules.specs.Report.{report}
use Rattle.count_rules.specs.Run.{lists_read}
use Rattle.count_rules.specs.Count.{max_entries, first_fault, Report, reported, count_log_lem}
use Rattle.count_rules.specs.Promise.{LogOf, Shown, shown_of, shown}
use Rattle.season.specs.Losses.{Arrives, came_whole}

-- what some payloads show, each once
abbrev pub shown_from : List (List ℕ) → Shown
shown_from ps = record { delivered = length ps; lists = length (lists_read ps); lines = report (lists_read ps) }

-- the payload of a message, each of whose datagrams came
pub record CameWhole (σ : Scene) (f : Feed) (payload : List ℕ) : Type 0 where
  pub which : ℕ
  pub inside : which < size σ
  pub each-came : (k : ℕ) → k < parts (message σ which) → got f which k ≡ true
  pub is : payload ≡ (message σ which).payload

-- these are the payloads that came whole; so one of which a datagram never came is not among them, unless another message brought the same
abbrev pub WholeMeans : Type 0
WholeMeans = (σ : Scene) (f : Feed) (payload : List ℕ) → In payload (came_whole σ f) ↔ CameWhole σ f payload

-- THE COUNT IS THAT OF THE MESSAGES THAT CAME WHOLE: those of which a datagram never came add nothing, and nothing of theirs refuses the log.
-- Supposed is what demand 3 supposes, but not that each datagram comes.
abbrev pub LossPromise : Type 0
LossPromise = (σ : Scene) (f : Feed) (log : List ℕ) → Arrives σ f → (k : LogOf σ f log) → length k.entries ≤ max_entries → (room : ℕ)
    → shown (count_log_lem room σ.store σ.ledger log) ≡ pick (eqb (first_fault room [] (came_whole σ f)) 0) (some (shown_from (came_whole σ f))) none

-- so it is in every report that is given
abbrev pub CountedWhole : Type 0
CountedWhole = (σ : Scene) (f : Feed) (log : List ℕ) → Arrives σ f → LogOf σ f log → (room : ℕ) (r : Report)
    → count_log_lem room σ.store σ.ledger log ≡ reported r → shown_of r ≡ shown_from (came_whole σ f)
