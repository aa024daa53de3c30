-- The lines of the program `replay_log`, in ASCII, and what they are about. Definitions only.
use Rattle.std.specs.Prelude.{List, [], ◌∷◌, ◌++◌, ℕ, ◌+◌}
use Rattle.steps.specs.Answers.{answer_told}
use Rattle.steps.specs.Receive.{After}
use Rattle.steps.specs.Runs.{World, world_of, begun}
use Rattle.receiver.specs.Lent.{Lent}
use Rattle.receiver.specs.declared.Outcome.{Outcome}
use Rattle.flight_log.specs.declared.reader.Limits.{Limits}
use Rattle.flight_log.specs.Editions.{limits_in_lem}
use Rattle.flight_log.specs.Entries.{Entry}
use Rattle.flight_log.specs.Listed.{Listed, whole, broken, entries_in}
use Rattle.within_limits.specs.Within.{step_within, ReceivesWithin}
use Rattle.output.specs.declared.Output.{Output}
use Rattle.output.specs.Output.{Adds}
use Rattle.log_lines.specs.Lines.{end_line, refused_line}
use Rattle.replay_lines.specs.Lines.{line}

-- An entry's datagram was received from its sender over what is lent, within a log's limits, and line n says the outcome.
pub record Replayed (limits : Limits) (l : Lent) (e : Entry) (number : ℕ) (out : Output) (l' : Lent) (out' : Output) : Type 0 where
  pub outcome : Outcome
  pub heard : ReceivesWithin limits l e.sender e.datagram outcome l'
  pub said : Adds out (line number (answer_told outcome.answer) outcome.emptied) out'

-- an entry's call of the step list, within a log's limits
abbrev pub heard_by : Limits → World → Entry → After
heard_by limits w e = step_within limits w.machine w.store w.ledger e.sender e.datagram

-- one line an entry, behind n entries before them, and the last line, by how many there are in all
abbrev pub lines_after : Limits → ℕ → World → List Entry → (ℕ → List ℕ) → List ℕ
lines_after limits n w [] last = last n
lines_after limits n w (e ∷ es) last =
    line (n + 1) (heard_by limits w e).answer (heard_by limits w e).emptied ++ lines_after limits (n + 1) (world_of (heard_by limits w e)) es last

-- of a log: all its entries, or those before the refusal
abbrev pub log_lines_lem : Limits → World → Listed → List ℕ
log_lines_lem limits w (whole es) = lines_after limits 0 w es end_line
log_lines_lem limits w (broken es number) = lines_after limits 0 w es (refused_line number)

-- the bytes of the store: each of the eight slots takes a payload of 262,144
abbrev pub store_bytes : ℕ
store_bytes = 2_097_152

-- of the bytes of a log, within its own limits, by a receiver that goes on with what is lent
unfoldable pub lines_from : World → List ℕ → List ℕ
lines_from w log = log_lines_lem (limits_in_lem log) w (entries_in log)

-- by a fresh one
abbrev pub replay_lines_lem : List ℕ → List ℕ
replay_lines_lem = lines_from (begun store_bytes)
