-- The lines of the program `replay`, in ASCII, and what they are about. Definitions only.
use Rattle.std.specs.Prelude.{List, ℕ}
use Rattle.steps.specs.Answers.{answer_told}
use Rattle.steps.specs.Receive.{After}
use Rattle.steps.specs.Runs.{World, world_of, begun, from, call}
use Rattle.receiver.specs.declared.Outcome.{Outcome}
use Rattle.receiver.specs.Lent.{Lent}
use Rattle.receiver.specs.Calls.{Receives}
use Rattle.output.specs.declared.Output.{Output}
use Rattle.output.specs.Output.{Adds, last_line}
use Rattle.record_lines.specs.Streams.{Rec, Stream}
use Rattle.record_lines.specs.Lines.{Says, lines_after}
use Rattle.replay_lines.specs.Lines.{line}

-- whose datagrams `replay` takes them all for
abbrev pub only_sender : ℕ
only_sender = 0

-- Datagram d was received over what is lent, and line n says the outcome.
pub record Replayed (l : Lent) (d : List ℕ) (number : ℕ) (out : Output) (l' : Lent) (out' : Output) : Type 0 where
  pub outcome : Outcome
  pub heard : Receives l only_sender d outcome l'
  pub said : Adds out (line number (answer_told outcome.answer) outcome.emptied) out'

-- a datagram's call of the step list
abbrev pub heard_by : World → Rec → After
heard_by w x = call w (from only_sender x.body)

-- one receiver hears all datagrams: line n of each, and the last line
abbrev pub says : Says World
says =
    record {
      line = λ n w x. line n (heard_by w x).answer (heard_by w x).emptied;
      after = λ w x. world_of (heard_by w x);
      last = last_line;
    }

-- the bytes of the store, by the paper
abbrev pub store_bytes : ℕ
store_bytes = 65_536

-- a fresh receiver hears them
abbrev pub lines : Stream → List ℕ
lines = lines_after says 0 (begun store_bytes)
