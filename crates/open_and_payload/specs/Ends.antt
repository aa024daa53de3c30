-- WHAT THE TWO ENDS PROMISE, for every state, names, store, outcome and datagram. Definitions only.
use Rattle.std.proofs.Math.Option.{none, some}
use Rattle.std.specs.Prelude.{List, [], ℕ}
use Rattle.wire.specs.Choice.{pick}
use Rattle.steps.specs.Answers.{Reply, refused_by, kept, repeat, delivered}
use Rattle.steps.specs.Receive.{opened}
use Rattle.receiver_state.specs.View.{view, shaped}
use Rattle.receiver.specs.Calls.{Changes}
use Rattle.receiver.specs.Calls.{Call}

-- open: a fresh receiver over a store of that many bytes, or refused by 9
abbrev pub Opens : List ℕ → List ℕ → ℕ → Call → List ℕ → List ℕ → Type 0
Opens w n store_length r w' n' =
    Changes (pick (shaped w n) (opened store_length) (view w n)) (pick (shaped w n) none (some 9)) w n r w' n'

-- the bytes that an answer hands over: none, but for Delivered
abbrev pub payload_of : Reply → List ℕ
payload_of (refused_by n) = []
payload_of kept = []
payload_of repeat = []
payload_of (delivered bytes) = bytes
