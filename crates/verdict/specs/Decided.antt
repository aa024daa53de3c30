-- WHAT IS DECIDED about a datagram, for every state, names, store, ledger and sender: the step list's verdict, with the header that was read. Definitions only.
use Rattle.std.specs.Prelude.{List, ℕ, length, get_or}
use Rattle.wire.specs.Choice.{pick}
use Rattle.refusals.specs.Numbers.{number_of}
use Rattle.datagram.specs.Limits.{max_fragments}
use Rattle.datagram.specs.Read.{read_datagram_lem, part_of}
use Rattle.datagram.specs.Said.{says, fragment_in}
use Rattle.datagram.specs.declared.Header.{Header}
use Rattle.datagram.specs.Read.{Read}
use Rattle.datagram.specs.Read.{Good, Refused}
use Rattle.steps.specs.Receive.{Machine, decide, refuse, again, deliver, join, begin}
use Rattle.steps.specs.Receive as steps
use Rattle.receiver_state.specs.View.{room_word, view, ready}
use Rattle.verdict.specs.declared.Verdict as code
use Rattle.verdict.specs.declared.Verdict.TheVariants as code_verdict

-- what is to be done, with the header that was read
pub data Verdict : Type 0 where
  -- refused, by the number of document 01
  Refuse : ℕ → Verdict
  -- a repeat
  Again : Verdict
  -- a small message, delivered from the datagram
  Deliver : Header → Verdict
  -- the fragment goes into that open slot
  Join : ℕ → Header → Verdict
  -- the fragment opens a slot
  Begin : Header → Verdict

-- what the code decides, in the papers' values
abbrev pub verdict_told : code.Verdict → Verdict
verdict_told (code_verdict.Refuse r) = Refuse (number_of r)
verdict_told code_verdict.Again = Again
verdict_told (code_verdict.Deliver h) = Deliver h
verdict_told (code_verdict.Join s h) = Join s h
verdict_told (code_verdict.Begin h) = Begin h

-- a verdict on the datagram with that header
abbrev pub with_header : Header → steps.Verdict → Verdict
with_header h (refuse n) = Refuse n
with_header h again = Again
with_header h (deliver name n) = Deliver h
with_header h (join s f) = Join s h
with_header h (begin f) = Begin h

-- and what it says of the datagram d, in the step list's values
abbrev pub verdict_of : List ℕ → Verdict → steps.Verdict
verdict_of d (Refuse n) = refuse n
verdict_of d Again = again
verdict_of d (Deliver h) = deliver (part_of d h.name) (length (part_of d h.payload))
verdict_of d (Join s h) = join s (fragment_in d h)
verdict_of d (Begin h) = begin (fragment_in d h)

-- If the datagram reader refuses, that number is passed on.
abbrev pub by_read : Machine → List ℕ → List ℕ → ℕ → List ℕ → Read → Verdict
by_read m store ledger sender d (Refused n) = Refuse n
by_read m store ledger sender d (Good h) = with_header h (decide m store ledger sender (says d (Good h)))

-- refusal 9 first; C is the limit of refusal 6
unfoldable pub decided : List ℕ → List ℕ → List ℕ → List ℕ → ℕ → List ℕ → Verdict
decided w n store ledger sender d =
    pick (ready w n (length store) (length ledger))
    (by_read (view w n) store ledger sender d (read_datagram_lem (get_or w room_word 0) max_fragments d))
    (Refuse 9)
