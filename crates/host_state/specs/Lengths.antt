-- The lengths that a C host goes by, and the version of the header, for a test to hold the header's macros to. Definitions only.
use Rattle.std.specs.Prelude.{◌≡◌, List, [], ◌∷◌, ℕ, ◌+◌, ltb, length}
use Rattle.wire.specs.Choice.{pick}
use Rattle.wire.specs.Overlay.{overlay}
use Rattle.datagram.specs.Limits.{max_name, max_payload, max_fragments}
use Rattle.steps.specs.Limits.{slot_count, ledger_length}
use Rattle.receiver_state.specs.View.{state_words_lem, name_bytes_lem}
use Rattle.watch.specs.Limits.{max_senders}
use Rattle.log_index.specs.Limits.{max_index}

-- the numbers of an outcome: four of the answer, three of the emptied key, and the sequence of the datagram
abbrev pub outcome_count : ℕ
outcome_count = 4 + 3 + 1

-- slots, payload, fragments, name; words of a state, bytes of its names, numbers of a ledger; numbers of an outcome; senders of a watch; rows of an index
abbrev pub lengths_are : List ℕ
lengths_are =
    slot_count
    ∷ max_payload
    ∷ max_fragments
    ∷ max_name
    ∷ state_words_lem
    ∷ name_bytes_lem
    ∷ ledger_length
    ∷ outcome_count
    ∷ max_senders
    ∷ max_index
    ∷ []

pub record LengthsTold (list : List ℕ) (answer : ℕ) (list' : List ℕ) : Type 0 where
  pub gave : answer ≡ pick (ltb (length list) (length lengths_are)) 13 0
  pub left : list' ≡ pick (ltb (length list) (length lengths_are)) list (overlay list 0 lengths_are)

-- QM_VERSION: a hundred times the major number and the minor
abbrev pub version : ℕ
version = 100
