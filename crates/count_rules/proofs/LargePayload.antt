-- P 262,145 is refused by 6 in an edition 1 log, and kept in one of edition 2, over any store whose slots hold it. Assumes nothing.
use Rattle.wire.proofs.Basics.{◌≡◌, ap, refl, ℕ, List, true, length}
use Rattle.wire.specs.Bytes.{be}
use Rattle.datagram.specs.Limits.{max_payload}
use Rattle.datagram.specs.Read.{good_form, formed, read_fragment_lem, read_datagram_lem}
use Rattle.datagram.specs.Read.{Refused}
use Rattle.steps.specs.Limits.{ledger_length, slot_size_of}
use Rattle.steps.specs.Held.{none_held, is_held, hold}
use Rattle.steps.specs.Memory.{empty_memory, is_remembered_lem}
use Rattle.steps.specs.Slots.{seat, opening, open_count_lem, filled}
use Rattle.steps.specs.Receive.{After, opened, stay, decide, step5, act, receive, sound}
use Rattle.steps.specs.Answers.{refused_by, kept, reply}
use Rattle.steps.specs.Runs.{fresh}
use Rattle.steps.proofs.Reaches.{opened-good, good-sound}
use Rattle.flight_log.specs.Editions.{edition1, edition2, limits_of}
use Rattle.within_limits.specs.Within.{read_within_lem, step_within}
use Rattle.within_limits.proofs.Withins.{step-refused}
use Rattle.count_rules.specs.Run.{called, answer_to}
use Rattle.count_rules.specs.Worked.{wide}

module _ (store ledger : List ℕ) (largest : slot_size_of (length store) ≡ max_payload) (ledger-fits : length ledger ≡ ledger_length) where
  is-sound : sound (opened (length store)) (length store) (length ledger) ≡ true
  is-sound = rw ledger-fits (good-sound (length store) (opened (length store)) (opened-good (length store)))

  read_old : read_within_lem (limits_of edition1) max_payload wide.datagram ≡ Refused 6
  unfolding read_datagram_lem read_fragment_lem be
  read_old = refl

  pub wide_old : answer_to (limits_of edition1) (fresh store ledger) wide ≡ refused_by 6
  unfolding called opened stay
  wide_old =
      let e : read_within_lem (limits_of edition1) (slot_size_of (length store)) wide.datagram ≡ Refused 6 = rw largest read_old in
      ap (λ (a : After). reply wide.datagram a.store a.answer) (step-refused (limits_of edition1) (opened (length store)) store ledger wide.sender wide.datagram 6 is-sound e)

  pub wide-new : answer_to (limits_of (edition2 max_payload)) (fresh store ledger) wide ≡ kept
  unfolding called step_within receive decide act step5 opened seat open_count_lem opening filled empty_memory is_remembered_lem is_held hold none_held read_datagram_lem read_fragment_lem formed good_form be
  wide-new = rw (is-sound, largest) refl
