-- What the watch says of a sender's number, and the watch afterwards. Definitions only.
use Rattle.std.specs.Prelude.{◌≡◌, ℕ, get_or, ltb, leb}
use Rattle.wire.specs.Choice.{pick, ◌when◌else◌}
use Rattle.watch.specs.declared.Watch.{Watch}
use Rattle.watch.specs.declared.Seen.{Seen}
use Rattle.watch.specs.Limits.{max_senders}
use Rattle.differences.specs.Noted.{Noted, first, refused, notes, moves}
use Rattle.differences.specs.Difference.{difference, told}
use Rattle.watch.specs.Senders.{sender_place, moved}

-- at a sender's place: First for a new sender while there is room, else what the difference to its last number says
unfoldable pub asked_at : Watch → ℕ → ℕ → Noted
asked_at w number at =
    told number (difference number (get_or w.lasts at 0)) when ltb at w.count else
    first when ltb at max_senders else
    refused 14

unfoldable pub asked : Watch → ℕ → ℕ → Noted
asked w sender number = pick (leb w.count max_senders) (asked_at w number (sender_place w sender)) (refused 14)

unfoldable pub after : Watch → ℕ → ℕ → Watch
after w sender number = pick (moves (asked w sender number)) (moved w sender number) w

-- the answer and the whole watch afterwards
pub record Result (w : Watch) (sender number : ℕ) (r : Seen) : Type 0 where
  pub answer : notes r.answer ≡ asked w sender number
  pub watch : r.watch ≡ after w sender number
