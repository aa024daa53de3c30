-- The watch's senders and its moves. Definitions only.
use Rattle.std.specs.Prelude.{List, [], ◌∷◌, ℕ, suc, ◌+◌, take, set, replicate, eqb, ltb, leb}
use Rattle.wire.specs.Choice.{pick}
use Rattle.watch.specs.declared.Watch.{Watch}
use Rattle.watch.specs.Limits.{max_senders}

-- nobody yet
abbrev pub empty : Watch
empty = record { senders = replicate max_senders 0; lasts = replicate max_senders 0; count = 0 }

-- where a sender stands in a list, or the list's length
abbrev pub place : ℕ → List ℕ → ℕ
place sender [] = 0
place sender (s ∷ l) = pick (eqb s sender) 0 (suc (place sender l))

-- where a sender stands in the watch, or where a new one would
abbrev pub sender_place : Watch → ℕ → ℕ
sender_place w sender = place sender (take w.count w.senders)

-- the last number of a sender is set; a new sender takes the next place, after all others
unfoldable pub set_last : Watch → ℕ → ℕ → ℕ → Watch
set_last w sender number at =
    record {
      senders = set w.senders at sender;
      lasts = set w.lasts at number;
      count = pick (ltb at w.count) w.count (at + 1);
    }

abbrev pub moved_at : Watch → ℕ → ℕ → ℕ → Watch
moved_at w sender number at = pick (ltb at max_senders) (set_last w sender number at) w

-- the watch moves; where there is no room, or it claims more than 16, it stays
unfoldable pub moved : Watch → ℕ → ℕ → Watch
moved w sender number = pick (leb w.count max_senders) (moved_at w sender number (sender_place w sender)) w
