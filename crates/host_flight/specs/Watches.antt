-- The sequence watch in lent lists, and what the C host is told of a number. Definitions only.
use Rattle.std.specs.Prelude.{◌≡◌, Bool, ◌||◌, List, ◌∷◌, ℕ, ◌+◌, ◌/◌, ◌%◌, ◌^◌, ltb, length, get_or, take, drop}
use Rattle.wire.specs.Choice.{pick}
use Rattle.wire.specs.Overlay.{overlay}
use Rattle.watch.specs.declared.Watch.{Watch}
use Rattle.watch.specs.Limits.{max_senders}
use Rattle.differences.specs.Noted.{noted_code_lem}
use Rattle.watch.specs.Watching.{asked, after}

-- the watch that two lent lists show: in one how many senders are in use and then the senders, in the other their last numbers
abbrev pub watch_in : List ℕ → List ℕ → Watch
watch_in senders lasts =
    record { senders = take max_senders (drop 1 senders); lasts = take max_senders lasts; count = get_or senders 0 0 }

-- the lists have no room for a watch
abbrev pub lacking : List ℕ → List ℕ → Bool
lacking senders lasts = ltb (length senders) (1 + max_senders) || ltb (length lasts) max_senders

-- what the lists hold afterwards: the watch at their start, and the rest stays
abbrev pub senders_of : Watch → List ℕ → List ℕ
senders_of w senders = overlay senders 0 (w.count ∷ w.senders)

abbrev pub lasts_of : Watch → List ℕ → List ℕ
lasts_of w lasts = overlay lasts 0 w.lasts

pub record SeeTold (senders lasts : List ℕ) (sender number answer : ℕ) (senders' lasts' : List ℕ) : Type 0 where
  pub gave : answer ≡ pick (lacking senders lasts) 13 (noted_code_lem (asked (watch_in senders lasts) sender number))
  pub kept : senders' ≡ pick (lacking senders lasts) senders (senders_of (after (watch_in senders lasts) sender number) senders)
  pub moved : lasts' ≡ pick (lacking senders lasts) lasts (lasts_of (after (watch_in senders lasts) sender number) lasts)

-- QM_WATCH_KIND and QM_WATCH_NUMBER: the halves of an answer
abbrev pub watch_kind : ℕ → ℕ
watch_kind answer = answer / 2 ^ 32

abbrev pub watch_number : ℕ → ℕ
watch_number answer = answer % 2 ^ 32
