-- "ONE WATCH FOR EACH SENDER": what the others send alters nothing of it. Its proofs are `others-stay`, `own-moves` and `one_for-each` of proofs/EachSender. Definitions only.
use Rattle.std.specs.Prelude.{◌≡◌, ◌≢◌, Bool, true, false, List, [], ◌∷◌, ◌++◌, ℕ, ◌≤◌, eqb, ltb, get_or}
use Rattle.std.proofs.Math.Option.{Option, none, some}
use Rattle.wire.specs.Choice.{pick}
use Rattle.watch.specs.declared.Watch.{Watch}
use Rattle.watch.specs.Limits.{max_senders}
use Rattle.differences.specs.Noted.{Noted, first, forward, same, late, restarted, refused, moves}
use Rattle.watch.specs.Senders.{sender_place}
use Rattle.watch.specs.Watching.{asked, after}
use Rattle.watch.specs.Runs.{answers, Whole}
use Rattle.watch.specs.Worked.{Come, noted}

-- as the code has it, and no more senders claimed than there are places: so is a new one, and what a call leaves of such
pub record Sound (w : Watch) : Type 0 where
  pub whole : Whole w
  pub few : w.count ≤ max_senders

-- the last number that moved a sender's watch; none for a sender of which nothing has come
abbrev pub last_of : Watch → ℕ → Option ℕ
last_of w sender = pick (ltb (sender_place w sender) w.count) (some (get_or w.lasts (sender_place w sender) 0)) none

-- THE OTHERS STAY: whatever number of one sender comes, the last number of every other is what it was
abbrev pub OthersStay : Type 0
OthersStay = (w : Watch) → Sound w → (sender other number : ℕ) → other ≢ sender → last_of (after w sender number) other ≡ last_of w other

-- and its own is that number, where its answer moves the watch
abbrev pub OwnMoves : Type 0
OwnMoves = (w : Watch) → Sound w → (sender number : ℕ) → last_of (after w sender number) sender ≡ pick (moves (asked w sender number)) (some number) (last_of w sender)

-- ---- the numbers of many senders, mixed

-- those of one sender, in order
abbrev pub numbers_of : ℕ → List Come → List ℕ
numbers_of sender [] = []
numbers_of sender (c ∷ l) = pick (eqb c.sender sender) (c.number ∷ []) [] ++ numbers_of sender l

-- what is noted of them
abbrev pub noted_of : ℕ → Watch → List Come → List Noted
noted_of sender w [] = []
noted_of sender w (c ∷ l) = pick (eqb c.sender sender) (asked w c.sender c.number ∷ []) [] ++ noted_of sender (after w c.sender c.number) l

abbrev pub is_refused : Noted → Bool
is_refused first = false
is_refused (forward missing) = false
is_refused same = false
is_refused (late by) = false
is_refused (restarted number) = false
is_refused (refused number) = true

abbrev pub NoneRefused : List Noted → Type 0
NoneRefused [] = Unit {0}
NoneRefused (x ∷ l) = (is_refused x ≡ false) × NoneRefused l

-- Where there is room for all, each sender is answered as if it were the only one.
abbrev pub OneForEach : Type 0
OneForEach = (w : Watch) → Sound w → (sender : ℕ) (l : List Come) → NoneRefused (noted w l) → noted_of sender w l ≡ answers w sender (numbers_of sender l)
