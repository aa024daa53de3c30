-- A run of one sender's numbers: what the watch says of each, and how far the sender's counter goes. Definitions only.
use Rattle.std.specs.Prelude.{◌≡◌, List, [], ◌∷◌, ℕ, ◌+◌, ◌-◌, ◌%◌, ◌^◌, ◌≤◌, ◌<◌, length, get_or}
use Rattle.watch.specs.declared.Watch.{Watch}
use Rattle.watch.specs.Limits.{max_senders}
use Rattle.differences.specs.Noted.{Noted}
use Rattle.watch.specs.Senders.{sender_place}
use Rattle.watch.specs.Watching.{asked, after}

-- the answers, in order of arrival
abbrev pub answers : Watch → ℕ → List ℕ → List Noted
answers w sender [] = []
answers w sender (n ∷ l) = asked w sender n ∷ answers (after w sender n) sender l

-- the watch when these numbers have come
abbrev pub after_all : Watch → ℕ → List ℕ → Watch
after_all w sender [] = w
after_all w sender (n ∷ l) = after_all (after w sender n) sender l

-- a counter of 32 bits at s goes on by these steps: the numbers that it shows
abbrev pub shown : ℕ → List ℕ → List ℕ
shown s [] = []
shown s (d ∷ l) = (s + d) % 2 ^ 32 ∷ shown ((s + d) % 2 ^ 32) l

-- how far a counter that stood at s has gone when it has shown these numbers, and where it then stands
abbrev pub distance : ℕ → List ℕ → ℕ
distance s [] = 0
distance s (n ∷ l) = (n + (2 ^ 32 - s)) % 2 ^ 32 + distance n l

abbrev pub final : ℕ → List ℕ → ℕ
final s [] = s
final s (n ∷ l) = final n l

-- every number is one of 32 bits, and every step goes forward
abbrev pub Counters : List ℕ → Type 0
Counters [] = Unit {0}
Counters (n ∷ l) = (n < 2 ^ 32) × Counters l

abbrev pub Steps : List ℕ → Type 0
Steps [] = Unit {0}
Steps (d ∷ l) = ((1 ≤ d) × (d < 2 ^ 31)) × Steps l

-- a watch as the code has it: two lists of 16
pub record Whole (w : Watch) : Type 0 where
  pub senders : length w.senders ≡ max_senders
  pub lasts : length w.lasts ≡ max_senders

-- the sender's last number is s
pub record Last (w : Watch) (sender s : ℕ) : Type 0 where
  pub whole : Whole w
  pub sound : w.count ≤ max_senders
  pub known : sender_place w sender < w.count
  pub last : get_or w.lasts (sender_place w sender) 0 ≡ s
  pub counter : s < 2 ^ 32
