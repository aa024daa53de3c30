-- The memory's words, and the memory of the step list that they show. Definitions only.
-- First come the senders of the 16 places, then how many sequences count at each, then the turns, then 32 sequences for each place.
use Rattle.std.specs.Prelude.{◌≡◌, List, ℕ, ◌+◌, ◌*◌, length, get_or}
use Rattle.words.specs.Builds.{build}
use Rattle.steps.specs.Limits.{senders_most, keys_each}
use Rattle.steps.specs.Memory.{Place, Memory}

-- where the words of place i stand
abbrev pub sender_at : ℕ → ℕ
sender_at i = i

abbrev pub used_at : ℕ → ℕ
used_at i = senders_most + i

abbrev pub turns_at : ℕ
turns_at = 2 * senders_most

abbrev pub turn_at : ℕ → ℕ
turn_at i = turns_at + i

abbrev pub sequences_at : ℕ → ℕ
sequences_at i = 3 * senders_most + keys_each * i

-- how many words a memory has
abbrev pub memory_words : ℕ
memory_words = sequences_at senders_most

-- ---- what they show

abbrev pub sequences_in : List ℕ → ℕ → List ℕ
sequences_in w i = build keys_each (λ j. get_or w (sequences_at i + j) 0)

abbrev pub place_in : List ℕ → ℕ → Place
place_in w i = record { sender = get_or w (sender_at i) 0; used = get_or w (used_at i) 0; turn = get_or w (turn_at i) 0; sequences = sequences_in w i }

unfoldable pub memory_in : List ℕ → Memory
memory_in w = build senders_most (place_in w)

-- the words w were lent, and w' are left: they show the memory m. A slice of another length is no memory, and stays as it is.
pub record Left (w : List ℕ) (m : Memory) (w' : List ℕ) : Type 0 where
  pub shows : length w ≡ memory_words → memory_in w' ≡ m
  pub words : length w' ≡ length w
  pub still : (length w ≡ memory_words → ⊥) → w' ≡ w
