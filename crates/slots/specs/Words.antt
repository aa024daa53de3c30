-- The slots' words, and what the functions find and leave in them. Definitions only.
-- After the words of the head each slot has a block: sender, sequence, size, count, turn, and the words of held fragments.
use Rattle.std.specs.Prelude.{Option, Some, None, Bool, true, false, not, ◌&&◌, ◌||◌, List, ℕ, zero, suc, ◌+◌, ◌*◌, get_or, eqb, leb}
use Rattle.datagram.specs.Limits.{max_fragments}
use Rattle.steps.specs.Held.{held_words}
use Rattle.ranks.specs.declared.Ranked.{Ranked}

-- the words before the first slot's: the store's length at opening, and the slot size
abbrev pub head_words : ℕ
head_words = 2

-- which word of a block is which
abbrev pub sender_word : ℕ
sender_word = 0

abbrev pub sequence_word : ℕ
sequence_word = 1

abbrev pub size_word : ℕ
size_word = 2

abbrev pub count_word : ℕ
count_word = 3

abbrev pub turn_word : ℕ
turn_word = 4

abbrev pub held_word : ℕ
held_word = 5

-- the words of a slot
abbrev pub block_words : ℕ
block_words = held_word + held_words

-- where the block of slot i begins
abbrev pub block_at : ℕ → ℕ
block_at i = head_words + block_words * i

-- where the slots keep their turns: a slot is in use when its count is not 0
abbrev pub turns : Ranked
turns = record { first = head_words; stride = block_words; mark = count_word; rank = turn_word }

-- word j of slot i
abbrev pub at : List ℕ → ℕ → ℕ → ℕ
at w i j = get_or w (block_at i + j) 0

-- the least number below n that passes
abbrev pub or_here : Option ℕ → Bool → ℕ → Option ℕ
or_here (Some i) b n = Some i
or_here None true n = Some n
or_here None false n = None

abbrev pub first_below : (ℕ → Bool) → ℕ → Option ℕ
first_below p zero = None
first_below p (suc n) = or_here (first_below p n) (p n) n

-- slot i is free, or open, or open for that key
abbrev pub free_in : List ℕ → ℕ → Bool
free_in w i = eqb (at w i count_word) 0

abbrev pub busy_in : List ℕ → ℕ → Bool
busy_in w i = not (free_in w i)

abbrev pub key_in : List ℕ → ℕ → ℕ → ℕ → Bool
key_in w s q i = busy_in w i && (eqb (at w i sender_word) s && eqb (at w i sequence_word) q)

-- an open slot's size is at most that of a slot, and its count at most that of fragments
abbrev pub sound_in : List ℕ → ℕ → ℕ → Bool
sound_in w room i = free_in w i || (leb (at w i size_word) room && leb (at w i count_word) max_fragments)
