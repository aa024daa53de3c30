-- What the memory's own functions find and leave in the words. Definitions only; no promise of a public function rests on them.
use Rattle.std.specs.Prelude.{List, ℕ, zero, suc, ◌+◌, ◌-◌, ltb, get_or, set}
use Rattle.wire.specs.Choice.{pick}
use Rattle.steps.specs.Limits.{senders_most, keys_each}
use Rattle.ranks.specs.Ranks.{ranks_lowered}
use Rattle.ranks.specs.declared.Ranked.{Ranked}
use Rattle.memory.specs.Words.{turns_at, turn_at, sender_at, used_at, sequences_at}

-- the turns as ranks: no other word says whether a place has one
abbrev pub turn_ranks : Ranked
turn_ranks = record { first = turns_at; stride = 1; mark = 0; rank = 0 }

-- place i is the sender's, and its turn the latest
unfoldable pub settled_in : List ℕ → ℕ → ℕ → List ℕ
settled_in w i s = set (set (ranks_lowered w turn_ranks (get_or w (turn_at i) 0) senders_most) (turn_at i) (senders_most - 1)) (sender_at i) s

-- the first n numbers from a on have each taken the next one's place
unfoldable pub shifted_in : List ℕ → ℕ → ℕ → List ℕ
shifted_in w a zero = w
shifted_in w a (suc n) =
    let v : List ℕ = shifted_in w a n in
    set v (a + n) (get_or v (a + n + 1) 0)

-- place i has n sequences and one more; of 32 the oldest goes
unfoldable pub added_in : List ℕ → ℕ → ℕ → ℕ → List ℕ
added_in w i n q =
    pick (ltb n keys_each)
    (set (set w (sequences_at i + n) q) (used_at i) (n + 1))
    (set (shifted_in w (sequences_at i) (keys_each - 1)) (sequences_at i + (keys_each - 1)) q)
