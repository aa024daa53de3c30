-- Which fragments an open slot holds: words of 64 bits, fragment k is bit k % 64 of word k / 64. Definitions only.
use Rattle.std.specs.Prelude.{Bool, List, ℕ, ◌/◌, ◌%◌, ◌^◌, eqb, get_or, set, replicate}
use Rattle.std.specs.Int.Bits.{bit_or}
use Rattle.datagram.specs.Limits.{max_fragments}

abbrev pub held_words : ℕ
held_words = max_fragments / 64

unfoldable pub none_held : List ℕ
none_held = replicate held_words 0

unfoldable pub is_held : List ℕ → ℕ → Bool
is_held h k = eqb (get_or h (k / 64) 0 / 2 ^ (k % 64) % 2) 1

unfoldable pub hold : List ℕ → ℕ → List ℕ
hold h k = set h (k / 64) (bit_or (get_or h (k / 64) 0) (2 ^ (k % 64)))
