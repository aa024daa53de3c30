-- What the C host is told of a cut, in one number, and what the header's macros take from it. Definitions only.
use Rattle.std.specs.Prelude.{◌≡◌, List, ℕ, ◌+◌, ◌*◌, ◌/◌, ◌%◌, ◌^◌, length}
use Rattle.cutter.specs.Cut.{Answer, gives, refused, cut_answer, cut_output, datagram_of}

-- count · 2^32 + length, or the refusal number alone
abbrev pub code_of : Answer → ℕ
code_of (gives count len) = count * 2 ^ 32 + len
code_of (refused n) = n

pub record CutTold (name payload : List ℕ) (q m index : ℕ) (out : List ℕ) (answer : ℕ) (out' : List ℕ) : Type 0 where
  pub gave : answer ≡ code_of (cut_answer name payload m index (length out))
  pub left : out' ≡ cut_output (cut_answer name payload m index (length out)) out (datagram_of q name payload m index)

-- QM_CUT_COUNT: the answer shifted right by 32 bits, as a number of 32 bits
abbrev pub cut_count : ℕ → ℕ
cut_count answer = answer / 2 ^ 32 % 2 ^ 32

-- QM_CUT_LENGTH: the answer as a number of 32 bits
abbrev pub cut_length : ℕ → ℕ
cut_length answer = answer % 2 ^ 32
