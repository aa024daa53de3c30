-- What the C host is told when it keeps a flight, in one number, and what the header's macro takes from it. Definitions only.
use Rattle.std.specs.Prelude.{◌≡◌, List, ℕ, ◌-◌, ◌*◌, ◌/◌, ◌^◌, length}
use Rattle.flight_log.specs.Editions.{edition2, head_bytes}
use Rattle.flight_log.specs.Entries.{Entry, entry_bytes}
use Rattle.log_append.specs.Writes.{Answer, wrote, refused, begin_answer, append_answer, output}

-- how many bytes were written at the place, times 2^32; or the refusal number alone
abbrev pub length_code : ℕ → Answer → ℕ
length_code at (wrote next) = (next - at) * 2 ^ 32
length_code at (refused n) = n

pub record BeginTold (out : List ℕ) (limit answer : ℕ) (out' : List ℕ) : Type 0 where
  pub gave : answer ≡ length_code 0 (begin_answer (length out) limit)
  pub left : out' ≡ output (begin_answer (length out) limit) out 0 (head_bytes (edition2 limit))

pub record AppendTold (out : List ℕ) (at : ℕ) (e : Entry) (answer : ℕ) (out' : List ℕ) : Type 0 where
  pub gave : answer ≡ length_code at (append_answer (length out) at e)
  pub left : out' ≡ output (append_answer (length out) at e) out at (entry_bytes e)

-- QM_LOG_LENGTH: the answer shifted right by 32 bits
abbrev pub log_length : ℕ → ℕ
log_length answer = answer / 2 ^ 32
