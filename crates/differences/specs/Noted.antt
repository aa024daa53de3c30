-- What the watch notes of a number, in the paper's values, and what each case of the code's answer means. Definitions only.
use Rattle.std.specs.Prelude.{ℕ, ◌+◌, ◌*◌, ◌^◌, Bool, true, false}
use Rattle.refusals.specs.Numbers.{number_of}
use Rattle.differences.specs.declared.Answer.{Answer}
use Rattle.differences.specs.declared.Answer.TheVariants.{First, Forward, Same, Late, Restarted, Refused}

pub data Noted : Type 0 where
  first : Noted
  forward : ℕ → Noted  -- with so many missing
  same : Noted
  late : ℕ → Noted  -- by so many
  restarted : ℕ → Noted  -- at this number
  refused : ℕ → Noted  -- the number of refusal

abbrev pub notes : Answer → Noted
notes First = first
notes (Forward missing) = forward missing
notes Same = same
notes (Late by) = late by
notes (Restarted number) = restarted number
notes (Refused refusal) = refused (number_of refusal)

-- as one number: 1 first, 2 forward, 3 same, 4 late, 5 restarted, times 2^32, and the number beside it; or the refusal number alone
abbrev pub noted_code_lem : Noted → ℕ
noted_code_lem first = 1 * 2 ^ 32
noted_code_lem (forward missing) = 2 * 2 ^ 32 + missing
noted_code_lem same = 3 * 2 ^ 32
noted_code_lem (late by) = 4 * 2 ^ 32 + by
noted_code_lem (restarted number) = 5 * 2 ^ 32 + number
noted_code_lem (refused number) = number

-- Same, Late and a refusal do not move the watch
abbrev pub moves : Noted → Bool
moves first = true
moves (forward missing) = true
moves same = false
moves (late by) = false
moves (restarted number) = true
moves (refused number) = false
