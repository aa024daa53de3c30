-- What opening and forgetting promise the C host: each is the receiver's own call, told in a number. Definitions only.
use Rattle.std.specs.Prelude.{◌≡◌, List, ℕ}
use Rattle.std.proofs.Math.Option.{Option, none, some}
use Rattle.receiver.specs.Calls.{refusal_of, Forgets}
use Rattle.receiver.specs.Calls.{Call}
use Rattle.open_and_payload.specs.Ends.{Opens}

-- 0, or the number of the refusal
abbrev pub call_code_lem : Option ℕ → ℕ
call_code_lem none = 0
call_code_lem (some n) = n

pub record OpenTold (w n : List ℕ) (store_length answer : ℕ) (w' n' : List ℕ) : Type 0 where
  pub call : Call
  pub opens : Opens w n store_length call w' n'
  pub gave : answer ≡ call_code_lem (refusal_of call)

pub record ForgetTold (w n : List ℕ) (sender answer : ℕ) (w' n' : List ℕ) : Type 0 where
  pub call : Call
  pub forgets : Forgets w n sender call w' n'
  pub gave : answer ≡ call_code_lem (refusal_of call)
