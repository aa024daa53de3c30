-- What the receiver's answers say, in the values of document 01. Definitions only.
use Rattle.std.proofs.Math.Option.{Option, none, some}
use Rattle.std.specs.Prelude.{List, ℕ, take, drop}
use Rattle.refusals.specs.Numbers.{number_of}
use Rattle.steps.specs.Memory.{Key}
use Rattle.steps.specs.Slots.{Emptied, Nobody, Was}
use Rattle.steps.specs.Receive.{PayloadAt, InDatagram, InStore, Answer, Refused, Kept, Repeat, Delivered}
use Rattle.steps.specs.declared.Answer.{Answer as Given}
use Rattle.steps.specs.declared.Answer.TheVariants as given

-- what the code answers, in the papers' values
abbrev pub answer_told : Given → Answer
answer_told (given.Refused r) = Refused (number_of r)
answer_told given.Kept = Kept
answer_told given.Repeat = Repeat
answer_told (given.Delivered p n) = Delivered p n

pub data Reply : Type 0 where
  -- by the number of document 01's table
  refused_by : ℕ → Reply
  kept : Reply
  repeat : Reply
  -- with that payload
  delivered : List ℕ → Reply

-- what holds a payload, the datagram or the store as the call left it, and where in it the payload begins
abbrev pub holder : List ℕ → List ℕ → PayloadAt → List ℕ
holder d store (InDatagram at) = d
holder d store (InStore at) = store

abbrev pub begins_at_lem : PayloadAt → ℕ
begins_at_lem (InDatagram at) = at
begins_at_lem (InStore at) = at

-- what stands there from the payload's first byte on
abbrev pub payload_at : List ℕ → List ℕ → PayloadAt → List ℕ
payload_at d store (InDatagram at) = drop at d
payload_at d store (InStore at) = drop at store

abbrev pub reply : List ℕ → List ℕ → Answer → Reply
reply d store (Refused n) = refused_by n
reply d store Kept = kept
reply d store Repeat = repeat
reply d store (Delivered p n) = delivered (take n (payload_at d store p))

-- the emptied key beside the answer, or none
abbrev pub emptied_key : Emptied → Option Key
emptied_key Nobody = none
emptied_key (Was k) = some k
