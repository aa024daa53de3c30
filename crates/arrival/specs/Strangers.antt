-- L12, "A promise with strangers about": the statement, phrase by phrase. Its proof is `strangers` of proofs/Strangers.
use Rattle.std.specs.Prelude.{◌≡◌, Bool, true, false, not, ◌&&◌, ◌||◌, ℕ, ◌+◌, ◌≤◌, ◌<◌, eqb, length}
use Rattle.std.proofs.Math.Option.{Option, some}
use Rattle.wire.specs.Same.{same}
use Rattle.steps.specs.Limits.{slot_count, ledger_length, slot_size_of}
use Rattle.steps.specs.Search.{all_below, one}
use Rattle.steps.specs.Memory.{same_key}
use Rattle.steps.specs.Receive.{forget}
use Rattle.steps.specs.Answers.{emptied_key}
use Rattle.steps.specs.Runs.{World, lending, world_of, Arrival, from, key_in, call}
use Rattle.steps.specs.Reach.{Reached, is_open, Unknown, opens_slot, is_accepted}
use Rattle.arrival.specs.Demand.{Message, InFragments, key, parts, datagram, Delivery, handed}

-- ==== "from any state that calls can reach: take a lawfully cut fragmented message whose key is neither open nor remembered when its first fragment is accepted"

-- the message, the world that its first fragment finds, with whatever store and ledger is lent, and that fragment's number
pub record Start : Type 0 where
  pub message : Message
  pub world : World
  pub first : ℕ

-- fragment k comes
abbrev pub part : Message → ℕ → Arrival
part m k = from m.sender (datagram m k)

pub record Begins (σ : Start) : Type 0 where
  -- by calls of open, receive and forget, with any store and ledger lent to each
  pub opened-over : ℕ
  pub reached : Reached opened-over σ.world.machine
  pub lawful : InFragments σ.message
  pub its_own : σ.first < parts σ.message
  pub not-open : is_open σ.world.machine (key σ.message) ≡ false
  -- accepted is Kept or Delivered. That its key is not remembered follows from this, as that store and ledger fit and that it is no larger than a slot.
  pub accepted : is_accepted (call σ.world (part σ.message σ.first)).answer ≡ true

-- ==== "From then on, let anything else come"

-- any datagram of any sender comes, or a sender is forgotten
pub data Event : Type 0 where
  comes : Arrival → Event
  forgets : ℕ → Event

-- the first fragment was accepted, and since then these, the latest last
pub data Feed : Type 0 where
  begun : Feed
  ◌▹◌ : Feed → Event → Feed

infixl 20 ◌▹◌
-- ==== "store and ledger are the same and changed by nobody else"

unfoldable pub after : Start → Feed → World
after σ begun = world_of (call σ.world (part σ.message σ.first))
after σ (f ▹ comes x) = world_of (call (after σ f) x)
after σ (f ▹ forgets sender) = let w : World = after σ f in lending (forget w.machine sender).machine w.store w.ledger

-- ==== "so long as no foreign datagram with its key is accepted"

-- x is fragment k of the message
abbrev pub is_part : Message → Arrival → ℕ → Bool
is_part m x k = eqb x.sender m.sender && same x.datagram (datagram m k)

-- x is one of its own
abbrev pub is_own : Message → Arrival → Bool
is_own m x = not (all_below (parts m) (λ k. not (is_part m x k)))

-- x has its key and is not one of its own
abbrev pub is_foreign : ℕ → Message → Arrival → Bool
is_foreign C m x = same_key (key_in C x) (key m) && not (is_own m x)

abbrev pub accepts_foreign : Message → World → Arrival → Bool
accepts_foreign m w x = is_foreign w.machine.slot_size_lem m x && is_accepted (call w x).answer

unfoldable pub no_foreign : Start → Feed → Bool
no_foreign σ begun = true
no_foreign σ (f ▹ comes x) = not (accepts_foreign σ.message (after σ f) x) && no_foreign σ f
no_foreign σ (f ▹ forgets sender) = no_foreign σ f

-- ==== "a slot is opened fewer than eight times for other keys (a key opened again counts again) before its last missing fragment arrives"

abbrev pub opens_other : Message → World → Arrival → Bool
opens_other m w x = opens_slot w x && not (same_key (key_in w.machine.slot_size_lem x) (key m))

unfoldable pub openings : Start → Feed → ℕ
openings σ begun = 0
openings σ (f ▹ comes x) = one (opens_other σ.message (after σ f) x) + openings σ f
openings σ (f ▹ forgets sender) = openings σ f

-- fragment k has come
abbrev pub come : Start → Feed → ℕ → Bool
come σ begun k = is_part σ.message (part σ.message σ.first) k
come σ (f ▹ comes x) k = is_part σ.message x k || come σ f k
come σ (f ▹ forgets sender) k = come σ f k

-- none is missing
unfoldable pub complete : Start → Feed → Bool
complete σ f = all_below (parts σ.message) (come σ f)

-- ==== "and forget is not called for its sender"

abbrev pub not_forgotten : Start → Feed → Bool
not_forgotten σ begun = true
not_forgotten σ (f ▹ comes x) = not_forgotten σ f
not_forgotten σ (f ▹ forgets sender) = not (eqb sender σ.message.sender) && not_forgotten σ f

pub record Supposed (σ : Start) (f : Feed) : Type 0 where
  pub no-foreign : no_foreign σ f ≡ true
  pub few-openings : openings σ f < slot_count
  pub not-forgotten : not_forgotten σ f ≡ true
  -- one is still missing
  pub missing : complete σ f ≡ false

-- ==== "Then it is delivered at that arrival, with its own bytes."

abbrev pub its : Message → Delivery
its m = record { key = key m; name = m.name; bytes = m.payload }

abbrev pub hands_over : World → Arrival → Option Delivery
hands_over w x = handed (key_in w.machine.slot_size_lem x) x.datagram (call w x)

pub record Promised (σ : Start) : Type 0 where
  -- a message of one fragment
  pub at_once : complete σ begun ≡ true → hands_over σ.world (part σ.message σ.first) ≡ some (its σ.message)
  -- x is the last missing fragment
  pub at_last : (f : Feed) (x : Arrival) → Supposed σ f → complete σ (f ▹ comes x) ≡ true → hands_over (after σ f) x ≡ some (its σ.message)

-- A PROMISE WITH STRANGERS ABOUT
abbrev pub Strangers : Type 0
Strangers = (σ : Start) → Begins σ → Promised σ

-- ==== a message whose key is neither open nor remembered, an emptied one among them, comes anew

pub record ComesAnew (σ : Start) : Type 0 where
  pub opened-over : ℕ
  pub reached : Reached opened-over σ.world.machine
  -- with a store and a ledger of the lengths of opening
  pub store-fits : length σ.world.store ≡ opened-over
  pub ledger-fits : length σ.world.ledger ≡ ledger_length
  pub lawful : InFragments σ.message
  pub no-larger : lawful.cut.size ≤ slot_size_of opened-over
  pub its_own : σ.first < parts σ.message
  pub unknown : Unknown σ.world.machine (key σ.message)

-- the world after the call to x, in which fragment k of the message comes next
abbrev pub next_after : World → Arrival → Message → ℕ → Start
next_after w x m k = record { message = m; world = world_of (call w x); first = k }

-- the call to x, from a world that calls can reach, empties the key of the message
pub record Empties (w : World) (x : Arrival) (m : Message) : Type 0 where
  pub opened-over : ℕ
  pub reached : Reached opened-over w.machine
  pub store-fits : length w.store ≡ opened-over
  pub ledger-fits : length w.ledger ≡ ledger_length
  pub lawful : InFragments m
  pub no-larger : lawful.cut.size ≤ slot_size_of opened-over
  pub emptied : emptied_key (call w x).emptied ≡ some (key m)

-- AN EMPTIED MESSAGE THAT IS SENT AGAIN, whichever fragment first, is promised as any other
abbrev pub SentAgain : Type 0
SentAgain = (w : World) (x : Arrival) (m : Message) → Empties w x m → (k : ℕ) → k < parts m → Promised (next_after w x m k)
