-- Demand 3, "Order of arrival must not matter": the statement, phrase by phrase. Its proof is `demand3` of proofs/Demand3.
use Rattle.std.specs.Prelude.{◌≡◌, Bool, true, false, not, ◌&&◌, ◌||◌, List, [], ◌∷◌, ◌++◌, map, ℕ, zero, suc, ◌+◌, ◌≤◌, ◌<◌, eqb, length, get_or, take}
use Rattle.std.proofs.Math.Option
use Rattle.std.proofs.Math.Option.{Option, none, some}
use Rattle.wire.specs.Choice.{pick}
use Rattle.datagram.specs.Limits.{max_payload, max_fragments}
use Rattle.datagram.specs.Name.{until_zero_lem}
use Rattle.datagram.specs.Said.{Said, refused, small, fragment, said}
use Rattle.datagram.specs.Lawful.{LawfullyCut}
use Rattle.cutter.specs.Trip.{joined}
use Rattle.steps.specs.Limits.{slot_count, ledger_length, slot_size_of}
use Rattle.steps.specs.Search.{all_below, one, count}
use Rattle.steps.specs.declared.Key.{Key}
use Rattle.steps.specs.Memory.{key_of, same_key, Lately, FewSenders}
use Rattle.steps.specs.Slots.{busy, slot_at}
use Rattle.steps.specs.Receive.{After}
use Rattle.steps.specs.Answers.{Reply, refused_by, kept, repeat, delivered, reply, emptied_key}
use Rattle.steps.specs.Runs.{World, fresh, Arrival, from, key_in, run, left_by, Heard, heard}
use Rattle.steps.specs.Runs as runs

-- ==== "Take messages with distinct sender and sequence number, each sent small, or lawfully cut and no larger than a slot."

-- a message, and the datagrams that it is sent in
pub record Message : Type 0 where
  pub sender : ℕ
  pub sequence : ℕ
  pub name : List ℕ
  pub payload : List ℕ
  -- whether it is sent in fragments; else small
  pub fragmented : Bool
  pub datagrams : List (List ℕ)

abbrev pub key : Message → Key
key m = key_of m.sender m.sequence

abbrev pub parts : Message → ℕ
parts m = length m.datagrams

abbrev pub datagram : Message → ℕ → List ℕ
datagram m k = get_or m.datagrams k []

-- one small datagram, with its sequence, name and payload
pub record SentSmall (m : Message) : Type 0 where
  pub single : parts m ≡ 1
  pub reads : said max_payload max_fragments (datagram m 0) ≡ small m.sequence m.name m.payload

-- fragments lawfully cut, in any lawful way, with its sequence, name and payload
pub record InFragments (m : Message) : Type 0 where
  pub cut : LawfullyCut max_payload max_fragments (parts m) (datagram m)
  pub its-sequence : cut.sequence ≡ m.sequence
  pub its-name : (cut.piece 0).name ≡ m.name
  pub its-payload : joined (λ k. (cut.piece k).bytes) (parts m) ≡ m.payload

-- so cut, and no larger than a slot of C bytes
pub record SentCut (C : ℕ) (m : Message) : Type 0 where
  pub lawful : InFragments m
  pub no-larger : lawful.cut.size ≤ C

abbrev pub Sent : ℕ → Message → Type 0
Sent C m = pick m.fragmented (SentCut C m) (SentSmall m)

-- the store and the ledger that are lent, however they are filled, and the messages
pub record Scene : Type 0 where
  pub store : List ℕ
  pub ledger : List ℕ
  pub messages : List Message

abbrev pub nobody : Message
nobody = record { sender = 0; sequence = 0; name = []; payload = []; fragmented = false; datagrams = [] }

abbrev pub size : Scene → ℕ
size σ = length σ.messages

abbrev pub message : Scene → ℕ → Message
message σ i = get_or σ.messages i nobody

abbrev pub slot_bytes : Scene → ℕ
slot_bytes σ = slot_size_of (length σ.store)

abbrev pub Distinct : Scene → Type 0
Distinct σ = (i j : ℕ) → i < size σ → j < size σ → key (message σ i) ≡ key (message σ j) → i ≡ j

abbrev pub EachSent : Scene → Type 0
EachSent σ = (i : ℕ) → i < size σ → Sent (slot_bytes σ) (message σ i)

-- ==== "Feed a fresh receiver their datagrams in any mixture, .. with datagrams refused for form (1 to 7) among them"

-- an arrival: datagram k of message i, or any other datagram of any sender
pub data Event : Type 0 where
  part : ℕ → ℕ → Event
  noise : ℕ → List ℕ → Event

-- what has come so far, then the latest arrival
pub data Feed : Type 0 where
  start : Feed
  ◌▹◌ : Feed → Event → Feed

infixl 20 ◌▹◌
abbrev pub sender_of : Scene → Event → ℕ
sender_of σ (part i k) = (message σ i).sender
sender_of σ (noise from d) = from

abbrev pub bytes_of : Scene → Event → List ℕ
bytes_of σ (part i k) = datagram (message σ i) k
bytes_of σ (noise from d) = d

pub record RefusedForForm (C : ℕ) (d : List ℕ) : Type 0 where
  pub number : ℕ
  pub least : 1 ≤ number
  pub most : number ≤ 7
  pub refuses : said C max_fragments d ≡ refused number

abbrev pub MayCome : Scene → Event → Type 0
MayCome σ (part i k) = (i < size σ) × (k < parts (message σ i))
MayCome σ (noise from d) = RefusedForForm (slot_bytes σ) d

abbrev pub Mixture : Scene → Feed → Type 0
Mixture σ start = Unit {0}
Mixture σ (f ▹ e) = Mixture σ f × MayCome σ e

-- ==== "each at least once, repeated at will"

-- datagram k of message i has come
abbrev pub got : Feed → ℕ → ℕ → Bool
got start i k = false
got (f ▹ part a b) i k = (eqb a i && eqb b k) || got f i k
got (f ▹ noise from d) i k = got f i k

abbrev pub EachComes : Scene → Feed → Type 0
EachComes σ f = (i k : ℕ) → i < size σ → k < parts (message σ i) → got f i k ≡ true

-- ==== "always with the same store and ledger, changed by nobody else .. and nobody calls forget"

abbrev pub arrival : Scene → Event → Arrival
arrival σ e = from (sender_of σ e) (bytes_of σ e)

-- in the order of arrival
abbrev pub arrivals : Scene → Feed → List Arrival
arrivals σ start = []
arrivals σ (f ▹ e) = arrivals σ f ++ arrival σ e ∷ []

abbrev pub call : Scene → World → Event → After
call σ w e = runs.call w (arrival σ e)

-- a fresh receiver, and then nothing but calls, each with what the one before left
unfoldable pub after : Scene → Feed → World
after σ f = let w : World = fresh σ.store σ.ledger in left_by w (run w (arrivals σ f))

-- ==== "Suppose there are never more than eight fragmented messages begun and unfinished, counting the one arriving"

-- a datagram of message i has come
abbrev pub begun : Feed → ℕ → Bool
begun start i = false
begun (f ▹ part a b) i = eqb a i || begun f i
begun (f ▹ noise from d) i = begun f i

-- all its datagrams have come
unfoldable pub done : Scene → Feed → ℕ → Bool
done σ f i = all_below (parts (message σ i)) (got f i)

-- message i is fragmented, begun by the end of g, and was unfinished at the end of f
unfoldable pub unfinished : Scene → Feed → Feed → ℕ → Bool
unfinished σ f g i = (message σ i).fragmented && (begun g i && not (done σ f i))

abbrev pub NeverOverEight : Scene → Feed → Type 0
NeverOverEight σ start = Unit {0}
NeverOverEight σ (f ▹ e) = NeverOverEight σ f × (count (unfinished σ f (f ▹ e)) (size σ) ≤ slot_count)

-- ==== "at most 16 senders"

abbrev pub AtMost16Senders : Scene → Type 0
AtMost16Senders σ = FewSenders (map key σ.messages)

-- ==== "no datagram comes again once 32 other messages of its own sender have been delivered since its own"

-- the message that arrival e completes
unfoldable pub completes : Scene → Feed → Event → Option ℕ
completes σ f (part i k) = pick (not (done σ f i) && done σ (f ▹ part i k) i) (some i) none
completes σ f (noise from d) = none

abbrev pub push {ℓ} : {A : Type ℓ} → Option A → List A → List A
push none l = l
push (some a) l = a ∷ l

-- the messages in order of completion, the latest first
unfoldable pub completed : Scene → Feed → List ℕ
completed σ start = []
completed σ (f ▹ e) = push (completes σ f e) (completed σ f)

abbrev pub keys_of : Scene → List ℕ → List Key
keys_of σ l = map (λ i. key (message σ i)) l

abbrev pub StillKnown : Scene → Feed → Event → Type 0
StillKnown σ f (part i k) = done σ f i ≡ true → Lately (keys_of σ (completed σ f)) (key (message σ i))
StillKnown σ f (noise from d) = Unit {0}

abbrev pub NeverTooLate : Scene → Feed → Type 0
NeverTooLate σ start = Unit {0}
NeverTooLate σ (f ▹ e) = NeverTooLate σ f × StillKnown σ f e

-- ==== all that is supposed

pub record Supposed (σ : Scene) (f : Feed) : Type 0 where
  pub distinct : Distinct σ
  pub sent : EachSent σ
  pub ledger-fits : length σ.ledger ≡ ledger_length
  pub mixture : Mixture σ f
  pub each-comes : EachComes σ f
  pub never-over-eight : NeverOverEight σ f
  pub few-senders : AtMost16Senders σ
  pub never_too-late : NeverTooLate σ f

-- ==== "Then each message is delivered once, at the arrival that completes it, with its own name and bytes."

pub record Delivery : Type 0 where
  pub key : Key
  pub name : List ℕ
  pub bytes : List ℕ

-- the name in its 63 bytes, which zeros fill
abbrev pub name_in : List ℕ → List ℕ
name_in filled = take (until_zero_lem filled) filled

abbrev pub handed_by : Key → List ℕ → Reply → Option Delivery
handed_by k name (refused_by n) = none
handed_by k name kept = none
handed_by k name repeat = none
handed_by k name (delivered bytes) = some (record { key = k; name = name; bytes = bytes })

-- what a call hands over, to the datagram d of key k
abbrev pub handed : Key → List ℕ → After → Option Delivery
handed k d a = handed_by k (name_in a.name) (reply d a.store a.answer)

-- what arrival e hands over, after the feed f
unfoldable pub delivery : Scene → Feed → Event → Option Delivery
delivery σ f e =
    handed (key_in (slot_bytes σ) (arrival σ e)) (bytes_of σ e) (call σ (after σ f) e)

abbrev pub own : Scene → ℕ → Delivery
own σ i = record { key = key (message σ i); name = (message σ i).name; bytes = (message σ i).payload }

-- each arrival hands over the message that it completes, with its own name and bytes, and no arrival hands over anything else
abbrev pub AtCompletion : Scene → Feed → Type 0
AtCompletion σ start = Unit {0}
AtCompletion σ (f ▹ e) = AtCompletion σ f × (delivery σ f e ≡ Option.map (own σ) (completes σ f e))

-- all that is delivered, the latest first
unfoldable pub deliveries : Scene → Feed → List Delivery
deliveries σ start = []
deliveries σ (f ▹ e) = push (delivery σ f e) (deliveries σ f)

-- how many of these are of key k
unfoldable pub times_of : Key → List Delivery → ℕ
times_of k [] = 0
times_of k (x ∷ xs) = one (same_key x.key k) + times_of k xs

abbrev pub Once : Scene → Feed → Type 0
Once σ f = (i : ℕ) → i < size σ → times_of (key (message σ i)) (deliveries σ f) ≡ 1

-- ==== "The delivered keys, names and bytes in order, and the memory of keys, are as if the messages had been fed whole, one after another, in order of completion"

-- the first n datagrams of message i, one after another
unfoldable pub fed_whole : Feed → ℕ → ℕ → Feed
fed_whole f i zero = f
fed_whole f i (suc n) = fed_whole f i n ▹ part i n

-- the messages of l, the latest first, each whole
unfoldable pub one_after_another : Scene → List ℕ → Feed
one_after_another σ [] = start
one_after_another σ (i ∷ l) = fed_whole (one_after_another σ l) i (parts (message σ i))

abbrev pub in_order_of_completion : Scene → Feed → Feed
in_order_of_completion σ f = one_after_another σ (completed σ f)

-- ==== "no key is emptied and no slot stays open"

abbrev pub NoneEmptied : Scene → Feed → Type 0
NoneEmptied σ start = Unit {0}
NoneEmptied σ (f ▹ e) = NoneEmptied σ f × (emptied_key (call σ (after σ f) e).emptied ≡ none)

abbrev pub NoneOpen : Scene → Feed → Type 0
NoneOpen σ f = (s : ℕ) → s < slot_count → busy (slot_at (after σ f).machine.slots s) ≡ false

-- ==== all that is promised

pub record Promised (σ : Scene) (f : Feed) : Type 0 where
  pub at_completion : AtCompletion σ f
  pub once : Once σ f
  pub same-deliveries : deliveries σ f ≡ deliveries σ (in_order_of_completion σ f)
  pub same_memory : (after σ f).machine.memory ≡ (after σ (in_order_of_completion σ f)).machine.memory
  pub none-emptied : NoneEmptied σ f
  pub none_open_lem : NoneOpen σ f

-- ORDER OF ARRIVAL MUST NOT MATTER
abbrev pub Demand3 : Type 0
Demand3 = (σ : Scene) (f : Feed) → Supposed σ f → Promised σ f

-- ==== beside the promise: what each arrival is answered

-- the number by which the reader refuses
abbrev pub number_of : Said → ℕ
number_of (refused n) = n
number_of (small q name payload) = 0
number_of (fragment f) = 0

-- Repeat where that datagram came before; else Delivered where its message is then whole, with the message's bytes; else Kept. A stray is refused by its own number.
abbrev pub answer_to : Scene → Feed → Event → Reply
answer_to σ f (part i k) = pick (got f i k) repeat (pick (done σ (f ▹ part i k) i) (delivered (message σ i).payload) kept)
answer_to σ f (noise from d) = refused_by (number_of (said (slot_bytes σ) max_fragments d))

abbrev pub answered : Scene → Feed → Event → Heard
answered σ f e = record { answer = answer_to σ f e; emptied = none }

abbrev pub AllAnswered : Scene → Feed → Type 0
AllAnswered σ start = Unit {0}
AllAnswered σ (f ▹ e) = AllAnswered σ f × (heard (arrival σ e) (call σ (after σ f) e) ≡ answered σ f e)
