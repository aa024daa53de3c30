-- The keys of messages, and the memory of delivered ones: for each of 16 senders the last 32, in order of delivery. Definitions only.
-- Everything else knows the memory by these names and their laws: another memory replaces this file and shows the laws again.
use Rattle.std.specs.Prelude.{◌≡◌, Bool, true, false, not, ◌&&◌, ◌||◌, List, [], ◌∷◌, ◌++◌, map, ℕ, zero, suc, ◌+◌, ◌-◌, ◌≤◌, ◌<◌, eqb, leb, ltb, length, get_or, set, take, drop, replicate}
use Rattle.std.proofs.Math.Option.{Option, none, some}
use Rattle.wire.specs.Choice.{pick}
use Rattle.steps.specs.Limits.{senders_most, keys_each}
use Rattle.steps.specs.Search.{all_below, one, first}
pub use Rattle.steps.specs.declared.Key.{Key}

abbrev pub key_of : ℕ → ℕ → Key
key_of from q = record { sender = from; sequence = q }

abbrev pub no_key : Key
no_key = key_of 0 0

abbrev pub same_key : Key → Key → Bool
same_key a b = eqb a.sender b.sender && eqb a.sequence b.sequence

unfoldable pub among : List Key → Key → Bool
among [] k = false
among (x ∷ xs) k = same_key x k || among xs k

-- ---- a sender's place

-- its sequences, of which the first `used` count, the oldest first; and its turn: the lower, the further back its latest delivery lies
pub record Place : Type 0 where
  pub sender : ℕ
  pub used : ℕ
  pub turn : ℕ
  pub sequences : List ℕ

abbrev pub no_place : Place
no_place = record { sender = 0; used = 0; turn = 0; sequences = replicate keys_each 0 }

-- a place is free when nothing counts in it
abbrev pub vacant : Place → Bool
vacant p = eqb p.used 0

abbrev pub is_of : ℕ → Place → Bool
is_of from p = not (vacant p) && eqb p.sender from

-- what is remembered there
abbrev pub remembered : Place → List ℕ
remembered p = take p.used p.sequences

abbrev pub has : List ℕ → ℕ → Bool
has [] q = false
has (x ∷ xs) q = eqb x q || has xs q

-- ---- the memory: 16 places

abbrev pub Memory : Type 0
Memory = List Place

unfoldable pub empty_memory : Memory
empty_memory = replicate senders_most no_place

abbrev pub place_at : Memory → ℕ → Place
place_at m i = get_or m i no_place

-- what is remembered of a sender; of two places the first counts
abbrev pub kept_at : Memory → Option ℕ → List ℕ
kept_at m none = []
kept_at m (some i) = remembered (place_at m i)

unfoldable pub is_remembered_lem : Memory → Key → Bool
is_remembered_lem m k = has (kept_at m (first (is_of k.sender) m)) k.sequence

-- ---- a key is remembered

-- place i where it lies further back than the one before, else that one
abbrev pub further : Memory → ℕ → ℕ → ℕ
further m i before = pick (ltb (place_at m i).turn (place_at m before).turn) i before

-- of the first n places the one with the lowest turn; of two the first
abbrev pub furthest_back : Memory → ℕ → ℕ
furthest_back m zero = 0
furthest_back m (suc n) = further m n (furthest_back m n)

abbrev pub or_else : Option ℕ → ℕ → ℕ
or_else none j = j
or_else (some i) j = i

-- the place for a delivery of that sender: its own, else a free one, else that of the sender whose latest delivery lies furthest back
unfoldable pub place_for_lem : Memory → ℕ → ℕ
place_for_lem m from = or_else (first (is_of from) m) (or_else (first vacant m) (furthest_back m senders_most))

-- how many keys of that sender count there: where it is another's, none
abbrev pub count_of : ℕ → Place → ℕ
count_of from p = pick (is_of from p) p.used 0

-- n sequences and one more; of 32 the oldest goes. A sequence that does not count stays as it is.
abbrev pub pushed : List ℕ → ℕ → ℕ → List ℕ
pushed l n q = pick (ltb n keys_each) (set l n q) (drop 1 l ++ q ∷ [])

-- the place with that key: its delivery is the latest of all
unfoldable pub with_key : Key → Place → Place
with_key k p =
    let n : ℕ = count_of k.sender p in
    record {
      sender = k.sender;
      used = pick (ltb n keys_each) (suc n) n;
      turn = senders_most - 1;
      sequences = pushed p.sequences n k.sequence;
    }

-- a place of turn t is the latest now: each turn above t moves down by one
abbrev pub sunk : ℕ → Place → Place
sunk t p = record { sender = p.sender; used = p.used; turn = pick (ltb t p.turn) (p.turn - 1) p.turn; sequences = p.sequences }

unfoldable pub remember : Memory → Key → Memory
remember m k =
    let i : ℕ = place_for_lem m k.sender in
    set (map (sunk (place_at m i).turn) m) i (with_key k (place_at m i))

-- ---- a sender is forgotten: its place is free

abbrev pub freed : ℕ → Place → Place
freed from p = record { sender = p.sender; used = pick (eqb p.sender from) 0 p.used; turn = p.turn; sequences = p.sequences }

unfoldable pub forget_keys : Memory → ℕ → Memory
forget_keys m from = map (freed from) m

-- not over 16 senders, and not over 32 keys for one
unfoldable pub memory_ok : Memory → Bool
memory_ok m = leb (length m) senders_most && all_below (length m) (λ i. leb (place_at m i).used keys_each)

-- ---- for the promise of order

-- the memory after these deliveries, the latest first
unfoldable pub remember_all : List Key → Memory
remember_all [] = empty_memory
remember_all (k ∷ ks) = remember (remember_all ks) k

-- how many of these deliveries, the latest first, came of k's own sender since that of k
unfoldable pub since : List Key → Key → ℕ
since [] k = 0
since (x ∷ ks) k = pick (same_key x k) 0 (one (eqb x.sender k.sender) + since ks k)

-- 32 others of its own sender have not been delivered since k was
abbrev pub Lately : List Key → Key → Type 0
Lately ks k = since ks k < keys_each

-- these keys are of at most 16 senders
pub record FewSenders (ks : List Key) : Type 0 where
  pub senders : List ℕ
  pub few : length senders ≤ senders_most
  pub all : (k : Key) → among ks k ≡ true → has senders k.sender ≡ true

-- ---- what is remembered, told by what happened and not by places and turns

-- a message is delivered, or a sender is forgotten
pub data Deed : Type 0 where
  delivery : Key → Deed
  forgetting : ℕ → Deed

-- the memory after these, the latest first
unfoldable pub memory_after : List Deed → Memory
memory_after [] = empty_memory
memory_after (delivery k ∷ h) = remember (memory_after h) k
memory_after (forgetting s ∷ h) = forget_keys (memory_after h) s

abbrev pub without : List ℕ → ℕ → List ℕ
without [] x = []
without (y ∷ l) x = pick (eqb y x) (without l x) (y ∷ without l x)

-- The senders that are remembered then, by their latest delivery. A delivery puts its sender first; where they are over 16, the one whose latest delivery
-- lies furthest back goes. One that is forgotten goes, and the rest keep their order.
unfoldable pub latest : List Deed → List ℕ
latest [] = []
latest (delivery k ∷ h) = take senders_most (k.sender ∷ without (latest h) k.sender)
latest (forgetting s ∷ h) = without (latest h) s

-- key k is delivered beside the sequences l of sender s, which are all dropped where that sender is not remembered
abbrev pub delivered_beside : Key → ℕ → Bool → List ℕ → List ℕ
delivered_beside k s known l = pick (eqb k.sender s) (k.sequence ∷ pick known l []) l

-- the sequences delivered of sender s since it was last forgotten, or dropped with its keys, the latest first
unfoldable pub sequences_of : ℕ → List Deed → List ℕ
sequences_of s [] = []
sequences_of s (delivery k ∷ h) = delivered_beside k s (has (latest h) s) (sequences_of s h)
sequences_of s (forgetting x ∷ h) = pick (eqb x s) [] (sequences_of s h)

-- key k is among its sender's last 32 of these, and the sender is among the 16
abbrev pub among_last : List Deed → Key → Bool
among_last h k = has (latest h) k.sender && has (take keys_each (sequences_of k.sender h)) k.sequence

-- a sender has a place
abbrev pub is_there : Option ℕ → Bool
is_there none = false
is_there (some i) = true

unfoldable pub is_known_lem : Memory → ℕ → Bool
is_known_lem m from = is_there (first (is_of from) m)
