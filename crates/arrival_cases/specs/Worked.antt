-- Worked feeds: the paper's B, A, B; nine messages with eight open at once; a mast beside a tile; 16 senders; feeds at the edge of a phrase; and for each premise a
-- feed without it. Definitions only.
use Rattle.std.specs.Prelude.{◌≡◌, true, false, List, [], ◌∷◌, ℕ, zero, suc, ◌+◌, length, replicate}
use Rattle.steps.specs.Limits.{ledger_length}
use Rattle.steps.specs.Receive.{Machine, After, opened, step, forget}
use Rattle.steps.specs.Answers.{Reply, refused_by, kept, delivered, reply}
use Rattle.steps.specs.Worked.{head_of, A-of, B-of}
use Rattle.arrival.specs.Demand.{Message, Scene, part, noise, Feed, start, ◌▹◌, Promised}
use Rattle.arrival.specs.Ours.{table}

-- a store of 32 bytes, slots of 4
abbrev pub scene_of : List Message → Scene
scene_of ms = record { store = replicate 32 9; ledger = replicate ledger_length 7; messages = ms }

-- ---- messages of sequence q: the paper's A and B with that sequence, and a small one

unfoldable pub small_of_lem : ℕ → ℕ → List ℕ
small_of_lem q x = 0x4c ∷ 0x43 ∷ 0x30 ∷ 0x32 ∷ 0 ∷ 0 ∷ 0 ∷ q ∷ 0x50 ∷ 0 ∷ x ∷ []

abbrev pub in_two : ℕ → Message
in_two q = record { sender = 0; sequence = q; name = 0x50 ∷ []; payload = 0x41 ∷ 0x42 ∷ 0x43 ∷ []; fragmented = true; datagrams = A-of q ∷ B-of q ∷ [] }

abbrev pub in_one : ℕ → ℕ → Message
in_one q x = record { sender = 0; sequence = q; name = 0x50 ∷ []; payload = x ∷ []; fragmented = false; datagrams = small_of_lem q x ∷ [] }

-- ---- B, A, B, with an empty datagram and a small message of another sender among them

abbrev pub paper_scene : Scene
paper_scene = scene_of (
    in_two 7
    ∷ record { sender = 1; sequence = 7; name = 0x50 ∷ []; payload = 0x41 ∷ []; fragmented = false; datagrams = small_of_lem 7 0x41 ∷ [] }
    ∷ [])

abbrev pub paper_feed : Feed
paper_feed = start ▹ part 0 1 ▹ noise 5 [] ▹ part 1 0 ▹ part 0 0 ▹ part 0 1

-- ---- nine messages: eight are begun; the first is finished, the ninth begun; then all are finished

abbrev pub nine_scene : Scene
nine_scene = scene_of (table 9 in_two)

-- datagram k of the messages from i up to i + n
unfoldable pub from_each : Feed → ℕ → ℕ → ℕ → Feed
from_each f k i zero = f
from_each f k i (suc n) = from_each f k i n ▹ part (i + n) k

abbrev pub nine_feed : Feed
nine_feed = from_each (from_each start 1 0 8 ▹ part 0 0 ▹ part 8 1) 0 1 8

-- ---- a tile in two fragments, with 200 small messages of a mast among them: 100 before it is whole, and 100 before a fragment comes again

abbrev pub small_from : ℕ → ℕ → Message
small_from from q = record { sender = from; sequence = q; name = 0x50 ∷ []; payload = 0x41 ∷ []; fragmented = false; datagrams = small_of_lem q 0x41 ∷ [] }

abbrev pub mast_scene : Scene
mast_scene = scene_of (in_two 7 ∷ table 200 (λ q. small_from 1 q))

abbrev pub mast_feed : Feed
mast_feed = from_each (from_each (start ▹ part 0 1) 0 1 100 ▹ part 0 0) 0 101 100 ▹ part 0 1

-- ---- a small message of each of 16 senders, then all again

abbrev pub sixteen_scene : Scene
sixteen_scene = scene_of (table 16 (λ from. small_from from 7))

abbrev pub sixteen_feed : Feed
sixteen_feed = from_each (from_each start 0 0 16) 0 0 16

-- ---- feeds at the edge of a phrase, which a weaker statement would not cover

-- a small message, then 31 others of its sender, and the first again
abbrev pub edge_scene : Scene
edge_scene = scene_of (table 32 (λ q. in_one q 0x41))

abbrev pub edge_feed : Feed
edge_feed = from_each start 0 0 32 ▹ part 0 0

-- B and A with a stray of each number among them, 1 to 7: no byte, another magic, 65,536 bytes, a small message without its zero byte, n = 0, P over a slot, an offset of 0
abbrev pub stray_feed : Feed
stray_feed =
    start ▹ noise 0 [] ▹ noise 0 (replicate 8 0) ▹ noise 0 (replicate 65_536 0) ▹ noise 0 (0x4c ∷ 0x43 ∷ 0x30 ∷ 0x32 ∷ 0 ∷ 0 ∷ 0 ∷ 7 ∷ 0x50 ∷ [])
    ▹ part 0 1
    ▹ noise 0 (head_of 7 3 1 1 0 (0x42 ∷ 0x43 ∷ [])) ▹ noise 0 (head_of 7 5 1 1 2 (0x42 ∷ 0x43 ∷ 0x44 ∷ 0x45 ∷ [])) ▹ noise 0 (head_of 7 3 0 1 2 (0x42 ∷ 0x43 ∷ []))
    ▹ part 0 0

-- messages in one fragment, of one byte and of none
abbrev pub in_single : ℕ → List ℕ → Message
in_single q payload = record {
  sender = 0;
  sequence = q;
  name = 0x50 ∷ [];
  payload = payload;
  fragmented = true;
  datagrams = head_of q (length payload) 0 0 1 (0x50 ∷ 0 ∷ payload) ∷ [];
}

abbrev pub single_scene : Scene
single_scene = scene_of (in_single 5 (0x41 ∷ []) ∷ in_single 6 [] ∷ [])

abbrev pub single_feed : Feed
single_feed = start ▹ part 0 0 ▹ part 1 0 ▹ part 0 0

-- an empty store: slots of no bytes, for a fragmented message of none, and a small one
abbrev pub bare_scene : Scene
bare_scene = record { store = []; ledger = replicate ledger_length 7; messages = in_single 6 [] ∷ in_one 7 0x41 ∷ [] }

abbrev pub bare_feed : Feed
bare_feed = start ▹ part 1 0 ▹ part 0 0 ▹ part 0 0

-- ---- feeds that break the promise, each for want of one premise

-- two messages of one key
abbrev pub twin_scene : Scene
twin_scene = scene_of (in_one 5 0x41 ∷ in_one 5 0x42 ∷ [])

abbrev pub twin_feed : Feed
twin_feed = start ▹ part 0 0 ▹ part 1 0

-- fragments of good form that leave a gap: 1 byte from 0, 2 bytes from 2
unfoldable pub A-gap : List ℕ
A-gap = 0x4c ∷ 0x43 ∷ 0x30 ∷ 0x33 ∷ 0 ∷ 0 ∷ 0 ∷ 7 ∷ 0 ∷ 0 ∷ 0 ∷ 4 ∷ 0 ∷ 0 ∷ 0 ∷ 0 ∷ 0 ∷ 0 ∷ 0 ∷ 2 ∷ 0x50 ∷ 0 ∷ 0x41 ∷ []

unfoldable pub B-gap : List ℕ
B-gap = 0x4c ∷ 0x43 ∷ 0x30 ∷ 0x33 ∷ 0 ∷ 0 ∷ 0 ∷ 7 ∷ 0 ∷ 0 ∷ 0 ∷ 4 ∷ 0 ∷ 0 ∷ 0 ∷ 2 ∷ 0 ∷ 1 ∷ 0 ∷ 2 ∷ 0x42 ∷ 0x43 ∷ []

abbrev pub gap_scene : Scene
gap_scene = scene_of (
    record { sender = 0; sequence = 7; name = 0x50 ∷ []; payload = 0x41 ∷ 0x42 ∷ 0x43 ∷ []; fragmented = true; datagrams = A-gap ∷ B-gap ∷ [] }
    ∷ [])

abbrev pub both_feed : Feed
both_feed = start ▹ part 0 0 ▹ part 0 1

-- a message of 3 bytes, with slots of 2
abbrev pub large_scene : Scene
large_scene = record { store = replicate 16 9; ledger = replicate ledger_length 7; messages = in_two 7 ∷ [] }

-- no ledger
abbrev pub barred_scene : Scene
barred_scene = record { store = replicate 32 9; ledger = []; messages = in_two 7 ∷ [] }

abbrev pub one_scene : Scene
one_scene = scene_of (in_two 7 ∷ [])

-- a foreign datagram of good form, with the message's key
abbrev pub stranger_feed : Feed
stranger_feed = start ▹ noise 0 (small_of_lem 7 0x58) ▹ part 0 0 ▹ part 0 1

-- fragment 0 does not come
abbrev pub lacking_feed : Feed
lacking_feed = start ▹ part 0 1

-- nine messages are begun before one is finished
abbrev pub crowded_feed : Feed
crowded_feed = from_each (from_each start 1 0 9) 0 0 9

-- 33 small messages of one sender, and the first again
abbrev pub many_scene : Scene
many_scene = scene_of (table 33 (λ q. in_one q 0x41))

abbrev pub many_feed : Feed
many_feed = from_each start 0 0 33 ▹ part 0 0

-- a small message of each of 17 senders, and the first again
abbrev pub throng_scene : Scene
throng_scene = scene_of (table 17 (λ from. small_from from 7))

abbrev pub throng_feed : Feed
throng_feed = from_each start 0 0 17 ▹ part 0 0

-- ---- and what is lost, though the calls are the same, when somebody changes the store or the ledger, or calls forget, between B and A

abbrev after_b : After
after_b = step (opened 32) (replicate 32 9) (replicate ledger_length 7) 0 (B-of 7)

abbrev pub in_between : (Machine → Machine) → (List ℕ → List ℕ) → (List ℕ → List ℕ) → Reply
in_between m s l =
    let a : After = step (m after_b.machine) (s after_b.store) (l after_b.ledger) 0 (A-of 7) in
    reply (A-of 7) a.store a.answer

-- ---- each premise is needed: none of these is promised

pub record EachNeeded : Type 0 where
  pub distinct : Promised twin_scene twin_feed → ⊥
  pub lawfully-cut : Promised gap_scene both_feed → ⊥
  pub no-larger : Promised large_scene both_feed → ⊥
  pub ledger-fits : Promised barred_scene both_feed → ⊥
  pub mixture : Promised one_scene stranger_feed → ⊥
  pub each-comes : Promised one_scene lacking_feed → ⊥
  pub never-over-eight : Promised nine_scene crowded_feed → ⊥
  pub few-senders : Promised throng_scene throng_feed → ⊥
  pub never_too-late : Promised many_scene many_feed → ⊥
  -- untouched it is delivered
  pub untouched : in_between (λ m. m) (λ s. s) (λ l. l) ≡ delivered (0x41 ∷ 0x42 ∷ 0x43 ∷ [])
  pub same_store : in_between (λ m. m) (λ s. replicate 32 0) (λ l. l) ≡ delivered (0x41 ∷ 0 ∷ 0 ∷ [])
  pub same-ledger : in_between (λ m. m) (λ s. s) (λ l. replicate ledger_length 7) ≡ refused_by 8
  pub no_forget : in_between (λ m. (forget m 0).machine) (λ s. s) (λ l. l) ≡ kept
