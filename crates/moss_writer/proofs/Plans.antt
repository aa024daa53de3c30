-- What the writer answers, by its cases, and what is known where it writes. Assumes nothing.
use Rattle.wire.proofs.Basics.{sym, ◌≡◌, ap, refl, ℕ, ◌≤◌, ◌+◌, ◌<◌, List, true, false, Bool, some, none, Option, length, ltb, le-ltb, lt-ltb, ltb-false, arith}
use Rattle.wire.specs.Choice.{pick}
use Rattle.moss.specs.Limits.{head_length, max_packet, max_message}
use Rattle.moss.specs.Packet.{gives, refuses, known_kind, carried, fill_fault, block_fault_lem}
use Rattle.moss_writer.specs.Write.{room_for, filled_by, written_of, laid_of}

-- what is wrong with the blocks is the refusal; where nothing is, only the room is left to ask
module _ (n room : ℕ) where
  by-fault : (t : Bool) (o : Option (List (List ℕ))) (k : ℕ) → pick t (fill_fault o) 52 ≡ k → (k ≡ 0 → ⊥)
      → pick t (filled_by o n room) (refuses 52) ≡ refuses k
  by-fault true none k e h = ap refuses e
  by-fault true (some ms) k e h = absurd (h (sym e))
  by-fault false o k e h = ap refuses e

  by-good : (t : Bool) (o : Option (List (List ℕ))) → pick t (fill_fault o) 52 ≡ 0 → pick t (filled_by o n room) (refuses 52) ≡ room_for n room
  by-good true none e = absurd (let z : ⊥ = omega arith in z)
  by-good true (some ms) e = refl
  by-good false o e = absurd (let z : ⊥ = omega arith in z)

module _ (kind : ℕ) (blocks : List ℕ) (room : ℕ) where
  pub written-long : max_packet < head_length + length blocks → written_of kind blocks room ≡ refuses 51
  unfolding written_of
  written-long h = rw (lt-ltb max_packet (head_length + length blocks) h)

  module _ (fits : head_length + length blocks ≤ max_packet) where
    pub written-fault : (k : ℕ) → block_fault_lem kind blocks ≡ k → (k ≡ 0 → ⊥) → written_of kind blocks room ≡ refuses k
    unfolding written_of block_fault_lem
    written-fault k e h =
        rw (le-ltb max_packet (head_length + length blocks) fits)
        (by-fault (head_length + length blocks) room (known_kind kind) (carried kind blocks) k e h)

    pub written-good : block_fault_lem kind blocks ≡ 0 → written_of kind blocks room ≡ room_for (head_length + length blocks) room
    unfolding written_of block_fault_lem
    written-good e =
        rw (le-ltb max_packet (head_length + length blocks) fits)
        (by-good (head_length + length blocks) room (known_kind kind) (carried kind blocks) e)

    pub written_known : known_kind kind ≡ true → written_of kind blocks room ≡ filled_by (carried kind blocks) (head_length + length blocks) room
    unfolding written_of
    written_known known = rw (le-ltb max_packet (head_length + length blocks) fits, known)

pub room-short : (n room : ℕ) → room < n → room_for n room ≡ refuses 55
room-short n room h = rw (lt-ltb room n h)

pub room-enough : (n room : ℕ) → n ≤ room → room_for n room ≡ gives n
room-enough n room h = rw (le-ltb room n h)

-- ---- a packet that is written

pub record Makes (kind : ℕ) (blocks : List ℕ) (room n : ℕ) : Type 0 where
  pub fits : head_length + length blocks ≤ max_packet
  pub known : known_kind kind ≡ true
  pub messages : List (List ℕ)
  pub carries : carried kind blocks ≡ some messages
  pub long : n ≡ head_length + length blocks
  pub room' : n ≤ room

module _ (kind : ℕ) (blocks : List ℕ) (room n : ℕ) where
  from-room : (t : Bool) (ms : List (List ℕ)) → head_length + length blocks ≤ max_packet → known_kind kind ≡ true → carried kind blocks ≡ some ms
      → ltb room (head_length + length blocks) ≡ t → pick t (refuses 55) (gives (head_length + length blocks)) ≡ gives n → Makes kind blocks room n
  from-room true ms f k c h e = absurd (let z : ◌≡◌ {A = ℕ} 0 1 = cc in omega arith)
  from-room false ms f k c h e =
      let q : n ≡ head_length + length blocks = cc in
      record {
        fits = f;
        known = k;
        messages = ms;
        carries = c;
        long = q;
        room' = omega (arith, ltb-false room (head_length + length blocks) h);
      }

  from-filled : (o : Option (List (List ℕ))) → head_length + length blocks ≤ max_packet → known_kind kind ≡ true → carried kind blocks ≡ o
      → filled_by o (head_length + length blocks) room ≡ gives n → Makes kind blocks room n
  from-filled none f k c e = absurd (let z : ◌≡◌ {A = ℕ} 0 1 = cc in omega arith)
  from-filled (some ms) f k c e = from-room (ltb room (head_length + length blocks)) ms f k c refl e

  from-known : (t : Bool) → head_length + length blocks ≤ max_packet → known_kind kind ≡ t
      → pick t (filled_by (carried kind blocks) (head_length + length blocks) room) (refuses 52) ≡ gives n → Makes kind blocks room n
  from-known true f k e = from-filled (carried kind blocks) f k refl e
  from-known false f k e = absurd (let z : ◌≡◌ {A = ℕ} 0 1 = cc in omega arith)

  from-fits : (t : Bool) → ltb max_packet (head_length + length blocks) ≡ t
      → pick t (refuses 51) (pick (known_kind kind) (filled_by (carried kind blocks) (head_length + length blocks) room) (refuses 52)) ≡ gives n
      → Makes kind blocks room n
  from-fits true h e = absurd (let z : ◌≡◌ {A = ℕ} 0 1 = cc in omega arith)
  from-fits false h e = from-known (known_kind kind) (ltb-false max_packet (head_length + length blocks) h) refl e

  pub written_makes : written_of kind blocks room ≡ gives n → Makes kind blocks room n
  unfolding written_of
  written_makes e = from-fits (ltb max_packet (head_length + length blocks)) refl e

-- ---- one block

module _ (message : List ℕ) (at room : ℕ) where
  pub laid-long : max_message < length message → laid_of message at room ≡ refuses 51
  unfolding laid_of
  laid-long h = rw (lt-ltb max_message (length message) h)

  pub laid-short : length message ≤ max_message → room < at + (2 + length message) → laid_of message at room ≡ refuses 55
  unfolding laid_of
  laid-short f h = rw (le-ltb max_message (length message) f, lt-ltb room (at + (2 + length message)) h)

  pub laid_done : length message ≤ max_message → at + (2 + length message) ≤ room → laid_of message at room ≡ gives (2 + length message)
  unfolding laid_of
  laid_done f h = rw (le-ltb max_message (length message) f, le-ltb room (at + (2 + length message)) h)
