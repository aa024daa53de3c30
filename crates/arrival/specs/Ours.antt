-- A message as our cutter sends it. Definitions only.
use Rattle.std.specs.Prelude.{◌≡◌, not, List, [], ◌∷◌, ℕ, zero, suc, ◌≤◌, length, take}
use Rattle.cutter.specs.Cut.{is_small, count_of, datagram_of}
use Rattle.arrival.specs.Demand.{Message, Sent, parts, datagram}

-- the list h 0, h 1, .. of n elements
abbrev pub table {ℓ} : {A : Type ℓ} → ℕ → (ℕ → A) → List A
table zero h = []
table (suc n) h = h zero ∷ table n (λ k. h (suc k))

-- the message, cut for datagrams of m bytes
abbrev pub cut_message : ℕ → ℕ → List ℕ → List ℕ → ℕ → Message
cut_message sender q name payload m = record {
  sender = sender;
  sequence = q;
  name = name;
  payload = payload;
  fragmented = not (is_small (length name) (length payload) m);
  datagrams = table (count_of (length name) (length payload) m) (datagram_of q name payload m);
}

-- a call of the cutter for datagram `index` of a message answered n and wrote l bytes of the output
pub record OneOfOurs (C : ℕ) (ours : Message) (index n l : ℕ) (out : List ℕ) : Type 0 where
  -- the message is one of the lawful messages of demand 3, with any slot size C that the payload fits
  pub lawful : length ours.payload ≤ C → Sent C ours
  -- n is the number of its datagrams, and what was written is the one asked for
  pub all : parts ours ≡ n
  pub this : take l out ≡ datagram ours index
