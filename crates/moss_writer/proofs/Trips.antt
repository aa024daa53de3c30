-- What is written reads back the same, and what is read and written again is the same bytes. Assumes nothing.
use Rattle.wire.proofs.Basics.{◌∙◌, sym, ◌≡◌, ap, ℕ, ◌≤◌, ◌+◌, ◌<◌, ◌^◌, ◌%◌, List, [], ◌∷◌, ◌++◌, append_assoc, true, false, Bool, some, Option, length, drop, get_or, take, length-append, length-drop}
use Rattle.wire.proofs.Basics.{take-append-drop, drop_at, take_at, take-add, take-suc, eqb, ne_eqb, arith}
use lib.Seq.{get_or_at}
use Rattle.wire.specs.Choice.{pick}
use Rattle.wire.specs.Bytes.{be, bytes, Bytes}
use Rattle.wire.proofs.Numbers.{be-bytes, bytes-be, length-bytes, drop-bytes}
use Rattle.wire.proofs.Overlays.{overlay-eq}
use Rattle.moss.specs.Limits.{session_length, head_length, max_packet, letter_u}
use Rattle.moss.specs.Blocks.{laid, nothing_in, messages_in}
use Rattle.moss.specs.Packet.{Given, gives, Packet, length_in, session_in, sequence_in, kind_in, known_kind, carried, held, packet_of}
use Rattle.moss_writer.specs.Write.{packet_bytes, filled_by, written_of, output_of, WritesPacket}
use Rattle.std.proofs.Common.{Ok}
use Rattle.moss.proofs.Packets.{Good, packet-good, packet-held}
use Rattle.moss.proofs.Parts.{nothing_is, nothing_left}
use Rattle.moss_writer.proofs.Laying.{messages-laid}
use Rattle.moss_writer.proofs.Plans.{Makes, written_makes, written_known, room-enough}

-- ---- written, then read

module _ (s : List ℕ) (q k : ℕ) (blocks : List ℕ) (ten : length s ≡ session_length) (counter : q < 2 ^ 32) (byte : k < 256) where
  abbrev b : List ℕ
  b = packet_bytes s q k blocks

  abbrev size : List ℕ
  size = bytes 4 (head_length + length blocks)

  pub packet-length : length b ≡ head_length + length blocks
  unfolding packet_bytes
  packet-length = simp (length-append, length-bytes) (omega (arith, ten))

  from-session : b ≡ size ++ (s ++ (bytes 4 q ++ (bytes 1 k ++ blocks)))
  unfolding packet_bytes
  from-session = simp append_assoc

  from-sequence : b ≡ (size ++ s) ++ (bytes 4 q ++ (bytes 1 k ++ blocks))
  unfolding packet_bytes
  from-sequence = simp append_assoc

  from-kind : b ≡ (size ++ s ++ bytes 4 q) ++ (bytes 1 k ++ blocks)
  unfolding packet_bytes
  from-kind = simp append_assoc

  its-length : head_length + length blocks < 2 ^ 32 → length_in b ≡ length b
  its-length h = ap (be 4) from-session ∙ be-bytes 4 (head_length + length blocks) h (s ++ (bytes 4 q ++ (bytes 1 k ++ blocks))) ∙ sym packet-length

  its-session : session_in b ≡ s
  its-session =
      ap session_in from-session
      ∙ ap (take session_length) (drop_at size (s ++ (bytes 4 q ++ (bytes 1 k ++ blocks))) 4 (length-bytes 4 (head_length + length blocks)))
      ∙ take_at s (bytes 4 q ++ (bytes 1 k ++ blocks)) session_length ten

  its-sequence : sequence_in b ≡ q
  its-sequence =
      ap sequence_in from-sequence
      ∙ ap (be 4) (drop_at (size ++ s) (bytes 4 q ++ (bytes 1 k ++ blocks)) 14 (length-append size s ∙ omega (arith, ten, length-bytes 4 (head_length + length blocks))))
      ∙ be-bytes 4 q counter (bytes 1 k ++ blocks)

  before-kind : length (size ++ s ++ bytes 4 q) ≡ 18
  before-kind = simp (length-append, length-bytes) (omega (arith, ten))

  its-kind : kind_in b ≡ k
  unfolding bytes
  its-kind = ap kind_in from-kind ∙ get_or_at (size ++ s ++ bytes 4 q) (k % 256) blocks 0 18 before-kind ∙ omega arith

  its-blocks : drop head_length b ≡ blocks
  unfolding packet_bytes
  its-blocks = drop_at (size ++ s ++ bytes 4 q ++ bytes 1 k) blocks head_length (simp (length-append, length-bytes) (omega (arith, ten)))

  -- what is written says the same session, sequence, type and messages
  pub write_read : (ms : List (List ℕ)) → head_length + length blocks ≤ max_packet → known_kind k ≡ true → carried k blocks ≡ some ms
      → packet_of b ≡ gives (record { session = s; sequence = q; kind = k; messages = ms })
  write_read ms fits known carries =
      let is : carried (kind_in b) (drop head_length b) ≡ some ms = (λ i. carried (its-kind i) (its-blocks i)) ∙ carries in
      packet-held b (omega (arith, packet-length)) (its-length (omega arith)) (omega (arith, packet-length)) (ap known_kind its-kind ∙ known)
      ∙ ap (held b) is
      ∙ (λ i. gives (record { session = its-session i; sequence = its-sequence i; kind = its-kind i; messages = ms }))

-- the same of a call: the first n bytes of the output
pub written-reads : (s : List ℕ) (q k : ℕ) (blocks out : List ℕ) (n : ℕ) (out' : List ℕ) → length s ≡ session_length → q < 2 ^ 32 → k < 256
    → (w : WritesPacket s q k blocks out (Ok n) out')
    → packet_of (take n out') ≡ gives (record { session = s; sequence = q; kind = k; messages = (written_makes k blocks (length out) n (sym w.answer)).messages })
written-reads s q k blocks out n out' ten hq hk w =
    let m : Makes k blocks (length out) n = written_makes k blocks (length out) n (sym w.answer) in
    let b : List ℕ = packet_bytes s q k blocks in
    let l : length b ≡ n = packet-length s q k blocks ten hq hk ∙ sym m.long in
    let o : out' ≡ b ++ drop (0 + length b) out =
    w.output ∙ ap (λ (g : Given ℕ). output_of g out 0 b) (sym w.answer) ∙ overlay-eq out 0 b (omega (arith, m.room')) in
    let t : take n out' ≡ b = ap (take n) o ∙ take_at b (drop (0 + length b) out) n l in
    ap packet_of t ∙ write_read s q k blocks ten hq hk m.messages m.fits m.known m.carries

-- ---- read, then written

one_byte : (k : ℕ) → k < 256 → bytes 1 k ≡ k ∷ []
unfolding bytes
one_byte k h = ap (λ (x : ℕ). x ∷ []) (let e : k % 256 ≡ k = omega arith in e)

module _ (b : List ℕ) (p : Packet) (all : Bytes b) (e : packet_of b ≡ gives p) where
  good : Good b p
  good = packet-good b p e

  bytes-from : (n : ℕ) → Bytes (drop n b)
  bytes-from n = drop-bytes b n all

  -- what is read of a packet, written again, is the packet
  pub read_write : packet_bytes p.session p.sequence p.kind (drop head_length b) ≡ b
  unfolding packet_bytes
  read_write =
      let g = good in
      let body : List ℕ = drop head_length b in
      let n : head_length + length body ≡ be 4 b = omega (arith, length-drop head_length b, g.whole, g.true-length) in
      let size : bytes 4 (head_length + length body) ≡ take 4 b = ap (bytes 4) n ∙ bytes-be 4 b all (omega (arith, g.whole)) in
      let sequence : bytes 4 p.sequence ≡ take 4 (drop 14 b) =
      ap (bytes 4) g.sequence ∙ bytes-be 4 (drop 14 b) (bytes-from 14) (omega (arith, length-drop 14 b, g.whole)) in
      let kind : bytes 1 p.kind ≡ get_or b 18 0 ∷ [] = ap (bytes 1) g.kind ∙ one_byte (get_or b 18 0) (all 18) in
      ap (λ (l : List ℕ). l ++ p.session ++ bytes 4 p.sequence ++ bytes 1 p.kind ++ body) size
      ∙ ap (λ (l : List ℕ). take 4 b ++ l ++ bytes 4 p.sequence ++ bytes 1 p.kind ++ body) g.session
      ∙ ap (λ (l : List ℕ). l ++ bytes 4 p.sequence ++ bytes 1 p.kind ++ body) (sym (take-add 4 10 b))
      ∙ ap (λ (l : List ℕ). take 14 b ++ l ++ bytes 1 p.kind ++ body) sequence
      ∙ ap (λ (l : List ℕ). l ++ bytes 1 p.kind ++ body) (sym (take-add 14 4 b))
      ∙ ap (λ (l : List ℕ). take 18 b ++ l ++ body) kind
      ∙ ap (λ (l : List ℕ). l ++ body) (sym (take-suc b 18 0 (omega (arith, g.whole))))
      ∙ take-append-drop 19 b

  -- and the writer takes it, where the output has room
  pub read-writes : (room : ℕ) → length b ≤ room → written_of p.kind (drop head_length b) room ≡ gives (length b)
  read-writes room h =
      let g = good in
      let body : List ℕ = drop head_length b in
      let n : head_length + length body ≡ length b = omega (arith, length-drop head_length b, g.whole) in
      written_known p.kind body room (omega (arith, n, g.fits)) (ap known_kind g.kind ∙ g.known)
      ∙ ap (λ (o : Option (List (List ℕ))). filled_by o (head_length + length body) room) (ap (λ (x : ℕ). carried x body) g.kind ∙ g.carries)
      ∙ room-enough (head_length + length body) room (omega (arith, n))
      ∙ ap gives n

  -- the blocks of the packet are those of its messages, in order
  pub messages-are : p.kind ≡ letter_u → laid p.messages ≡ drop head_length b
  messages-are u =
      let k : kind_in b ≡ letter_u = sym good.kind ∙ u in
      messages-laid (drop head_length b) p.messages (bytes-from head_length) (ap (λ (x : ℕ). carried x (drop head_length b)) (sym k) ∙ good.carries)

-- H and E have none
pub none-carried : (b : List ℕ) (p : Packet) → packet_of b ≡ gives p → (p.kind ≡ letter_u → ⊥) → (p.messages ≡ []) × (length b ≡ head_length)
none-carried b p e h =
    let g = packet-good b p e in
    let o : eqb (kind_in b) letter_u ≡ false = ne_eqb (kind_in b) letter_u (λ k. h (g.kind ∙ k)) in
    let c : nothing_in (drop head_length b) ≡ some p.messages = ap (λ (t : Bool). pick t (messages_in (drop head_length b)) (nothing_in (drop head_length b))) (sym o) ∙ g.carries in
    (nothing_is (drop head_length b) p.messages c, omega (arith, g.whole, length-drop head_length b, ap length (nothing_left (drop head_length b) p.messages c)))
