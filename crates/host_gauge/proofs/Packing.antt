-- The ways in which a packet, a message of it, and a packet that is written are told; no second answer. Assumes nothing.
use Rattle.wire.proofs.Basics.{◌∙◌, ◌≡◌, ap, subst, ℕ, ◌≤◌, ◌<◌, List, true, false, or-true, length, drop, take, replicate, ltb, le-ltb, lt-ltb}
use Rattle.wire.specs.Overlay.{overlay}
use Rattle.wire.specs.Slices.{◌⇒◌}
use Rattle.wire.proofs.Overlays.{overlay-all}
use Rattle.wire.proofs.Once.{one_answer}
use Rattle.moss.specs.Limits.{session_length}
use Rattle.moss.specs.Packet.{Given, packet_of}
use Rattle.moss.specs.Message.{Part, place_in}
use Rattle.moss.specs.Answers.{Header, headers_of}
use Rattle.moss_writer.specs.Write.{written_of, writes, WritesPacket}
use Rattle.std.proofs.Common.{Result}
use Rattle.refusals.specs.declared.Refusal.{Refusal}
use Rattle.wire.specs.Given.{code}
use Rattle.host_gauge.specs.Packets.{packet_left, PacketTold, place_left, PlaceTold, length_left, lacking, WriteTold}

-- ---- a packet

module _ (b t : List ℕ) where
  pub packet-short : length t < 4 → PacketTold b (t ⇒ t) 13
  packet-short h = let s = lt-ltb (length t) 4 h in record { gave = rw s; left = rw s }

  pub packet-told : 4 ≤ length t → (r : Given Header) → r ≡ headers_of (packet_of b) → (answer : ℕ) (t' : List ℕ) → answer ≡ code r → t' ≡ packet_left r t
      → PacketTold b (t ⇒ t') answer
  packet-told h r q answer t' g l =
      let f = le-ltb (length t) 4 h in
      record { gave = rw f (g ∙ ap code q); left = rw f (l ∙ ap (λ (x : Given Header). packet_left x t) q) }

  pub packet-told-once : {x y : ℕ} {u v : List ℕ} → PacketTold b (t ⇒ u) x → PacketTold b (t ⇒ v) y → (x ≡ y) × (u ≡ v)
  packet-told-once {x} {y} {u} {v} p q = (one_answer x y p.gave q.gave, one_answer u v p.left q.left)

-- ---- a message

module _ (b : List ℕ) (n : ℕ) (t : List ℕ) where
  pub place_short : length t < 2 → PlaceTold b n (t ⇒ t) 13
  place_short h = let s = lt-ltb (length t) 2 h in record { gave = rw s; left = rw s }

  pub place-told : 2 ≤ length t → (r : Given Part) → r ≡ place_in (packet_of b) n → (answer : ℕ) (t' : List ℕ) → answer ≡ code r → t' ≡ place_left r t
      → PlaceTold b n (t ⇒ t') answer
  place-told h r q answer t' g l =
      let f = le-ltb (length t) 2 h in
      record { gave = rw f (g ∙ ap code q); left = rw f (l ∙ ap (λ (x : Given Part). place_left x t) q) }

  pub place-told-once : {x y : ℕ} {u v : List ℕ} → PlaceTold b n (t ⇒ u) x → PlaceTold b n (t ⇒ v) y → (x ≡ y) × (u ≡ v)
  place-told-once {x} {y} {u} {v} p q = (one_answer x y p.gave q.gave, one_answer u v p.left q.left)

-- ---- a packet written

module _ (s : List ℕ) (q k : ℕ) (b out t : List ℕ) where
  pub session-short : length s < session_length → WriteTold s q k b (out ⇒ out) (t ⇒ t) 13
  session-short h = let f = lt-ltb (length s) session_length h in record { gave = rw f; output = rw f; left = rw f }

  pub write-short : length t < 1 → WriteTold s q k b (out ⇒ out) (t ⇒ t) 13
  write-short h =
      let f : lacking s t ≡ true = rw (lt-ltb (length t) 1 h) (or-true (ltb (length s) session_length)) in
      record { gave = rw f; output = rw f; left = rw f }

  pub write-told : session_length ≤ length s → 1 ≤ length t → (ten : List ℕ) → ten ≡ overlay (replicate session_length 0) 0 (drop 0 s) → (r : Result ℕ Refusal) (out' : List ℕ)
      → WritesPacket ten q k b out r out' → (answer : ℕ) (t' : List ℕ) → answer ≡ code (writes r) → t' ≡ length_left (writes r) t
      → WriteTold s q k b (out ⇒ out') (t ⇒ t') answer
  write-told hs ht ten d r out' x answer t' g l =
      let f : lacking s t ≡ false = rw (le-ltb (length s) session_length hs, le-ltb (length t) 1 ht) in
      let i : ten ≡ take session_length s = d ∙ overlay-all (replicate session_length 0) s hs in
      let y : WritesPacket (take session_length s) q k b out r out' = subst (λ (z : List ℕ). WritesPacket z q k b out r out') i x in
      let a : writes r ≡ written_of k b (length out) = y.answer in
      record { gave = rw f (g ∙ ap code a); output = rw f y.output; left = rw f (l ∙ ap (λ (z : Given ℕ). length_left z t) a) }

  pub write-told-once : {x y : ℕ} {o₁ o₂ u v : List ℕ} → WriteTold s q k b (out ⇒ o₁) (t ⇒ u) x → WriteTold s q k b (out ⇒ o₂) (t ⇒ v) y → (x ≡ y) × ((o₁ ≡ o₂) × (u ≡ v))
  write-told-once {x} {y} {o₁} {o₂} {u} {v} p q = (one_answer x y p.gave q.gave, (one_answer o₁ o₂ p.output q.output, one_answer u v p.left q.left))
