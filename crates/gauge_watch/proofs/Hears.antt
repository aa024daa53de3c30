-- The gauge by its cases. Assumes nothing.
use Rattle.wire.proofs.Basics.{◌∙◌, sym, ◌≡◌, ap, refl, ℕ, List, true, false, length, drop, take, length-drop, replicate, arith}
use Rattle.wire.specs.Same.{same}
use Rattle.wire.specs.Overlay.{overlay}
use Rattle.wire.proofs.Choices.{and-false}
use Rattle.wire.proofs.Overlays.{overlay-all}
use Rattle.differences.specs.Noted.{first, moves}
use Rattle.differences.specs.Difference.{difference, told}
use Rattle.moss.specs.Limits.{session_length}
use Rattle.moss.specs.Packet.{Given, gives, refuses, Packet, session_place, session_in, packet_of}
use Rattle.moss.specs.Answers.{header_of, headers_of}
use Rattle.moss.specs.Answers.{Header}
use Rattle.moss.proofs.Packets.{packet-good}
use Rattle.gauge_watch.specs.Heard.{Gauge}
use Rattle.gauge_watch.specs.Heard.{noted_of, moved_to, after}

-- the packet of a header
pub record Headed (g : Given Packet) (h : Header) : Type 0 where
  pub packet : Packet
  pub is : g ≡ gives packet
  pub header : h ≡ header_of packet

pub headed : (g : Given Packet) (h : Header) → gives h ≡ headers_of g → Headed g h
headed (gives p) h e = record { packet = p; is = refl; header = cc }
headed (refuses number) h e = absurd (let z : ◌≡◌ {A = ℕ} 0 1 = cc in omega arith)

module _ (g : Gauge) (p : Packet) where
  pub noted-silent : g.started ≡ false → noted_of g p ≡ first
  unfolding noted_of
  noted-silent h = rw h

  pub noted_other : same p.session g.session ≡ false → noted_of g p ≡ first
  unfolding noted_of
  noted_other h = rw (h, and-false g.started)

  pub noted-same : g.started ≡ true → same p.session g.session ≡ true → noted_of g p ≡ told p.sequence (difference p.sequence g.last)
  unfolding noted_of
  noted-same h e = rw (h, e)

  pub after-moves : moves (noted_of g p) ≡ true → after g (gives p) ≡ moved_to p
  after-moves h = rw h

  pub after-stays : moves (noted_of g p) ≡ false → after g (gives p) ≡ g
  after-stays h = rw h

-- ten bytes taken by value are the session
pub session-taken : (b : List ℕ) (p : Packet) → packet_of b ≡ gives p → overlay (replicate session_length 0) 0 (drop session_place b) ≡ p.session
session-taken b p e =
    let g = packet-good b p e in
    overlay-all (replicate session_length 0) (drop session_place b) (omega (arith, length-drop session_place b, g.whole)) ∙ sym g.session

pub session_compared : (b s : List ℕ) (p : Packet) (h : Header) → packet_of b ≡ gives p → h ≡ header_of p → length s ≡ session_length
    → same (take (length s) (drop h.session b)) s ≡ same p.session s
session_compared b s p h e f l =
    let g = packet-good b p e in
    let t : take (length s) (drop h.session b) ≡ session_in b = (λ i. take (l i) (drop (f i).session b)) in
    ap (λ (x : List ℕ). same x s) (t ∙ sym g.session)

pub not-read : (g : Given Packet) (number : ℕ) → refuses number ≡ headers_of g → g ≡ refuses number
not-read (gives p) number e = absurd (let z : ◌≡◌ {A = ℕ} 0 1 = cc in omega arith)
not-read (refuses k) number e = cc
