-- Calls of qm_gauge_see one after another hear as the gauge does: what the words show afterwards is the gauge after the packet. Assumes nothing.
use Rattle.wire.proofs.Basics.{◌∙◌, sym, ◌≡◌, ap, refl, subst, ℕ, ◌≤◌, ◌<◌, ◌^◌, ◌%◌, List, [], ◌∷◌, ◌++◌, true, false, Bool, length, drop, length-drop, length-take, take-append-drop, take_all, eqb}
use Rattle.wire.proofs.Basics.{le-ltb, arith}
use Rattle.wire.specs.Choice.{pick}
use Rattle.wire.specs.Bytes.{Bytes, be, bytes}
use Rattle.wire.specs.Overlay.{overlay}
use Rattle.wire.specs.Slices.{◌⇒◌}
use Rattle.wire.proofs.Numbers.{bytes-be, drop-bytes, take-bytes}
use Rattle.differences.specs.Noted.{moves}
use Rattle.moss.specs.Limits.{session_length}
use Rattle.moss.specs.Packet.{Given, gives, refuses, Packet, session_place, packet_of}
use Rattle.moss.proofs.Packets.{packet-good}
use Rattle.gauge_watch.specs.Heard.{Gauge, noted_of, moved_to, asked, after}
use Rattle.host_gauge.specs.Watches.{gauge_in, gauge_words_lem, moved_words, SeeTold}

-- ---- a gauge's words show it

one-or-not : (b : Bool) → eqb (pick b 1 0) 1 ≡ b
one-or-not true = refl
one-or-not false = refl

ten-back : (s : List ℕ) → Bytes s → length s ≡ session_length → bytes 8 (be 8 s) ++ bytes 2 (be 2 (drop 8 s)) ≡ s
ten-back s all n =
    let l : length (drop 8 s) ≡ 2 = omega (arith, length-drop 8 s, n) in
    let x = bytes-be 8 s all (omega (arith, n)) in
    let y = bytes-be 2 (drop 8 s) (drop-bytes s 8 all) (omega (arith, l)) ∙ take_all 2 (drop 8 s) (omega (arith, l)) in
    (λ i. x i ++ y i) ∙ take-append-drop 8 s

pub words_back : (w : List ℕ) (g : Gauge) → 4 ≤ length w → Bytes g.session → length g.session ≡ session_length → g.last < 2 ^ 32 → gauge_in (overlay w 0 (gauge_words_lem g)) ≡ g
unfolding overlay
words_back [] g h all n k = absurd (omega (arith, h))
words_back (a ∷ []) g h all n k = absurd (omega (arith, h))
words_back (a ∷ b ∷ []) g h all n k = absurd (omega (arith, h))
words_back (a ∷ b ∷ c ∷ []) g h all n k = absurd (omega (arith, h))
words_back (a ∷ b ∷ c ∷ d ∷ w) g h all n k =
    let s = ten-back g.session all n in
    let l : g.last % 2 ^ 32 ≡ g.last = omega (arith, k) in
    let o = one-or-not g.started in
    λ i. record { session = s i; last = l i; started = o i }

-- ---- a packet moves them as it moves the gauge

module _ (w b w' : List ℕ) (answer : ℕ) (h : 4 ≤ length w) (all : Bytes b) (k : SeeTold (w ⇒ w') b answer) where
  left : (p : Given Packet) → packet_of b ≡ p → w' ≡ moved_words (asked (gauge_in w) p) (after (gauge_in w) p) w
  left p e = k.left ∙ rw (le-ltb (length w) 4 h) (ap (λ (x : Given Packet). moved_words (asked (gauge_in w) x) (after (gauge_in w) x) w) e)

  by_move : (p : Packet) → packet_of b ≡ gives p → (m : Bool) → moves (noted_of (gauge_in w) p) ≡ m → gauge_in w' ≡ after (gauge_in w) (gives p)
  by_move p e true q =
      let good = packet-good b p e in
      let x : w' ≡ overlay w 0 (gauge_words_lem (moved_to p)) = left (gives p) e ∙ rw q in
      let s : Bytes p.session = subst Bytes (sym good.session) (take-bytes session_length (drop session_place b) (drop-bytes b session_place all)) in
      let n : length p.session ≡ session_length = ap length good.session ∙ omega (arith, length-take session_length (drop session_place b), length-drop session_place b, good.whole) in
      let y : after (gauge_in w) (gives p) ≡ moved_to p = rw q in
      ap gauge_in x ∙ words_back w (moved_to p) h s n (omega arith) ∙ sym y
  by_move p e false q =
      let x : w' ≡ w = left (gives p) e ∙ rw q in
      let y : after (gauge_in w) (gives p) ≡ gauge_in w = rw q in
      ap gauge_in x ∙ sym y

  pub goes_on_lem : gauge_in w' ≡ after (gauge_in w) (packet_of b)
  goes_on_lem = by-packet (packet_of b) refl
    where
      by-packet : (p : Given Packet) → packet_of b ≡ p → gauge_in w' ≡ after (gauge_in w) p
      by-packet (refuses n) e = ap gauge_in (left (refuses n) e)
      by-packet (gives p) e = by_move p e (moves (noted_of (gauge_in w) p)) refl
