-- The gauge in lent words: what is read from them and written; that calls follow one another as packets do; no second answer. Assumes nothing.
use Rattle.wire.proofs.Basics.{◌∙◌, sym, ◌≡◌, ap, refl, ℕ, ◌≤◌, ◌+◌, ◌<◌, List, ◌++◌, true, false, Bool, length, length-append, replicate, ltb, le-ltb, lt-ltb, arith}
use Rattle.wire.specs.Bytes.{be, bytes}
use Rattle.wire.specs.Overlay.{overlay}
use Rattle.wire.specs.Slices.{◌⇒◌}
use Rattle.wire.proofs.Numbers.{length-bytes}
use Rattle.wire.proofs.Overlays.{overlay-next, overlay-whole}
use Rattle.wire.proofs.Once.{one_answer}
use Rattle.differences.specs.Noted.{notes, noted_code_lem, moves}
use Rattle.moss.specs.Limits.{session_length}
use Rattle.moss.specs.Packet.{Given, gives, refuses, Packet, packet_of}
use Rattle.gauge_watch.specs.declared.Gauge as code
use Rattle.gauge_watch.specs.declared.Heard.{Heard}
use Rattle.gauge_watch.specs.Heard.{Gauge, silent, said, noted_of, asked, after, Hears}
use Rattle.wire.specs.Choice.{pick}
use Rattle.host_gauge.specs.Watches.{gauge_in, gauge_words_lem, SeeTold}
use Rattle.host_gauge.specs.Inside.{heard}

-- ---- a gauge that has heard no session is asked as a silent one is, and where it moves, it moves as that does

asked-heard : (g : Gauge) (p : Given Packet) → asked (heard g) p ≡ asked g p
unfolding noted_of
asked-heard g (refuses number) = refl
asked-heard g (gives p) = by-started g.started refl
  where
    by-started : (b : Bool) → g.started ≡ b → noted_of (pick b g silent) p ≡ noted_of g p
    by-started true e = refl
    by-started false e = rw e refl

after-heard : (g : Gauge) (p : Given Packet) → moves (asked g p) ≡ true → after (heard g) p ≡ after g p
after-heard g (refuses number) m = absurd (let z : ◌≡◌ {A = Bool} false true = m in let y : ◌≡◌ {A = ℕ} 0 1 = cc in omega arith)
after-heard g (gives p) m = rw (ap moves (asked-heard g (gives p)) ∙ m, m) refl

pub not-heard : (g : Gauge) → g.started ≡ false → heard g ≡ silent
not-heard g e = rw e refl

pub was-heard : (g : Gauge) {s : List ℕ} {n : ℕ} → s ≡ g.session → n ≡ g.last → g.started ≡ true → record { session = s; last = n; started = true } ≡ heard g
was-heard g p q e = (λ i. record { session = p i; last = q i; started = sym e i }) ∙ sym (ap (λ (b : Bool). pick b g silent) e)

-- ---- what is told

module _ (w b : List ℕ) where
  pub see-short : length w < 4 → SeeTold (w ⇒ w) b 13
  see-short h = let s = lt-ltb (length w) 4 h in record { gave = rw s; left = rw s }

  module _ (h : 4 ≤ length w) (g : code.Gauge) (e : said g ≡ heard (gauge_in w)) (r : Heard) (s : Hears (said g) b r) (m : Bool) (p : m ≡ moves (notes r.answer)) (answer : ℕ) (a : answer ≡ noted_code_lem (notes r.answer)) where
    room : ltb (length w) 4 ≡ false
    room = le-ltb (length w) 4 h

    noted : notes r.answer ≡ asked (gauge_in w) (packet_of b)
    noted = s.answer ∙ ap (λ (v : Gauge). asked v (packet_of b)) e ∙ asked-heard (gauge_in w) (packet_of b)

    gauged : moves (asked (gauge_in w) (packet_of b)) ≡ true → said r.gauge ≡ after (gauge_in w) (packet_of b)
    gauged v = s.gauge ∙ ap (λ (x : Gauge). after x (packet_of b)) e ∙ after-heard (gauge_in w) (packet_of b) v

    pub see-moved : m ≡ true → (n w' : List ℕ) → n ≡ gauge_words_lem (said r.gauge) → w' ≡ overlay w 0 n → SeeTold (w ⇒ w') b answer
    see-moved q n w' k l =
        let v : moves (asked (gauge_in w) (packet_of b)) ≡ true = sym (p ∙ ap moves noted) ∙ q in
        record { gave = rw room (a ∙ ap noted_code_lem noted); left = rw (room, v) (l ∙ ap (overlay w 0) (k ∙ ap gauge_words_lem (gauged v))) }

    pub see-still : m ≡ false → (w' : List ℕ) → w' ≡ w → SeeTold (w ⇒ w') b answer
    see-still q w' l =
        let v : moves (asked (gauge_in w) (packet_of b)) ≡ false = sym (p ∙ ap moves noted) ∙ q in
        record { gave = rw room (a ∙ ap noted_code_lem noted); left = rw (room, v) l }

-- ---- ten bytes out of two numbers

pub ten-bytes : (x y : ℕ) (u v : List ℕ) → u ≡ overlay (replicate session_length 0) 0 (bytes 8 x) → v ≡ overlay u 8 (bytes 2 y) → v ≡ bytes 8 x ++ bytes 2 y
ten-bytes x y u v p q =
    let n : length (bytes 8 x ++ bytes 2 y) ≡ session_length = length-append (bytes 8 x) (bytes 2 y) ∙ (λ i. length-bytes 8 x i + length-bytes 2 y i) in
    overlay-next (replicate session_length 0) (bytes 8 x) (bytes 2 y) u v 8 p (sym (length-bytes 8 x)) q ∙ overlay-whole (replicate session_length 0) (bytes 8 x ++ bytes 2 y) n

-- ---- words of zeros show a gauge that has heard nothing

pub zeros-silent : gauge_in (replicate 4 0) ≡ silent
unfolding bytes
zeros-silent = refl

pub zeros-words : replicate 4 0 ≡ gauge_words_lem silent
unfolding be
zeros-words = refl

-- ---- no second answer, and no other words

pub see-told-once : {w b : List ℕ} {x y : ℕ} {u v : List ℕ} → SeeTold (w ⇒ u) b x → SeeTold (w ⇒ v) b y → (x ≡ y) × (u ≡ v)
see-told-once {w} {b} {x} {y} {u} {v} p q = (one_answer x y p.gave q.gave, one_answer u v p.left q.left)
