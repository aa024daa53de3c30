-- The writer: its answers by its branches, and what `begin` and `append` of each entry leave. Assumes nothing.
use Rattle.wire.proofs.Basics.{◌∙◌, sym, ◌≡◌, ap, refl, ℕ, ◌≤◌, ◌+◌, ◌<◌, ◌-◌, List, [], ◌∷◌, ◌++◌, length, length-append, set, length-set, le-ltb, lt-ltb, arith}
use Rattle.wire.specs.Overlay.{overlay}
use Rattle.varint.specs.Seven.{seven}
use Rattle.wire.proofs.Overlays.{overlay-append, overlay-one, length-overlay}
use Rattle.varint.proofs.Sevens.{groups-length}
use Rattle.datagram.specs.Limits.{max_datagram, max_payload}
use Rattle.flight_log.specs.Editions.{edition2, second_byte, head_bytes}
use Rattle.flight_log.specs.Entries.{Entry, entry_of, entry_bytes}
use Rattle.log_append.specs.Writes.{wrote, refused, fitted, begin_answer, append_answer, Began, Appended}
use Rattle.std.proofs.Common.{Ok, Err}
use Rattle.refusals.specs.declared.Refusal.TheVariants.{LimitTooLarge, EntryTooLong, NoRoom}
use Rattle.flight_log.proofs.LogRoundTrip.{entry-some}

-- ---- the bytes of an entry

pub entry-size : (s t : ℕ) (d : List ℕ) → length (entry_bytes (entry_of s t d)) ≡ length (seven s) + length (seven t) + length (seven (length d)) + length d
unfolding entry_bytes
entry-size s t d = simp length-append

pub seven-most : (v : ℕ) → length (seven v) ≤ 10
seven-most v = groups-length 9 v

-- one piece after another is both at once
joins : (o x y o₁ o₂ : List ℕ) (at a : ℕ) → o₁ ≡ overlay o at x → a ≡ at + length x → o₂ ≡ overlay o₁ a y → o₂ ≡ overlay o at (x ++ y)
joins o x y o₁ o₂ at a e f g = g ∙ rw (e, f) (sym (overlay-append o at x y))

pub entry-overlay : (o o₁ o₂ o₃ o₄ : List ℕ) (at a b c s t : ℕ) (d : List ℕ)
    → o₁ ≡ overlay o at (seven s) → a ≡ at + length (seven s)
    → o₂ ≡ overlay o₁ a (seven t) → b ≡ a + length (seven t)
    → o₃ ≡ overlay o₂ b (seven (length d)) → c ≡ b + length (seven (length d))
    → o₄ ≡ overlay o₃ c d → o₄ ≡ overlay o at (entry_bytes (entry_of s t d))
unfolding entry_bytes
entry-overlay o o₁ o₂ o₃ o₄ at a b c s t d e₁ f₁ e₂ f₂ e₃ f₃ e₄ =
    let x = seven s in
    let y = seven t in
    let z = seven (length d) in
    let two = joins o x y o₁ o₂ at a e₁ f₁ e₂ in
    let l₂ : b ≡ at + length (x ++ y) = rw length-append (omega arith) in
    let three = joins o (x ++ y) z o₂ o₃ at b two l₂ e₃ in
    let l₃ : c ≡ at + length (x ++ y ++ z) = simp length-append (omega arith) in
    joins o (x ++ y ++ z) d o₃ o₄ at c three l₃ e₄

-- ---- begin

fitted_short : (n at : ℕ) (b : List ℕ) → n < at + length b → fitted n at b ≡ refused 13
fitted_short n at b h = rw (lt-ltb n (at + length b) h) refl

fitted-good : (n at : ℕ) (b : List ℕ) → at + length b ≤ n → fitted n at b ≡ wrote (at + length b)
fitted-good n at b h = rw (le-ltb n (at + length b) h) refl

module _ (out : List ℕ) (limit : ℕ) where
  pub begin-over : max_payload < limit → Began out limit (Err LimitTooLarge) out
  unfolding begin_answer
  begin-over h = record { answer = rw (lt-ltb max_payload limit h) refl; left = refl }

  pub begin-length : (x : ℕ) → length (overlay (set out 0 x) 1 (seven limit)) ≡ length out
  begin-length x = length-overlay (set out 0 x) 1 (seven limit) ∙ length-set out 0 x

  pub begin-short : limit ≤ max_payload → length out < 1 + length (seven limit) → Began out limit (Err NoRoom) out
  unfolding begin_answer
  begin-short h l =
      let f = fitted_short (length out) 0 (head_bytes (edition2 limit)) (omega arith) in
      record { answer = rw (le-ltb max_payload limit h) (sym f); left = refl }

  pub begin-good : (n : ℕ) (out' : List ℕ) → limit ≤ max_payload → n ≡ length (seven limit) → 1 + n ≤ length out
      → out' ≡ overlay (set out 0 second_byte) 1 (seven limit) → Began out limit (Ok (1 + n)) out'
  unfolding begin_answer
  begin-good n out' h s l o =
      let f = fitted-good (length out) 0 (head_bytes (edition2 limit)) (omega arith) in
      let e : 1 + n ≡ 0 + length (head_bytes (edition2 limit)) = omega arith in
      record {
        answer = rw (le-ltb max_payload limit h) (ap wrote e ∙ sym f);
        left = joins out (second_byte ∷ []) (seven limit) (set out 0 second_byte) out' 0 1 (sym (overlay-one out 0 second_byte)) refl o;
      }

-- ---- append

module _ (out : List ℕ) (at : ℕ) (e : Entry) where
  pub append-long : max_datagram < length e.datagram → Appended out at e (Err EntryTooLong) out
  unfolding append_answer
  append-long h = record { answer = rw (lt-ltb max_datagram (length e.datagram) h) refl; left = refl }

  pub append-short : length e.datagram ≤ max_datagram → length out - at < length (entry_bytes e) → Appended out at e (Err NoRoom) out
  unfolding append_answer
  append-short h l =
      let m : length out < at + length (entry_bytes e) = omega arith in
      record { answer = rw (le-ltb max_datagram (length e.datagram) h, lt-ltb (length out) (at + length (entry_bytes e)) m) refl; left = refl }

  pub fits-at : length (entry_bytes e) ≤ length out - at → at + length (entry_bytes e) ≤ length out
  fits-at l = omega (arith, entry-some e)

  pub append-good : (n : ℕ) (out' : List ℕ) → length e.datagram ≤ max_datagram → n ≡ length (entry_bytes e) → n ≤ length out - at
      → out' ≡ overlay out at (entry_bytes e) → Appended out at e (Ok (at + n)) out'
  unfolding append_answer
  append-good n out' h s l o =
      let m : at + length (entry_bytes e) ≤ length out = omega (arith, entry-some e) in
      record { answer = rw (le-ltb max_datagram (length e.datagram) h, le-ltb (length out) (at + length (entry_bytes e)) m, s) refl; left = o }

-- an entry takes at most thirty bytes more than its datagram
pub entry-most : (e : Entry) → length (entry_bytes e) ≤ 30 + length e.datagram
entry-most e = omega (arith, entry-size e.sender e.tick e.datagram, seven-most e.sender, seven-most e.tick, seven-most (length e.datagram))
