-- `begin` with a limit, and then `append` of each entry, leave the log of edition 2, that limit and the entries at the start of the output. Assumes nothing.
use Rattle.wire.proofs.Basics.{◌∙◌, sym, ◌≡◌, ap, refl, ℕ, ◌≤◌, ◌+◌, List, [], ◌∷◌, ◌++◌, append_assoc, append-nil, true, false, Bool, length, take, length-append, ltb, le-ltb, ltb-false, arith}
use Rattle.wire.specs.Choice.{pick}
use Rattle.wire.specs.Overlay.{overlay}
use Rattle.wire.proofs.Overlays.{length-overlay, overlay-next, overlay-at}
use Rattle.datagram.specs.Limits.{max_datagram, max_payload}
use Rattle.flight_log.specs.Editions.{Edition, edition2, head_bytes}
use Rattle.flight_log.specs.Entries.{Entry, entry_bytes, body_of, log_of}
use Rattle.log_append.specs.Writes.{wrote, refused, fitted, begin_answer, append_answer, Began, Appended, Kept, begun, added}
use Rattle.std.proofs.Common.{Ok}

-- ---- one entry more

body_more : (es : List Entry) (e : Entry) → body_of (es ++ e ∷ []) ≡ body_of es ++ entry_bytes e
unfolding body_of
body_more [] e = append-nil (entry_bytes e)
body_more (d ∷ es) e = ap (λ (l : List ℕ). entry_bytes d ++ l) (body_more es e) ∙ sym (append_assoc (entry_bytes d) (body_of es) (entry_bytes e))

pub log-more : (v : Edition) (es : List Entry) (e : Entry) → log_of v (es ++ e ∷ []) ≡ log_of v es ++ entry_bytes e
unfolding log_of
log-more v es e = ap (λ (l : List ℕ). head_bytes v ++ l) (body_more es e) ∙ sym (append_assoc (head_bytes v) (body_of es) (entry_bytes e))

-- ---- what a place tells

pub record Went (n at : ℕ) (b : List ℕ) (next : ℕ) : Type 0 where
  pub on : next ≡ at + length b
  pub fits : at + length b ≤ n

pub went : (n at next : ℕ) (b : List ℕ) → wrote next ≡ fitted n at b → Went n at b next
went n at next b e = by-test (ltb n (at + length b)) refl e
  where
    by-test : (t : Bool) → ltb n (at + length b) ≡ t → wrote next ≡ pick t (refused 13) (wrote (at + length b)) → Went n at b next
    by-test true p q = absurd (let z : ◌≡◌ {A = ℕ} 0 1 = cc in omega arith)
    by-test false p q = record { on = cc; fits = ltb-false n (at + length b) p }

-- ---- the theorem

pub record Holds (out : List ℕ) (limit : ℕ) (es : List Entry) (at : ℕ) (out' : List ℕ) : Type 0 where
  pub lawful : limit ≤ max_payload
  pub place : at ≡ length (log_of (edition2 limit) es)
  pub fits : length (log_of (edition2 limit) es) ≤ length out
  pub wrote : out' ≡ overlay out 0 (log_of (edition2 limit) es)

-- the head alone is the log of no entries
log-none : (v : Edition) → log_of v [] ≡ head_bytes v
unfolding log_of body_of
log-none v = append-nil (head_bytes v)

holds-begun : (out : List ℕ) (limit at : ℕ) (out' : List ℕ) → Began out limit (Ok at) out' → Holds out limit [] at out'
unfolding begin_answer
holds-begun out limit at out' b = by_over (ltb max_payload limit) refl b.answer
  where
    by_over : (t : Bool) → ltb max_payload limit ≡ t → wrote at ≡ pick t (refused 45) (fitted (length out) 0 (head_bytes (edition2 limit))) → Holds out limit [] at out'
    by_over true p q = absurd (let z : ◌≡◌ {A = ℕ} 0 1 = cc in omega arith)
    by_over false p q =
        let w = went (length out) 0 at (head_bytes (edition2 limit)) q in
        let n = log-none (edition2 limit) in
        record {
          lawful = ltb-false max_payload limit p;
          place = omega (arith, w.on, ap length n);
          fits = omega (arith, w.fits, ap length n);
          wrote = b.left ∙ ap (overlay out 0) (sym n);
        }

module _ (out : List ℕ) (limit : ℕ) (es : List Entry) (at : ℕ) (mid : List ℕ) (h : Holds out limit es at mid) (e : Entry) where
  abbrev v : Edition
  v = edition2 limit

  size-more : length (log_of v (es ++ e ∷ [])) ≡ length (log_of v es) + length (entry_bytes e)
  size-more = ap length (log-more v es e) ∙ length-append (log_of v es) (entry_bytes e)

  same_size : length mid ≡ length out
  same_size = ap length h.wrote ∙ length-overlay out 0 (log_of v es)

  holds-added : (at' : ℕ) (out' : List ℕ) → Appended mid at e (Ok at') out' → Holds out limit (es ++ e ∷ []) at' out'
  unfolding append_answer
  holds-added at' out' s = by-long (ltb max_datagram (length e.datagram)) s.answer
    where
      by-long : (t : Bool) → wrote at' ≡ pick t (refused 42) (fitted (length mid) at (entry_bytes e)) → Holds out limit (es ++ e ∷ []) at' out'
      by-long true q = absurd (let z : ◌≡◌ {A = ℕ} 0 1 = cc in omega arith)
      by-long false q =
          let w = went (length mid) at at' (entry_bytes e) q in
          record {
            lawful = h.lawful;
            place = omega (arith, w.on, h.place, size-more);
            fits = omega (arith, h.place, w.fits, size-more, same_size);
            wrote = overlay-next out (log_of v es) (entry_bytes e) mid out' at h.wrote h.place s.left ∙ ap (overlay out 0) (sym (log-more v es e));
          }

pub kept-log : {out : List ℕ} {limit : ℕ} {es : List Entry} {at : ℕ} {out' : List ℕ} → Kept out limit es at out' → Holds out limit es at out'
kept-log (begun b) = holds-begun _ _ _ _ b
kept-log (added k s) = holds-added _ _ _ _ _ (kept-log k) _ _ _ s

-- the log of edition 2, the limit and the entries stands at the start of the output
pub kept-start : {out : List ℕ} {limit : ℕ} {es : List Entry} {at : ℕ} {out' : List ℕ} → Kept out limit es at out' → take at out' ≡ log_of (edition2 limit) es
kept-start {out} {limit} {es} {at} {out'} k =
    let h = kept-log k in
    let e = overlay-at out 0 (log_of (edition2 limit) es) (omega (arith, h.fits)) in
    rw (h.place, h.wrote) e

-- the next entry is refused by 42 or 13 only where it must be
pub kept_next : {out : List ℕ} {limit : ℕ} {es : List Entry} {at : ℕ} {mid : List ℕ} → Kept out limit es at mid → (e : Entry) → length e.datagram ≤ max_datagram
    → length (log_of (edition2 limit) (es ++ e ∷ [])) ≤ length out → append_answer (length mid) at e ≡ wrote (length (log_of (edition2 limit) (es ++ e ∷ [])))
unfolding append_answer
kept_next {out} {limit} {es} {at} {mid} k e short fits =
    let h = kept-log k in
    let log = log_of (edition2 limit) (es ++ e ∷ []) in
    let size = size-more out limit es at mid h e in
    let same = same_size out limit es at mid h e in
    let on : at + length (entry_bytes e) ≡ length log = omega (arith, h.place) in
    rw (le-ltb max_datagram (length e.datagram) short, on, le-ltb (length mid) (length log) (omega arith)) refl
