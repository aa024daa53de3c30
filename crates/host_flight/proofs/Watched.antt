-- The watch in lent lists: what is read from them, what is written, that an answer which moves nothing writes nothing; no second answer. Assumes nothing.
use Rattle.wire.proofs.Basics.{◌∙◌, sym, ◌≡◌, ap, refl, ℕ, ◌≤◌, ◌+◌, ◌<◌, suc, zero, ◌*◌, ◌^◌, List, [], ◌∷◌, true, false, Bool, or-true, length, drop, get_or, take, set, replicate, ltb, le-ltb, lt-ltb}
use Rattle.wire.proofs.Basics.{arith}
use Rattle.wire.specs.Overlay.{overlay}
use Rattle.wire.proofs.Overlays.{overlay-one, overlay-next}
use Rattle.wire.proofs.Once.{one_answer}
use Rattle.watch.specs.declared.Watch.{Watch}
use Rattle.watch.specs.declared.Seen.{Seen}
use Rattle.watch.specs.Limits.{max_senders}
use Rattle.differences.specs.Noted.{notes, noted_code_lem, moves}
use Rattle.watch.specs.Senders.{empty}
use Rattle.watch.specs.Watching.{asked, after, Result}
use Rattle.host_flight.specs.Watches.{watch_in, lacking, senders_of, lasts_of, SeeTold, watch_kind, watch_number}

-- ---- lists

-- a list's own start written over it leaves it
overlay-own : (d : List ℕ) (n : ℕ) → overlay d 0 (take n d) ≡ d
unfolding overlay
overlay-own [] zero = refl
overlay-own [] (suc n) = refl
overlay-own (x ∷ d) zero = refl
overlay-own (x ∷ d) (suc n) = ap (λ (l : List ℕ). x ∷ l) (overlay-own d n)

-- ---- whether there is room

pub lacks-senders : (senders lasts : List ℕ) → length senders < 1 + max_senders → lacking senders lasts ≡ true
lacks-senders senders lasts h = rw (lt-ltb (length senders) (1 + max_senders) h)

pub lacks-lasts : (senders lasts : List ℕ) → length lasts < max_senders → lacking senders lasts ≡ true
lacks-lasts senders lasts h = rw (lt-ltb (length lasts) max_senders h) (or-true (ltb (length senders) (1 + max_senders)))

pub has_room : (senders lasts : List ℕ) → 1 + max_senders ≤ length senders → max_senders ≤ length lasts → lacking senders lasts ≡ false
has_room senders lasts h k = rw (le-ltb (length senders) (1 + max_senders) h, le-ltb (length lasts) max_senders k)

-- ---- what is told

module _ (senders lasts : List ℕ) (sender number : ℕ) where
  pub see-short : lacking senders lasts ≡ true → SeeTold senders lasts sender number 13 senders lasts
  see-short t = record { gave = rw t; kept = rw t; moved = rw t }

  pub see-told : (w : Watch) (r : Seen) (answer : ℕ) (mid senders' lasts' : List ℕ) → lacking senders lasts ≡ false → w ≡ watch_in senders lasts
      → Result w sender number r → answer ≡ noted_code_lem (notes r.answer) → mid ≡ set senders 0 r.watch.count → senders' ≡ overlay mid 1 r.watch.senders
      → lasts' ≡ overlay lasts 0 r.watch.lasts → SeeTold senders lasts sender number answer senders' lasts'
  see-told w r answer mid senders' lasts' f e s g p q l =
      let a : after w sender number ≡ after (watch_in senders lasts) sender number = ap (λ (v : Watch). after v sender number) e in
      let b : r.watch ≡ after (watch_in senders lasts) sender number = s.watch ∙ a in
      let n : notes r.answer ≡ asked (watch_in senders lasts) sender number = s.answer ∙ ap (λ (v : Watch). asked v sender number) e in
      let x : mid ≡ overlay senders 0 (r.watch.count ∷ []) = p ∙ sym (overlay-one senders 0 r.watch.count) in
      let y : senders' ≡ senders_of r.watch senders = overlay-next senders (r.watch.count ∷ []) r.watch.senders mid senders' 1 x refl q in
      record {
        gave = rw f (g ∙ ap noted_code_lem n);
        kept = rw f (y ∙ ap (λ (v : Watch). senders_of v senders) b);
        moved = rw f (l ∙ ap (λ (v : Watch). lasts_of v lasts) b);
      }

-- ---- an answer that does not move the watch, a refusal too, writes nothing

own-senders : (senders : List ℕ) (n : ℕ) → overlay senders 0 (get_or senders 0 0 ∷ take n (drop 1 senders)) ≡ senders
unfolding overlay
own-senders [] n = refl
own-senders (x ∷ l) n = ap (λ (t : List ℕ). x ∷ t) (overlay-own l n)

module _ (senders lasts : List ℕ) (sender number answer : ℕ) (senders' lasts' : List ℕ) where
  pub see-still : moves (asked (watch_in senders lasts) sender number) ≡ false → SeeTold senders lasts sender number answer senders' lasts'
      → (senders' ≡ senders) × (lasts' ≡ lasts)
  unfolding after
  see-still m k = by-room (lacking senders lasts) refl
    where
      by-room : (b : Bool) → lacking senders lasts ≡ b → (senders' ≡ senders) × (lasts' ≡ lasts)
      by-room true e = (k.kept ∙ rw e, k.moved ∙ rw e)
      by-room false e = (k.kept ∙ rw (e, m) (own-senders senders max_senders), k.moved ∙ rw (e, m) (overlay-own lasts max_senders))

-- ---- lists of zeros show a watch that has seen nobody

pub zeros-empty : watch_in (replicate (1 + max_senders) 0) (replicate max_senders 0) ≡ empty
zeros-empty = refl

-- ---- the header's macros give the two halves of an answer

pub halves-back : (kind number : ℕ) → number < 2 ^ 32 → (watch_kind (kind * 2 ^ 32 + number) ≡ kind) × (watch_number (kind * 2 ^ 32 + number) ≡ number)
halves-back kind number h = (omega arith, omega arith)

-- ---- no second answer, and no second lists

pub see-told-once : (senders lasts : List ℕ) (sender number x y : ℕ) (a b c d : List ℕ) → SeeTold senders lasts sender number x a c
    → SeeTold senders lasts sender number y b d → (x ≡ y) × (a ≡ b) × (c ≡ d)
see-told-once senders lasts sender number x y a b c d p q =
    (one_answer x y p.gave q.gave, one_answer a b p.kept q.kept, one_answer c d p.moved q.moved)
