-- Laws of text written at a place. Assumes nothing.
use Rattle.wire.proofs.Basics.{◌∙◌, sym, ◌≡◌, ap, subst, ℕ, ◌≤◌, ◌+◌, ◌<◌, min, List, [], ◌∷◌, ◌++◌, length, length-append, set, dec_le, arith}
use Rattle.wire.specs.Overlay.{overlay}
use Rattle.wire.proofs.Overlays.{overlay-nil, overlay-out, overlay-one, overlay-append, length-overlay}
use Rattle.text.specs.Put.{Put}

-- nothing written
pub put-nothing : (out : List ℕ) (at : ℕ) (r : ℕ) → r ≡ min at (length out) → Put out at [] out r
put-nothing out at r e = record { wrote = sym (overlay-nil out at); next = omega arith }

-- from the buffer's end on nothing is written, so a place past it is as good as the end
overlay-min : (d : List ℕ) (at : ℕ) (s : List ℕ) → overlay d (min at (length d)) s ≡ overlay d at s
overlay-min d at s = elim (dec_le at (length d)) [
  | yes h ↦ ap (λ (n : ℕ). overlay d n s) (omega arith)
  | no h ↦ overlay-out d (min at (length d)) s (omega arith) ∙ sym (overlay-out d at s (omega arith))
]

-- one text after another is their joining
pub put_then : {out one two : List ℕ} {at next r : ℕ} {s t : List ℕ} → Put out at s one next → Put one next t two r → Put out at (s ++ t) two r
put_then {out} {one} {two} {at} {next} {r} {s} {t} p q =
    let l : length one ≡ length out = ap length p.wrote ∙ length-overlay out at s in
    let n : next ≡ min (at + length s) (length one) = omega arith in
    record {
      wrote =
          q.wrote
          ∙ ap (λ (k : ℕ). overlay one k t) n
          ∙ overlay-min one (at + length s) t
          ∙ ap (λ (d : List ℕ). overlay d (at + length s) t) p.wrote
          ∙ sym (overlay-append out at s t);
      next = omega (arith, q.next, p.next, l, length-append s t);
    }

-- the buffer keeps its length
pub put-length : {out left : List ℕ} {at r : ℕ} {s : List ℕ} → Put out at s left r → length left ≡ length out
put-length {out} {left} {at} {r} {s} p = ap length p.wrote ∙ length-overlay out at s

-- no second buffer or place satisfies it
pub put-once : {out left left' s : List ℕ} {at r r' : ℕ} → Put out at s left r → Put out at s left' r' → (left ≡ left') × (r ≡ r')
put-once p q = (p.wrote ∙ sym q.wrote, p.next ∙ sym q.next)

-- one byte, where there is room and where there is none
pub put_byte : (out : List ℕ) (at b : ℕ) → at < length out → Put out at (b ∷ []) (set out at b) (at + 1)
put_byte out at b h = record { wrote = sym (overlay-one out at b); next = omega arith }

pub put-no-byte : (out : List ℕ) (at b : ℕ) → length out ≤ at → Put out at (b ∷ []) out (length out)
put-no-byte out at b h = record { wrote = sym (overlay-out out at (b ∷ []) h); next = omega arith }

-- the same text by another name
pub put_is : {out left s t : List ℕ} {at r : ℕ} → Put out at s left r → s ≡ t → Put out at t left r
put_is {out} {left} {s} {t} {at} {r} p e = subst (λ (x : List ℕ). Put out at x left r) e p
