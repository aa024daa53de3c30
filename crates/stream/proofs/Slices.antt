-- Laws of the part of a list from one place up to another. Assumes nothing.
use Rattle.wire.proofs.Basics.{◌∙◌, sym, ◌≡◌, ap, ℕ, ◌≤◌, ◌+◌, ◌-◌, suc, zero, min, List, [], ◌∷◌, ◌++◌, length, drop, take, length-drop, drop_of_length-le}
use Rattle.wire.proofs.Basics.{take-append-drop, length-take-le, drop-drop, take_all, slice, take-take, drop-append-le, zero-add, dec_le, arith}
use native.Mathlib.Nat.{suc-add}
use lib.Seq.{take-nil, take-append-le}
use Rattle.std.specs.List.{copy_within}
use Rattle.std.proofs.lemmas.List.Edits.{take-paste}

pub take-drop : (m n : ℕ) (x : List ℕ) → take n (drop m x) ≡ drop m (take (m + n) x)
take-drop zero n x = ap (λ (k : ℕ). take k x) (sym (zero-add n))
take-drop (suc m) n [] = rw (suc-add m n) (take-nil n)
take-drop (suc m) n (y ∷ x) = rw (suc-add m n) (take-drop m n x)

module _ (b : List ℕ) where
  -- a part is two parts that meet
  pub slice-split : (at e r : ℕ) → at ≤ e → e ≤ r → e ≤ length b → slice at r b ≡ slice at e b ++ slice e r b
  slice-split at e r h k l =
      let w : length (take e b) ≡ e = length-take-le e b l in
      ap (drop at) (sym (take-append-drop e (take r b)) ∙ ap (λ (x : List ℕ). x ++ slice e r b) (take-take e r b k))
      ∙ drop-append-le at (take e b) (slice e r b) (omega arith)

  -- what is left of a part after its first k
  pub slice-rest : (at k e : ℕ) → slice (at + k) e b ≡ drop k (slice at e b)
  slice-rest at k e = sym (drop-drop k at (take e b))

  -- a part of a part
  pub slice_slice : (at f t e : ℕ) → at + t ≤ e → e ≤ length b → slice f t (slice at e b) ≡ slice (at + f) (at + t) b
  slice_slice at f t e h l = ap (drop f) (take-drop at t (take e b) ∙ ap (drop at) (take-take (at + t) e b h)) ∙ drop-drop f at (take (at + t) b)

  -- ends past the list, and a start past the end, change nothing
  pub slice-within : (at e at' e' : ℕ) → e' ≡ min e (length b) → at' ≡ min at e' → slice at' e' b ≡ slice at e b
  slice-within at e at' e' p q = cut_at ∙ ap (drop at) cut-end
    where
      cut-end : take e' b ≡ take e b
      cut-end = elim (dec_le e (length b)) [
        | yes h ↦ ap (λ (k : ℕ). take k b) (let z : e' ≡ e = omega arith in z)
        | no h ↦ take_all e' b (omega arith) ∙ sym (take_all e b (omega arith))
      ]

      cut_at : drop at' (take e' b) ≡ drop at (take e' b)
      cut_at = let l : length (take e' b) ≡ e' = length-take-le e' b (omega arith) in elim (dec_le at e') [
        | yes h ↦ ap (λ (k : ℕ). drop k (take e' b)) (let z : at' ≡ at = omega arith in z)
        | no h ↦
            let p : length (take e' b) ≤ at' = omega arith in
            let r : length (take e' b) ≤ at = omega arith in
            drop_of_length-le (take e' b) p ∙ sym (drop_of_length-le (take e' b) r)
      ]

-- a part of a list stays when something follows
pub slice-append : (x y : List ℕ) (f t : ℕ) → t ≤ length x → slice f t (x ++ y) ≡ slice f t x
slice-append x y f t h = ap (drop f) (take-append-le t x y h)

-- a part that is copied to the front stands there
pub copied-front : (b : List ℕ) (at e : ℕ) → at ≤ e → e ≤ length b → take (e - at) (copy_within b at e 0) ≡ slice at e b
copied-front b at e h k =
    let n : ℕ = e - at in
    let l : n ≤ length (drop at b) = omega (arith, length-drop at b) in
    ap (λ (m : ℕ). take m (copy_within b at e 0)) (let z : n ≡ 0 + n = omega arith in z)
    ∙ take-paste b 0 (drop at b) n (omega arith) l
    ∙ take-drop at n b
    ∙ ap (λ (m : ℕ). drop at (take m b)) (let z : at + n ≡ e = omega arith in z)
