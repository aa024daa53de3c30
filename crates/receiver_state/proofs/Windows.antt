-- A window of a list, n elements from a place on, after numbers were written at another place.
use Rattle.wire.proofs.Basics.{◌∙◌, sym, ◌≡◌, ap, ℕ, ◌≤◌, ◌+◌, ◌<◌, ◌-◌, List, ◌++◌, append_assoc, ◌⊎◌, ⊎_elim, length, drop, get_or, take, length-drop, length-take, length-take-le, drop-drop}
use Rattle.wire.proofs.Basics.{get_or-drop, get_or-take, ext_get_or, dec_le, arith}
use Rattle.wire.specs.Overlay.{overlay}
use Rattle.wire.proofs.Overlays.{length-overlay, overlay-eq}
use Rattle.steps.proofs.Stores.{write_in, write-out}

-- element i of a window
pub window_get : (n a : ℕ) (d : List ℕ) (i : ℕ) → i < n → get_or (take n (drop a d)) i 0 ≡ get_or d (a + i) 0
window_get n a d i h = get_or-take n (drop a d) i 0 h ∙ get_or-drop a d i 0

pub window-length : (n a : ℕ) (d : List ℕ) → a + n ≤ length d → length (take n (drop a d)) ≡ n
window-length n a d h = length-take-le n (drop a d) (omega (arith, length-drop a d))

-- windows of lists of one length are of one length
window-alike : (n a : ℕ) (d e : List ℕ) → length d ≡ length e → length (take n (drop a d)) ≡ length (take n (drop a e))
window-alike n a d e p = omega (arith, length-take n (drop a d), length-take n (drop a e), length-drop a d, length-drop a e)

module _ (d : List ℕ) (at : ℕ) (x : List ℕ) where
  -- a window apart from what was written
  pub window-apart : (n a : ℕ) → (a + n ≤ at) ⊎ (at + length x ≤ a) → take n (drop a (overlay d at x)) ≡ take n (drop a d)
  window-apart n a h = ext_get_or 0 _ _ (window-alike n a (overlay d at x) d (length-overlay d at x)) (λ i k.
      let b : i < n = omega (arith, length-take n (drop a (overlay d at x))) in
      window_get n a (overlay d at x) i b
      ∙ write-out d at x (a + i) (λ p q. ⊎_elim (λ u. let z : ⊥ = omega arith in z) (λ u. let z : ⊥ = omega arith in z) h)
      ∙ sym (window_get n a d i b))

  -- all from a place on that lies behind what was written
  pub rest-apart : (a : ℕ) → at + length x ≤ a → drop a (overlay d at x) ≡ drop a d
  rest-apart a h = ext_get_or 0 _ _ (omega (arith, length-drop a (overlay d at x), length-drop a d, length-overlay d at x)) (λ i k.
      get_or-drop a (overlay d at x) i 0 ∙ write-out d at x (a + i) (λ p q. omega arith) ∙ sym (get_or-drop a d i 0))

-- a window in which it was written
pub window_in : (d : List ℕ) (a j : ℕ) (x : List ℕ) (n : ℕ) → a + n ≤ length d → j + length x ≤ n
    → take n (drop a (overlay d (a + j) x)) ≡ overlay (take n (drop a d)) j x
window_in d a j x n h g =
    let l : length (take n (drop a d)) ≡ n = window-length n a d h in
    let l' : length (take n (drop a (overlay d (a + j) x))) ≡ n = window-length n a (overlay d (a + j) x) (omega (arith, length-overlay d (a + j) x)) in
    ext_get_or 0 _ _ (omega (arith, l, l', length-overlay (take n (drop a d)) j x)) (λ i k.
    let b : i < n = omega arith in
    window_get n a (overlay d (a + j) x) i b
    ∙ elim (dec_le j i) [
      | no q ↦
          write-out d (a + j) x (a + i) (λ u v. omega arith) ∙ sym (write-out (take n (drop a d)) j x i (λ u v. omega arith) ∙ window_get n a d i b)
      | yes p ↦ elim (dec_le (j + length x) i) [
        | yes q ↦
            write-out d (a + j) x (a + i) (λ u v. omega arith) ∙ sym (write-out (take n (drop a d)) j x i (λ u v. omega arith) ∙ window_get n a d i b)
        | no q ↦
            let r : a + j + (i - j) ≡ a + i = omega arith in
            let t : j + (i - j) ≡ i = omega arith in
            ap (λ (y : ℕ). get_or (overlay d (a + j) x) y 0) (sym r)
            ∙ write_in d (a + j) x (omega arith) (i - j) (omega arith)
            ∙ sym (ap (λ (y : ℕ). get_or (overlay (take n (drop a d)) j x) y 0) (sym t) ∙ write_in (take n (drop a d)) j x (omega arith) (i - j) (omega arith))
      ]
    ])

-- a window of a window
pub window-inner : (n a j k : ℕ) (d : List ℕ) → j + k ≤ n → take k (drop j (take n (drop a d))) ≡ take k (drop (a + j) d)
window-inner n a j k d h = ext_get_or 0 _ _
    (omega (arith, length-take k (drop j (take n (drop a d))), length-drop j (take n (drop a d)), length-take n (drop a d), length-drop a d, length-take k (drop (a + j) d), length-drop (a + j) d))
    (λ i g.
    let b : i < k = omega (arith, length-take k (drop j (take n (drop a d)))) in
    let r : a + (j + i) ≡ a + j + i = omega arith in
    window_get k j (take n (drop a d)) i b ∙ window_get n a d (j + i) (omega arith) ∙ ap (λ (y : ℕ). get_or d y 0) r ∙ sym (window_get k (a + j) d i b))

-- a part lent and given back is written in its place
pub part-back : (a e : ℕ) (d x : List ℕ) → a ≤ e → e ≤ length d → length x ≡ e - a → take a d ++ (x ++ drop (e - a) (drop a d)) ≡ overlay d a x
part-back a e d x h g l =
    let p : a + (e - a) ≡ a + length x = omega arith in
    ap (λ (t : List ℕ). take a d ++ (x ++ t)) (drop-drop (e - a) a d ∙ ap (λ (y : ℕ). drop y d) p) ∙ sym (overlay-eq d a x (omega arith) ∙ append_assoc (take a d) x (drop (a + length x) d))
