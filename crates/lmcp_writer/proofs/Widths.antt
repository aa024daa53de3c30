-- The bytes of a number, two or four at a time, the lowest last. Assumes nothing.
use Rattle.wire.proofs.Basics.{◌∙◌, sym, ◌≡◌, ap, ℕ, ◌+◌, suc, ◌%◌, ◌/◌, List, [], ◌∷◌, ◌++◌, append_assoc, set, add-one}
use Rattle.wire.specs.Bytes.{bytes}
use Rattle.wire.specs.Overlay.{overlay}
use Rattle.wire.proofs.Numbers.{length-bytes}
use Rattle.wire.proofs.Overlays.{overlay-append, overlay-sets}

last-two : (k v : ℕ) → bytes (suc (suc k)) v ≡ bytes k (v / 256 / 256) ++ bytes 2 v
unfolding bytes
last-two k v = append_assoc (bytes k (v / 256 / 256)) (v / 256 % 256 ∷ []) (v % 256 ∷ [])

last-four : (k v : ℕ) → bytes (suc (suc (suc (suc k)))) v ≡ bytes k (v / 256 / 256 / 256 / 256) ++ bytes 4 v
last-four k v =
    last-two (suc (suc k)) v ∙ ap (λ (l : List ℕ). l ++ bytes 2 v) (last-two k (v / 256 / 256))
    ∙ append_assoc (bytes k (v / 256 / 256 / 256 / 256)) (bytes 2 (v / 256 / 256)) (bytes 2 v) ∙ ap (λ (l : List ℕ). bytes k (v / 256 / 256 / 256 / 256) ++ l) (sym (last-two 2 v))

-- two bytes, one after the other
pub two-laid : (d : List ℕ) (to v : ℕ) → set (set d to (v / 256 % 256)) (to + 1) (v % 256) ≡ overlay d to (bytes 2 v)
unfolding bytes
two-laid d to v = rw add-one (sym (overlay-sets d to (v / 256 % 256 ∷ v % 256 ∷ [])))

-- two parts, one after the other
joined : (d o1 o2 : List ℕ) (to k u v n : ℕ) → o1 ≡ overlay d to (bytes k u) → o2 ≡ overlay o1 (to + k) (bytes k v) → bytes n v ≡ bytes k u ++ bytes k v → o2 ≡ overlay d to (bytes n v)
joined d o1 o2 to k u v n e f g =
    f ∙ ap (λ (o : List ℕ). overlay o (to + k) (bytes k v)) e ∙ ap (λ (j : ℕ). overlay (overlay d to (bytes k u)) (to + j) (bytes k v)) (sym (length-bytes k u))
    ∙ sym (overlay-append d to (bytes k u) (bytes k v)) ∙ ap (overlay d to) (sym g)

pub four-laid : (d o1 o2 : List ℕ) (to v : ℕ) → o1 ≡ overlay d to (bytes 2 (v / 256 / 256)) → o2 ≡ overlay o1 (to + 2) (bytes 2 v) → o2 ≡ overlay d to (bytes 4 v)
four-laid d o1 o2 to v e f = joined d o1 o2 to 2 (v / 256 / 256) v 4 e f (last-two 2 v)

pub eight-laid : (d o1 o2 : List ℕ) (to v : ℕ) → o1 ≡ overlay d to (bytes 4 (v / 256 / 256 / 256 / 256)) → o2 ≡ overlay o1 (to + 4) (bytes 4 v) → o2 ≡ overlay d to (bytes 8 v)
eight-laid d o1 o2 to v e f = joined d o1 o2 to 4 (v / 256 / 256 / 256 / 256) v 8 e f (last-four 4 v)
