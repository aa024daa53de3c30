-- Laws of `overlay`. Assumes nothing.
use Rattle.wire.proofs.Basics.{◌∙◌, sym, ◌≡◌, ap, refl, ℕ, ◌≤◌, ◌+◌, ◌<◌, ◌-◌, suc, zero, ◌%◌, min, ◌/◌, List, [], ◌∷◌, ◌++◌, append_assoc, length, drop, get_or, take, set, length-take-le, sets}
use Rattle.wire.proofs.Basics.{take_all, drop_at, take-suc, take-append_seam, not-suc-le-zero, zero-add, le_of_suc-le-suc, dec_le, add-one, arith}
use native.Mathlib.Nat.{suc-add}
use borrow.Rule.Slice.PartMut.{put_mid}
use Rattle.std.proofs.lemmas.Slice.{put_mid-paste}
use Rattle.wire.specs.Bytes.{bytes}
use Rattle.wire.specs.Overlay.{overlay}
use Rattle.wire.proofs.Numbers.{length-bytes}

pub length-overlay : (d : List ℕ) (at : ℕ) (s : List ℕ) → length (overlay d at s) ≡ length d
unfolding overlay
length-overlay [] at s = refl
length-overlay (x ∷ d) (suc at) s = ap suc (length-overlay d at s)
length-overlay (x ∷ d) zero [] = refl
length-overlay (x ∷ d) zero (y ∷ s) = ap suc (length-overlay d zero s)

pub overlay-nil : (d : List ℕ) (at : ℕ) → overlay d at [] ≡ d
unfolding overlay
overlay-nil [] at = refl
overlay-nil (x ∷ d) zero = refl
overlay-nil (x ∷ d) (suc at) = ap (λ (l : List ℕ). x ∷ l) (overlay-nil d at)

-- past the end nothing is written
pub overlay-out : {X : Type 0} (d : List X) (at : ℕ) (s : List X) → length d ≤ at → overlay d at s ≡ d
unfolding overlay
overlay-out [] at s h = refl
overlay-out (x ∷ d) zero s h = absurd (not-suc-le-zero h)
overlay-out {X} (x ∷ d) (suc at) s h = ap (λ (l : List X). x ∷ l) (overlay-out d at s (le_of_suc-le-suc h))

pub overlay-one : (d : List ℕ) (at y : ℕ) → overlay d at (y ∷ []) ≡ set d at y
unfolding overlay
overlay-one [] at y = refl
overlay-one (x ∷ d) zero y = ap (λ (l : List ℕ). y ∷ l) (overlay-nil d zero)
overlay-one (x ∷ d) (suc at) y = ap (λ (l : List ℕ). x ∷ l) (overlay-one d at y)

-- one piece after the other is both at once
pub overlay-append : (d : List ℕ) (at : ℕ) (s t : List ℕ) → overlay d at (s ++ t) ≡ overlay (overlay d at s) (at + length s) t
unfolding overlay
overlay-append [] at s t = refl
overlay-append (x ∷ d) (suc at) s t = rw (suc-add at (length s)) (ap (λ (l : List ℕ). x ∷ l) (overlay-append d at s t))
overlay-append (x ∷ d) zero [] t = refl
overlay-append (x ∷ d) zero (y ∷ s) t =
    let e : overlay d zero (s ++ t) ≡ overlay (overlay d zero s) (length s) t = overlay-append d zero s t ∙ ap (λ (n : ℕ). overlay (overlay d zero s) n t) (zero-add (length s)) in
    rw (zero-add (suc (length s))) (ap (λ (l : List ℕ). y ∷ l) e)

-- where it fits, it is the part before, the bytes, and the part after
pub overlay-eq : {X : Type 0} (d : List X) (at : ℕ) (s : List X) → at + length s ≤ length d → overlay d at s ≡ take at d ++ s ++ drop (at + length s) d
unfolding overlay
overlay-eq [] zero [] h = refl
overlay-eq [] zero (y ∷ s) h = absurd (let z : ⊥ = omega arith in z)
overlay-eq [] (suc at) s h = absurd (let z : ⊥ = omega arith in z)
overlay-eq {X} (x ∷ d) (suc at) s h = rw (suc-add at (length s)) (ap (λ (l : List X). x ∷ l) (overlay-eq d at s (omega arith)))
overlay-eq (x ∷ d) zero [] h = refl
overlay-eq {X} (x ∷ d) zero (y ∷ s) h =
    let e : overlay d zero s ≡ s ++ drop (length s) d = overlay-eq d zero s (omega arith) ∙ ap (λ (n : ℕ). s ++ drop n d) (zero-add (length s)) in
    rw (zero-add (suc (length s))) (ap (λ (l : List X). y ∷ l) e)

-- ---- what stands where after a write: at the place, before it and after it

module _ (d : List ℕ) (at : ℕ) (s : List ℕ) where
  -- the bytes that were written are read back
  pub overlay-at : at + length s ≤ length d → take (length s) (drop at (overlay d at s)) ≡ s
  overlay-at h =
      let l : length (take at d) ≡ at = length-take-le at d (omega arith) in
      let e = drop_at (take at d) (s ++ drop (at + length s) d) at l in
      rw (overlay-eq d at s h) (rw append_assoc (ap (take (length s)) e ∙ take-append_seam s (drop (at + length s) d)))

  pub overlay-before : (i : ℕ) → i < at → get_or (overlay d at s) i 0 ≡ get_or d i 0
  unfolding overlay
  overlay-before = go d at s
    where
      go : (d : List ℕ) (at : ℕ) (s : List ℕ) (i : ℕ) → i < at → get_or (overlay d at s) i 0 ≡ get_or d i 0
      go [] at s i h = refl
      go (x ∷ d) zero s i h = absurd (not-suc-le-zero h)
      go (x ∷ d) (suc at) s zero h = refl
      go (x ∷ d) (suc at) s (suc i) h = go d at s i (le_of_suc-le-suc h)

  pub overlay-after : (i : ℕ) → at + length s ≤ i → get_or (overlay d at s) i 0 ≡ get_or d i 0
  unfolding overlay
  overlay-after = go d at s
    where
      go : (d : List ℕ) (at : ℕ) (s : List ℕ) (i : ℕ) → at + length s ≤ i → get_or (overlay d at s) i 0 ≡ get_or d i 0
      go [] at s i h = refl
      go (x ∷ d) zero [] i h = refl
      go (x ∷ d) zero (y ∷ s) zero h = absurd (let z : ⊥ = omega arith in z)
      go (x ∷ d) zero (y ∷ s) (suc i) h = go d zero s i (omega arith)
      go (x ∷ d) (suc at) s zero h = refl
      go (x ∷ d) (suc at) s (suc i) h = go d at s i (omega arith)

-- two writes that do not meet commute
pub overlay-apart : (d : List ℕ) (a b : ℕ) (s t : List ℕ) → a + length s ≤ b → overlay (overlay d a s) b t ≡ overlay (overlay d b t) a s
unfolding overlay
overlay-apart [] a b s t h = refl
overlay-apart (x ∷ d) (suc a) zero s t h = absurd (let z : ⊥ = omega arith in z)
overlay-apart (x ∷ d) (suc a) (suc b) s t h = ap (λ (l : List ℕ). x ∷ l) (overlay-apart d a b s t (omega arith))
overlay-apart (x ∷ d) zero b [] t h = overlay-nil-then (x ∷ d) zero b t
  where
    overlay-nil-then : (d : List ℕ) (a b : ℕ) (t : List ℕ) → overlay (overlay d a []) b t ≡ overlay (overlay d b t) a []
    overlay-nil-then d a b t = ap (λ (l : List ℕ). overlay l b t) (overlay-nil d a) ∙ sym (overlay-nil (overlay d b t) a)
overlay-apart (x ∷ d) zero zero (y ∷ s) t h = absurd (let z : ⊥ = omega arith in z)
overlay-apart (x ∷ d) zero (suc b) (y ∷ s) t h = ap (λ (l : List ℕ). y ∷ l) (overlay-apart d zero b s t (omega arith))

-- only as many bytes as there is room for count
pub overlay-cut : {X : Type 0} (d : List X) (at : ℕ) (s : List X) (n : ℕ) → length d ≤ at + n → overlay d at (take n s) ≡ overlay d at s
unfolding overlay
overlay-cut [] at s n h = refl
overlay-cut {X} (x ∷ d) (suc at) s n h = ap (λ (l : List X). x ∷ l) (overlay-cut d at s n (omega arith))
overlay-cut (x ∷ d) zero [] zero h = refl
overlay-cut (x ∷ d) zero [] (suc n) h = refl
overlay-cut (x ∷ d) zero (y ∷ s) zero h = absurd (let z : ⊥ = omega arith in z)
overlay-cut {X} (x ∷ d) zero (y ∷ s) (suc n) h = ap (λ (l : List X). y ∷ l) (overlay-cut d zero s n (omega arith))

-- a turn of a loop that copies
pub overlay-turn : (d : List ℕ) (at : ℕ) (s : List ℕ) (i : ℕ) → i < length s
    → set (overlay d at (take i s)) (at + i) (get_or s i 0) ≡ overlay d at (take (i + 1) s)
overlay-turn d at s i h =
    let l : length (take i s) ≡ i = length-take-le i s (omega arith) in
    let a : overlay d at (take i s ++ (get_or s i 0 ∷ [])) ≡ overlay (overlay d at (take i s)) (at + length (take i s)) (get_or s i 0 ∷ []) = overlay-append d at (take i s) (get_or s i 0 ∷ []) in
    sym (rw (add-one, take-suc s i 0 h) (a ∙ rw l (overlay-one (overlay d at (take i s)) (at + i) (get_or s i 0))))

-- as many bytes as there are, and as there is room for
pub overlay-least : {X : Type 0} (d : List X) (at : ℕ) (s : List X) (n : ℕ) → n ≡ min (length s) (length d - at) → overlay d at (take n s) ≡ overlay d at s
overlay-least d at s n e = elim (dec_le (length s) n) [
  | yes h ↦ ap (overlay d at) (take_all n s h)
  | no h ↦ overlay-cut d at s n (omega arith)
]

-- the part of d that s has room in, copied from s
pub overlay-part : {X : Type 0} (d : List X) (at : ℕ) (s : List X) (a n k : ℕ) (t : List X)
    → a ≡ min at (length d) → n ≡ min (length s) (length d - at) → t ≡ take n s → k ≡ n → put_mid a k d t ≡ overlay d at s
overlay-part {X} d at s a n k t e f g h =
    let l : length (take n s) ≡ n = length-take-le n s (omega arith) in
    let fits : a + length (take n s) ≤ length d = rw l (omega arith) in
    let o : overlay d a (take n s) ≡ take a d ++ take n s ++ drop (a + n) d = overlay-eq d a (take n s) fits ∙ ap (λ (m : ℕ). take a d ++ take n s ++ drop (a + m) d) l in
    put_mid-paste a k d t (take n s) n g (sym h) (sym l)
    ∙ ap (λ (x : List X). take a d ++ x ++ drop (a + n) d) (take_all n (take n s) (omega arith))
    ∙ sym o
    ∙ elim (dec_le at (length d)) [
      | yes i ↦ let q : a ≡ at = omega arith in ap (λ (m : ℕ). overlay d m (take n s)) q ∙ overlay-least d at s n f
      | no i ↦ overlay-out d a (take n s) (omega arith) ∙ sym (overlay-out d at s (omega arith))
    ]

-- what was written at the front stands there
pub overlay-front : (d s : List ℕ) (n : ℕ) → n ≤ length d → n ≤ length s → take n (overlay d 0 (take n s)) ≡ take n s
overlay-front d s n h g =
    let l : length (take n s) ≡ n = length-take-le n s g in
    let f : 0 + length (take n s) ≤ length d = rw l (omega arith) in
    rw l at (overlay-at d 0 (take n s) f)

-- bytes that leave nothing of what stood there
pub overlay-all : (d s : List ℕ) → length d ≤ length s → overlay d 0 s ≡ take (length d) s
unfolding overlay
overlay-all [] s h = refl
overlay-all (x ∷ d) [] h = absurd (not-suc-le-zero h)
overlay-all (x ∷ d) (y ∷ s) h = ap (λ (l : List ℕ). y ∷ l) (overlay-all d s (le_of_suc-le-suc h))

-- the lowest byte of a number after those above it
pub overlay-number : (d : List ℕ) (at k v : ℕ) → 0 < k
    → set (overlay d at (bytes (k - 1) (v / 256))) (at + (k - 1)) (v % 256) ≡ overlay d at (bytes k v)
unfolding bytes
overlay-number d at zero v h = absurd (not-suc-le-zero h)
overlay-number d at (suc k) v h =
    let e : suc k - 1 ≡ k = omega arith in
    let a = overlay-append d at (bytes k (v / 256)) (v % 256 ∷ []) in
    let o = overlay-one (overlay d at (bytes k (v / 256))) (at + k) (v % 256) in
    rw e (sym (a ∙ rw (length-bytes k (v / 256)) o))

-- ---- the same as stores one after another, which straight-line code makes

pub overlay-sets : (d : List ℕ) (at : ℕ) (s : List ℕ) → overlay d at s ≡ sets d at s
overlay-sets d at [] = overlay-nil d at
overlay-sets d at (y ∷ s) =
    let e : at + 1 ≡ suc at = add-one at in
    overlay-append d at (y ∷ []) s
    ∙ ap (λ (l : List ℕ). overlay l (at + 1) s) (overlay-one d at y)
    ∙ ap (λ (n : ℕ). overlay (set d at y) n s) e
    ∙ overlay-sets (set d at y) (suc at) s

-- ---- a run of writes from the start, each where the one before ended

pub overlay-next : (d s t x y : List ℕ) (at : ℕ) → x ≡ overlay d 0 s → at ≡ length s → y ≡ overlay x at t → y ≡ overlay d 0 (s ++ t)
overlay-next d s t x y at e f g =
    g ∙ rw (e, f) (sym (overlay-append d 0 s t ∙ ap (λ (n : ℕ). overlay (overlay d 0 s) n t) (zero-add (length s))))

-- all of it is written anew
pub overlay-whole : (d s : List ℕ) → length s ≡ length d → overlay d 0 s ≡ s
unfolding overlay
overlay-whole [] [] e = refl
overlay-whole [] (y ∷ s) e = absurd (omega arith)
overlay-whole (x ∷ d) [] e = absurd (omega arith)
overlay-whole (x ∷ d) (y ∷ s) e = ap (λ (l : List ℕ). y ∷ l) (overlay-whole d s (omega arith))
