-- Seven-bit numbers: what is written reads back, and what is read is what would be written. Each law once over the number of groups. Assumes nothing.
use Rattle.wire.proofs.Basics.{◌∙◌, sym, ◌≡◌, ap, refl, subst, ℕ, ◌≤◌, ◌+◌, ◌<◌, ◌-◌, suc, zero, ◌*◌, ◌^◌, ◌%◌, ◌/◌, List, [], ◌∷◌, ◌++◌, true, false, Bool, length, drop, get_or, length-append}
use Rattle.wire.proofs.Basics.{length-drop, set, drop_of_length-le, drop-drop, drop-cons, drop-append_seam, eqb, ltb, le-ltb, ne_eqb, lt-ltb, ltb-false, ltb-true, eqb-false, not-suc-le-zero, pow-suc}
use Rattle.wire.proofs.Basics.{pow-le-pow_right, add-one, arith}
use native.Mathlib.Nat.{one-le-pow}
use Rattle.wire.specs.Bytes.{Bytes}
use Rattle.wire.specs.Choice.{pick}
use Rattle.wire.specs.Overlay.{overlay}
use Rattle.wire.specs.Taken.{Taken, taken, refused}
use Rattle.varint.specs.Seven.{groups, seven, lowest, groups_in, seven_in, groups_after, placed, seven_at, Seven, Number, Refused, told}
use Rattle.std.proofs.Common.{Result, Ok, Err}
use Rattle.refusals.specs.declared.Refusal.{Refusal}
use Rattle.refusals.specs.Numbers.{number_of}
use Rattle.refusals.proofs.Names.{same_number}
use Rattle.wire.proofs.Numbers.{drop-bytes}
use Rattle.wire.proofs.Overlays.{overlay-one, overlay-append}

-- a number that fits k + 1 groups after the first fits k without its lowest
pub fits-high : (k v : ℕ) → v < 2 * 128 ^ suc k → v / 128 < 2 * 128 ^ k
fits-high k v h =
    let l : v < 2 * (128 ^ k * 128) = subst (λ (n : ℕ). v < 2 * n) (pow-suc 128 k) h in
    omega arith

-- what is written reads back, whatever follows it
pub groups-back : (k v : ℕ) → v < 2 * 128 ^ k → (t : List ℕ) → groups_in k (groups k v ++ t) ≡ taken v t
unfolding groups groups_in
groups-back zero v h t = rw (le-ltb 1 v (omega arith)) refl
groups-back (suc k) v h t = by-test (groups-back k (v / 128) (fits-high k v h) t) (ltb v 128) refl
  where
    by-test : groups_in k (groups k (v / 128) ++ t) ≡ taken (v / 128) t → (b : Bool) → ltb v 128 ≡ b
        → groups_in (suc k) (pick b (v ∷ []) ((128 + v % 128) ∷ groups k (v / 128)) ++ t) ≡ taken v t
    by-test ih true e = rw e refl
    by-test ih false e =
        let l : 128 ≤ v = ltb-false v 128 e in
        let n : v / 128 ≡ 0 → ⊥ = λ z. omega arith in
        let s : 128 + v % 128 - 128 + 128 * (v / 128) ≡ v = omega arith in
        rw (le-ltb (128 + v % 128) 128 (omega arith), ih, ne_eqb (v / 128) 0 n) (ap (λ (w : ℕ). taken w t) s)

-- a number that is read fits, and its bytes are those that would be written
pub record Back (k : ℕ) (b : List ℕ) (v : ℕ) (rest : List ℕ) : Type 0 where
  pub fits : v < 2 * 128 ^ k
  pub wrote : groups k v ++ rest ≡ b

tail-bytes : (x : ℕ) (b : List ℕ) → Bytes (x ∷ b) → Bytes b
tail-bytes x b h i = h (suc i)

-- with the lowest group in front
back_more : (k : ℕ) (b : List ℕ) (x w : ℕ) (rest : List ℕ) → 128 ≤ x → x < 256 → (w ≡ 0 → ⊥) → Back k b w rest → Back (suc k) (x ∷ b) (x - 128 + 128 * w) rest
unfolding groups
back_more k b x w rest l u n back =
    let v : ℕ = x - 128 + 128 * w in
    let big : 128 ≤ x - 128 + 128 * w = omega arith in
    let q : (x - 128 + 128 * w) / 128 ≡ w = omega arith in
    let r : 128 + (x - 128 + 128 * w) % 128 ≡ x = omega arith in
    record {
      fits = rw (pow-suc 128 k) (omega (arith, back.fits));
      wrote = rw (le-ltb (x - 128 + 128 * w) 128 big, q, r) (ap (λ (m : List ℕ). x ∷ m) back.wrote);
    }

pub back-groups : (k : ℕ) (b : List ℕ) → Bytes b → (v : ℕ) (rest : List ℕ) → groups_in k b ≡ taken v rest → Back k b v rest
unfolding groups groups_in
back-groups k [] h v rest e = absurd (let z : ◌≡◌ {A = ℕ} 0 1 = cc in omega arith)
back-groups zero (x ∷ b) h v rest e = by-test (ltb 1 x) refl e
  where
    by-test : (t : Bool) → ltb 1 x ≡ t → pick t (refused 41) (taken x b) ≡ taken v rest → Back zero (x ∷ b) v rest
    by-test true p q = absurd (let z : ◌≡◌ {A = ℕ} 0 1 = cc in omega arith)
    by-test false p q =
        let m : x ≡ v = cc in
        let r : b ≡ rest = cc in
        record { fits = omega (arith, ltb-false 1 x p); wrote = rw (m, r) refl }
back-groups (suc k) (x ∷ b) h v rest e = by-test (back-groups k b (tail-bytes x b h)) (ltb x 128) refl e
  where
    high : ((w : ℕ) (r : List ℕ) → groups_in k b ≡ taken w r → Back k b w r) → 128 ≤ x → (t : Taken ℕ) → groups_in k b ≡ t → lowest x t ≡ taken v rest → Back (suc k) (x ∷ b) v rest
    high ih l (refused n) p q = absurd (let z : ◌≡◌ {A = ℕ} 0 1 = cc in omega arith)
    high ih l (taken w r) p q = by_zero (eqb w 0) refl q
      where
        by_zero : (z : Bool) → eqb w 0 ≡ z → pick z (refused 41) (taken (x - 128 + 128 * w) r) ≡ taken v rest → Back (suc k) (x ∷ b) v rest
        by_zero true o u = absurd (let z : ◌≡◌ {A = ℕ} 0 1 = cc in omega arith)
        by_zero false o u =
            let m : x - 128 + 128 * w ≡ v = cc in
            let s : r ≡ rest = cc in
            let more = back_more k b x w r l (h 0) (eqb-false w 0 o) (ih w r p) in
            subst (λ (n : ℕ). Back (suc k) (x ∷ b) n rest) m (subst (λ (y : List ℕ). Back (suc k) (x ∷ b) (x - 128 + 128 * w) y) s more)

    by-test : ((w : ℕ) (r : List ℕ) → groups_in k b ≡ taken w r → Back k b w r) → (t : Bool) → ltb x 128 ≡ t → pick t (taken x b) (lowest x (groups_in k b)) ≡ taken v rest → Back (suc k) (x ∷ b) v rest
    by-test ih true p q =
        let m : x ≡ v = cc in
        let r : b ≡ rest = cc in
        let l : x < 128 = ltb-true x 128 p in
        let pos : 1 ≤ 128 ^ k = one-le-pow k 128 (omega arith) in
        record {
          fits = rw (pow-suc 128 k) (omega arith);
          wrote = rw (← m, p, r) refl;
        }
    by-test ih false p q = high ih (ltb-false x 128 p) (groups_in k b) refl q

-- ---- the two laws of a 64-bit number

pub seven-back : (v : ℕ) → v < 2 ^ 64 → (t : List ℕ) → seven_in (seven v ++ t) ≡ taken v t
seven-back v h t = groups-back 9 v h t

pub back-seven : (b : List ℕ) → Bytes b → (v : ℕ) (rest : List ℕ) → seven_in b ≡ taken v rest → (v < 2 ^ 64) × (seven v ++ rest ≡ b)
back-seven b h v rest e = let k = back-groups 9 b h v rest e in (k.fits, k.wrote)

-- ---- lengths

pub groups-length : (k v : ℕ) → length (groups k v) ≤ suc k
unfolding groups
groups-length zero v = omega arith
groups-length (suc k) v = by-test (groups-length k (v / 128)) (ltb v 128)
  where
    by-test : length (groups k (v / 128)) ≤ suc k → (t : Bool) → length (pick t (v ∷ []) ((128 + v % 128) ∷ groups k (v / 128))) ≤ suc (suc k)
    by-test ih true = omega arith
    by-test ih false = omega arith

-- ---- a turn of the code that writes

pub groups-last : (k v : ℕ) → v < 128 → groups k v ≡ v ∷ []
unfolding groups
groups-last zero v h = refl
groups-last (suc k) v h = rw (lt-ltb v 128 h) refl

pub groups-more : (k v : ℕ) → 0 < k → 128 ≤ v → groups k v ≡ (128 + v % 128) ∷ groups (k - 1) (v / 128)
unfolding groups
groups-more zero v p h = absurd (not-suc-le-zero p)
groups-more (suc k) v p h = let e : suc k - 1 ≡ k = omega arith in rw (le-ltb v 128 h, e) refl

-- a number of two groups needs a group after the first
pub group-left : (k v : ℕ) → v < 2 * 128 ^ k → 128 ≤ v → 0 < k
group-left zero v h l = absurd (let z : ⊥ = omega arith in z)
group-left (suc k) v h l = omega arith

pub fits_next : (k v : ℕ) → v < 2 * 128 ^ k → 128 ≤ v → v / 128 < 2 * 128 ^ (k - 1)
fits_next zero v h l = absurd (let z : ⊥ = omega arith in z)
fits_next (suc k) v h l = let e : suc k - 1 ≡ k = omega arith in rw e (fits-high k v h)

pub overlay-groups : (d : List ℕ) (at k v : ℕ) → 0 < k → 128 ≤ v
    → overlay (set d at (128 + v % 128)) (at + 1) (groups (k - 1) (v / 128)) ≡ overlay d at (groups k v)
overlay-groups d at k v p h =
    rw (groups-more k v p h)
    (sym (overlay-append d at ((128 + v % 128) ∷ []) (groups (k - 1) (v / 128)) ∙ ap (λ (l : List ℕ). overlay l (at + 1) (groups (k - 1) (v / 128))) (overlay-one d at (128 + v % 128))))

-- ---- a turn of the code that reads at a place

placed-refused : (s : List ℕ) (x n : ℕ) (t : Taken ℕ) → placed s t ≡ Refused n → placed s (lowest x t) ≡ Refused n
placed-refused s x n (refused m) e = e
placed-refused s x n (taken v rest) e = absurd (let z : ◌≡◌ {A = ℕ} 0 1 = cc in omega arith)

placed-number : (s : List ℕ) (x v next : ℕ) (t : Taken ℕ) → placed s t ≡ Number v next
    → placed s (lowest x t) ≡ pick (eqb v 0) (Refused 41) (Number (x - 128 + 128 * v) next)
placed-number s x v next (refused m) e = absurd (let z : ◌≡◌ {A = ℕ} 0 1 = cc in omega arith)
placed-number s x v next (taken w rest) e =
    let m : w ≡ v = cc in
    let p : length s - length rest ≡ next = cc in
    rw m (by_zero (eqb v 0) p)
  where
    by_zero : (b : Bool) → length s - length rest ≡ next → placed s (pick b (refused 41) (taken (x - 128 + 128 * v) rest)) ≡ pick b (Refused 41) (Number (x - 128 + 128 * v) next)
    by_zero true p = refl
    by_zero false p = rw p refl

pub at-end : (s : List ℕ) (at k : ℕ) → length s ≤ at → placed s (groups_in k (drop at s)) ≡ Refused 43
unfolding groups_in
at-end s at zero h = rw (drop_of_length-le s h) refl
at-end s at (suc k) h = rw (drop_of_length-le s h) refl

-- the byte x stands at the place
module _ (s : List ℕ) (at : ℕ) (h : at < length s) (x : ℕ) (e : x ≡ get_or s at 0) where
  front : drop at s ≡ x ∷ drop (at + 1) s
  front = drop-cons s at 0 h ∙ rw (add-one, e) refl

  next_place : length s - length (drop (at + 1) s) ≡ at + 1
  next_place = rw length-drop (omega arith)

  pub at_tenth-high : (k : ℕ) → k ≡ 0 → 1 < x → placed s (groups_in k (drop at s)) ≡ Refused 41
  unfolding groups_in
  at_tenth-high k z l = rw (z, front, lt-ltb 1 x l) refl

  pub at_tenth : (k : ℕ) → k ≡ 0 → x ≤ 1 → placed s (groups_in k (drop at s)) ≡ Number x (at + 1)
  unfolding groups_in
  at_tenth k z l = rw (z, front, le-ltb 1 x l) (ap (Number x) next_place)

  pub at_last : (k : ℕ) → (k ≡ 0 → ⊥) → x < 128 → placed s (groups_in k (drop at s)) ≡ Number x (at + 1)
  unfolding groups_in
  at_last zero n l = absurd (n refl)
  at_last (suc k) n l = rw (front, lt-ltb x 128 l) (ap (Number x) next_place)

  more : (k : ℕ) → (k ≡ 0 → ⊥) → 128 ≤ x → groups_in k (drop at s) ≡ lowest x (groups_in (k - 1) (drop (at + 1) s))
  unfolding groups_in
  more zero n l = absurd (n refl)
  more (suc k) n l = let r : suc k - 1 ≡ k = omega arith in rw (front, le-ltb x 128 l, r) refl

  -- r is what was found of the groups after it
  module _ (k : ℕ) (n : k ≡ 0 → ⊥) (l : 128 ≤ x) (r : Seven) (f : r ≡ placed s (groups_in (k - 1) (drop (at + 1) s))) where
    pub at-more-refused : (m : ℕ) → r ≡ Refused m → placed s (groups_in k (drop at s)) ≡ Refused m
    at-more-refused m g = ap (placed s) (more k n l) ∙ placed-refused s x m (groups_in (k - 1) (drop (at + 1) s)) (sym f ∙ g)

    pub at-more-zero : (v next : ℕ) → r ≡ Number v next → v ≡ 0 → placed s (groups_in k (drop at s)) ≡ Refused 41
    at-more-zero v next g z = ap (placed s) (more k n l) ∙ placed-number s x v next (groups_in (k - 1) (drop (at + 1) s)) (sym f ∙ g) ∙ rw z refl

    pub at_more : (v next : ℕ) → r ≡ Number v next → (v ≡ 0 → ⊥) → placed s (groups_in k (drop at s)) ≡ Number (x - 128 + 128 * v) next
    at_more v next g z = ap (placed s) (more k n l) ∙ placed-number s x v next (groups_in (k - 1) (drop (at + 1) s)) (sym f ∙ g) ∙ rw (ne_eqb v 0 z) refl

placed-fits : (s : List ℕ) (at k v next : ℕ) → Bytes s → placed s (groups_in k (drop at s)) ≡ Number v next → v < 2 * 128 ^ k
placed-fits s at k v next h e = by-taken (groups_in k (drop at s)) refl e
  where
    by-taken : (t : Taken ℕ) → groups_in k (drop at s) ≡ t → placed s t ≡ Number v next → v < 2 * 128 ^ k
    by-taken (refused m) p q = absurd (let z : ◌≡◌ {A = ℕ} 0 1 = cc in omega arith)
    by-taken (taken w rest) p q = let m : w ≡ v = cc in subst (λ (n : ℕ). n < 2 * 128 ^ k) m (back-groups k (drop at s) (drop-bytes s at h) w rest p).fits

-- with its lowest group the number fits 64 bits
pub lowest-fits : (s : List ℕ) (at k : ℕ) → Bytes s → k ≤ groups_after → (k ≡ 0 → ⊥) → (r : Seven) → r ≡ placed s (groups_in (k - 1) (drop (at + 1) s))
    → (v next : ℕ) → r ≡ Number v next → 127 + 128 * v < 2 ^ 64
lowest-fits s at k h l n r f v next g =
    let b : v < 2 * 128 ^ (k - 1) = placed-fits s (at + 1) (k - 1) v next h (sym f ∙ g) in
    let j : k - 1 ≤ 8 = omega arith in
    let p : 128 ^ (k - 1) ≤ 128 ^ 8 = pow-le-pow_right {n = 128} (omega arith) j in
    omega arith

-- ---- what a caller knows of the number at a place: what follows it stands at the place after it

pub number-refused : (s : List ℕ) (at n : ℕ) (r : Seven) → r ≡ seven_at s at → r ≡ Refused n → seven_in (drop at s) ≡ refused n
number-refused s at n r e f = by-taken (seven_in (drop at s)) refl
  where
    by-taken : (t : Taken ℕ) → seven_in (drop at s) ≡ t → t ≡ refused n
    by-taken (refused m) p = let g : placed s (refused m) ≡ Refused n = ap (placed s) (sym p) ∙ sym e ∙ f in cc
    by-taken (taken v rest) p = let g : placed s (taken v rest) ≡ Refused n = ap (placed s) (sym p) ∙ sym e ∙ f in absurd (let z : ◌≡◌ {A = ℕ} 0 1 = cc in omega arith)

-- a number takes a byte at least
pub groups-some : (k v : ℕ) → 1 ≤ length (groups k v)
unfolding groups
groups-some zero v = omega arith
groups-some (suc k) v = by-test (ltb v 128)
  where
    by-test : (t : Bool) → 1 ≤ length (pick t (v ∷ []) ((128 + v % 128) ∷ groups k (v / 128)))
    by-test true = omega arith
    by-test false = omega arith

pub record Follows (s : List ℕ) (at v next : ℕ) : Type 0 where
  pub is : seven_in (drop at s) ≡ taken v (drop next s)
  pub on : at < next
  pub within : next ≤ length s

pub number-taken : (s : List ℕ) (at v next : ℕ) → Bytes s → (r : Seven) → r ≡ seven_at s at → r ≡ Number v next → Follows s at v next
number-taken s at v next h r e f = by-taken (seven_in (drop at s)) refl
  where
    by-taken : (t : Taken ℕ) → seven_in (drop at s) ≡ t → Follows s at v next
    by-taken (refused m) p = let g : placed s (refused m) ≡ Number v next = ap (placed s) (sym p) ∙ sym e ∙ f in absurd (let z : ◌≡◌ {A = ℕ} 0 1 = cc in omega arith)
    by-taken (taken w rest) p =
        let g : placed s (taken w rest) ≡ Number v next = ap (placed s) (sym p) ∙ sym e ∙ f in
        let m : w ≡ v = cc in
        let q : length s - length rest ≡ next = cc in
        let b : seven w ++ rest ≡ drop at s = (back-seven (drop at s) (drop-bytes s at h) w rest p).1 in
        let l : length (seven w) + length rest ≡ length s - at = sym (length-append (seven w) rest) ∙ ap length b ∙ length-drop at s in
        let o : 1 ≤ length (seven w) = groups-some 9 w in
        let n : next ≡ at + length (seven w) = omega arith in
        let d : rest ≡ drop next s = sym (drop-append_seam (seven w) rest) ∙ ap (drop (length (seven w))) b ∙ drop-drop (length (seven w)) at s ∙ ap (λ (k : ℕ). drop k s) (sym n) in
        record { is = p ∙ ap (λ (x : ℕ). taken x rest) m ∙ ap (taken v) d; on = omega arith; within = omega arith }

-- ---- the code's answer says one thing: no second answer satisfies `read_seven`

pub told-once : (r s : Result (ℕ × ℕ) Refusal) → told r ≡ told s → r ≡ s
told-once (Ok (v, next)) (Ok (w, after)) e =
    let f : v ≡ w = cc in
    let g : next ≡ after = cc in
    rw (f, g) refl
told-once (Ok (v, next)) (Err s) e = cc
told-once (Err r) (Ok (w, after)) e = cc
told-once (Err r) (Err s) e = let f : number_of r ≡ number_of s = cc in ap Err (same_number r s f)
