-- Where the first n words rise, halving finds how many of them are below x, and entering makes of them what `enter` makes. Assumes nothing.
use Rattle.wire.proofs.Basics.{◌∙◌, sym, ◌≡◌, ap, refl, subst, ℕ, ◌≤◌, ◌+◌, ◌<◌, ◌-◌, suc, zero, List, [], ◌∷◌, ◌++◌, append_assoc, true, false, inl, inr, length, drop, get_or, take, length-append}
use Rattle.wire.proofs.Basics.{length-drop, length-take, length-take-le, take_at, get_or-take, take-take, eqb, ltb, eq-eqb, le-ltb, ne_eqb, lt-ltb, eqb-true, ltb-false, ltb-true, eqb-false, arith}
use native.Mathlib.Nat.{sub-zero, zero-sub, suc-sub-suc}
use lib.Seq.{take-nil}
use Rattle.wire.specs.Choice.{pick}
use Rattle.wire.proofs.Choices.{either, never, and_l, and_r, pick_all}
use Rattle.std.proofs.Common.{Some, None}
use Rattle.sorted_set.specs.Lists.{In, enter, below}
use Rattle.wire.specs.Halving.{middle, halve}
use Rattle.wire.proofs.Halves.{done, turn, halve-most}
use Rattle.sorted_set.specs.Halving.{held, smaller, rank_in, inserted, is_there, no_room_lem, entered, words_with, Holds}
use Rattle.sorted_set.proofs.Rises.{enter_old, enter-new, enter-rises}
use Rattle.sorted_set.proofs.Places as places

drop-take : (r n : ℕ) (w : List ℕ) → drop r (take n w) ≡ take (n - r) (drop r w)
drop-take zero n w = ap (λ (k : ℕ). take k w) (sym (sub-zero n))
drop-take (suc r) zero w = sym (ap (λ (k : ℕ). take k (drop (suc r) w)) (zero-sub (suc r)))
drop-take (suc r) (suc n) [] = sym (take-nil (suc n - suc r))
drop-take (suc r) (suc n) (x ∷ w) = drop-take r n w ∙ ap (λ (k : ℕ). take k (drop r w)) (sym (suc-sub-suc n r))

-- an insertion keeps the length
inserted-all : (w : List ℕ) (at n x : ℕ) → at ≤ n → n < length w → length (inserted w at n x) ≡ length w
inserted-all w at n x h l = simp (length-append, length-take, length-drop) (omega arith)

inserted-long : (w : List ℕ) (at n x : ℕ) → at ≤ n → n < length w → n + 1 ≤ length (inserted w at n x)
inserted-long w at n x h l = omega (arith, inserted-all w at n x h l)

pub rank_most : (w : List ℕ) (x n : ℕ) → rank_in w n x ≤ held w n
unfolding rank_in
rank_most w x n = halve-most (smaller w x) (held w n) 0 (held w n) (omega arith)

pub words_long : (w : List ℕ) (n x : ℕ) → length (words_with w n x) ≡ length w
unfolding words_with
words_long w n x =
    pick_all (λ (v : List ℕ). length v ≡ length w) (is_there w n x) (λ e. refl)
    (λ e. pick_all (λ (v : List ℕ). length v ≡ length w) (no_room_lem w n) (λ q. refl) (λ q. inserted-all w (rank_in w n x) (held w n) x (rank_most w x n) (omega (arith, eqb-false (held w n) (length w) q))))

module _ (w : List ℕ) (n : ℕ) (l : List ℕ) (h : Holds w n l) where
  pub all_held : held w n ≡ n
  all_held = let a = h.size in omega arith

  pub as_many : length l ≡ n
  as_many = ap (λ (m : List ℕ). length m) (sym h.front) ∙ length-take-le n w h.size

  pub word_at : (i : ℕ) → i < n → get_or w i 0 ≡ get_or l i 0
  word_at i b = sym (get_or-take n w i 0 b) ∙ ap (λ (m : List ℕ). get_or m i 0) h.front

  module _ (x : ℕ) where
    finds : (k low high : ℕ) → high ≤ low + k → low ≤ below x l → below x l ≤ high → high ≤ n → halve k (smaller w x) low high ≡ below x l
    unfolding halve
    finds zero low high e a b c = omega arith
    finds (suc k) low high e a b c = elim (either (ltb low high)) [
      | inl p ↦
          let o : low < high = ltb-true low high p in
          let m : middle low high < n = omega arith in
          let v : get_or w (middle low high) 0 ≡ get_or l (middle low high) 0 = word_at (middle low high) m in
          elim (either (smaller w x (middle low high))) [
            | inl q ↦
                let z : get_or w (middle low high) 0 < x = ltb-true _ x q in
                let y : middle low high < below x l = places.before x l h.rises (middle low high) (omega (arith, as_many)) (omega arith) in
                turn (smaller w x) k low high true o q ∙ finds k (middle low high + 1) high (omega arith) (omega arith) b c
            | inr q ↦
                let z : x ≤ get_or w (middle low high) 0 = ltb-false _ x q in
                let y : below x l ≤ middle low high = places.behind x l h.rises (middle low high) (omega (arith, as_many)) (omega arith) in
                turn (smaller w x) k low high false o q ∙ finds k low (middle low high) (omega arith) a y (omega arith)
          ]
      | inr p ↦ let o : high ≤ low = ltb-false low high p in done (smaller w x) (suc k) low high o ∙ omega arith
    ]

    pub rank_below : rank_in w n x ≡ below x l
    unfolding rank_in
    rank_below = finds (held w n) 0 (held w n) (omega arith) (omega arith) (omega (arith, places.below-most x l, as_many, all_held)) (omega (arith, all_held))

    -- ---- whether x stands there

    there_in : is_there w n x ≡ true → In x l
    there_in t =
        let a : rank_in w n x < held w n = ltb-true _ _ (and_l (ltb (rank_in w n x) (held w n)) (eqb (get_or w (rank_in w n x) 0) x) t) in
        let e : get_or w (rank_in w n x) 0 ≡ x = eqb-true _ _ (and_r (ltb (rank_in w n x) (held w n)) (eqb (get_or w (rank_in w n x) 0) x) t) in
        let b : below x l < length l = omega (arith, rank_below, as_many, all_held) in
        places.stands_in x l b (sym (word_at (below x l) (omega (arith, as_many))) ∙ (ap (λ (i : ℕ). get_or w i 0) (sym rank_below) ∙ e))

    in-there : In x l → is_there w n x ≡ true
    in-there i =
        let s : (below x l < length l) × (get_or l (below x l) 0 ≡ x) = places.stands x l h.rises i in
        let a : rank_in w n x < held w n = omega (arith, s.0, rank_below, as_many, all_held) in
        let e : get_or w (rank_in w n x) 0 ≡ x = ap (λ (j : ℕ). get_or w j 0) rank_below ∙ (word_at (below x l) (omega (arith, s.0, as_many)) ∙ s.1) in
        rw (lt-ltb _ _ a, eq-eqb _ _ e)

    -- ---- x entered

    front_with : n < length w → (In x l → ⊥) → take (n + 1) (inserted w (rank_in w n x) n x) ≡ enter x l
    front_with o f =
        let r : rank_in w n x ≤ n = omega (arith, rank_below, places.below-most x l, as_many) in
        ap (λ (v : List ℕ). take (n + 1) v) (sym (append_assoc (take (rank_in w n x) w) (x ∷ take (n - rank_in w n x) (drop (rank_in w n x) w)) (drop (n + 1) w)))
        ∙ (take_at (take (rank_in w n x) w ++ (x ∷ take (n - rank_in w n x) (drop (rank_in w n x) w))) (drop (n + 1) w) (n + 1) (simp (length-append, length-take, length-drop) (omega arith))
        ∙ ((λ j. sym (take-take (rank_in w n x) n w r) j ++ (x ∷ sym (drop-take (rank_in w n x) n w) j))
        ∙ ((λ j. take (rank_below j) (h.front j) ++ (x ∷ drop (rank_below j) (h.front j)))
        ∙ sym (places.enter-at x l h.rises f))))

    pub entered-is : entered w n x ≡ pick (ltb (length w) (length (enter x l))) None (Some (length (enter x l)))
    unfolding entered
    entered-is = elim (either (is_there w n x)) [
      | inl t ↦
          let e : length (enter x l) ≡ n = ap (λ (m : List ℕ). length m) (enter_old x l h.rises (there_in t)) ∙ as_many in
          rw (t, e, all_held, le-ltb (length w) n h.size)
      | inr t ↦
          let e : length (enter x l) ≡ n + 1 = enter-new x l (λ i. never (in-there i) t) ∙ omega (arith, as_many) in
          elim (either (no_room_lem w n)) [
            | inl q ↦
                let u : n ≡ length w = sym all_held ∙ eqb-true _ _ q in
                rw (t, q, e, lt-ltb (length w) (n + 1) (omega arith))
            | inr q ↦
                let v : n ≡ length w → ⊥ = λ u. eqb-false _ _ q (all_held ∙ u) in
                let u : n + 1 ≤ length w = (let s = h.size in omega arith) in
                rw (t, q, e, le-ltb (length w) (n + 1) u) (ap (λ (k : ℕ). Some (k + 1)) all_held)
          ]
    ]

    pub entered-holds : length (enter x l) ≤ length w → Holds (words_with w n x) (length (enter x l)) (enter x l)
    unfolding words_with
    entered-holds o = elim (either (is_there w n x)) [
      | inl t ↦
          let e : enter x l ≡ l = enter_old x l h.rises (there_in t) in
          rw t (subst (λ (m : List ℕ). Holds w (length m) m) (sym e) (rw as_many h))
      | inr t ↦
          let f : In x l → ⊥ = λ i. never (in-there i) t in
          let e : length (enter x l) ≡ n + 1 = enter-new x l f ∙ omega (arith, as_many) in
          let u : n < length w = omega arith in
          let q : no_room_lem w n ≡ false = ne_eqb _ _ (λ v. let g : n ≡ length w = sym all_held ∙ v in let z : ⊥ = omega arith in z) in
          rw (t, q, all_held, e) (record { size = inserted-long w (rank_in w n x) n x (omega (arith, rank_below, places.below-most x l, as_many)) u; front = front_with u f; rises = enter-rises x l h.rises })
    ]
