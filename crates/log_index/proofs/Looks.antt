-- A key is found by halving: in the index of rows whose places rise, its first row, or none where no row has it. Assumes nothing.
use Rattle.wire.proofs.Basics.{◌∙◌, sym, ◌≡◌, ap, refl, ℕ, ◌<◌, suc, zero, List, [], ◌∷◌, ◌++◌, true, false, Bool, ◌&&◌, inl, inr, some, Option, length, get_or, eqb, ltb, eq-eqb, le-ltb, lt-ltb}
use Rattle.wire.proofs.Basics.{eqb-true, ltb-false, ltb-true, arith}
use mathlib.Core.Option as option
use Rattle.wire.specs.Choice.{pick}
use Rattle.wire.proofs.Choices.{either, never, and_l, and_r}
use Rattle.log_index.specs.Rows.{Row, row_of, earlier, put, sorted, is_of, first_of}
use Rattle.log_index.specs.Words.{words_of, rank_in, held, at_rank, found_in}
use Rattle.log_index.proofs.Order.{Before, by-sender, by-sequence, by_place_lem, Behind, of-sender, of-sequence, of-place, test-before, test-behind, upto_trans}
use Rattle.wire.proofs.Halves.{Turns}
use Rattle.log_index.proofs.Sorts.{none, All, Ordered, put_on, put-here, put_only, sorted-ordered, sorted-length, sorted_all, earlier_at, turns-rest}
use Rattle.log_index.proofs.Wordings.{words-all, row_words, rank-turns}

-- row by row: the first that is not before the key is one of its own, or there is none
abbrev own : ℕ → ℕ → Row → Option ℕ
own s q x = pick (is_of s q x) (some x.place) option.none

abbrev seek : ℕ → ℕ → List Row → Option ℕ
seek s q [] = option.none
seek s q (x ∷ xs) = pick (earlier x (row_of s q 0)) (seek s q xs) (own s q x)

module _ (s q : ℕ) where
  abbrev key : Row
  key = row_of s q 0

  seek-on : (x : Row) (xs : List Row) → earlier x key ≡ true → seek s q (x ∷ xs) ≡ seek s q xs
  seek-on x xs e = rw e

  seek-here : (x : Row) (xs : List Row) → earlier x key ≡ false → seek s q (x ∷ xs) ≡ own s q x
  seek-here x xs e = rw e

  -- ---- by halving

  abbrev by_place : List Row → ℕ → Option ℕ
  by_place l i = pick (ltb i (length l) && is_of s q (get_or l i none)) (some (get_or l i none).place) option.none

  by-place-here : (l : List Row) (i : ℕ) → i < length l → by_place l i ≡ own s q (get_or l i none)
  by-place-here l i h = rw (lt-ltb i (length l) h)

  by-place-rest : (x : Row) (xs : List Row) (i : ℕ) → by_place xs i ≡ by_place (x ∷ xs) (suc i)
  by-place-rest x xs i = elim (either (ltb i (length xs))) [
    | inl e ↦
        let h = ltb-true i (length xs) e in
        by-place-here xs i h ∙ sym (by-place-here (x ∷ xs) (suc i) (omega arith))
    | inr e ↦
        let h = ltb-false i (length xs) e in
        rw (e, le-ltb (suc i) (suc (length xs)) (omega arith)) refl
  ]

  seek-at : (l : List Row) (i : ℕ) → Turns (earlier_at key l) (length l) i → by_place l i ≡ seek s q l
  seek-at [] zero t = refl
  seek-at [] (suc i) t = absurd (let z : ⊥ = omega (arith, t.most) in z)
  seek-at (x ∷ xs) zero t = by-place-here (x ∷ xs) 0 (omega arith) ∙ sym (seek-here x xs (t.right (omega arith)))
  seek-at (x ∷ xs) (suc i) t =
      sym (by-place-rest x xs i) ∙ seek-at xs i (turns-rest key x xs i t) ∙ sym (seek-on x xs (t.left 0 (omega arith)))

  pub found-seek : (l : List Row) (t : List ℕ) → Ordered l → found_in (words_of l ++ t) (length l) s q ≡ seek s q l
  unfolding found_in
  found-seek l t o =
      let w = words_of l ++ t in
      let a = words-all l t key in
      let h : held w (length l) ≡ length l = omega (arith, a) in
      let u = rank-turns l t key o in
      ap (λ (n : ℕ). at_rank w n s q (rank_in w n key)) h ∙ at_place l t (rank_in w (length l) key) ∙ seek-at l (rank_in w (length l) key) u
    where
      at_place : (l : List Row) (t : List ℕ) (i : ℕ) → at_rank (words_of l ++ t) (length l) s q i ≡ by_place l i
      at_place l t i = elim (either (ltb i (length l))) [
        | inl e ↦ ap (λ (x : Row). pick (ltb i (length l) && is_of s q x) (some x.place) option.none) (row_words l t i (ltb-true i (length l) e))
        | inr e ↦ rw e refl
      ]

  -- ---- in the log's order

  is-own : (x : Row) → is_of s q x ≡ true → own s q x ≡ some x.place
  is-own x e = rw e

  not_own : (x : Row) → is_of s q x ≡ false → own s q x ≡ option.none
  not_own x e = rw e

  -- what is_of says
  own-sender : (x : Row) → is_of s q x ≡ true → x.sender ≡ s
  own-sender x e = eqb-true x.sender s (and_l (eqb x.sender s) (eqb x.sequence q) e)

  own-sequence : (x : Row) → is_of s q x ≡ true → x.sequence ≡ q
  own-sequence x e = eqb-true x.sequence q (and_r (eqb x.sender s) (eqb x.sequence q) e)

  -- a row before the key is none of its own
  before-not : (x : Row) → Before x key → is_of s q x ≡ true → ⊥
  before-not x (by-sender h) e = omega (arith, h, own-sender x e)
  before-not x (by-sequence d h) e = omega (arith, h, own-sequence x e)
  before-not x (by_place_lem d f h) e = omega (arith, h)

  -- r is its own, x up to r and not before the key: x comes no later in the log
  place_up : (x r : Row) → Before x r → Behind x key → is_of s q r ≡ true → x.place < r.place
  place_up x r (by-sender h) (of-sender g) e = absurd (let z : ⊥ = omega (arith, own-sender r e) in z)
  place_up x r (by-sender h) (of-sequence d g) e = absurd (let z : ⊥ = omega (arith, own-sender r e) in z)
  place_up x r (by-sender h) (of-place d f g) e = absurd (let z : ⊥ = omega (arith, own-sender r e) in z)
  place_up x r (by-sequence k h) (of-sender g) e = absurd (let z : ⊥ = omega (arith, own-sender r e) in z)
  place_up x r (by-sequence k h) (of-sequence d g) e = absurd (let z : ⊥ = omega (arith, own-sequence r e) in z)
  place_up x r (by-sequence k h) (of-place d f g) e = absurd (let z : ⊥ = omega (arith, own-sequence r e) in z)
  place_up x r (by_place_lem k m h) g e = h

  -- r is none of its own and not before the key; x no earlier than r is none of its own either, and not before the key
  behind-own : (x r : Row) → Behind x r → Behind r key → is_of s q x ≡ true → is_of s q r ≡ false → ⊥
  behind-own x r (of-sender h) (of-sender g) e f = omega (arith, h, g, own-sender x e)
  behind-own x r (of-sender h) (of-sequence d g) e f = omega (arith, h, d, own-sender x e)
  behind-own x r (of-sender h) (of-place d k g) e f = omega (arith, h, d, own-sender x e)
  behind-own x r (of-sequence a h) (of-sender g) e f = omega (arith, a, g, own-sender x e)
  behind-own x r (of-sequence a h) (of-sequence d g) e f = omega (arith, h, g, own-sequence x e)
  behind-own x r (of-sequence a h) (of-place d k g) e f = omega (arith, h, k, own-sequence x e)
  behind-own x r (of-place a b h) (of-sender g) e f = omega (arith, a, g, own-sender x e)
  behind-own x r (of-place a b h) (of-sequence d g) e f = omega (arith, b, g, own-sequence x e)
  behind-own x r (of-place a b h) (of-place d k g) e f =
      never (λ j. both (eq-eqb r.sender s (sym d) j) (eq-eqb r.sequence q (sym k) j)) f
    where
      both : Bool → Bool → Bool
      both x y = x && y

  -- a row in front of the rest
  abbrev first : Row → Option ℕ → Option ℕ
  first r rest = pick (is_of s q r) (some r.place) rest

  first-own : (r : Row) (rest : Option ℕ) → is_of s q r ≡ true → first r rest ≡ some r.place
  first-own r rest e = rw e

  first-other : (r : Row) (rest : Option ℕ) → is_of s q r ≡ false → first r rest ≡ rest
  first-other r rest e = rw e

  first-before : (r : Row) (rest : Option ℕ) → earlier r key ≡ true → first r rest ≡ rest
  first-before r rest e = elim (either (is_of s q r)) [
    | inl g ↦ absurd (before-not r (test-before r key e) g)
    | inr g ↦ first-other r rest g
  ]

  -- r, not before the key, stands in front of x, which is no earlier
  seek-front : (r x : Row) (xs : List Row) → earlier x r ≡ false → earlier r key ≡ false → own s q r ≡ first r (seek s q (x ∷ xs))
  seek-front r x xs f e = elim (either (is_of s q r)) [
    | inl g ↦ is-own r g ∙ sym (first-own r (seek s q (x ∷ xs)) g)
    | inr g ↦ elim (either (is_of s q x)) [
      | inl k ↦ absurd (behind-own x r (test-behind x r f) (test-behind r key e) k g)
      | inr k ↦
          not_own r g ∙ sym (not_own x k) ∙ sym (seek-here x xs (upto_trans x r key f e)) ∙ sym (first-other r (seek s q (x ∷ xs)) g)
    ]
  ]

  -- a row that comes before all others in the log is put among them
  seek-put : (r : Row) (l : List Row) → All (λ x. r.place < x.place) l → seek s q (put r l) ≡ first r (seek s q l)
  seek-put r [] a = ap (seek s q) (put_only r) ∙ elim (either (earlier r key)) [
    | inl e ↦ seek-on r [] e ∙ sym (first-before r option.none e)
    | inr e ↦ seek-here r [] e
  ]
  seek-put r (x ∷ xs) a = elim (either (earlier x r)) [
    | inl f ↦ ap (seek s q) (put_on r x xs f) ∙ elim (either (earlier x key)) [
      | inl e ↦ seek-on x (put r xs) e ∙ seek-put r xs a.1 ∙ ap (first r) (sym (seek-on x xs e))
      | inr e ↦ seek-here x (put r xs) e ∙ elim (either (is_of s q r)) [
        | inl g ↦ absurd (let z : ⊥ = omega (arith, a.0, place_up x r (test-before x r f) (test-behind x key e) g) in z)
        | inr g ↦ sym (seek-here x xs e) ∙ sym (first-other r (seek s q (x ∷ xs)) g)
      ]
    ]
    | inr f ↦ ap (seek s q) (put-here r x xs f) ∙ elim (either (earlier r key)) [
      | inl e ↦ seek-on r (x ∷ xs) e ∙ sym (first-before r (seek s q (x ∷ xs)) e)
      | inr e ↦ seek-here r (x ∷ xs) e ∙ seek-front r x xs f e
    ]
  ]

-- each row's place is below those of the rows after it, as in a log
abbrev pub Rising : List Row → Type 0
Rising [] = Unit {0}
Rising (r ∷ rs) = All (λ x. r.place < x.place) rs × Rising rs

module _ (s q : ℕ) where
  seek-sorted : (rs : List Row) → Rising rs → seek s q (sorted rs) ≡ first_of s q rs
  unfolding sorted first_of
  seek-sorted [] a = refl
  seek-sorted (r ∷ rs) a =
      seek-put s q r (sorted rs) (sorted_all (λ x. r.place < x.place) rs a.0) ∙ ap (first s q r) (seek-sorted rs a.1)

  -- in the words of the sorted rows, a key is found as in the log's order
  pub found_first : (rs : List Row) (t : List ℕ) → Rising rs → found_in (words_of (sorted rs) ++ t) (length rs) s q ≡ first_of s q rs
  found_first rs t a =
      ap (λ (n : ℕ). found_in (words_of (sorted rs) ++ t) n s q) (sym (sorted-length rs))
      ∙ found-seek s q (sorted rs) t (sorted-ordered rs)
      ∙ seek-sorted rs a

  -- none exactly where no row has the key
  pub first-none : (rs : List Row) → All (λ r. is_of s q r ≡ false) rs → first_of s q rs ≡ option.none
  unfolding first_of
  first-none [] a = refl
  first-none (r ∷ rs) a = rw a.0 (first-none rs a.1)

  pub none_first : (rs : List Row) → first_of s q rs ≡ option.none → All (λ r. is_of s q r ≡ false) rs
  unfolding first_of
  none_first [] e = tt
  none_first (r ∷ rs) e = elim (either (is_of s q r)) [
    | inl h ↦ let f = sym (first-own s q r (first_of s q rs) h) ∙ e in absurd (let z : ◌≡◌ {A = ℕ} 0 1 = cc in omega arith)
    | inr h ↦ (h, none_first rs (sym (first-other s q r (first_of s q rs) h) ∙ e))
  ]
