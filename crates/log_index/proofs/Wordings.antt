-- Sorted rows in words: a row that goes in by halving goes where sorting puts it. Assumes nothing.
use Rattle.wire.proofs.Basics.{◌∙◌, sym, ◌≡◌, ap, refl, ℕ, ◌≤◌, ◌+◌, ◌<◌, ◌-◌, suc, zero, ◌*◌, ◌/◌, List, [], ◌∷◌, ◌++◌, true, Bool, length, drop, get_or, take, length-append, length-drop, drop-drop}
use Rattle.wire.proofs.Basics.{drop_at, take-append_seam, lt-ltb, add-one, arith}
use Rattle.wire.specs.Overlay.{overlay}
use Rattle.wire.proofs.Overlays.{overlay-eq}
use Rattle.log_index.specs.Rows.{Row, row_of, earlier, put}
use Rattle.wire.specs.Halving.{halve}
use Rattle.log_index.specs.Words.{words_of, row_at, rank_in, inserted, entered, entered_all}
use Rattle.wire.proofs.Halves.{Turns, halve-turns}
use Rattle.log_index.proofs.Sorts.{none, Ordered, put-length, put-ordered, put_all, falls, earlier_at, put-at}

pub words-length : (rs : List Row) → length (words_of rs) ≡ 3 * length rs
unfolding words_of
words-length [] = refl
words-length (r ∷ rs) = let e = words-length rs in omega (arith, e)

pub words_append : (a b : List Row) → words_of (a ++ b) ≡ words_of a ++ words_of b
unfolding words_of
words_append [] b = refl
words_append (r ∷ a) b = ap (λ (w : List ℕ). r.sender ∷ r.sequence ∷ r.place ∷ w) (words_append a b)

three : (k i : ℕ) → 3 * suc k + i ≡ suc (suc (suc (3 * k + i)))
three k i = omega arith

three-times : (k : ℕ) → 3 * suc k ≡ suc (suc (suc (3 * k)))
three-times k = omega arith

pub row_words : (rs : List Row) (t : List ℕ) (i : ℕ) → i < length rs → row_at (words_of rs ++ t) i ≡ get_or rs i none
unfolding words_of
row_words [] t i h = absurd (let z : ⊥ = omega arith in z)
row_words (r ∷ rs) t zero h = refl
row_words (r ∷ rs) t (suc i) h =
    let w : List ℕ = r.sender ∷ r.sequence ∷ r.place ∷ (words_of rs ++ t) in
    (λ j. row_of (get_or w (three-times i j) 0) (get_or w (three i 1 j) 0) (get_or w (three i 2 j) 0)) ∙ row_words rs t i (omega arith)

pub take_words : (rs : List Row) (t : List ℕ) (k : ℕ) → k ≤ length rs → take (3 * k) (words_of rs ++ t) ≡ words_of (take k rs)
unfolding words_of
take_words rs t zero h = refl
take_words [] t (suc k) h = absurd (let z : ⊥ = omega arith in z)
take_words (r ∷ rs) t (suc k) h =
    ap (λ (m : ℕ). take m (r.sender ∷ r.sequence ∷ r.place ∷ (words_of rs ++ t))) (three-times k)
    ∙ ap (λ (w : List ℕ). r.sender ∷ r.sequence ∷ r.place ∷ w) (take_words rs t k (omega arith))

pub drop-words : (rs : List Row) (t : List ℕ) (k : ℕ) → k ≤ length rs → drop (3 * k) (words_of rs ++ t) ≡ words_of (drop k rs) ++ t
unfolding words_of
drop-words rs t zero h = refl
drop-words [] t (suc k) h = absurd (let z : ⊥ = omega arith in z)
drop-words (r ∷ rs) t (suc k) h =
    ap (λ (m : ℕ). drop m (r.sender ∷ r.sequence ∷ r.place ∷ (words_of rs ++ t))) (three-times k) ∙ drop-words rs t k (omega arith)

-- ---- a row goes in

module _ (l : List Row) (t : List ℕ) (r : Row) where
  abbrev w : List ℕ
  w = words_of l ++ t

  pub words-all : length w ≡ 3 * length l + length t
  words-all = length-append (words_of l) t ∙ ap (λ (k : ℕ). k + length t) (words-length l)

  pub moved : (k : ℕ) → k ≤ length l → take (3 * length l - 3 * k) (drop (3 * k) w) ≡ words_of (drop k l)
  moved k h =
      let a = words_of (drop k l) in
      let e : length a ≡ 3 * length l - 3 * k = words-length (drop k l) ∙ (let d = length-drop k l in omega (arith, d)) in
      ap (take (3 * length l - 3 * k)) (drop-words l t k h) ∙ rw (← e) (take-append_seam a t)

  behind : (m : ℕ) → drop (3 * length l + m) w ≡ drop m t
  behind m = sym (drop-drop m (3 * length l) w) ∙ ap (drop m) (drop_at (words_of l) t (3 * length l) (words-length l))

  pub inserted-words : (k : ℕ) → k ≤ length l → 3 ≤ length t → inserted w k (length l) 0 r ≡ words_of (take k l ++ (r ∷ drop k l)) ++ drop 3 t
  unfolding inserted words_of
  inserted-words k h room =
      let b = words_of (r ∷ drop k l) in
      let d = length-drop k l in
      let e : length b ≡ 3 * suc (length l - k) = words-length (r ∷ drop k l) ∙ (let q : 3 * suc (length (drop k l)) ≡ 3 * suc (length l - k) = omega (arith, d) in q) in
      let f : 3 * k + length b ≤ length w = omega (arith, e, words-all) in
      let g : 3 * k + length b ≡ 3 * length l + 3 = omega (arith, e) in
      let z : 3 * (k + 0) ≡ 3 * k = omega arith in
      (λ j. overlay w (z j) (r.sender ∷ r.sequence ∷ r.place ∷ moved k h j))
      ∙ overlay-eq w (3 * k) b f
      ∙ (λ j. take_words l t k h j ++ b ++ drop (g j) w)
      ∙ (λ j. sym (words_append (take k l) (r ∷ drop k l)) j ++ behind 3 j)

  abbrev test : ℕ → Bool
  test i = earlier (row_at w i) r

  same_test : (i : ℕ) → i < length l → test i ≡ earlier_at r l i
  same_test i h = ap (λ (x : Row). earlier x r) (row_words l t i h)

  pub rank-turns : Ordered l → Turns (earlier_at r l) (length l) (rank_in w (length l) r)
  unfolding rank_in
  rank-turns o =
      let fall : (i j : ℕ) → i ≤ j → j < length l → test j ≡ true → test i ≡ true =
      λ i j h b u. same_test i (omega arith) ∙ falls r l o i j h b (sym (same_test j b) ∙ u) in
      let t : Turns test (length l) (halve (length l) test 0 (length l)) =
      halve-turns test (length l) fall (length l) 0 (length l) (omega arith) (omega arith) (omega arith) (λ i h. absurd (omega (arith, h))) (λ h. absurd (omega (arith, h))) in
      record {
        most = t.most;
        left = λ i h. sym (same_test i (omega (arith, h, t.most))) ∙ t.left i h;
        right = λ h. sym (same_test _ h) ∙ t.right h;
      }

  pub entered-words : Ordered l → 3 ≤ length t → entered w (length l) r ≡ words_of (put r l) ++ drop 3 t
  unfolding entered
  entered-words o room =
      let u = rank-turns o in
      let h : length l < length w / 3 = omega (arith, words-all) in
      rw (lt-ltb (length l) (length w / 3) h)
      (inserted-words (rank_in w (length l) r) u.most room ∙ ap (λ (m : List Row). words_of m ++ drop 3 t) (sym (put-at r l (rank_in w (length l) r) u)))

-- ---- one row after another

pub entered_all_lem : (l : List Row) (t : List ℕ) (rs : List Row) → Ordered l → 3 * length rs ≤ length t
    → entered_all (words_of l ++ t) (length l) rs ≡ words_of (put_all l rs) ++ drop (3 * length rs) t
unfolding entered_all
entered_all_lem l t [] o room = refl
entered_all_lem l t (r ∷ rs) o room =
    let n : length l + 1 ≡ length (put r l) = add-one (length l) ∙ sym (put-length r l) in
    let d = length-drop 3 t in
    let m : 3 + 3 * length rs ≡ 3 * suc (length rs) = omega arith in
    (λ j. entered_all (entered-words l t r o (omega arith) j) (n j) rs)
    ∙ entered_all_lem (put r l) (drop 3 t) rs (put-ordered r l o) (omega (arith, d))
    ∙ ap (λ (u : List ℕ). words_of (put_all (put r l) rs) ++ u) (drop-drop (3 * length rs) 3 t ∙ ap (λ (k : ℕ). drop k t) m)
