-- Rows that are added a batch at a time make the index of all, worked out afresh. Assumes nothing.
use Rattle.wire.proofs.Basics.{◌∙◌, sym, ◌≡◌, ap, refl, ℕ, ◌≤◌, ◌+◌, ◌<◌, ◌-◌, suc, zero, ◌*◌, min, ◌/◌, List, [], ◌∷◌, ◌++◌, append_assoc, append-nil, inl, inr, length, drop, take, length-append}
use Rattle.wire.proofs.Basics.{length-drop, length-take, drop_of_length-le, take-append-drop, drop-drop, take_all, drop_at, take_at, dec_le, arith}
use Rattle.wire.specs.Overlay.{overlay}
use Rattle.wire.proofs.Choices.{either}
use Rattle.wire.proofs.Overlays.{overlay-eq}
use Rattle.log_index.specs.Rows.{Row, earlier, put, sorted}
use Rattle.log_index.specs.Words.{words_of, row_at, rank_in, inserted, merged_by, merged, merged_rows, added_by, added_in}
use Rattle.log_index.proofs.Sorts.{put_on, put-here, put_only, put_swap, put_all, added-sorted, sorted-ordered, sorted-length}
use Rattle.log_index.proofs.Wordings.{words-length, row_words}
use Rattle.log_index.proofs.Moves.{inserted-length}
use Rattle.log_index.proofs.Merges.{merged-words, merge_none, merge-full, merge-fits}

-- ---- sorted among themselves first, or not: the same rows go in

puts-put : (l : List Row) (r : Row) (bs : List Row) → put_all l (put r bs) ≡ put_all (put r l) bs
puts-put l r [] = ap (put_all l) (put_only r)
puts-put l r (b ∷ bs) = elim (either (earlier b r)) [
  | inl e ↦ ap (put_all l) (put_on r b bs e) ∙ puts-put (put b l) r bs ∙ ap (λ (m : List Row). put_all m bs) (put_swap r b l)
  | inr e ↦ ap (put_all l) (put-here r b bs e)
]

puts-sorted : (l bs : List Row) → put_all l (sorted bs) ≡ put_all l bs
unfolding sorted
puts-sorted l [] = refl
puts-sorted l (b ∷ bs) = puts-put l b (sorted bs) ∙ puts-sorted (put b l) bs

-- ---- what stands behind a batch's rows is not looked at

merged-same : (l : List Row) (t : List ℕ) (j : ℕ) → j ≤ length l → (w : List ℕ) (n : ℕ) → merged_by j (words_of l ++ t) w n ≡ merged_by j (words_of l) w n
unfolding merged_by
merged-same l t zero h w n = refl
merged-same l t (suc j) h w n =
    let e : row_at (words_of l ++ t) j ≡ row_at (words_of l) j = row_words l t j (omega arith) ∙ sym (row_words l [] j (omega arith)) ∙ ap (λ (v : List ℕ). row_at v j) (append-nil (words_of l)) in
    ap (λ (r : Row). merged_by j (words_of l ++ t) (inserted w (rank_in w n r) n j r) (rank_in w n r)) e
    ∙ merged-same l t j (omega arith) (inserted w (rank_in w n (row_at (words_of l) j)) n j (row_at (words_of l) j)) (rank_in w n (row_at (words_of l) j))

-- a batch in words of its own is merged as its rows are
pub merged-batch : (w : List ℕ) (n : ℕ) (rs : List Row) (t : List ℕ) → merged w n (words_of (sorted rs) ++ t) (length rs) ≡ merged_rows w n rs
unfolding merged_rows
merged-batch w n rs t = elim (dec_le (n + length rs) (length w / 3)) [
  | yes h ↦
      sym (merge-fits w n (words_of (sorted rs) ++ t) (length rs) a h)
      ∙ merged-same (sorted rs) t (length rs) (omega (arith, sorted-length rs)) w n
      ∙ merge-fits w n (words_of (sorted rs)) (length rs) b h
  | no h ↦
      let g : length w / 3 < n + length rs = omega (arith, h) in
      sym (merge-full w n (words_of (sorted rs) ++ t) (length rs) a g) ∙ merge-full w n (words_of (sorted rs)) (length rs) b g
]
  where
    b : length rs ≤ length (words_of (sorted rs)) / 3
    b = let e = words-length (sorted rs) in let f = sorted-length rs in omega (arith, e, f)

    a : length rs ≤ length (words_of (sorted rs) ++ t) / 3
    a = let e = words-length (sorted rs) in let f = sorted-length rs in let g = length-append (words_of (sorted rs)) t in omega (arith, e, f, g)

-- ---- a batch, and then another

one_batch : (xs bs : List Row) (t : List ℕ) → 3 * length bs ≤ length t
    → merged_rows (words_of (sorted xs) ++ t) (length xs) bs ≡ words_of (sorted (xs ++ bs)) ++ drop (3 * length bs) t
unfolding merged_rows
one_batch xs bs t room =
    let w : List ℕ = words_of (sorted xs) ++ t in
    let m : ℕ = length bs in
    let gap : List ℕ = take (3 * m) t in
    let tail : List ℕ = drop (3 * m) t in
    let split : t ≡ gap ++ tail = sym (take-append-drop (3 * m) t) in
    let g : length gap ≡ 3 * m = length-take (3 * m) t ∙ (let q : min (3 * m) (length t) ≡ 3 * m = omega arith in q) in
    let a : length w ≡ 3 * length xs + length t = length-append (words_of (sorted xs)) t ∙ (let e = words-length (sorted xs) in let f = sorted-length xs in omega (arith, e, f)) in
    let b : m ≤ length (words_of (sorted bs)) / 3 = let e = words-length (sorted bs) in let f = sorted-length bs in omega (arith, e, f) in
    sym (merge-fits w (length xs) (words_of (sorted bs)) m b (omega (arith, a)))
    ∙ sym (merged-same (sorted bs) [] m (omega (arith, sorted-length bs)) w (length xs))
    ∙ (λ j. merged_by m (words_of (sorted bs) ++ []) (words_of (sorted xs) ++ split j) (sym (sorted-length xs) j))
    ∙ merged-words (sorted bs) [] (sorted-ordered bs) m (sorted xs) gap tail (omega (arith, sorted-length bs)) (sorted-ordered xs) g
    ∙ ap (λ (l : List Row). words_of (put_all (sorted xs) l) ++ tail) (take_all m (sorted bs) (omega (arith, sorted-length bs)))
    ∙ ap (λ (l : List Row). words_of l ++ tail) (puts-sorted (sorted xs) bs ∙ added-sorted xs bs)

added-words : (b : ℕ) → 1 ≤ b → (k : ℕ) (xs ys : List Row) (t : List ℕ) → length ys ≤ k → 3 * length ys ≤ length t
    → added_by b k (words_of (sorted xs) ++ t) (length xs) ys ≡ words_of (sorted (xs ++ ys)) ++ drop (3 * length ys) t
unfolding added_by
added-words b one zero xs [] t h room = ap (λ (l : List Row). words_of (sorted l) ++ t) (sym (append-nil xs))
added-words b one zero xs (y ∷ ys) t h room = absurd (let z : ⊥ = omega arith in z)
added-words b one (suc k) xs ys t h room =
    let bs : List Row = take b ys in
    let rest : List Row = drop b ys in
    let a : length bs + length rest ≡ length ys = sym (length-append bs rest) ∙ ap length (take-append-drop b ys) in
    let l = length-drop b ys in
    let n : length xs + length bs ≡ length (xs ++ bs) = sym (length-append xs bs) in
    let d = length-drop (3 * length bs) t in
    let m : 3 * length bs + 3 * length rest ≡ 3 * length ys = omega (arith, a) in
    (λ j. added_by b k (one_batch xs bs t (omega (arith, a)) j) (n j) rest)
    ∙ added-words b one k (xs ++ bs) rest (drop (3 * length bs) t) (omega (arith, l)) (omega (arith, a, d))
    ∙ (λ j. words_of (sorted (append_assoc xs bs rest j)) ++ drop-drop (3 * length rest) (3 * length bs) t j)
    ∙ (λ j. words_of (sorted (xs ++ take-append-drop b ys j)) ++ drop (m j) t)

-- added to the index of others, rows make the index of all
pub added-fresh : (b : ℕ) → 1 ≤ b → (w : List ℕ) (xs ys : List Row) → take (3 * length xs) w ≡ words_of (sorted xs) → 3 * (length xs + length ys) ≤ length w
    → added_in b w (length xs) ys ≡ overlay w 0 (words_of (sorted (xs ++ ys)))
unfolding added_in
added-fresh b one w xs ys e room =
    let n : ℕ = 3 * length xs in
    let t : List ℕ = drop n w in
    let s : List ℕ = words_of (sorted (xs ++ ys)) in
    let d = length-drop n w in
    let l : length s ≡ n + 3 * length ys = words-length (sorted (xs ++ ys)) ∙ (let a = sorted-length (xs ++ ys) in let b = length-append xs ys in omega (arith, a, b)) in
    let split : w ≡ words_of (sorted xs) ++ t = sym (take-append-drop n w) ∙ ap (λ (u : List ℕ). u ++ t) e in
    let r : 0 + length s ≤ length w = omega (arith, l) in
    let m : n + 3 * length ys ≡ 0 + length s = omega (arith, l) in
    ap (λ (v : List ℕ). added_by b (length ys) v (length xs) ys) split
    ∙ added-words b one (length ys) xs ys t (omega arith) (omega (arith, d))
    ∙ ap (λ (u : List ℕ). s ++ u) (drop-drop (3 * length ys) n w)
    ∙ ap (λ (k : ℕ). s ++ drop k w) m
    ∙ sym (overlay-eq w 0 s r)

-- ---- as many turns as there are rows are enough

rows_none : (w : List ℕ) (n : ℕ) → merged_rows w n [] ≡ w
unfolding merged_rows merged_by
rows_none w n = elim (dec_le (n + 0) (length w / 3)) [
  | yes h ↦ sym (merge-fits w n (words_of (sorted [])) 0 (omega arith) h)
  | no h ↦ sym (merge-full w n (words_of (sorted [])) 0 (omega arith) (omega (arith, h)))
]

added_none : (b k : ℕ) → 1 ≤ b → (w : List ℕ) (n : ℕ) → added_by b k w n [] ≡ w
unfolding added_by
added_none b zero one w n = refl
added_none zero (suc k) one w n = absurd (let z : ⊥ = omega arith in z)
added_none (suc b) (suc k) one w n = added_none (suc b) k one (merged_rows w n []) (n + 0) ∙ rows_none w n

added-enough : (b : ℕ) → 1 ≤ b → (j k : ℕ) (w : List ℕ) (n : ℕ) (rs : List Row) → length rs ≤ j → length rs ≤ k → added_by b j w n rs ≡ added_by b k w n rs
unfolding added_by
added-enough b one zero k w n [] g h = sym (added_none b k one w n)
added-enough b one zero k w n (r ∷ rs) g h = absurd (let z : ⊥ = omega arith in z)
added-enough b one (suc j) zero w n [] g h = added_none b (suc j) one w n
added-enough b one (suc j) zero w n (r ∷ rs) g h = absurd (let z : ⊥ = omega arith in z)
added-enough b one (suc j) (suc k) w n rs g h =
    let d = length-drop b rs in
    added-enough b one j k (merged_rows w n (take b rs)) (n + length (take b rs)) (drop b rs) (omega (arith, d)) (omega (arith, d))

-- a full batch, and the rest
pub added_next : (b : ℕ) → 1 ≤ b → (w : List ℕ) (n : ℕ) (ps more : List Row) → length ps ≡ b → added_in b w n (ps ++ more) ≡ added_in b (merged_rows w n ps) (n + length ps) more
unfolding added_in added_by
added_next b one w n ps more e =
    let l : length (ps ++ more) ≡ suc (b - 1 + length more) = length-append ps more ∙ (let q : length ps + length more ≡ suc (b - 1 + length more) = omega (arith, e) in q) in
    let t = take_at ps more b e in
    ap (λ (k : ℕ). added_by b k w n (ps ++ more)) l
    ∙ (λ j. added_by b (b - 1 + length more) (merged_rows w n (t j)) (n + length (t j)) (drop_at ps more b e j))
    ∙ added-enough b one (b - 1 + length more) (length more) (merged_rows w n ps) (n + length ps) more (omega arith) (omega arith)

-- a last one
pub added-last : (b : ℕ) → 1 ≤ b → (w : List ℕ) (n : ℕ) (ps : List Row) → length ps ≤ b → added_in b w n ps ≡ merged_rows w n ps
unfolding added_in added_by
added-last b one w n [] h = sym (rows_none w n)
added-last b one w n (p ∷ ps) h =
    let t = take_all b (p ∷ ps) h in
    (λ j. added_by b (length ps) (merged_rows w n (t j)) (n + length (t j)) (drop_of_length-le (p ∷ ps) h j))
    ∙ added_none b (length ps) one (merged_rows w n (p ∷ ps)) (n + length (p ∷ ps))

merged-length : (j : ℕ) (batch w : List ℕ) (n : ℕ) → length (merged_by j batch w n) ≡ length w
unfolding merged_by
merged-length zero batch w n = refl
merged-length (suc j) batch w n =
    merged-length j batch (inserted w (rank_in w n (row_at batch j)) n j (row_at batch j)) (rank_in w n (row_at batch j))
    ∙ inserted-length w (rank_in w n (row_at batch j)) n j (row_at batch j)

pub rows-length : (w : List ℕ) (n : ℕ) (batch : List ℕ) (m : ℕ) → length (merged w n batch m) ≡ length w
rows-length w n batch m = elim (dec_le m (length batch / 3)) [
  | yes g ↦ elim (dec_le (n + m) (length w / 3)) [
    | yes h ↦ ap length (sym (merge-fits w n batch m g h)) ∙ merged-length m batch w n
    | no h ↦ ap length (sym (merge-full w n batch m g (omega (arith, h))))
  ]
  | no g ↦ ap length (sym (merge_none w n batch m (omega (arith, g))))
]
