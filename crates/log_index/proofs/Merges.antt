-- A batch of sorted rows goes into an index, each row to where sorting puts it. Assumes nothing.
use Rattle.wire.proofs.Basics.{◌∙◌, sym, ◌≡◌, ap, refl, subst, ℕ, ◌≤◌, ◌+◌, ◌<◌, ◌-◌, suc, zero, ◌*◌, ◌/◌, List, [], ◌∷◌, ◌++◌, append_assoc, false, inl, inr, length, drop, get_or, take, length-append}
use Rattle.wire.proofs.Basics.{length-drop, length-take, drop_at, take-add, take-suc, le-leb, lt-leb, arith}
use Rattle.wire.specs.Overlay.{overlay}
use Rattle.wire.proofs.Choices.{either}
use Rattle.wire.proofs.Overlays.{overlay-eq}
use Rattle.log_index.specs.Rows.{Row, earlier, put}
use Rattle.log_index.specs.Words.{words_of, rank_in, inserted, merged_by, merged}
use Rattle.log_index.specs.Inside.{MergesOne}
use Rattle.log_index.proofs.Sorts.{none, All, all-at, Ordered, put_on, put-here, put_only, put_swap, put_all, put-at}
use Rattle.log_index.proofs.Wordings.{words-length, words_append, row_words, take_words, moved, rank-turns}

-- ---- a turn at a time

pub merged-turn : (j n at : ℕ) (batch w w' : List ℕ) → 0 < j → MergesOne w n batch (j - 1) at w' → merged_by (j - 1) batch w' at ≡ merged_by j batch w n
unfolding merged_by
merged-turn zero n at batch w w' p m = absurd (let z : ⊥ = omega arith in z)
merged-turn (suc i) n at batch w w' p m =
    let e : suc i - 1 ≡ i = omega arith in
    let k = subst (λ (j : ℕ). MergesOne w n batch j at w') e m in
    ap (λ (j : ℕ). merged_by j batch w' at) e ∙ (λ j. merged_by i batch (k.words j) (k.place j))

pub merged-end : (j n : ℕ) (batch w : List ℕ) → j ≤ 0 → w ≡ merged_by j batch w n
unfolding merged_by
merged-end zero n batch w h = refl
merged-end (suc j) n batch w h = absurd (let z : ⊥ = omega arith in z)

module _ (w : List ℕ) (n : ℕ) (batch : List ℕ) (m : ℕ) where
  pub merge_none : length batch / 3 < m → w ≡ merged w n batch m
  unfolding merged
  merge_none h = rw (lt-leb m (length batch / 3) h) refl

  pub merge-full : m ≤ length batch / 3 → length w / 3 < n + m → w ≡ merged w n batch m
  unfolding merged
  merge-full g h = rw (le-leb m (length batch / 3) g, lt-leb (n + m) (length w / 3) h) refl

  pub merge-fits : m ≤ length batch / 3 → n + m ≤ length w / 3 → merged_by m batch w n ≡ merged w n batch m
  unfolding merged
  merge-fits g h = rw (le-leb m (length batch / 3) g, le-leb (n + m) (length w / 3) h) refl

-- ---- rows up to one go in before it

put-low : (r x : Row) (a c : List Row) → earlier r x ≡ false → put x (a ++ (r ∷ c)) ≡ put x a ++ (r ∷ c)
put-low r x [] c e = put-here x r c e ∙ sym (ap (λ (l : List Row). l ++ (r ∷ c)) (put_only x))
put-low r x (y ∷ a) c e = elim (either (earlier y x)) [
  | inl h ↦
      put_on x y (a ++ (r ∷ c)) h ∙ ap (λ (l : List Row). y ∷ l) (put-low r x a c e) ∙ sym (ap (λ (l : List Row). l ++ (r ∷ c)) (put_on x y a h))
  | inr h ↦ put-here x y (a ++ (r ∷ c)) h ∙ sym (ap (λ (l : List Row). l ++ (r ∷ c)) (put-here x y a h))
]

puts_low : (r : Row) (a c bs : List Row) → All (λ x. earlier r x ≡ false) bs → put_all (a ++ (r ∷ c)) bs ≡ put_all a bs ++ (r ∷ c)
puts_low r a c [] h = refl
puts_low r a c (b ∷ bs) h = ap (λ (l : List Row). put_all l bs) (put-low r b a c h.0) ∙ puts_low r (put b a) c bs h.1

put_last : (l bs : List Row) (r : Row) → put_all l (bs ++ (r ∷ [])) ≡ put_all (put r l) bs
put_last l [] r = refl
put_last l (b ∷ bs) r = put_last (put b l) bs r ∙ ap (λ (m : List Row). put_all m bs) (put_swap r b l)

all_take : (P : Row → Type 0) (l : List Row) (k : ℕ) → All P l → All P (take k l)
all_take P l zero a = tt
all_take P [] (suc k) a = tt
all_take P (x ∷ xs) (suc k) a = (a.0, all_take P xs k a.1)

ordered-take : (l : List Row) (k : ℕ) → Ordered l → Ordered (take k l)
ordered-take l zero o = tt
ordered-take [] (suc k) o = tt
ordered-take (x ∷ xs) (suc k) o = (all_take (λ y. earlier y x ≡ false) xs k o.0, ordered-take xs k o.1)

ordered-last : (l : List Row) (j : ℕ) → Ordered l → j < length l → All (λ x. earlier (get_or l j none) x ≡ false) (take j l)
ordered-last [] j o h = absurd (let z : ⊥ = omega arith in z)
ordered-last (x ∷ xs) zero o h = tt
ordered-last (x ∷ xs) (suc j) o h = (all-at (λ y. earlier y x ≡ false) xs o.0 j (omega arith), ordered-last xs j o.1 (omega arith))

-- ---- in words: rows, then a gap for those to come, then the rest

module _ (l : List Row) (gap tail : List ℕ) (j k : ℕ) (r : Row) (h : k ≤ length l) (g : length gap ≡ 3 * suc j) where
  abbrev w : List ℕ
  w = words_of l ++ (gap ++ tail)

  abbrev left : List ℕ
  left = take (3 * j) (drop (3 * k) w)

  size : length w ≡ 3 * length l + (3 * suc j + length tail)
  size = length-append (words_of l) (gap ++ tail) ∙ (let a = words-length l in let b = length-append gap tail in omega (arith, a, b, g))

  left-size : length left ≡ 3 * j
  left-size = length-take (3 * j) (drop (3 * k) w) ∙ (let d = length-drop (3 * k) w in omega (arith, d, size))

  opened : inserted w k (length l) j r ≡ words_of (take k l) ++ (left ++ (words_of (r ∷ drop k l) ++ tail))
  unfolding inserted words_of
  opened =
      let b = words_of (r ∷ drop k l) in
      let d = length-drop k l in
      let e : length b ≡ 3 * suc (length l - k) = words-length (r ∷ drop k l) ∙ (let q : 3 * suc (length (drop k l)) ≡ 3 * suc (length l - k) = omega (arith, d) in q) in
      let f : 3 * (k + j) + length b ≤ length w = omega (arith, e, size) in
      let n : 3 * (k + j) + length b ≡ length (words_of l ++ gap) = omega (arith, e, g, words-length l, length-append (words_of l) gap) in
      let i : 3 * (k + j) ≡ 3 * k + 3 * j = omega arith in
      let front : take (3 * (k + j)) w ≡ words_of (take k l) ++ left =
      ap (λ (m : ℕ). take m w) i ∙ take-add (3 * k) (3 * j) w ∙ ap (λ (v : List ℕ). v ++ left) (take_words l (gap ++ tail) k h) in
      let back : drop (3 * (k + j) + length b) w ≡ tail =
      (λ m. drop (n m) (sym (append_assoc (words_of l) gap tail) m)) ∙ drop_at (words_of l ++ gap) tail (length (words_of l ++ gap)) refl in
      ap (λ (u : List ℕ). overlay w (3 * (k + j)) (r.sender ∷ r.sequence ∷ r.place ∷ u)) (moved l (gap ++ tail) r k h)
      ∙ overlay-eq w (3 * (k + j)) b f
      ∙ (λ m. front m ++ b ++ back m)
      ∙ append_assoc (words_of (take k l) ++ left) b tail
      ∙ append_assoc (words_of (take k l)) left (b ++ tail)

-- the first j rows of a batch go in among the rows before the gap
pub merged-words : (batch : List Row) (t : List ℕ) → Ordered batch → (j : ℕ) (l : List Row) (gap tail : List ℕ) → j ≤ length batch → Ordered l → length gap ≡ 3 * j
    → merged_by j (words_of batch ++ t) (words_of l ++ (gap ++ tail)) (length l) ≡ words_of (put_all l (take j batch)) ++ tail
unfolding merged_by
merged-words batch t ob zero l [] tail h o g = refl
merged-words batch t ob zero l (x ∷ gap) tail h o g = absurd (let z : ⊥ = omega arith in z)
merged-words batch t ob (suc j) l gap tail h o g =
    let r : Row = get_or batch j none in
    let w : List ℕ = words_of l ++ (gap ++ tail) in
    let n : ℕ = length l in
    let k : ℕ = rank_in w n r in
    let u = rank-turns l (gap ++ tail) r o in
    let m : k ≤ n = u.most in
    let bs : List Row = take j batch in
    let rest : List ℕ = left l gap tail j k r m g in
    let c : length (take k l) ≡ k = length-take k l ∙ (let q = m in omega (arith, q)) in
    let suc-take : take (suc j) batch ≡ bs ++ (r ∷ []) = take-suc batch j none (omega arith) in
    ap (λ (x : Row). merged_by j (words_of batch ++ t) (inserted w (rank_in w n x) n j x) (rank_in w n x)) (row_words batch t j (omega arith))
    ∙ (λ i. merged_by j (words_of batch ++ t) (opened l gap tail j k r m g i) (sym c i))
    ∙ merged-words batch t ob j (take k l) rest (words_of (r ∷ drop k l) ++ tail) (omega arith) (ordered-take l k o) (left-size l gap tail j k r m g)
    ∙ sym (append_assoc (words_of (put_all (take k l) bs)) (words_of (r ∷ drop k l)) tail)
    ∙ ap (λ (v : List ℕ). v ++ tail) (sym (words_append (put_all (take k l) bs) (r ∷ drop k l)))
    ∙ ap (λ (x : List Row). words_of x ++ tail) (sym (puts_low r (take k l) (drop k l) bs (ordered-last batch j ob (omega arith))) ∙ ap (λ (x : List Row). put_all x bs) (sym (put-at r l k u)) ∙ sym (put_last l bs r) ∙ ap (put_all l) (sym suc-take))
