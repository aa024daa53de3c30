-- Laws of ranks: what a rank given up leaves, and that the lowest is the first of the lowest.
use Rattle.wire.proofs.Basics.{◌∙◌, sym, ◌≡◌, ap, refl, ℕ, ◌≤◌, ◌+◌, ◌<◌, suc, zero, ◌*◌, min, List, true, false, Bool, ◌≢◌, length, get_or, set, length-set, List·getD-eq-default, get_or-set_other}
use Rattle.wire.proofs.Basics.{get_or-set_same, set_out, ltb, le-ltb, lt-ltb, le_refl, ℕ_discrete, dec_le, add-one, arith}
use native.Mathlib.Nat.{mul-suc}
use Rattle.wire.specs.Choice.{pick}
use Rattle.ranks.specs.declared.Ranked.{Ranked}
use Rattle.ranks.specs.Ranks.{place_at, mark_of, rank_of, lower_rank_lem, ranks_lowered, lowest_ranked_lem}

-- ---- a place past the end is as good as the end

module _ (w : List ℕ) (at j : ℕ) where
  pub past_get : get_or w (min at (length w) + j) 0 ≡ get_or w (at + j) 0
  past_get = elim (dec_le at (length w)) [
    | yes h ↦ let e : min at (length w) ≡ at = omega arith in rw e
    | no h ↦ List·getD-eq-default w 0 (omega arith) ∙ sym (List·getD-eq-default w 0 (omega arith))
  ]

  pub past-set : (x : ℕ) → set w (min at (length w) + j) x ≡ set w (at + j) x
  past-set x = elim (dec_le at (length w)) [
    | yes h ↦ let e : min at (length w) ≡ at = omega arith in rw e
    | no h ↦ set_out w _ x (omega arith) ∙ sym (set_out w _ x (omega arith))
  ]

-- where the next place begins
pub place-next : (p : Ranked) (i n m at next : ℕ) → m ≡ n → at ≡ min (place_at p i) n → next ≡ min (at + p.stride) m → next ≡ min (place_at p (i + 1)) m
place-next p i n m at next l e f =
    let g : p.stride * (i + 1) ≡ p.stride * i + p.stride = ap (λ (k : ℕ). p.stride * k) (add-one i) ∙ mul-suc p.stride i in
    omega arith

-- ---- a rank is given up

module _ (w : List ℕ) (p : Ranked) (t : ℕ) where
  pub lowered_none : w ≡ ranks_lowered w p t 0
  unfolding ranks_lowered
  lowered_none = refl

  pub lowered-more : (v u : List ℕ) (i at mark x y : ℕ) → v ≡ ranks_lowered w p t i → at ≡ min (place_at p i) (length v)
      → mark ≡ get_or v (at + p.mark) 0 → x ≡ get_or v (at + p.rank) 0 → y ≡ lower_rank_lem mark t x → u ≡ set v (at + p.rank) y
      → u ≡ ranks_lowered w p t (i + 1)
  unfolding ranks_lowered
  lowered-more v u i at mark x y ev ea em ex ey eu =
      let m : mark ≡ mark_of v p i = em ∙ ap (λ (k : ℕ). get_or v (k + p.mark) 0) ea ∙ past_get v (place_at p i) p.mark in
      let r : x ≡ rank_of v p i = ex ∙ ap (λ (k : ℕ). get_or v (k + p.rank) 0) ea ∙ past_get v (place_at p i) p.rank in
      let s : u ≡ set v (place_at p i + p.rank) y = eu ∙ ap (λ (k : ℕ). set v (k + p.rank) y) ea ∙ past-set v (place_at p i) p.rank y in
      s ∙ ap (set v (place_at p i + p.rank)) (ey ∙ (λ j. lower_rank_lem (m j) t (r j)))
      ∙ ap (λ (z : List ℕ). set z (place_at p i + p.rank) (lower_rank_lem (mark_of z p i) t (rank_of z p i))) ev
      ∙ ap (ranks_lowered w p t) (sym (add-one i))

  pub lowered-length : (n : ℕ) → length (ranks_lowered w p t n) ≡ length w
  unfolding ranks_lowered
  lowered-length zero = refl
  lowered-length (suc n) = length-set (ranks_lowered w p t n) (place_at p n + p.rank) _ ∙ lowered-length n

  -- a word that is no rank stays
  pub lowered-other : (n k : ℕ) → ((j : ℕ) → j < n → k ≢ place_at p j + p.rank) → get_or (ranks_lowered w p t n) k 0 ≡ get_or w k 0
  unfolding ranks_lowered
  lowered-other zero k h = refl
  lowered-other (suc n) k h =
      get_or-set_other (ranks_lowered w p t n) (place_at p n + p.rank) k _ 0 (h n (omega arith)) ∙ lowered-other n k (λ j l. h j (omega arith))

  -- the rank of place i, where no other rank stands in its place or in that of its mark
  pub lowered-here : (n i : ℕ) → i < n → place_at p i + p.rank < length w
      → ((j : ℕ) → j < n → j ≢ i → place_at p i + p.rank ≢ place_at p j + p.rank)
      → ((j : ℕ) → j < n → place_at p i + p.mark ≢ place_at p j + p.rank)
      → rank_of (ranks_lowered w p t n) p i ≡ lower_rank_lem (mark_of w p i) t (rank_of w p i)
  unfolding ranks_lowered
  lowered-here zero i h b r m = absurd (omega arith)
  lowered-here (suc n) i h b r m = elim (ℕ_discrete i n) [
    | yes e ↦
        let own : (j : ℕ) → j < n → place_at p n + p.rank ≢ place_at p j + p.rank = λ j l. rw e at (r j (omega arith) (λ z. omega arith)) in
        let its : (j : ℕ) → j < n → place_at p n + p.mark ≢ place_at p j + p.rank = λ j l. rw e at (m j (omega arith)) in
        let here : place_at p n + p.rank < length (ranks_lowered w p t n) = omega (arith, lowered-length n, rw e at b) in
        rw e (get_or-set_same (ranks_lowered w p t n) (place_at p n + p.rank) _ 0 here
        ∙ (λ k. lower_rank_lem (lowered-other n (place_at p n + p.mark) its k) t (lowered-other n (place_at p n + p.rank) own k)))
    | no e ↦
        get_or-set_other (ranks_lowered w p t n) (place_at p n + p.rank) (place_at p i + p.rank) _ 0 (r n (omega arith) (λ z. e (sym z)))
        ∙ lowered-here n i (omega arith) b (λ j l. r j (omega arith)) (λ j l. m j (omega arith))
  ]

-- ---- the lowest

module _ (w : List ℕ) (p : Ranked) where
  pub lowest-none : ◌≡◌ {A = ℕ} 0 (lowest_ranked_lem w p 0)
  unfolding lowest_ranked_lem
  lowest-none = refl

  pub lowest-more : (i at best low rank best' : ℕ) → best ≡ lowest_ranked_lem w p i → at ≡ min (place_at p i) (length w) → low ≡ rank_of w p best
      → rank ≡ get_or w (at + p.rank) 0 → best' ≡ pick (ltb rank low) i best → best' ≡ lowest_ranked_lem w p (i + 1)
  unfolding lowest_ranked_lem
  lowest-more i at best low rank best' eb ea el er e =
      let r : rank ≡ rank_of w p i = er ∙ ap (λ (k : ℕ). get_or w (k + p.rank) 0) ea ∙ past_get w (place_at p i) p.rank in
      e ∙ (λ j. pick (ltb (r j) (el j)) i best) ∙ ap (λ (k : ℕ). pick (ltb (rank_of w p i) (rank_of w p k)) i k) eb
      ∙ ap (lowest_ranked_lem w p) (sym (add-one i))

  pub low-more : (i at best low rank best' low' : ℕ) → at ≡ min (place_at p i) (length w) → low ≡ rank_of w p best
      → rank ≡ get_or w (at + p.rank) 0 → best' ≡ pick (ltb rank low) i best → low' ≡ min low rank → low' ≡ rank_of w p best'
  low-more i at best low rank best' low' ea el er e f =
      let r : rank ≡ rank_of w p i = er ∙ ap (λ (k : ℕ). get_or w (k + p.rank) 0) ea ∙ past_get w (place_at p i) p.rank in
      elim (dec_le low rank) [
        | yes h ↦
            let b : best' ≡ best = e ∙ rw (le-ltb rank low h) in
            let l : low' ≡ low = omega arith in
            l ∙ el ∙ ap (rank_of w p) (sym b)
        | no h ↦
            let g : rank < low = omega arith in
            let b : best' ≡ i = e ∙ rw (lt-ltb rank low g) in
            let l : low' ≡ rank = omega arith in
            l ∙ r ∙ ap (rank_of w p) (sym b)
      ]

  -- it is one of them, none is lower, and those before it are higher
  pub record Lowest (n s : ℕ) : Type 0 where
    pub inside : s < n
    pub least : (i : ℕ) → i < n → rank_of w p s ≤ rank_of w p i
    pub first : (i : ℕ) → i < s → rank_of w p s < rank_of w p i

  lowest-next : (n s : ℕ) → Lowest n s → Lowest (suc n) (pick (ltb (rank_of w p n) (rank_of w p s)) n s)
  lowest-next n s a = elim (dec_le (rank_of w p s) (rank_of w p n)) [
    | yes h ↦ rw (le-ltb (rank_of w p n) (rank_of w p s) h) (record {
      inside = omega (arith, a.inside);
      least = λ i l. elim (ℕ_discrete i n) [ yes e ↦ rw e h | no e ↦ a.least i (omega arith) ];
      first = a.first;
    })
    | no h ↦
        let g : rank_of w p n < rank_of w p s = omega arith in
        rw (lt-ltb (rank_of w p n) (rank_of w p s) g) (record {
          inside = omega arith;
          least = λ i l. elim (ℕ_discrete i n) [ yes e ↦ rw e (le_refl (rank_of w p n)) | no e ↦ omega (arith, a.least i (omega arith)) ];
          first = λ i l. omega (arith, a.least i l);
        })
  ]

  pub lowest-is : (n : ℕ) → Lowest (suc n) (lowest_ranked_lem w p (suc n))
  unfolding lowest_ranked_lem
  lowest-is zero = go (ltb (rank_of w p 0) (rank_of w p 0))
    where
      one : Lowest 1 0
      one = record {
        inside = omega arith;
        least = λ i h. let e : i ≡ 0 = omega arith in rw e (le_refl (rank_of w p 0));
        first = λ i h. absurd (omega arith);
      }

      go : (b : Bool) → Lowest 1 (pick b 0 0)
      go true = one
      go false = one
  lowest-is (suc n) = lowest-next (suc n) (lowest_ranked_lem w p (suc n)) (lowest-is n)

  pub lowest-once : (n s t : ℕ) → Lowest n s → Lowest n t → s ≡ t
  lowest-once n s t a b = elim (dec_le s t) [
    | yes h ↦ elim (dec_le t s) [ yes k ↦ omega arith | no k ↦ absurd (omega (arith, a.least t b.inside, b.first s (omega arith))) ]
    | no h ↦ absurd (omega (arith, b.least s a.inside, a.first t (omega arith)))
  ]
