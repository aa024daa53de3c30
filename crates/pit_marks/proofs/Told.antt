-- The lines laid from sets that hold what was seen are the tile lines of the lists seen. Assumes nothing.
use Rattle.wire.proofs.Basics.{◌∙◌, sym, ◌≡◌, ap, refl, subst, ℕ, ◌≤◌, ◌+◌, ◌<◌, suc, ◌%◌, List, [], map, inl, inr, length, get_or, length-map, ltb, ltb-false, arith}
use lib.ListN.{get_or-map}
use Rattle.wire.proofs.Choices.{either}
use Rattle.words.specs.Builds.{build}
use Rattle.words.proofs.Builds.{build-is}
use Rattle.sorted_set.specs.Lists.{In, rising, below}
use Rattle.sorted_set.specs.Halving.{rank_in, Holds}
use Rattle.sorted_set.proofs.Members.{in-at}
use Rattle.sorted_set.proofs.Sets.{all_held, as_many, word_at, rank_below}
use Rattle.count_rules.specs.Marks.{PitList}
use Rattle.count_rules.specs.Report.{tiles, pits, sure_pits}
use Rattle.count_rules.specs.Keys.{span, pit_key, pit_keys, sure_keys}
use Rattle.count_rules.specs.Meaning.{Names}
use Rattle.count_rules.proofs.Keys.{pits-part, sure-part, pits-end, sure-end}
use Rattle.count_rules.proofs.ListMembers.{named}
use Rattle.pit_marks.specs.declared.Sizes.{Sizes}
use Rattle.pit_marks.specs.Lines.{end_of, pits_in}
use Rattle.pit_marks.specs.Sets.{Sets, Has}

-- a tile's part of a set K of keys
module _ (w : List ℕ) (n : ℕ) (K : List ℕ) (h : Holds w n K) (x c : ℕ) (small : x < span) (part : below (pit_key x 0) K + c ≡ below (pit_key (suc x) 0) K)
    (last : below (pit_key span 0) K ≡ length K) where
  end_is : end_of w n x ≡ below (pit_key (suc x) 0) K
  end_is = elim (either (ltb (suc x) span)) [
    | inl e ↦ rw e (rank_below w n K h (pit_key (suc x) 0))
    | inr e ↦
        let o : span ≤ suc x = ltb-false (suc x) span e in
        let q : suc x ≡ span = omega arith in
        rw e (all_held w n K h ∙ (sym (as_many w n K h) ∙ (sym last ∙ ap (λ (y : ℕ). below (pit_key y 0) K) (sym q))))
  ]

  part-is : pits_in w n x ≡ c
  unfolding pits_in
  part-is =
      let m : x % span ≡ x = omega arith in
      let a : rank_in w n (pit_key x 0) ≡ below (pit_key x 0) K = rank_below w n K h (pit_key x 0) in
      rw m (omega (arith, a, end_is))

module _ (x : Sets) (had : Sizes) (seen : List PitList) (h : Has x had seen) where
  abbrev t : List ℕ
  t = x.tiles

  many : length (tiles seen) ≡ had.tiles
  many = as_many t had.tiles (tiles seen) h.the-tiles

  -- tile i
  tile-at : (i : ℕ) → i < had.tiles → get_or t i 0 ≡ get_or (tiles seen) i 0
  tile-at i b = word_at t had.tiles (tiles seen) h.the-tiles i b

  tile-small : (y : ℕ) → In y (tiles seen) → y < span
  tile-small y i = let n : Names seen y = named seen y i in subst (λ (z : ℕ). z < span) n.its-tile (h.within n.list n.among).tile

  small_at : (i : ℕ) → i < had.tiles → get_or (tiles seen) i 0 < span
  small_at i b = tile-small (get_or (tiles seen) i 0) (in-at (tiles seen) i 0 (omega (arith, many)))

  pub tiles-told : build had.tiles (λ i. get_or t i 0) ≡ tiles seen
  tiles-told = build-is had.tiles (λ i. get_or t i 0) (tiles seen) 0 many tile-at

  told-by : (f g : ℕ → ℕ) → ((y : ℕ) → y < span → f y ≡ g y) → build had.tiles (λ i. f (get_or t i 0)) ≡ map g (tiles seen)
  told-by f g e = build-is had.tiles (λ i. f (get_or t i 0)) (map g (tiles seen)) (g 0) (length-map (tiles seen) g ∙ many)
      (λ i b. ap f (tile-at i b) ∙ (e (get_or (tiles seen) i 0) (small_at i b) ∙ sym (get_or-map g (tiles seen) i 0)))

  pub pits-told : build had.tiles (λ i. pits_in x.pits had.pits (get_or t i 0)) ≡ map (λ y. length (pits seen y)) (tiles seen)
  pits-told = told-by (pits_in x.pits had.pits) (λ y. length (pits seen y))
      (λ y o. part-is x.pits had.pits (rising (pit_keys seen)) h.the-pits y (length (pits seen y)) o (pits-part seen h.within y) (pits-end seen h.within))

  pub sure-told : build had.tiles (λ i. pits_in x.sure had.sure (get_or t i 0)) ≡ map (λ y. length (sure_pits seen y)) (tiles seen)
  sure-told = told-by (pits_in x.sure had.sure) (λ y. length (sure_pits seen y))
      (λ y o. part-is x.sure had.sure (rising (sure_keys seen)) h.the-sure y (length (sure_pits seen y)) o (sure-part seen h.within y) (sure-end seen h.within))

  pub tiles-few : had.tiles ≤ length t
  tiles-few = h.the-tiles.size

-- of no lists they hold nothing
pub has-none : (x : Sets) → Has x (record { tiles = 0; pits = 0; sure = 0 }) []
unfolding rising
has-none x = record {
  the-tiles = record { size = omega arith; front = refl; rises = tt };
  the-pits = record { size = omega arith; front = refl; rises = tt };
  the-sure = record { size = omega arith; front = refl; rises = tt };
  within = λ l i. absurd i;
}
