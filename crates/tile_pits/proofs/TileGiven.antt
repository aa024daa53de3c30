-- The pits of a tile, as they are given. Assumes nothing.
use Rattle.wire.proofs.Basics.{◌∙◌, sym, ◌≡◌, ap, refl, ℕ, ◌≤◌, ◌+◌, ◌<◌, ◌-◌, ◌%◌, List, Bool, true, false, length, get_or, take, drop, length-take-le, length-drop, get_or-take, get_or-drop, le-ltb, arith}
use Rattle.wire.specs.Choice.{pick}
use mir.Val.{bool_byte}
use Rattle.std.proofs.Common.{Result, Ok, Err}
use Rattle.std.specs.Result.{is_ok}
use Rattle.wire.specs.Overlay.{overlay}
use Rattle.words.specs.Builds.{build}
use Rattle.words.proofs.Builds.{build-is, length-build, get_or-build}
use Rattle.wire.specs.Slices.{◌⇒◌}
use Rattle.sorted_set.specs.Halving.{rank_in, is_there, found_in}
use Rattle.count_rules.specs.Keys.{span}
use Rattle.tile_pits.specs.Pits.{Many, Map, first_of, many_in, numbers_in, certain_in, lacking, GivesPits}
use Rattle.tile_pits.specs.InsidePits.{LaysPits}

-- 1 where a number is found among the first n, else 0
pub sureness-of : (w : List ℕ) (n x : ℕ) (f : Result ℕ ℕ) (k : Bool) (v : ℕ) → f ≡ found_in w n x → k ≡ is_ok f → v ≡ bool_byte k → v ≡ pick (is_there w n x) 1 0
sureness-of w n x f k v p q r = r ∙ (ap bool_byte (q ∙ ap is_ok p) ∙ by (is_there w n x) (rank_in w n x))
  where
    by : (b : Bool) (at : ℕ) → bool_byte (is_ok (pick b (Ok at) (Err at))) ≡ pick b 1 0
    by true at = refl
    by false at = refl

-- what is laid of a part of words is laid of the words from a place on
module _ (w : List ℕ) (first n : ℕ) (h : first + n ≤ length w) (part : List ℕ) (e : part ≡ take (first + n - first) (drop first w)) (g : ℕ → ℕ) where
  is_part : part ≡ take n (drop first w)
  is_part = let k : first + n - first ≡ n = omega arith in e ∙ ap (λ (i : ℕ). take i (drop first w)) k

  part-long : length part ≡ n
  part-long = ap (λ (l : List ℕ). length l) is_part ∙ length-take-le n (drop first w) (rw (length-drop first w) (omega arith))

  part-at : (i : ℕ) → i < n → get_or part i 0 ≡ get_or w (first + i) 0
  part-at i b = ap (λ (l : List ℕ). get_or l i 0) is_part ∙ (get_or-take n (drop first w) i 0 b ∙ get_or-drop first w i 0)

  pub part-laid : build (length part) (λ i. g (get_or part i 0)) ≡ build n (λ i. g (get_or w (first + i) 0))
  part-laid = build-is (length part) (λ i. g (get_or part i 0)) (build n (λ i. g (get_or w (first + i) 0))) 0 (length-build n (λ i. g (get_or w (first + i) 0)) ∙ sym part-long)
      (λ i b. let o : i < n = omega (arith, part-long) in ap g (part-at i o) ∙ sym (get_or-build n (λ i. g (get_or w (first + i) 0)) i 0 o))

-- ---- the answer

module _ (x : Map) (t : ℕ) (a b : List ℕ) (n : ℕ) (e : n ≡ many_in x t) (first : ℕ) (f : first ≡ first_of x.pits x.had-pits t) (o : first + n ≤ length x.pits) where
  pub given : n ≤ length a → n ≤ length b → (a' b' : List ℕ)
      → LaysPits (take (first + n - first) (drop first x.pits)) x.sure x.had-sure (a ⇒ a') (b ⇒ b') → GivesPits x t (a ⇒ a') (b ⇒ b') (Many n)
  unfolding numbers_in certain_in
  given h g a' b' p =
      let l : lacking (many_in x t) a b ≡ false = rw (le-ltb (length a) (many_in x t) (omega arith), le-ltb (length b) (many_in x t) (omega arith)) in
      let k = part-laid x.pits first n o _ refl in
      record {
        gave = rw l (ap Many e);
        numbers = rw l (p.numbers ∙ (ap (overlay a 0) (k (λ y. y % span)) ∙ rw (e, f)));
        sureness = rw l (p.sureness ∙ (ap (overlay b 0) (k (λ y. pick (is_there x.sure x.had-sure y) 1 0)) ∙ rw (e, f)));
      }
