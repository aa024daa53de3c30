-- Words moved up by one, a block at a time, from the last on. Assumes nothing.
use Rattle.wire.proofs.Basics.{◌∙◌, sym, ◌≡◌, ap, ℕ, ◌≤◌, ◌+◌, ◌<◌, ◌-◌, List, [], ◌∷◌, ◌++◌, append_assoc, length, drop, get_or, take, length-append, length-drop, set, length-take, take-append-drop}
use Rattle.wire.proofs.Basics.{length-take-le, drop-drop, drop_at, take-add, take-suc, take-take, drop-append-le, add-one, arith}
use lib.Seq.{set_at, take-append-le}
use Rattle.wire.specs.Overlay.{overlay}
use Rattle.wire.proofs.Overlays.{overlay-eq}
use Rattle.sorted_set.specs.Halving.{inserted}

-- the words from i up to the n-th stand one place higher; word i stands where it stood too
abbrev pub moved : List ℕ → ℕ → ℕ → List ℕ
moved w i n = take (i + 1) w ++ (take (n - i) (drop i w) ++ drop (n + 1) w)

module _ (w : List ℕ) where
  moved-split : (i n : ℕ) → i < length w → moved w i n ≡ take i w ++ (get_or w i 0 ∷ (take (n - i) (drop i w) ++ drop (n + 1) w))
  moved-split i n h = rw (add-one i, take-suc w i 0) (append_assoc (take i w) (get_or w i 0 ∷ []) (take (n - i) (drop i w) ++ drop (n + 1) w))

  pub moved_none : (n : ℕ) → n < length w → moved w n n ≡ w
  moved_none n h =
      let z : n - n ≡ 0 = omega arith in
      ap (λ (k : ℕ). take (n + 1) w ++ (take k (drop n w) ++ drop (n + 1) w)) z ∙ take-append-drop (n + 1) w

  pub moved-long : (i n : ℕ) → i ≤ n → n < length w → length (moved w i n) ≡ length w
  moved-long i n h l = simp (length-append, length-take, length-drop) (omega arith)

  pub placed : (at n x : ℕ) → at ≤ n → n < length w → set (moved w at n) at x ≡ inserted w at n x
  placed at n x h l =
      ap (λ (v : List ℕ). set v at x) (moved-split at n (omega arith))
      ∙ set_at (take at w) (get_or w at 0) (take (n - at) (drop at w) ++ drop (n + 1) w) x at (length-take-le at w (omega arith))

  -- ---- the k words from j on

  module _ (j k n : ℕ) (h : j + k ≤ n) (l : n < length w) where
    abbrev front : List ℕ
    front = take (j + k + 1) w

    abbrev rest : List ℕ
    rest = take (n - (j + k)) (drop (j + k) w) ++ drop (n + 1) w

    front_long : length front ≡ j + k + 1
    front_long = length-take-le (j + k + 1) w (omega arith)

    front-from : drop j front ≡ take (k + 1) (drop j w)
    front-from =
        let z : j + k + 1 ≡ j + (k + 1) = omega arith in
        ap (λ (i : ℕ). drop j (take i w)) z ∙ (ap (drop j) (take-add j (k + 1) w) ∙ drop_at (take j w) (take (k + 1) (drop j w)) j (length-take-le j w (omega arith)))

    -- they have not been moved yet
    block-is : take k (drop j (moved w (j + k) n)) ≡ take k (drop j w)
    block-is =
        ap (take k) (drop-append-le j front rest (omega (arith, front_long)))
        ∙ (take-append-le k (drop j front) rest (simp length-drop (omega (arith, front_long))) ∙ (ap (take k) front-from ∙ take-take k (k + 1) (drop j w) (omega arith)))

    block-long : length (take k (drop j w)) ≡ k
    block-long = length-take-le k (drop j w) (simp length-drop (omega arith))

    before-is : take (j + 1) (moved w (j + k) n) ≡ take (j + 1) w
    before-is = take-append-le (j + 1) front rest (omega (arith, front_long)) ∙ take-take (j + 1) (j + k + 1) w (omega arith)

    after_is : drop (j + 1 + k) (moved w (j + k) n) ≡ rest
    after_is = drop_at front rest (j + 1 + k) (front_long ∙ omega arith)

    together : take k (drop j w) ++ take (n - (j + k)) (drop (j + k) w) ≡ take (n - j) (drop j w)
    together =
        let z : k + (n - (j + k)) ≡ n - j = omega arith in
        ap (λ (v : List ℕ). take k (drop j w) ++ take (n - (j + k)) v) (sym (drop-drop k j w)) ∙ (sym (take-add k (n - (j + k)) (drop j w)) ∙ ap (λ (i : ℕ). take i (drop j w)) z)

    pub moved-block : overlay (moved w (j + k) n) (j + 1) (take k (drop j (moved w (j + k) n))) ≡ moved w j n
    moved-block =
        let b : List ℕ = take k (drop j w) in
        let m : List ℕ = moved w (j + k) n in
        let o : j + 1 + length b ≤ length m = omega (arith, block-long, moved-long (j + k) n h l) in
        ap (overlay m (j + 1)) block-is
        ∙ (overlay-eq m (j + 1) b o
        ∙ (ap (λ (i : ℕ). take (j + 1) m ++ b ++ drop (j + 1 + i) m) block-long
        ∙ ((λ i. before-is i ++ b ++ after_is i)
        ∙ (append_assoc (take (j + 1) w) b rest
        ∙ ap (λ (v : List ℕ). take (j + 1) w ++ v) (sym (append_assoc b (take (n - (j + k)) (drop (j + k) w)) (drop (n + 1) w)) ∙ ap (λ (v : List ℕ). v ++ drop (n + 1) w) together)))))
