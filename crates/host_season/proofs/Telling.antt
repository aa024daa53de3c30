-- Both ways in which a stretch is told; no second answer. Assumes nothing.
use Rattle.wire.proofs.Basics.{◌∙◌, sym, ◌≡◌, ap, refl, ℕ, ◌≤◌, ◌<◌, List, ◌++◌, inl, inr, length, length-append, ltb, le-ltb, lt-ltb, arith}
use Rattle.wire.specs.Overlay.{overlay}
use Rattle.wire.specs.Slices.{◌⇒◌}
use Rattle.wire.proofs.Overlays.{overlay-next}
use Rattle.wire.proofs.Choices.{either, never}
use Rattle.pit_marks.specs.declared.Sizes.{Sizes}
use Rattle.stretch.specs.Stop.{Stretch}
use Rattle.stretch.specs.Stop.{Stop, Taken, End, Broken, Refused}
use Rattle.stretch.specs.Stretch.{Desk, kit_of, CountsOn}
use Rattle.stretch.proofs.Once.{count-on-once}
use Rattle.host_season.specs.Numbers.{stretch_length, stop_numbers_lem, stretch_numbers}
use Rattle.host_season.specs.Told.{StretchTold}

-- ---- a stretch's numbers, in four groups, one behind the other

two : (s : Stop) → 2 ≡ length (stop_numbers_lem s)
two Taken = refl
two End = refl
two (Broken n) = refl
two (Refused n) = refl

module _ (d a t r z : List ℕ) (la : 2 ≡ length a) (lt : 6 ≡ length t) (lr : 10 ≡ length r) where
  at-refused : 8 ≡ length (a ++ t)
  at-refused = omega (arith, length-append a t, la, lt)

  at-sizes : 18 ≡ length (a ++ t ++ r)
  at-sizes = omega (arith, length-append (a ++ t) r, at-refused, lr)

  laid : {u v w x : List ℕ} → u ≡ overlay d 0 a → v ≡ overlay u 2 t → w ≡ overlay v 8 r → x ≡ overlay w 18 z → x ≡ overlay d 0 (a ++ t ++ r ++ z)
  laid {u} {v} {w} {x} eu ev ew ex =
      let first = overlay-next d a t u v 2 eu la ev in
      let second = overlay-next d (a ++ t) r v w 8 first at-refused ew in
      overlay-next d (a ++ t ++ r) z w x 18 second at-sizes ex

pub put : (d : List ℕ) (s : Stop) (why t r z : List ℕ) → why ≡ stop_numbers_lem s → 6 ≡ length t → 10 ≡ length r → {u v w x : List ℕ}
    → u ≡ overlay d 0 why → v ≡ overlay u 2 t → w ≡ overlay v 8 r → x ≡ overlay w 18 z → x ≡ overlay d 0 (stop_numbers_lem s ++ t ++ r ++ z)
put d s why t r z e lt lr eu = laid d (stop_numbers_lem s) t r z (two s) lt lr (eu ∙ ap (overlay d 0) e)

-- ---- a stretch

module _ (log : List ℕ) (place most : ℕ) (k : Desk) (had : Sizes) (before : List ℕ) where
  pub not-told : length before < stretch_length → StretchTold log place most k had (before ⇒ before) 13 k
  not-told h = record {
    untouched = λ e. record { gave = refl; stays = refl; list = refl };
    counted = λ e. never (lt-ltb (length before) stretch_length h) e;
  }

  pub told-so : stretch_length ≤ length before → (r : Stretch) (k' : Desk) → CountsOn log place most k had r k' → (after : List ℕ) → after ≡ overlay before 0 (stretch_numbers r)
      → StretchTold log place most k had (before ⇒ after) 0 k'
  told-so h r k' c after e = record {
    untouched = λ u. never u (le-ltb (length before) stretch_length h);
    counted = λ u. record { gave = refl; stretch = r; counts = c; list = e };
  }

  -- no second answer; what is lent afterwards shows the same machine, and all else is the same
  pub record NoSecond (x y : ℕ) (a b : List ℕ) (k₁ k₂ : Desk) : Type 0 where
    pub answer : x ≡ y
    pub list : a ≡ b
    pub lent : (sizes : Sizes) → kit_of k₁ sizes ≡ kit_of k₂ sizes

  pub told-once : {x y : ℕ} {a b : List ℕ} {k₁ k₂ : Desk} → StretchTold log place most k had (before ⇒ a) x k₁ → StretchTold log place most k had (before ⇒ b) y k₂ → NoSecond x y a b k₁ k₂
  told-once p q = elim (either (ltb (length before) stretch_length)) [
    | inl e ↦
        let u = p.untouched e in
        let v = q.untouched e in
        record { answer = u.gave ∙ sym v.gave; list = u.list ∙ sym v.list; lent = λ sizes i. kit_of ((u.stays ∙ sym v.stays) i) sizes }
    | inr e ↦
        let u = p.counted e in
        let v = q.counted e in
        let o = count-on-once u.counts v.counts in
        record {
          answer = u.gave ∙ sym v.gave;
          list = u.list ∙ (ap (λ (r : Stretch). overlay before 0 (stretch_numbers r)) o.0 ∙ sym v.list);
          lent = λ sizes i. record { world = (o.1 i).world; list = (o.1 i).list; sets = (o.1 i).sets; sizes = sizes };
        }
  ]
