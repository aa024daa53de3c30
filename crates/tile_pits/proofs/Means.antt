-- The pits of a tile mean what the request says, over sets that hold the marks of lists; and the same of a call. Assumes nothing.
use Rattle.wire.proofs.Basics.{◌∙◌, sym, ◌≡◌, ap, refl, subst, ℕ, ◌≤◌, ◌<◌, suc, zero, ◌%◌, List, [], ◌∷◌, true, false, Bool, inl, inr, length, take, ltb, eq-eqb, ltb-false, arith}
use mathlib.Core.Logic.{◌↔◌}
use Rattle.wire.specs.Choice.{pick}
use Rattle.wire.specs.Overlay.{overlay}
use Rattle.wire.specs.Slices.{◌⇒◌}
use Rattle.wire.proofs.Overlays.{overlay-at}
use Rattle.wire.proofs.Choices.{either, or_l, or_r}
use Rattle.words.specs.Builds.{build}
use Rattle.words.proofs.Builds.{length-build}
use Rattle.sorted_set.specs.Lists.{In, gather, rising, Rising}
use Rattle.sorted_set.specs.Halving.{is_there}
use Rattle.sorted_set.proofs.Members.{gather_in, gather-from, Source}
use Rattle.sorted_set.proofs.Rises.{rising-rises, rising-unique}
use Rattle.sorted_set.proofs.Parts.{gather-rises}
use Rattle.count_rules.specs.Marks.{PitList}
use Rattle.count_rules.specs.Report.{pit_of_lem, pit_if_sure, pits, sure_pits}
use Rattle.count_rules.specs.Keys.{span, pit_key, pit_keys, sure_keys}
use Rattle.count_rules.specs.Meaning.{Marks, MarksSure, Means}
use Rattle.count_rules.proofs.Means.{lines-mean}
use Rattle.count_rules.proofs.Keys.{pits-end, sure-end, sure-within, pits-within}
use Rattle.count_rules.proofs.ListMembers.{only, Taken, taken-from, taken_in}
use Rattle.pit_marks.specs.declared.Sizes.{Sizes}
use Rattle.pit_marks.specs.Sets.{Sets, Has}
use Rattle.tile_pits.specs.Pits.{Many, Map, many_in, key_at, numbers_in, certain_in, lacking, pits_given, GivesPits}
use Rattle.tile_pits.specs.Meaning.{pits_of_lem, chosen, Shows, Called}
use Rattle.tile_pits.proofs.Parts.{there_in, in-there, key-is, to-keys, from-keys, numbers-are, many-are}

-- ---- those with a 1 beside them

module _ (b : ℕ → Bool) where
  abbrev keeping : ℕ → List ℕ
  keeping p = pick (b p) (p ∷ []) []

  chosen_is : (n : ℕ) (f g : ℕ → ℕ) → ((i : ℕ) → i < n → g i ≡ pick (b (f i)) 1 0) → chosen (build n f) (build n g) ≡ gather keeping (build n f)
  chosen_is zero f g e = refl
  chosen_is (suc n) f g e =
      let r : chosen (build n (λ i. f (suc i))) (build n (λ i. g (suc i))) ≡ gather keeping (build n (λ i. f (suc i))) = chosen_is n (λ i. f (suc i)) (λ i. g (suc i)) (λ i h. e (suc i) (omega arith)) in
      elim (either (b (f 0))) [
        | inl q ↦ let z : g 0 ≡ 1 = e 0 (omega arith) ∙ rw q refl in rw (eq-eqb (g 0) 1 z, q) (ap (λ (l : List ℕ). f 0 ∷ l) r)
        | inr q ↦ let z : g 0 ≡ 0 = e 0 (omega arith) ∙ rw q refl in rw (z, q) r
      ]

  kept-is : (x p : ℕ) → In p (keeping x) → (p ≡ x) × (b x ≡ true)
  kept-is x p h = go (b x) refl h
    where
      go : (t : Bool) → b x ≡ t → In p (pick t (x ∷ []) []) → (p ≡ x) × (b x ≡ true)
      go true e k = (only k, e)
      go false e k = absurd k

  kept-rises : (l : List ℕ) → Rising l → Rising (gather keeping l)
  kept-rises = gather-rises keeping (λ x. one (b x) x) (λ x y p q o i j. let u : p ≡ x = (kept-is x p i).0 in let v : q ≡ y = (kept-is y q j).0 in omega arith)
    where
      one : (t : Bool) (x : ℕ) → Rising (pick t (x ∷ []) [])
      one true x = (λ z h. absurd h, tt)
      one false x = tt

-- ---- over sets that hold the marks of lists

module _ (ls : List PitList) (x : Sets) (had : Sizes) (h : Has x had ls) (t : ℕ) (small : t < span) where
  P : (u p : ℕ) → Taken pit_of_lem ls u p → (u < span) × (p < span)
  P = pits-within ls h.within

  S : (u p : ℕ) → Taken pit_if_sure ls u p → (u < span) × (p < span)
  S = sure-within ls h.within

  the-numbers : numbers_in (pits_of_lem x had) t ≡ pits ls t
  unfolding numbers_in
  the-numbers = numbers-are pit_of_lem ls P x.pits had.pits h.the-pits (pits-end ls h.within) t small

  abbrev is_sure_lem : ℕ → Bool
  is_sure_lem p = is_there x.sure had.sure (pit_key t p)

  the-chosen : chosen (numbers_in (pits_of_lem x had) t) (certain_in (pits_of_lem x had) t) ≡ gather (keeping is_sure_lem) (pits ls t)
  unfolding numbers_in certain_in
  the-chosen =
      chosen_is is_sure_lem (many_in (pits_of_lem x had) t) (λ i. key_at (pits_of_lem x had) t i % span) (λ i. pick (is_there x.sure had.sure (key_at (pits_of_lem x had) t i)) 1 0)
      (λ i b. ap (λ (k : ℕ). pick (is_there x.sure had.sure k) 1 0) (key-is x.pits had.pits (rising (pit_keys ls)) h.the-pits (pits-end ls h.within) t small i b))
      ∙ ap (gather (keeping is_sure_lem)) the-numbers

  mean : Means ls
  mean = lines-mean ls

  chosen-there : (p : ℕ) → In p (gather (keeping is_sure_lem) (pits ls t)) → In p (sure_pits ls t)
  chosen-there p i =
      let s : Source (keeping is_sure_lem) (pits ls t) p = gather-from (keeping is_sure_lem) (pits ls t) p i in
      let k : (p ≡ s.x) × (is_sure_lem s.x ≡ true) = kept-is is_sure_lem s.x p s.gives in
      let o : s.x < span = (P t s.x (taken-from pit_of_lem ls t s.x s.inside)).1 in
      subst (λ (q : ℕ). In q (sure_pits ls t)) (sym k.0)
      (taken_in pit_if_sure ls t s.x (from-keys pit_if_sure ls S t s.x o (there_in x.sure had.sure (rising (sure_keys ls)) h.the-sure (pit_key t s.x) k.1)))

  chosen-back : (p : ℕ) → In p (sure_pits ls t) → In p (gather (keeping is_sure_lem) (pits ls t))
  chosen-back p i =
      let e : is_sure_lem p ≡ true = in-there x.sure had.sure (rising (sure_keys ls)) h.the-sure (pit_key t p) (to-keys pit_if_sure ls S t p (taken-from pit_if_sure ls t p i)) in
      gather_in (keeping is_sure_lem) (pits ls t) p p ((mean.pits-marked t p).1 ((mean.sure-marked t p).0 i).marks) (rw e (inl refl))

  the-sure_ones : chosen (numbers_in (pits_of_lem x had) t) (certain_in (pits_of_lem x had) t) ≡ sure_pits ls t
  the-sure_ones = the-chosen ∙ rising-unique _ (sure_pits ls t) (kept-rises is_sure_lem (pits ls t) (rising-rises _)) (rising-rises _) (record { there = chosen-there; back = chosen-back })

  pub pits-mean : Shows ls x had t (numbers_in (pits_of_lem x had) t) (certain_in (pits_of_lem x had) t)
  pits-mean = record {
    rise = subst Rising (sym the-numbers) (rising-rises _);
    marked = λ p. subst (λ (l : List ℕ). In p l ↔ Marks ls t p) (sym the-numbers) (mean.pits-marked t p);
    marked-sure = λ p. subst (λ (l : List ℕ). In p l ↔ MarksSure ls t p) (sym the-sure_ones) (mean.sure-marked t p);
    reported = the-numbers;
    reported-sure = the-sure_ones;
    line = ap (λ (l : List ℕ). length l) the-numbers ∙ sym (many-are pit_of_lem ls P x.pits had.pits h.the-pits (pits-end ls h.within) t small);
    line-sure = ap (λ (l : List ℕ). length l) the-sure_ones ∙ sym (many-are pit_if_sure ls S x.sure had.sure h.the-sure (sure-end ls h.within) t small);
  }

  -- ---- the same of a call: what the outputs then begin with

  abbrev M : Map
  M = pits_of_lem x had

  numbers-long : length (numbers_in M t) ≡ many_in M t
  unfolding numbers_in
  numbers-long = length-build (many_in M t) (λ i. key_at M t i % span)

  certain-long : length (certain_in M t) ≡ many_in M t
  unfolding certain_in
  certain-long = length-build (many_in M t) (λ i. pick (is_there x.sure had.sure (key_at M t i)) 1 0)

  front : (d s d' : List ℕ) (n : ℕ) → n ≡ length s → n ≤ length d → d' ≡ overlay d 0 s → take n d' ≡ s
  front d s d' n e h f = (λ i. take (e i) (f i)) ∙ overlay-at d 0 s (omega arith)

  pub pits-called : {a a' b b' : List ℕ} (n : ℕ) → GivesPits M t (a ⇒ a') (b ⇒ b') (Many n) → Called ls t n a' b'
  pits-called {a} {a'} {b} {b'} n g = go (lacking (many_in M t) a b) refl g.gave g.numbers g.sureness
    where
      go : (l : Bool) → lacking (many_in M t) a b ≡ l → Many n ≡ pits_given l (many_in M t) → a' ≡ pick l a (overlay a 0 (numbers_in M t)) → b' ≡ pick l b (overlay b 0 (certain_in M t)) → Called ls t n a' b'
      go true q e f k = absurd (let z : ◌≡◌ {A = ℕ} 0 1 = cc in let o : ⊥ = omega arith in o)
      go false q e f k =
          let m : n ≡ many_in M t = cc in
          let u : many_in M t ≤ length a = ltb-false (length a) (many_in M t) (or_l (ltb (length a) (many_in M t)) (ltb (length b) (many_in M t)) q) in
          let v : many_in M t ≤ length b = ltb-false (length b) (many_in M t) (or_r (ltb (length a) (many_in M t)) (ltb (length b) (many_in M t)) q) in
          let c : take n a' ≡ numbers_in M t = front a (numbers_in M t) a' n (m ∙ sym numbers-long) (omega arith) f in
          let d : take n b' ≡ certain_in M t = front b (certain_in M t) b' n (m ∙ sym certain-long) (omega arith) k in
          record {
            many = m ∙ (sym numbers-long ∙ ap (λ (l : List ℕ). length l) the-numbers);
            numbers = c ∙ the-numbers;
            sureness = (λ i. chosen (c i) (d i)) ∙ the-sure_ones;
          }
