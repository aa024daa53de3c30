-- Entering, case by case, as the code goes. Assumes nothing.
use Rattle.wire.proofs.Basics.{◌∙◌, sym, ◌≡◌, ap, refl, subst, ℕ, List, [], ◌∷◌, ◌++◌, true, false, Bool, not, length, drop, eqb, ℤ, eq-eqb, ne_eqb}
use Rattle.lmcp.specs.Table.{second}
use Rattle.std.proofs.Common.{Option, Some, None, Result, Ok, Err}
use Rattle.std.specs.Option.{ok_or}
use Rattle.refusals.specs.declared.Refusal.{Refusal}
use Rattle.sorted_set.specs.Halving.{entered, words_with, Enters}
use Rattle.count_rules.specs.Marks.{Mark, at, mark_at, marks_in}
use Rattle.pit_marks.specs.declared.Sizes.{Sizes}
use Rattle.pit_marks.specs.Taken.{Taken}
use Rattle.pit_marks.specs.Taken as taken
use Rattle.pit_marks.specs.Enters.{key_in, Pitted, pitted, sure_entered, pit_entered, enter_pit_lem, onward, followed, enter_marks, with_tiles, with_pits, with_sure, Listed, tile_entered, elements_of, enter_list_lem, EntersList}
use Rattle.pit_marks.specs.Inside.{Leaves}
use Rattle.pit_marks.specs.Sets.{Sets, sets_of}

-- ---- what entering a number answers, by what `ok_or` makes of it

pub none-of : (o : Option ℕ) (r e : Refusal) (v : Result ℕ Refusal) → v ≡ ok_or o r → v ≡ Err e → (o ≡ None) × (e ≡ r)
none-of None r e v p q = (refl, let f : ◌≡◌ {A = Result ℕ Refusal} (Err r) (Err e) = sym p ∙ q in cc)
none-of (Some n) r e v p q = let f : ◌≡◌ {A = Result ℕ Refusal} (Ok n) (Err e) = sym p ∙ q in cc

pub some-of : (o : Option ℕ) (r : Refusal) (n : ℕ) (v : Result ℕ Refusal) → v ≡ ok_or o r → v ≡ Ok n → o ≡ Some n
some-of None r n v p q = let f : ◌≡◌ {A = Result ℕ Refusal} (Err r) (Ok n) = sym p ∙ q in cc
some-of (Some m) r n v p q = let f : ◌≡◌ {A = Result ℕ Refusal} (Ok m) (Ok n) = sym p ∙ q in cc

-- ---- a pit

pub as_said : {p q : Pitted} {r : Taken} {a b : List ℕ} → p ≡ q → Leaves q r a b → Leaves p r a b
as_said {p} {q} {r} {a} {b} e = subst (λ (z : Pitted). Leaves z r a b) (sym e)

module _ (s : Bool) (x : ℕ) (pits sure : List ℕ) (had : Sizes) (e : Option ℕ) (pits' : List ℕ) (E : Enters pits had.pits x e pits') where
  by-pit : (f : Option ℕ) → e ≡ f → (t : Bool) → s ≡ t → enter_pit_lem s x pits sure had ≡ pit_entered f t x pits' sure had
  unfolding enter_pit_lem
  by-pit f q t u = λ i. pit_entered ((sym E.gave ∙ q) i) (u i) x (sym E.left i) sure had

  pub pit-full : e ≡ None → Leaves (enter_pit_lem s x pits sure had) (taken.Refused had 61) pits' sure
  pit-full q = as_said (by-pit None q s refl) (record { gave = refl; pits-left = refl; sure-left = refl })

  pub pit-unsure : (n : ℕ) → e ≡ Some n → s ≡ false → Leaves (enter_pit_lem s x pits sure had) (taken.Now (with_pits n had)) pits' sure
  pit-unsure n q u = as_said (by-pit (Some n) q false u) (record { gave = refl; pits-left = refl; sure-left = refl })

  -- a sure one, by what entering it among the sure ones answers
  module _ (n : ℕ) (q : e ≡ Some n) (u : s ≡ true) (f : Option ℕ) (sure' : List ℕ) (F : Enters sure had.sure x f sure') where
    by-sure : (g : Option ℕ) → f ≡ g → enter_pit_lem s x pits sure had ≡ sure_entered g pits' sure' (with_pits n had)
    by-sure g v = by-pit (Some n) q true u ∙ (λ i. sure_entered ((sym F.gave ∙ v) i) pits' (sym F.left i) (with_pits n had))

    pub sure-full : f ≡ None → Leaves (enter_pit_lem s x pits sure had) (taken.Refused (with_pits n had) 61) pits' sure'
    sure-full v = as_said (by-sure None v) (record { gave = refl; pits-left = refl; sure-left = refl })

    pub sure-now : (m : ℕ) → f ≡ Some m → Leaves (enter_pit_lem s x pits sure had) (taken.Now (with_sure m (with_pits n had))) pits' sure'
    sure-now m v = as_said (by-sure (Some m) v) (record { gave = refl; pits-left = refl; sure-left = refl })

-- ---- an element

onward-end : (r : Taken) (a b : List ℕ) → onward (λ p s now. pitted (taken.Now now) p s) r a b ≡ pitted r a b
onward-end (taken.Now now) a b = refl
onward-end (taken.Refused now n) a b = refl

pub marks-one : (t : ℕ) (m : Mark) (pits sure : List ℕ) (had : Sizes) → enter_marks t (m ∷ []) pits sure had ≡ enter_pit_lem m.sure (key_in t m.pit) pits sure had
unfolding enter_marks
marks-one t m pits sure had =
    let p = enter_pit_lem m.sure (key_in t m.pit) pits sure had in
    onward-end p.answer p.pits p.sure

module _ (t : ℕ) (l : List ℤ) (pits sure : List ℕ) (had : Sizes) where
  pub element-null : at l 0 ≡ 0 → Leaves (enter_marks t (mark_at l) pits sure had) (taken.Now had) pits sure
  unfolding enter_marks mark_at
  element-null e = rw (eq-eqb _ _ e) (record { gave = refl; pits-left = refl; sure-left = refl })

  pub element-mark : (at l 0 ≡ 0 → ⊥) → (s : Bool) (x : ℕ) → s ≡ not (eqb (at l 2) 0) → x ≡ key_in t (at l 1)
      → (r : Taken) (a b : List ℕ) → Leaves (enter_pit_lem s x pits sure had) r a b → Leaves (enter_marks t (mark_at l) pits sure had) r a b
  unfolding mark_at
  element-mark n s x u v r a b L =
      rw (ne_eqb _ _ n)
      (as_said (marks-one t (record { pit = at l 1; sure = not (eqb (at l 2) 0) }) pits sure had)
      (as_said (λ i. enter_pit_lem (sym u i) (sym v i) pits sure had) L))

-- ---- mark by mark

onward-both : (k k₁ k₂ : List ℕ → List ℕ → Sizes → Pitted) → ((p s : List ℕ) (now : Sizes) → k p s now ≡ followed (k₁ p s now) k₂)
    → (r : Taken) (a b : List ℕ) → onward k r a b ≡ followed (onward k₁ r a b) k₂
onward-both k k₁ k₂ h (taken.Now now) a b = h a b now
onward-both k k₁ k₂ h (taken.Refused now n) a b = refl

module _ (t : ℕ) where
  pub all-entered : (pits sure : List ℕ) (had : Sizes) → Leaves (enter_marks t [] pits sure had) (taken.Now had) pits sure
  unfolding enter_marks
  all-entered pits sure had = record { gave = refl; pits-left = refl; sure-left = refl }

  pub marks-append : (ms ns : List Mark) (pits sure : List ℕ) (had : Sizes)
      → enter_marks t (ms ++ ns) pits sure had ≡ followed (enter_marks t ms pits sure had) (enter_marks t ns)
  unfolding enter_marks
  marks-append [] ns pits sure had = refl
  marks-append (m ∷ ms) ns pits sure had =
      let p = enter_pit_lem m.sure (key_in t m.pit) pits sure had in
      onward-both (enter_marks t (ms ++ ns)) (enter_marks t ms) (enter_marks t ns) (λ a b now. marks-append ms ns a b now) p.answer p.pits p.sure

  -- the marks of one element were entered: on with the others, or refused
  module _ (ms ns : List Mark) (pits sure : List ℕ) (had : Sizes) (r : Taken) (a b : List ℕ) (L : Leaves (enter_marks t ms pits sure had) r a b) where
    pub then-on : (now : Sizes) → r ≡ taken.Now now → enter_marks t (ms ++ ns) pits sure had ≡ enter_marks t ns a b now
    then-on now e =
        marks-append ms ns pits sure had
        ∙ (λ i. onward (enter_marks t ns) ((sym L.gave ∙ e) i) (sym L.pits-left i) (sym L.sure-left i))

    pub then-refused : (now : Sizes) (n : ℕ) → r ≡ taken.Refused now n → Leaves (enter_marks t (ms ++ ns) pits sure had) r a b
    then-refused now n e =
        as_said
        (marks-append ms ns pits sure had
        ∙ (λ i. onward (enter_marks t ns) ((sym L.gave ∙ e) i) (sym L.pits-left i) (sym L.sure-left i)))
        (record { gave = e; pits-left = refl; sure-left = refl })

-- ---- a list

module _ (l : List ℤ) (x : Sets) (had : Sizes) (t : ℕ) (et : t ≡ at l 2) (e : Option ℕ) (tiles' : List ℕ) (E : Enters x.tiles had.tiles t e tiles') where
  by-tile : (f : Option ℕ) → e ≡ f → enter_list_lem l x had ≡ tile_entered f tiles' (enter_marks (at l 2) (elements_of l)) x had
  unfolding enter_list_lem
  by-tile f q =
      (λ i. tile_entered (entered x.tiles had.tiles (sym et i)) (words_with x.tiles had.tiles (sym et i)) (enter_marks (at l 2) (elements_of l)) x had)
      ∙ (λ i. tile_entered ((sym E.gave ∙ q) i) (sym E.left i) (enter_marks (at l 2) (elements_of l)) x had)

  pub tile-full : e ≡ None → EntersList l x had (taken.Refused had 60) (sets_of tiles' x.pits x.sure)
  tile-full q = record { gave = ap (λ (z : Listed). z.answer) (sym (by-tile None q)); left = ap (λ (z : Listed). z.sets) (sym (by-tile None q)) }

  pub tile-now : (n : ℕ) → e ≡ Some n → (v : ℕ) → v ≡ at l 0 → (r : Taken) (a b : List ℕ)
      → Leaves (enter_marks t (marks_in (second v) (length (drop 4 l)) (drop 4 l)) x.pits x.sure (with_tiles n had)) r a b → EntersList l x had r (sets_of tiles' a b)
  tile-now n q v ev r a b L =
      let M : Leaves (enter_marks (at l 2) (elements_of l) x.pits x.sure (with_tiles n had)) r a b =
      as_said (λ i. enter_marks (sym et i) (marks_in (second (sym ev i)) (length (drop 4 l)) (drop 4 l)) x.pits x.sure (with_tiles n had)) L in
      record {
        gave = M.gave ∙ ap (λ (z : Listed). z.answer) (sym (by-tile (Some n) q));
        left = (λ i. sets_of tiles' (M.pits-left i) (M.sure-left i)) ∙ ap (λ (z : Listed). z.sets) (sym (by-tile (Some n) q));
      }
