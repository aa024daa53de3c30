-- A list entered into sets that hold what was seen, in however many words: they hold it too, or it is refused by what stands against it, and
-- then they hold a part of it. Assumes nothing.
use Rattle.wire.proofs.Basics.{◌∙◌, sym, ◌≡◌, ap, refl, subst, ℕ, ◌≤◌, ◌+◌, ◌<◌, ◌%◌, List, [], ◌∷◌, ◌++◌, append_assoc, append-nil, true, false, Bool, inl, inr, length, ltb, ℤ, le-ltb, lt-ltb}
use Rattle.wire.proofs.Basics.{ltb-false, ltb-true, arith}
use Rattle.wire.specs.Choice.{pick}
use Rattle.wire.proofs.Choices.{either}
use Rattle.std.proofs.Common.{Some, None}
use Rattle.sorted_set.specs.Lists.{In, enter, rising}
use Rattle.sorted_set.specs.Halving.{held, inserted, rank_in, is_there, no_room_lem, entered, words_with, Holds}
use Rattle.sorted_set.proofs.Members.{in_left, in_right, in_either}
use Rattle.sorted_set.proofs.Sets.{as_many, words_long, entered-is, entered-holds}
use Rattle.count_rules.specs.Marks.{Mark, PitList, at}
use Rattle.count_rules.specs.Report.{tiles, pit_of_lem, pit_if_sure}
use Rattle.count_rules.specs.Keys.{span, pit_key, pit_keys, sure_keys, Within}
use Rattle.count_rules.proofs.Steps.{list_of, pits-more, sure-more, unsure-stay, keys-fewer}
use Rattle.pit_marks.specs.declared.Sizes.{Sizes}
use Rattle.pit_marks.specs.Taken.{Taken}
use Rattle.pit_marks.specs.Taken as taken
use Rattle.pit_marks.specs.Sets.{Sets, sets_of, rooms, Has, over, MarkedIn, PartOf, Partly}
use Rattle.pit_marks.specs.Enters.{key_in, with_tiles, with_pits, with_sure, fault_of, sizes_of, Pitted, pitted, enter_pit_lem, onward, followed, enter_marks, Listed, besides, elements_of, enter_list_lem}

-- ---- one number into one set

module _ (w : List ℕ) (n : ℕ) (l : List ℕ) (x : ℕ) (h : Holds w n l) where
  is-full : length w < length (enter x l) → entered w n x ≡ None
  is-full o = entered-is w n l h x ∙ rw (lt-ltb (length w) (length (enter x l)) o)

  is-now : length (enter x l) ≤ length w → entered w n x ≡ Some (length (enter x l))
  is-now o = entered-is w n l h x ∙ rw (le-ltb (length w) (length (enter x l)) o)

-- what is full stays
full-stays : (w : List ℕ) (n x : ℕ) → entered w n x ≡ None → words_with w n x ≡ w
unfolding entered words_with
full-stays w n x e = by (is_there w n x) (no_room_lem w n) e
  where
    by : (a b : Bool) → pick a (Some (held w n)) (pick b None (Some (held w n + 1))) ≡ None → pick a w (pick b w (inserted w (rank_in w n x) (held w n) x)) ≡ w
    by true b q = refl
    by false true q = refl
    by false false q = absurd (let z : ◌≡◌ {A = ℕ} 0 1 = cc in let y : ⊥ = omega arith in y)

-- ---- the marks of a list of tile t, after some of them

-- by whether the pits, and whether the sure ones, are too many
abbrev over_by : Bool → Bool → ℕ
over_by a b = pick a 61 (pick b 61 0)

over-sure : (a : Bool) → over_by a true ≡ 61
over-sure true = refl
over-sure false = refl

abbrev SomeOf : List Mark → List Mark → Type 0
SomeOf ms ns = (m : Mark) → In m ms → MarkedIn m ns

self : (ms : List Mark) → SomeOf ms ms
self ms m i = record { mark = m; among = i; its-pit = refl; as-sure = λ e. e }

first_of : (ms ns : List Mark) → SomeOf ms (ms ++ ns)
first_of ms ns m i = record { mark = m; among = in_left m ms ns i; its-pit = refl; as-sure = λ e. e }

later : (ms ds ns : List Mark) → SomeOf ms ds → SomeOf ms (ds ++ ns)
later ms ds ns f m i = let x : MarkedIn m ds = f m i in record { mark = x.mark; among = in_left x.mark ds ns x.among; its-pit = x.its-pit; as-sure = x.as-sure }

abbrev unsure : Mark → Mark
unsure m = record { pit = m.pit; sure = false }

not-sure : {X : Type 0} → false ≡ true → X
not-sure e = absurd (let z : ◌≡◌ {A = ℕ} 0 1 = cc in let y : ⊥ = omega arith in y)

last-unsure : (ds : List Mark) (m : Mark) → SomeOf (ds ++ unsure m ∷ []) (ds ++ m ∷ [])
last-unsure ds m x i = elim (in_either x ds (unsure m ∷ []) i) [
  | inl j ↦ first_of ds (m ∷ []) x j
  | inr j ↦ elim j [
    | inl e ↦ record { mark = m; among = in_right m ds (m ∷ []) (inl refl); its-pit = ap (λ (z : Mark). z.pit) (sym e); as-sure = λ s. not-sure (ap (λ (z : Mark). z.sure) (sym e) ∙ s) }
    | inr z ↦ absurd z
  ]
]

module _ (t : ℕ) (small : t < span) (seen : List PitList) where
  abbrev P : List Mark → List ℕ
  P ds = rising (pit_keys (list_of t ds ∷ seen))

  abbrev S : List Mark → List ℕ
  S ds = rising (sure_keys (list_of t ds ∷ seen))

  -- what stands against them in so many words
  abbrev over_marks : ℕ → ℕ → List Mark → ℕ
  over_marks a b ds = over_by (ltb a (length (P ds))) (ltb b (length (S ds)))

  over-later : (a b : ℕ) (ds ms : List Mark) → over_marks a b ds ≡ 61 → over_marks a b (ds ++ ms) ≡ 61
  over-later a b ds ms q = elim (either (ltb a (length (P ds)))) [
    | inl e ↦ let f : length (P ds) ≤ length (P (ds ++ ms)) = keys-fewer t seen pit_of_lem ds ms in let o : a < length (P ds) = ltb-true _ _ e in rw (lt-ltb a (length (P (ds ++ ms))) (omega arith))
    | inr e ↦ elim (either (ltb b (length (S ds)))) [
      | inl g ↦
          let f : length (S ds) ≤ length (S (ds ++ ms)) = keys-fewer t seen pit_if_sure ds ms in
          let o : b < length (S ds) = ltb-true _ _ g in
          ap (over_by (ltb a (length (P (ds ++ ms))))) (lt-ltb b (length (S (ds ++ ms))) (omega arith)) ∙ over-sure (ltb a (length (P (ds ++ ms))))
      | inr g ↦ absurd (let z : 0 ≡ 61 = (λ i. over_by (sym e i) (sym g i)) ∙ q in let y : ⊥ = omega arith in y)
    ]
  ]

  record Part (ds : List Mark) (p s : List ℕ) (had : Sizes) : Type 0 where
    the-pits : Holds p had.pits (P ds)
    the-sure : Holds s had.sure (S ds)

  within : (ds : List Mark) (p s : List ℕ) (had : Sizes) → Part ds p s had → over_marks (length p) (length s) ds ≡ 0
  within ds p s had q =
      let a = as_many p had.pits (P ds) q.the-pits in
      let b = as_many s had.sure (S ds) q.the-sure in
      let c = q.the-pits.size in
      let d = q.the-sure.size in
      rw (le-ltb (length p) (length (P ds)) (omega arith), le-ltb (length s) (length (S ds)) (omega arith))

  -- X is what comes of the marks ms, entered into p and s: all of them, or it is refused and these are some
  record Ends (n : ℕ) (p s : List ℕ) (ms : List Mark) (X : Pitted) : Type 0 where
    found : fault_of X.answer ≡ over_marks (length p) (length s) ms
    number : (had : Sizes) (k : ℕ) → X.answer ≡ taken.Refused had k → k ≡ 61
    same-tiles : (sizes_of X.answer).tiles ≡ n
    pits-long : length X.pits ≡ length p
    sure-long : length X.sure ≡ length s
    marks : List Mark
    part : Part marks X.pits X.sure (sizes_of X.answer)
    some : SomeOf marks ms
    all : fault_of X.answer ≡ 0 → marks ≡ ms

  ends_now : (p s : List ℕ) (ms : List Mark) (now : Sizes) (p' s' : List ℕ) → length p' ≡ length p → length s' ≡ length s → Part ms p' s' now → Ends now.tiles p s ms (pitted (taken.Now now) p' s')
  ends_now p s ms now p' s' a b q = record {
    found = sym ((λ i. over_marks (sym a i) (sym b i) ms) ∙ within ms p' s' now q);
    number = λ had k e. absurd (let z : ◌≡◌ {A = ℕ} 0 1 = cc in let y : ⊥ = omega arith in y);
    same-tiles = refl;
    pits-long = a;
    sure-long = b;
    marks = ms;
    part = q;
    some = self ms;
    all = λ e. refl;
  }

  ends-full : (p s : List ℕ) (ms ds : List Mark) (now : Sizes) (p' s' : List ℕ) → over_marks (length p) (length s) ms ≡ 61 → length p' ≡ length p → length s' ≡ length s → Part ds p' s' now → SomeOf ds ms
      → Ends now.tiles p s ms (pitted (taken.Refused now 61) p' s')
  ends-full p s ms ds now p' s' o a b q f = record {
    found = sym o;
    number = λ had k e. let z : 61 ≡ k = cc in sym z;
    same-tiles = refl;
    pits-long = a;
    sure-long = b;
    marks = ds;
    part = q;
    some = f;
    all = λ e. absurd (let y : ⊥ = omega arith in y);
  }

  module _ (ds : List Mark) (m : Mark) (fits : m.pit < span) (p s : List ℕ) (had : Sizes) (q : Part ds p s had) where
    abbrev k : ℕ
    k = pit_key t m.pit

    key-is : key_in t m.pit ≡ k
    key-is = let a : t % span ≡ t = omega arith in let b : m.pit % span ≡ m.pit = omega arith in λ i. pit_key (a i) (b i)

    abbrev ms : List Mark
    ms = ds ++ m ∷ []

    abbrev p' : List ℕ
    p' = words_with p had.pits k

    abbrev s' : List ℕ
    s' = words_with s had.sure k

    more : P ms ≡ enter k (P ds)
    more = pits-more t seen ds m

    abbrev Goes : Pitted → Type 0
    Goes X = Ends had.tiles p s ms X

    no_room : length p < length (P ms) → Goes (enter_pit_lem m.sure k p s had)
    unfolding enter_pit_lem
    no_room o =
        let e : entered p had.pits k ≡ None = is-full p had.pits (P ds) k q.the-pits (subst (λ (l : List ℕ). length p < length l) more o) in
        rw e (ends-full p s ms ds had p' s (rw (lt-ltb (length p) (length (P ms)) o)) (words_long p had.pits k) refl
        (record { the-pits = subst (λ (v : List ℕ). Holds v had.pits (P ds)) (sym (full-stays p had.pits k e)) q.the-pits; the-sure = q.the-sure }) (first_of ds (m ∷ [])))

    module _ (o : length (P ms) ≤ length p) where
      room : length (enter k (P ds)) ≤ length p
      room = subst (λ (l : List ℕ). length l ≤ length p) more o

      abbrev now : Sizes
      now = with_pits (length (enter k (P ds))) had

      pit-now : entered p had.pits k ≡ Some (length (enter k (P ds)))
      pit-now = is-now p had.pits (P ds) k q.the-pits room

      pit-holds : Holds p' (length (enter k (P ds))) (P ms)
      pit-holds = subst (λ (l : List ℕ). Holds p' (length (enter k (P ds))) l) (sym more) (entered-holds p had.pits (P ds) q.the-pits k room)

      unsure-is : m.sure ≡ false → enter_pit_lem m.sure k p s had ≡ pitted (taken.Now now) p' s
      unfolding enter_pit_lem
      unsure-is u = rw (pit-now, u)

      not-marked-sure : m.sure ≡ false → Goes (enter_pit_lem m.sure k p s had)
      not-marked-sure u = subst Goes (sym (unsure-is u)) (ends_now p s ms now p' s (words_long p had.pits k) refl
          (record { the-pits = pit-holds; the-sure = subst (λ (l : List ℕ). Holds s had.sure (rising l)) (sym (unsure-stay t seen ds m u)) q.the-sure }))

      module _ (u : m.sure ≡ true) where
        grown : S ms ≡ enter k (S ds)
        grown = sure-more t seen ds m u

        sure-is : (n : ℕ) → entered s had.sure k ≡ Some n → enter_pit_lem m.sure k p s had ≡ pitted (taken.Now (with_sure n now)) p' s'
        unfolding enter_pit_lem
        sure-is n e = rw (pit-now, u, e)

        full_is : entered s had.sure k ≡ None → enter_pit_lem m.sure k p s had ≡ pitted (taken.Refused now 61) p' s'
        unfolding enter_pit_lem
        full_is e = rw (pit-now, u, e)

        sure-room : length (S ms) ≤ length s → Goes (enter_pit_lem m.sure k p s had)
        sure-room a =
            let b : length (enter k (S ds)) ≤ length s = subst (λ (l : List ℕ). length l ≤ length s) grown a in
            let e : entered s had.sure k ≡ Some (length (enter k (S ds))) = is-now s had.sure (S ds) k q.the-sure b in
            subst Goes (sym (sure-is (length (enter k (S ds))) e)) (ends_now p s ms (with_sure (length (enter k (S ds))) now) p' s' (words_long p had.pits k) (words_long s had.sure k)
            (record { the-pits = pit-holds; the-sure = subst (λ (l : List ℕ). Holds s' (length (enter k (S ds))) l) (sym grown) (entered-holds s had.sure (S ds) q.the-sure k b) }))

        -- the pit stands there then, and not as a sure one
        no-sure-room : length s < length (S ms) → Goes (enter_pit_lem m.sure k p s had)
        no-sure-room a =
            let e : entered s had.sure k ≡ None = is-full s had.sure (S ds) k q.the-sure (subst (λ (l : List ℕ). length s < length l) grown a) in
            let h : P (ds ++ unsure m ∷ []) ≡ P ms = pits-more t seen ds (unsure m) ∙ sym more in
            subst Goes (sym (full_is e)) (ends-full p s ms (ds ++ unsure m ∷ []) now p' s'
            (ap (over_by (ltb (length p) (length (P ms)))) (lt-ltb (length s) (length (S ms)) a) ∙ over-sure (ltb (length p) (length (P ms))))
            (words_long p had.pits k) (words_long s had.sure k)
            (record {
              the-pits = subst (λ (l : List ℕ). Holds p' (length (enter k (P ds))) l) (sym h) pit-holds;
              the-sure = subst (λ (v : List ℕ). Holds v had.sure (S (ds ++ unsure m ∷ []))) (sym (full-stays s had.sure k e))
                  (subst (λ (l : List ℕ). Holds s had.sure (rising l)) (sym (unsure-stay t seen ds (unsure m) refl)) q.the-sure);
            })
            (last-unsure ds m))

    mark-ends : Goes (enter_pit_lem m.sure (key_in t m.pit) p s had)
    mark-ends = subst (λ (x : ℕ). Goes (enter_pit_lem m.sure x p s had)) (sym key-is) (elim (either (ltb (length p) (length (P ms)))) [
      | inl e ↦ no_room (ltb-true _ _ e)
      | inr e ↦ elim (either m.sure) [
        | inl u ↦ elim (either (ltb (length s) (length (S ms)))) [ inl f ↦ no-sure-room (ltb-false _ _ e) u (ltb-true _ _ f) | inr f ↦ sure-room (ltb-false _ _ e) u (ltb-false _ _ f) ]
        | inr u ↦ not-marked-sure (ltb-false _ _ e) u
      ]
    ])

  -- ---- all marks

  abbrev Fit : List Mark → Type 0
  Fit ms = (m : Mark) → In m ms → m.pit < span

  join : (ds : List Mark) (m : Mark) (ms : List Mark) → (ds ++ m ∷ []) ++ ms ≡ ds ++ m ∷ ms
  join ds m ms = append_assoc ds (m ∷ []) ms

  abbrev Goings : List Mark → Type 0
  Goings ms = (ds : List Mark) (p s : List ℕ) (had : Sizes) → Fit ms → Part ds p s had → Ends had.tiles p s (ds ++ ms) (enter_marks t ms p s had)

  -- by what the first of them answers
  one_then : (m : Mark) (ms : List Mark) → Goings ms → (ds : List Mark) (p s : List ℕ) (had : Sizes) → Fit ms → (Y : Pitted) → Ends had.tiles p s (ds ++ m ∷ []) Y
      → (a : Taken) → Y.answer ≡ a → Ends had.tiles p s ((ds ++ m ∷ []) ++ ms) (onward (enter_marks t ms) a Y.pits Y.sure)
  one_then m ms ih ds p s had f Y g (taken.Now now) e =
      let q : Part g.marks Y.pits Y.sure now = subst (λ (r : Taken). Part g.marks Y.pits Y.sure (sizes_of r)) e g.part in
      let r : Part (ds ++ m ∷ []) Y.pits Y.sure now = subst (λ (l : List Mark). Part l Y.pits Y.sure now) (g.all (ap fault_of e)) q in
      let n : now.tiles ≡ had.tiles = ap (λ (x : Taken). (sizes_of x).tiles) (sym e) ∙ g.same-tiles in
      let h : Ends now.tiles Y.pits Y.sure ((ds ++ m ∷ []) ++ ms) (enter_marks t ms Y.pits Y.sure now) = ih (ds ++ m ∷ []) Y.pits Y.sure now f r in
      record {
        found = h.found ∙ (λ i. over_marks (g.pits-long i) (g.sure-long i) ((ds ++ m ∷ []) ++ ms));
        number = h.number;
        same-tiles = h.same-tiles ∙ n;
        pits-long = h.pits-long ∙ g.pits-long;
        sure-long = h.sure-long ∙ g.sure-long;
        marks = h.marks;
        part = h.part;
        some = h.some;
        all = h.all;
      }
  one_then m ms ih ds p s had f Y g (taken.Refused now k) e =
      let j : k ≡ 61 = g.number now k e in
      record {
        found = j ∙ sym (over-later (length p) (length s) (ds ++ m ∷ []) ms (sym g.found ∙ (ap fault_of e ∙ j)));
        number = λ x i u. let z : k ≡ i = cc in sym z ∙ j;
        same-tiles = ap (λ (x : Taken). (sizes_of x).tiles) (sym e) ∙ g.same-tiles;
        pits-long = g.pits-long;
        sure-long = g.sure-long;
        marks = g.marks;
        part = subst (λ (r : Taken). Part g.marks Y.pits Y.sure (sizes_of r)) e g.part;
        some = later g.marks (ds ++ m ∷ []) ms g.some;
        all = λ u. absurd (let y : ⊥ = omega arith in y);
      }

  marks-end : (ms : List Mark) → Goings ms
  unfolding enter_marks
  marks-end [] ds p s had f q = ends_now p s (ds ++ []) had p s refl refl (subst (λ (l : List Mark). Part l p s had) (sym (append-nil ds)) q)
  marks-end (m ∷ ms) ds p s had f q =
      let Y : Pitted = enter_pit_lem m.sure (key_in t m.pit) p s had in
      subst (λ (l : List Mark). Ends had.tiles p s l (followed Y (enter_marks t ms))) (join ds m ms)
      (one_then m ms (marks-end ms) ds p s had (λ x i. f x (inr i)) Y (mark-ends ds m (f m (inl refl)) p s had q) Y.answer refl)

-- ---- a list

-- E is what comes of a list l, entered into sets x that hold what was seen
pub record Judged (x : Sets) (l : PitList) (seen : List PitList) (E : Listed) : Type 0 where
  pub found : fault_of E.answer ≡ over (rooms x) (l ∷ seen)
  pub number : (now : Sizes) (k : ℕ) → E.answer ≡ taken.Refused now k → 0 < k
  pub long : rooms E.sets ≡ rooms x
  pub has : fault_of E.answer ≡ 0 → Has E.sets (sizes_of E.answer) (l ∷ seen)
  pub part : Partly E.sets (sizes_of E.answer) (l ∷ []) seen

module _ (l : List ℤ) (x : Sets) (had : Sizes) (seen : List PitList) (h : Has x had seen) (w : Within (list_of (at l 2) (elements_of l))) where
  abbrev tile : ℕ
  tile = at l 2

  abbrev its : PitList
  its = list_of tile (elements_of l)

  abbrev all : List PitList
  all = its ∷ seen

  abbrev E : Listed
  E = enter_list_lem l x had

  no_tile : length x.tiles < length (tiles all) → Judged x its seen E
  unfolding enter_list_lem rising
  no_tile o =
      let e : entered x.tiles had.tiles tile ≡ None = is-full x.tiles had.tiles (tiles seen) tile h.the-tiles o in
      let v : words_with x.tiles had.tiles tile ≡ x.tiles = full-stays x.tiles had.tiles tile e in
      rw (e, v) (record {
        found = rw (lt-ltb (length x.tiles) (length (tiles all)) o);
        number = λ now k q. let z : 60 ≡ k = cc in omega arith;
        long = refl;
        has = λ u. absurd (let y : ⊥ = omega arith in y);
        part = record { lists = []; parts = λ m i. absurd i; has = h };
      })

  module _ (o : length (tiles all) ≤ length x.tiles) where
    abbrev then : Sizes
    then = with_tiles (length (tiles all)) had

    abbrev tiles' : List ℕ
    tiles' = words_with x.tiles had.tiles tile

    abbrev X : Pitted
    X = enter_marks tile (elements_of l) x.pits x.sure then

    tile-now : entered x.tiles had.tiles tile ≡ Some (length (tiles all))
    unfolding rising
    tile-now = is-now x.tiles had.tiles (tiles seen) tile h.the-tiles o

    list-is : E ≡ besides tiles' X
    unfolding enter_list_lem
    list-is = rw tile-now

    ends : Ends tile w.tile seen (length (tiles all)) x.pits x.sure (elements_of l) X
    ends = marks-end tile w.tile seen (elements_of l) [] x.pits x.sure then w.pits (record { the-pits = h.the-pits; the-sure = h.the-sure })

    -- with some of its marks
    has_of : (ms : List Mark) → SomeOf ms (elements_of l) → Part tile w.tile seen ms X.pits X.sure (sizes_of X.answer) → Has (sets_of tiles' X.pits X.sure) (sizes_of X.answer) (list_of tile ms ∷ seen)
    unfolding rising
    has_of ms f q = record {
      the-tiles = subst (λ (n : ℕ). Holds tiles' n (tiles all)) (sym ends.same-tiles) (entered-holds x.tiles had.tiles (tiles seen) h.the-tiles tile o);
      the-pits = q.the-pits;
      the-sure = q.the-sure;
      within = λ y i. elim i [
        | inl e ↦ subst Within (sym e) (record { tile = w.tile; pits = λ m j. subst (λ (n : ℕ). n < span) (f m j).its-pit (w.pits (f m j).mark (f m j).among) })
        | inr j ↦ h.within y j
      ];
    }

    tile_in : Judged x its seen (besides tiles' X)
    tile_in = record {
      found = ends.found ∙ sym (ap (λ (b : Bool). pick b 60 (over_marks tile w.tile seen (length x.pits) (length x.sure) (elements_of l))) (le-ltb (length x.tiles) (length (tiles all)) o));
      number = λ now k q. let z = ends.number now k q in omega arith;
      long = λ i. record { tiles = words_long x.tiles had.tiles tile i; pits = ends.pits-long i; sure = ends.sure-long i };
      has = λ u. has_of (elements_of l) (self (elements_of l)) (subst (λ (ms : List Mark). Part tile w.tile seen ms X.pits X.sure (sizes_of X.answer)) (ends.all u) ends.part);
      part = record {
        lists = list_of tile ends.marks ∷ [];
        parts = λ m i. elim i [ inl e ↦ subst (λ (y : PitList). PartOf y (its ∷ [])) (sym e) (record { whole = its; among = inl refl; its-tile = refl; its-marks = ends.some }) | inr z ↦ absurd z ];
        has = has_of ends.marks ends.some ends.part;
      };
    }

  pub list-judged : Judged x its seen E
  list-judged = elim (either (ltb (length x.tiles) (length (tiles all)))) [
    | inl e ↦ no_tile (ltb-true _ _ e)
    | inr e ↦ subst (Judged x its seen) (sym (list-is (ltb-false _ _ e))) (tile_in (ltb-false _ _ e))
  ]
