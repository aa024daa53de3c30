-- A stretch in the middle: what was taken so far, and what is still to come. Assumes nothing.
use Rattle.wire.proofs.Basics.{◌∙◌, sym, ◌≡◌, ap, refl, subst, ℕ, ◌≤◌, ◌+◌, ◌<◌, ◌-◌, suc, ◌^◌, List, [], ◌∷◌, ◌++◌, append_assoc, append-nil, Bool, ◌&&◌, inl, inr, ◌⊎◌, length, length-append, eqb}
use Rattle.wire.proofs.Basics.{eq-eqb, ne_eqb, arith}
use Rattle.wire.specs.Bytes.{Bytes}
use Rattle.wire.specs.Choice.{pick}
use Rattle.steps.specs.Answers.{Reply}
use Rattle.receiver_state.specs.View.{state_words_lem, name_bytes_lem}
use Rattle.flight_log.specs.declared.reader.Limits.{Limits}
use Rattle.flight_log.specs.declared.reader.EntryAt.{EntryAt}
use Rattle.flight_log.specs.Step.{Step}
use Rattle.flight_log.specs.Step as step
use Rattle.flight_log.specs.Editions.{limits_in_lem}
use Rattle.flight_log.specs.Said.{entry_said, read_at}
use Rattle.sorted_set.specs.Lists.{In}
use Rattle.sorted_set.proofs.Members.{in_left, in_right, in_either}
use Rattle.count_rules.specs.Run.{payload_in, payloads}
use Rattle.pit_marks.specs.declared.Sizes.{Sizes}
use Rattle.pit_marks.specs.Sets.{held_in}
use Rattle.pit_payloads.specs.Looked.{Looked}
use Rattle.pit_payloads.specs.Looked as looked
use Rattle.pit_payloads.specs.Took.{lists_in}
use Rattle.stretch.specs.Stop.{Stop}
use Rattle.stretch.specs.Stop as stop
use Rattle.stretch.specs.Stop.{Stretch}
use Rattle.stretch.specs.declared.Stretch.{Stretch as Answer}
use Rattle.stretch.specs.Told.{stop_told, stretch_told}
use Rattle.stretch.specs.Stretch.{Desk, Kit, kit_of, in_shape, Entered, enter_on, Stretched, here, before, taking, by_step, stretch, totals_of, told_on, CountsOn}
use Rattle.stretch.specs.Inside.{Ran, Few, ran, no_totals, stop_of_lem, stopped_at, TakesEntry}
use Rattle.stretch.proofs.Adds.{few}

-- ---- answers before a stretch

pub before-none : (x : Stretched) → before [] 0 x ≡ x
before-none x = let z : 0 + x.lists ≡ x.lists = omega arith in λ i. record { stop = x.stop; place = x.place; replies = x.replies; lists = z i; kit = x.kit }

pub before-both : (rs : List Reply) (n : ℕ) (ss : List Reply) (m : ℕ) (x : Stretched) → before rs n (before ss m x) ≡ before (rs ++ ss) (n + m) x
before-both rs n ss m x =
    let a : rs ++ (ss ++ x.replies) ≡ (rs ++ ss) ++ x.replies = sym (append_assoc rs ss x.replies) in
    let z : n + (m + x.lists) ≡ (n + m) + x.lists = omega arith in
    λ i. record { stop = x.stop; place = x.place; replies = a i; lists = z i; kit = x.kit }

-- the stretch that ended there
abbrev ended : Stop → ℕ → List Reply → ℕ → Kit → Stretched
ended s place rs n k = record { stop = s; place = place; replies = rs; lists = n; kit = k }

before_here : (rs : List Reply) (n : ℕ) (s : Stop) (place : ℕ) (k : Kit) → before rs n (here s place k) ≡ ended s place rs n k
before_here rs n s place k = let z : n + 0 ≡ n = omega arith in λ i. record { stop = s; place = place; replies = append-nil rs i; lists = z i; kit = k }

lists-most : (x : Looked) → lists_in x ≤ 1
lists-most looked.Other = omega arith
lists-most (looked.Listed now) = omega arith
lists-most (looked.Refused now n) = omega arith

pub payloads-both : (rs ss : List Reply) (b : List ℕ) → In b (payloads (rs ++ ss)) → In b (payloads rs) ⊎ In b (payloads ss)
payloads-both [] ss b i = inr i
payloads-both (r ∷ rs) ss b i = elim (in_either b (payload_in r) (payloads (rs ++ ss)) i) [
  | inl j ↦ inl (in_left b (payload_in r) (payloads rs) j)
  | inr j ↦ elim (payloads-both rs ss b j) [ inl k ↦ inl (in_right b (payload_in r) (payloads rs) k) | inr k ↦ inr k ]
]

-- as many words, and it is as much in shape
pub shape_same : (k k' : Desk) → length k'.lent.state ≡ length k.lent.state → length k'.lent.names ≡ length k.lent.names → in_shape k ≡ in_shape k'
shape_same k k' a b = λ i. eqb (sym a i) state_words_lem && eqb (sym b i) name_bytes_lem

-- ---- in the middle

module _ (log : List ℕ) (lim : Limits) (most place : ℕ) (k₀ : Desk) (had₀ : Sizes) where
  abbrev b : Bool
  b = in_shape k₀

  abbrev whole : Stretched
  whole = stretch b lim log most place (kit_of k₀ had₀)

  -- what was taken so far, and that the whole stretch is that and then the rest of it, with what is now lent
  pub record Going (k : Desk) (at taken : ℕ) (done : Ran) : Type 0 where
    pub replies : List Reply
    pub lists : ℕ
    pub so_far : whole ≡ before replies lists (stretch b lim log (most - taken) at (kit_of k done.sizes))
    pub totals-are : done.totals ≡ totals_of replies lists
    pub many : length replies ≡ taken
    pub fewer : lists ≤ taken
    pub handed : (x : List ℕ) → In x (payloads replies) → Bytes x
    pub words : length k.lent.state ≡ length k₀.lent.state
    pub names : length k.lent.names ≡ length k₀.lent.names
    pub still : taken ≡ 0 → k ≡ k₀

  pub going-first : (r : Ran) → r ≡ ran 0 no_totals had₀ → Going k₀ place 0 r
  going-first r q =
      let z : most - 0 ≡ most = omega arith in
      record {
        replies = [];
        lists = 0;
        so_far = sym (before-none whole) ∙ (λ i. before [] 0 (stretch b lim log (sym z i) place (kit_of k₀ (sym q i).sizes)));
        totals-are = ap (λ (x : Ran). x.totals) q;
        many = refl;
        fewer = omega arith;
        handed = λ x i. absurd i;
        words = refl;
        names = refl;
        still = λ e. refl;
      }

  module _ (own : lim ≡ limits_in_lem log) (had : Sizes) (clip : had₀ ≡ held_in k₀.book.sets had) where
    -- a stretch that ended so, and what it gave
    gives : (st : Stop) (at taken : ℕ) (rs : List Reply) (n : ℕ) (k : Desk) (r : Ran)
        → whole ≡ ended st at rs n (kit_of k r.sizes) → r.totals ≡ totals_of rs n → length rs ≡ taken → ((x : List ℕ) → In x (payloads rs) → Bytes x)
        → length k.lent.state ≡ length k₀.lent.state → length k.lent.names ≡ length k₀.lent.names → (taken ≡ 0 → k ≡ k₀)
        → CountsOn log place most k₀ had (stopped_at st at taken r) k
    gives st at taken rs n k r e f g h lw ln s =
        let v : stretch b (limits_in_lem log) log most place (kit_of k₀ (held_in k₀.book.sets had)) ≡ ended st at rs n (kit_of k r.sizes) =
        (λ i. stretch b (sym own i) log most place (kit_of k₀ (sym clip i))) ∙ e in
        record {
          gave = (λ i. record { stop = st; place = at; entries = sym g i; totals = f i; sizes = r.sizes }) ∙ ap told_on (sym v);
          shows = ap (λ (x : Stretched). x.kit) (sym v);
          words = lw;
          bytes = ln;
          still = s;
          handed = λ x i. h x (subst (λ (y : Stretched). In x (payloads y.replies)) v i);
        }

  module _ (k : Desk) (at taken : ℕ) (r₀ : Ran) (g : Going k at taken r₀) where
    abbrev K : Kit
    K = kit_of k r₀.sizes

    abbrev rs : List Reply
    rs = g.replies

    abbrev ls : ℕ
    ls = g.lists

    pub going-few : taken < most → most < 2 ^ 64 → Few r₀.totals
    going-few o q = subst Few (sym g.totals-are) (few rs ls (omega (arith, g.many)) (let f = g.fewer in omega arith))

    turn : taken < most → (x : Step) → read_at log at ≡ x → whole ≡ before rs ls (by_step b lim log at K (stretch b lim log (most - (taken + 1))) x)
    unfolding stretch
    turn o x q =
        let z : most - taken ≡ suc (most - (taken + 1)) = omega arith in
        g.so_far ∙ (ap (λ (n : ℕ). before rs ls (stretch b lim log n at K)) z ∙ ap (λ (y : Step). before rs ls (by_step b lim log at K (stretch b lim log (most - (taken + 1))) y)) q)

    module _ (own : lim ≡ limits_in_lem log) (had : Sizes) (clip : had₀ ≡ held_in k₀.book.sets had) where
      abbrev Gave : Stop → Type 0
      Gave st = CountsOn log place most k₀ had (stopped_at st at taken r₀) k

      stops : (st : Stop) → whole ≡ before rs ls (here st at K) → Gave st
      stops st e = gives own had clip st at taken rs ls k r₀ (e ∙ before_here rs ls st at K) g.totals-are g.many g.handed g.words g.names g.still

      pub all-taken : (taken < most → ⊥) → Gave stop.Taken
      unfolding stretch
      all-taken o = stops stop.Taken (g.so_far ∙ (let z : most - taken ≡ 0 = omega arith in ap (λ (n : ℕ). before rs ls (stretch b lim log n at K)) z))

      -- the log has no entry there
      pub log-stops : taken < most → (x : Step) → read_at log at ≡ x → ((e : EntryAt) → x ≡ step.Found e → ⊥) → Gave (stop_of_lem x)
      log-stops o (step.Found e) q f = absurd (f e refl)
      log-stops o step.End q f = stops stop.End (turn o step.End q)
      log-stops o (step.Refused n) q f = stops (stop.Broken n) (turn o (step.Refused n) q)

    -- ---- one entry more

    module _ (o : taken < most) (e : EntryAt) (q : read_at log at ≡ step.Found e) (r : Ran) (k' : Desk) (T : TakesEntry lim (entry_said log e) k r₀.totals r₀.sizes r k') where
      abbrev O : Entered
      O = enter_on (in_shape k) lim K (entry_said log e)

      abbrev K' : Kit
      K' = kit_of k' r.sizes

      abbrev rs' : List Reply
      rs' = rs ++ O.reply ∷ []

      abbrev ls' : ℕ
      ls' = ls + lists_in O.looked

      -- the whole stretch, with the entry taken
      took : whole ≡ before rs' ls' (pick (eqb r.fault 0) (stretch b lim log (most - (taken + 1)) e.next K') (here (stop.Refused r.fault) e.next K'))
      took =
          turn o (step.Found e) q
          ∙ (ap (λ (x : Bool). before rs ls (taking (enter_on x lim K (entry_said log e)) e.next (stretch b lim log (most - (taken + 1))))) (shape_same k₀ k g.words g.names)
          ∙ (before-both rs ls (O.reply ∷ []) (lists_in O.looked) _
          ∙ (λ i. before rs' ls' (pick (eqb (sym T.found i) 0) (stretch b lim log (most - (taken + 1)) e.next (sym T.shows i)) (here (stop.Refused (sym T.found i)) e.next (sym T.shows i))))))

      totals' : r.totals ≡ totals_of rs' ls'
      totals' = T.totals-are rs ls g.totals-are

      many' : length rs' ≡ taken + 1
      many' = length-append rs (O.reply ∷ []) ∙ ap (λ (n : ℕ). n + 1) g.many

      handed' : (x : List ℕ) → In x (payloads rs') → Bytes x
      handed' x i = elim (payloads-both rs (O.reply ∷ []) x i) [
        | inl j ↦ g.handed x j
        | inr j ↦ elim (in_either x (payload_in O.reply) [] j) [ inl n ↦ T.handed x n | inr n ↦ absurd n ]
      ]

      some : {X : Type 0} → taken + 1 ≡ 0 → X
      some e = absurd (let y : ⊥ = omega arith in y)

      pub going_more : r.fault ≡ 0 → Going k' e.next (taken + 1) r
      going_more z = record {
        replies = rs';
        lists = ls';
        so_far = took ∙ ap (λ (x : Bool). before rs' ls' (pick x (stretch b lim log (most - (taken + 1)) e.next K') (here (stop.Refused r.fault) e.next K'))) (eq-eqb _ _ z);
        totals-are = totals';
        many = many';
        fewer = (let f = g.fewer in omega (arith, lists-most O.looked));
        handed = handed';
        words = T.words ∙ g.words;
        names = T.names ∙ g.names;
        still = λ u. some u;
      }

      pub going-ends : (own : lim ≡ limits_in_lem log) (had : Sizes) (clip : had₀ ≡ held_in k₀.book.sets had) → (r.fault ≡ 0 → ⊥)
          → CountsOn log place most k₀ had (stopped_at (stop.Refused r.fault) e.next (taken + 1) r) k'
      going-ends own had clip z =
          gives own had clip (stop.Refused r.fault) e.next (taken + 1) rs' ls' k' r
          (took
          ∙ (ap (λ (x : Bool). before rs' ls' (pick x (stretch b lim log (most - (taken + 1)) e.next K') (here (stop.Refused r.fault) e.next K'))) (ne_eqb _ _ z)
          ∙ before_here rs' ls' (stop.Refused r.fault) e.next K'))
          totals' many' handed' (T.words ∙ g.words) (T.names ∙ g.names) (λ u. some u)

-- an answer that is told so
module _ {log : List ℕ} {place most : ℕ} {k : Desk} {had : Sizes} {k' : Desk} where
  as-told : {r s : Stretch} → r ≡ s → CountsOn log place most k had s k' → CountsOn log place most k had r k'
  as-told e = subst (λ (x : Stretch). CountsOn log place most k had x k') (sym e)

  pub counts-so : (x : Answer) (st : Stop) (at n : ℕ) (r : Ran) → stop_told x.stop ≡ st → x.place ≡ at → x.entries ≡ n → x.totals ≡ r.totals → x.sizes ≡ r.sizes
      → CountsOn log place most k had (stopped_at st at n r) k' → CountsOn log place most k had (stretch_told x) k'
  counts-so x st at n r p q u v w = as-told (λ i. record { stop = p i; place = q i; entries = u i; totals = v i; sizes = w i })
