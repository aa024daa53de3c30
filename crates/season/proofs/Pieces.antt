-- GOING ON IN PIECES IS GOING THROUGH AT ONCE. Assumes nothing.
use Rattle.wire.proofs.Basics.{◌∙◌, sym, ◌≡◌, ap, refl, subst, ℕ, ◌+◌, suc, zero, List, [], ◌∷◌, ◌++◌, true, false, Bool, inl, inr, length-append, eqb, arith}
use Rattle.wire.proofs.Choices.{zero-is-one}
use Rattle.wire.specs.Choice.{pick}
use Rattle.words.specs.Builds.{build}
use Rattle.steps.specs.Answers.{Reply}
use Rattle.flight_log.specs.declared.reader.Limits.{Limits}
use Rattle.flight_log.specs.Step.{Step}
use Rattle.flight_log.specs.Step as step
use Rattle.flight_log.specs.Editions.{limits_in_lem}
use Rattle.flight_log.specs.Said.{entry_said, read_at}
use Rattle.sorted_set.specs.Lists.{In}
use Rattle.count_rules.specs.Run.{is_kept, is_repeat, is_delivered, is_refused, how_many, refusals, payloads}
use Rattle.count_rules.proofs.Steps.{how_many-append}
use Rattle.pit_marks.specs.declared.Sizes.{Sizes}
use Rattle.pit_marks.specs.Sets.{held_in}
use Rattle.pit_payloads.specs.Took.{fault_in, lists_in}
use Rattle.stretch.specs.Stop as stop
use Rattle.stretch.specs.Stop.{Stretch}
use Rattle.stretch.specs.Stretch.{Desk, Kit, kit_of, in_shape, Entered, enter_on, Stretched, here, before, by_step, stretch, totals_of, told_on, stretch_of, CountsOn}
use Rattle.stretch.proofs.MidStretch.{before-none, before-both, payloads-both, shape_same}
use Rattle.season.specs.Season.{and_on, added_up, both_totals, both}
use Rattle.season.proofs.Fits.{held_fits, fits-held, stretch-fits}

module _ (b : Bool) (l : Limits) (log : List ℕ) where
  abbrev S : ℕ → ℕ → Kit → Stretched
  S = stretch b l log

  -- ---- it was stopped because it had taken so many

  module _ (m n : ℕ) (ih : (place : ℕ) (k : Kit) → (S m place k).stop ≡ stop.Taken → S (m + n) place k ≡ and_on b l log n (S m place k)) where
    by-fault : (c : Bool) (f next : ℕ) (k : Kit) → (pick c (S m next k) (here (stop.Refused f) next k)).stop ≡ stop.Taken
        → pick c (S (m + n) next k) (here (stop.Refused f) next k) ≡ and_on b l log n (pick c (S m next k) (here (stop.Refused f) next k))
    by-fault true f next k q = ih next k q
    by-fault false f next k q = zero-is-one cc

    by-step : (place : ℕ) (k : Kit) (x : Step) → (by_step b l log place k (S m) x).stop ≡ stop.Taken → by_step b l log place k (S (m + n)) x ≡ and_on b l log n (by_step b l log place k (S m) x)
    by-step place k (step.Found e) q =
        let o : Entered = enter_on b l k (entry_said log e) in
        let y : Stretched = pick (eqb (fault_in o.looked) 0) (S m e.next o.kit) (here (stop.Refused (fault_in o.looked)) e.next o.kit) in
        ap (before (o.reply ∷ []) (lists_in o.looked)) (by-fault (eqb (fault_in o.looked) 0) (fault_in o.looked) e.next o.kit q)
        ∙ before-both (o.reply ∷ []) (lists_in o.looked) y.replies y.lists (S n y.place y.kit)
    by-step place k step.End q = zero-is-one cc
    by-step place k (step.Refused j) q = zero-is-one cc

  pub pieces : (m n place : ℕ) (k : Kit) → (S m place k).stop ≡ stop.Taken → S (m + n) place k ≡ and_on b l log n (S m place k)
  unfolding stretch
  pieces zero n place k q = (let z : 0 + n ≡ n = omega arith in ap (λ (j : ℕ). S j place k) z) ∙ sym (before-none (S n place k))
  pieces (suc m) n place k q =
      (let z : suc m + n ≡ suc (m + n) = omega arith in ap (λ (j : ℕ). S j place k) z) ∙ by-step m n (λ p j u. pieces m n p j u) place k (read_at log place) q

  -- ---- or it had stopped before

  module _ (m n : ℕ) (ih : (place : ℕ) (k : Kit) → ((S m place k).stop ≡ stop.Taken → ⊥) → S (m + n) place k ≡ S m place k) where
    end-fault : (c : Bool) (f next : ℕ) (k : Kit) → ((pick c (S m next k) (here (stop.Refused f) next k)).stop ≡ stop.Taken → ⊥)
        → pick c (S (m + n) next k) (here (stop.Refused f) next k) ≡ pick c (S m next k) (here (stop.Refused f) next k)
    end-fault true f next k q = ih next k q
    end-fault false f next k q = refl

    end_step : (place : ℕ) (k : Kit) (x : Step) → ((by_step b l log place k (S m) x).stop ≡ stop.Taken → ⊥) → by_step b l log place k (S (m + n)) x ≡ by_step b l log place k (S m) x
    end_step place k (step.Found e) q =
        let o : Entered = enter_on b l k (entry_said log e) in
        ap (before (o.reply ∷ []) (lists_in o.looked)) (end-fault (eqb (fault_in o.looked) 0) (fault_in o.looked) e.next o.kit q)
    end_step place k step.End q = refl
    end_step place k (step.Refused j) q = refl

  pub pieces_end : (m n place : ℕ) (k : Kit) → ((S m place k).stop ≡ stop.Taken → ⊥) → S (m + n) place k ≡ S m place k
  unfolding stretch
  pieces_end zero n place k q = absurd (q refl)
  pieces_end (suc m) n place k q =
      (let z : suc m + n ≡ suc (m + n) = omega arith in ap (λ (j : ℕ). S j place k) z) ∙ end_step m n (λ p j u. pieces_end m n p j u) place k (read_at log place) q

-- ---- the answers add up

build-both : (n : ℕ) (f g : ℕ → ℕ) → build n (λ k. f k + g k) ≡ added_up (build n f) (build n g)
build-both zero f g = refl
build-both (suc n) f g = ap (λ (t : List ℕ). (f 0 + g 0) ∷ t) (build-both n (λ k. f (suc k)) (λ k. g (suc k)))

build-same : (n : ℕ) (f g : ℕ → ℕ) → ((k : ℕ) → f k ≡ g k) → build n f ≡ build n g
build-same zero f g e = refl
build-same (suc n) f g e = λ i. e 0 i ∷ build-same n (λ k. f (suc k)) (λ k. g (suc k)) (λ k. e (suc k)) i

pub totals-both : (rs ss : List Reply) (m n : ℕ) → totals_of (rs ++ ss) (m + n) ≡ both_totals (totals_of rs m) (totals_of ss n)
totals-both rs ss m n = λ i. record {
  kept = how_many-append is_kept rs ss i;
  repeated = how_many-append is_repeat rs ss i;
  delivered = how_many-append is_delivered rs ss i;
  refused = (build-same refusals (λ k. how_many (is_refused k) (rs ++ ss)) (λ k. how_many (is_refused k) rs + how_many (is_refused k) ss) (λ k. how_many-append (is_refused k) rs ss)
      ∙ build-both refusals (λ k. how_many (is_refused k) rs) (λ k. how_many (is_refused k) ss)) i;
  lists = m + n;
}

-- two stretches told as one
pub told-both : (X Y : Stretched) → both (told_on X) (told_on Y) ≡ told_on (before X.replies X.lists Y)
told-both X Y = λ i. record {
  stop = Y.stop;
  place = Y.place;
  entries = sym (length-append X.replies Y.replies) i;
  totals = sym (totals-both X.replies Y.replies X.lists Y.lists) i;
  sizes = Y.kit.sizes;
}

-- ---- TWO CALLS, the second from where the first stopped, with the sizes that it told, are one call

module _ (log : List ℕ) (place m n : ℕ) (k : Desk) (had : Sizes) (r : Stretch) (k' : Desk) (C : CountsOn log place m k had r k') (r'' : Stretch) (k'' : Desk) (D : CountsOn log r.place n k' r.sizes r'' k'') where
  abbrev X : Stretched
  X = stretch_of log place m k had

  abbrev Y : Stretched
  Y = stretch_of log r.place n k' r.sizes

  -- the second sets out with what the first left
  kit-is : kit_of k' (held_in k'.book.sets r.sizes) ≡ X.kit
  kit-is =
      let f = stretch-fits (in_shape k) (limits_in_lem log) log m place (kit_of k (held_in k.book.sets had)) (held_fits k.book.sets had) in
      let e : held_in X.kit.sets X.kit.sizes ≡ X.kit.sizes = fits-held X.kit.sets X.kit.sizes f in
      let c = C.shows in
      (λ i. record { world = (c i).world; list = (c i).list; sets = (c i).sets; sizes = held_in (c i).sets (c i).sizes })
      ∙ (λ i. record { world = X.kit.world; list = X.kit.list; sets = X.kit.sets; sizes = e i })

  rest-is : stretch (in_shape k) (limits_in_lem log) log n X.place X.kit ≡ Y
  rest-is = λ i. stretch (shape_same k k' C.words C.bytes i) (limits_in_lem log) log n (sym (ap (λ (x : Stretch). x.place) C.gave) i) (sym kit-is i)

  told_is : both r r'' ≡ told_on (before X.replies X.lists Y)
  told_is = (λ i. both (C.gave i) (D.gave i)) ∙ told-both X Y

  module _ (taken : r.stop ≡ stop.Taken) where
    whole_is : stretch_of log place (m + n) k had ≡ before X.replies X.lists Y
    whole_is =
        pieces (in_shape k) (limits_in_lem log) log m n place (kit_of k (held_in k.book.sets had)) (ap (λ (x : Stretch). x.stop) (sym C.gave) ∙ taken)
        ∙ ap (before X.replies X.lists) rest-is

    pub go_on : CountsOn log place (m + n) k had (both r r'') k''
    go_on = record {
      gave = told_is ∙ ap told_on (sym whole_is);
      shows = D.shows ∙ ap (λ (x : Stretched). x.kit) (sym whole_is);
      words = D.words ∙ C.words;
      bytes = D.bytes ∙ C.bytes;
      still = λ e. D.still (let z : r.entries + r''.entries ≡ 0 = e in omega arith) ∙ C.still (let z : r.entries + r''.entries ≡ 0 = e in omega arith);
      handed = λ x i. elim (payloads-both X.replies Y.replies x (subst (λ (y : Stretched). In x (payloads y.replies)) whole_is i)) [ inl u ↦ C.handed x u | inr u ↦ D.handed x u ];
    }
