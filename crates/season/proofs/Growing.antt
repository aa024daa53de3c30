-- A LOG THAT HAS GROWN: what was read of it is read again, at the same places; counted up to its end, or to an entry or a head that is cut, and on from there
-- after more was appended, it is counted as the whole. Assumes nothing.
use Rattle.wire.proofs.Basics.{◌∙◌, sym, ◌≡◌, ap, refl, subst, ℕ, ◌≤◌, ◌+◌, ◌-◌, suc, zero, List, [], ◌∷◌, ◌++◌, append_assoc, true, false, Bool, inl, inr, length, drop, length-append, length-drop}
use Rattle.wire.proofs.Basics.{eqb, arith}
use Rattle.wire.proofs.Choices.{zero-is-one}
use Rattle.wire.specs.Bytes.{Bytes}
use Rattle.wire.specs.Choice.{pick}
use Rattle.wire.specs.Taken.{Taken, taken, refused}
use Rattle.wire.proofs.Numbers.{drop-bytes}
use Rattle.flight_log.specs.Editions.{Edition, head_bytes, head_in, edition_of, limits_of, limits_or, limits_in_lem}
use Rattle.flight_log.specs.Entries.{Entry, entry_bytes}
use Rattle.flight_log.specs.Listed.{entry_in}
use Rattle.flight_log.specs.declared.reader.Limits.{Limits}
use Rattle.flight_log.specs.declared.reader.EntryAt.{EntryAt}
use Rattle.flight_log.specs.First.{First}
use Rattle.flight_log.specs.First as first
use Rattle.flight_log.specs.Step.{Step, Found, End, Refused}
use Rattle.flight_log.specs.Said.{first_of, first_in, entry_at, step_of, step_in, next_at, entry_said, from_first, read_at}
use Rattle.flight_log.proofs.LogRoundTrip.{entry-back, Back, back-entry, head-back, HeadBack, back_head}
use Rattle.flight_log.proofs.ReadingOn.{found_at}
use Rattle.sorted_set.specs.Lists.{In}
use Rattle.count_rules.specs.Run.{payloads}
use Rattle.pit_marks.specs.declared.Sizes.{Sizes}
use Rattle.pit_marks.specs.Sets.{held_in}
use Rattle.pit_payloads.specs.Took.{fault_in, lists_in}
use Rattle.stretch.specs.Stop.{Stop}
use Rattle.stretch.specs.Stop as stop
use Rattle.stretch.specs.Stop.{Stretch}
use Rattle.stretch.specs.Stretch.{Desk, Kit, kit_of, in_shape, Entered, enter_on, Stretched, here, before, taking, by_step, stretch, Clean, told_on, stretch_of, CountsOn}
use Rattle.stretch.proofs.MidStretch.{before-none, before-both, payloads-both, shape_same}
use Rattle.season.specs.Season.{both, Begun, from_first_lem, past_head, LogGrows}
use Rattle.season.proofs.Fits.{held_fits, fits-held, stretch-fits}
use Rattle.season.proofs.Pieces.{told-both}

drop_more : (n : ℕ) (b m : List ℕ) → n ≤ length b → drop n (b ++ m) ≡ drop n b ++ m
drop_more zero b m h = refl
drop_more (suc n) [] m h = absurd (let y : ⊥ = omega arith in y)
drop_more (suc n) (x ∷ b) m h = drop_more n b m (omega arith)

-- ---- an entry, and the head, with more behind them

pub entry_more : (b m : List ℕ) → Bytes b → (e : Entry) (c : List ℕ) → entry_in b ≡ taken e c → entry_in (b ++ m) ≡ taken e (c ++ m)
entry_more b m h e c q =
    let k : Back b e c = back-entry b h e c q in
    ap (λ (l : List ℕ). entry_in (l ++ m)) (sym k.wrote) ∙ (ap entry_in (append_assoc (entry_bytes e) c m) ∙ entry-back e k.keeps (c ++ m))

pub head_more : (b m : List ℕ) → Bytes b → (v : Edition) (c : List ℕ) → head_in b ≡ taken v c → head_in (b ++ m) ≡ taken v (c ++ m)
head_more b m h v c q =
    let k : HeadBack b v c = back_head b h v c q in
    ap (λ (l : List ℕ). head_in (l ++ m)) (sym k.wrote) ∙ (ap head_in (append_assoc (head_bytes v) c m) ∙ head-back v k.lawful (c ++ m))

module _ (log m : List ℕ) (h : Bytes log) (g : Bytes (log ++ m)) where
  same_place : (c : List ℕ) → length (log ++ m) - length (c ++ m) ≡ length log - length c
  same_place c = omega (arith, length-append log m, length-append c m)

  -- ---- the entry at a place

  same_at : (d : Entry) (c : List ℕ) → entry_at (log ++ m) d (c ++ m) ≡ entry_at log d c
  same_at d c = λ i. record { sender = d.sender; tick = d.tick; at = same_place c i - length d.datagram; len = length d.datagram; next = same_place c i }

  -- read again, and it is the same entry
  pub record Again (at : ℕ) (e : EntryAt) : Type 0 where
    pub read : next_at (log ++ m) at ≡ Found e
    pub said : entry_said (log ++ m) e ≡ entry_said log e

  pub next_more : (at : ℕ) (e : EntryAt) → next_at log at ≡ Found e → Again at e
  unfolding next_at
  next_more at e q = by-rest (drop at log) refl q
    where
      by-taken : (x : ℕ) (b : List ℕ) → drop at log ≡ x ∷ b → (t : Taken Entry) → entry_in (x ∷ b) ≡ t → step_of log t ≡ Found e → Again at e
      by-taken x b p (taken d c) u v =
          let w : entry_at log d c ≡ e = cc in
          let l : length (drop at log) ≡ length log - at = length-drop at log in
          let k : length (drop at log) ≡ suc (length b) = ap (λ (z : List ℕ). length z) p in
          let o : at ≤ length log = omega arith in
          let j : drop at (log ++ m) ≡ (x ∷ b) ++ m = drop_more at log m o ∙ ap (λ (z : List ℕ). z ++ m) p in
          let f : entry_in ((x ∷ b) ++ m) ≡ taken d (c ++ m) = entry_more (x ∷ b) m (subst Bytes p (drop-bytes log at h)) d c u in
          let r : entry_at (log ++ m) d (c ++ m) ≡ e = same_at d c ∙ w in
          record {
            read = ap (step_in (log ++ m)) j ∙ (ap (step_of (log ++ m)) f ∙ ap Found r);
            said =
                ap (entry_said (log ++ m)) (sym r)
                ∙ ((found_at (log ++ m) g at d (c ++ m) (ap entry_in j ∙ f)).said ∙ (sym (found_at log h at d c (ap entry_in p ∙ u)).said ∙ ap (entry_said log) w));
          }
      by-taken x b p (refused n) u v = zero-is-one cc

      by-rest : (b : List ℕ) → drop at log ≡ b → step_in log b ≡ Found e → Again at e
      by-rest [] p v = zero-is-one cc
      by-rest (x ∷ b) p v = by-taken x b p (entry_in (x ∷ b)) refl v

  -- ---- from the open reader on, where the head is accepted

  module _ (v : Edition) (c : List ℕ) (q : head_in log ≡ taken v c) where
    pub limits-more : limits_in_lem (log ++ m) ≡ limits_in_lem log
    limits-more = ap (λ (t : Taken Edition). limits_or (edition_of t)) (head_more log m h v c q) ∙ sym (ap (λ (t : Taken Edition). limits_or (edition_of t)) q)

    first_more : first_in (log ++ m) ≡ first_in log
    first_more = ap (first_of (log ++ m)) (head_more log m h v c q) ∙ ((λ i. first.At (same_place c i) (limits_of v)) ∙ sym (ap (first_of log) q))

    pub record AgainAt (at : ℕ) (e : EntryAt) : Type 0 where
      pub read : read_at (log ++ m) at ≡ Found e
      pub said : entry_said (log ++ m) e ≡ entry_said log e

    pub read_more : (at : ℕ) (e : EntryAt) → read_at log at ≡ Found e → AgainAt at e
    unfolding read_at
    read_more at e r = by (eqb at 0) refl r
      where
        by_first : (f : First) → first_in log ≡ f → from_first log f ≡ Found e → (from_first (log ++ m) (first_in (log ++ m)) ≡ Found e) × (entry_said (log ++ m) e ≡ entry_said log e)
        by_first (first.At a l) p u = let k : Again a e = next_more a e u in (ap (from_first (log ++ m)) (first_more ∙ p) ∙ k.read, k.said)
        by_first (first.Refused n) p u = zero-is-one cc

        by : (b : Bool) → eqb at 0 ≡ b → pick b (from_first log (first_in log)) (next_at log at) ≡ Found e → AgainAt at e
        by true o u = let k = by_first (first_in log) refl u in record { read = ap (λ (x : Bool). pick x (from_first (log ++ m) (first_in (log ++ m))) (next_at (log ++ m) at)) o ∙ k.0; said = k.1 }
        by false o u = let k : Again at e = next_more at e u in record { read = ap (λ (x : Bool). pick x (from_first (log ++ m) (first_in (log ++ m))) (next_at (log ++ m) at)) o ∙ k.read; said = k.said }

    -- ---- a stretch against which nothing stood, and on from where it stopped

    module _ (b : Bool) (l : Limits) where
      abbrev S : ℕ → ℕ → Kit → Stretched
      S = stretch b l log

      abbrev G : ℕ → ℕ → Kit → Stretched
      G = stretch b l (log ++ m)

      abbrev Grows : ℕ → Stretched → ℕ → ℕ → Kit → Type 0
      Grows j x n place k = G (length x.replies + j) place k ≡ before x.replies x.lists (G j x.place x.kit)

      -- where nothing was taken
      idle : (j place : ℕ) (k : Kit) → G (0 + j) place k ≡ before [] 0 (G j place k)
      idle j place k = (let z : 0 + j ≡ j = omega arith in ap (λ (i : ℕ). G i place k) z) ∙ sym (before-none (G j place k))

      grown-fault : (n j : ℕ) → ((place : ℕ) (k : Kit) → Clean (S n place k) → Grows j (S n place k) n place k) → (o : Entered) (next : ℕ) (c : Bool) → eqb (fault_in o.looked) 0 ≡ c
          → let x = pick c (S n next o.kit) (here (stop.Refused (fault_in o.looked)) next o.kit) in Clean x
          → taking o next (G (length x.replies + j)) ≡ before (o.reply ∷ x.replies) (lists_in o.looked + x.lists) (G j x.place x.kit)
      grown-fault n j ih o next true e u =
          let x : Stretched = S n next o.kit in
          ap (λ (c : Bool). before (o.reply ∷ []) (lists_in o.looked) (pick c (G (length x.replies + j) next o.kit) (here (stop.Refused (fault_in o.looked)) next o.kit))) e
          ∙ (ap (before (o.reply ∷ []) (lists_in o.looked)) (ih next o.kit u) ∙ before-both (o.reply ∷ []) (lists_in o.looked) x.replies x.lists (G j x.place x.kit))
      grown-fault n j ih o next false e u = absurd (u (fault_in o.looked) refl)

      grown-step : (n j : ℕ) → ((place : ℕ) (k : Kit) → Clean (S n place k) → Grows j (S n place k) n place k) → (place : ℕ) (k : Kit) (x : Step) → read_at log place ≡ x
          → let y = by_step b l log place k (S n) x in Clean y → Grows j y n place k
      unfolding stretch
      grown-step n j ih place k (Found e) p u =
          let A : AgainAt place e = read_more place e p in
          let o : Entered = enter_on b l k (entry_said log e) in
          let x : Stretched = pick (eqb (fault_in o.looked) 0) (S n e.next o.kit) (here (stop.Refused (fault_in o.looked)) e.next o.kit) in
          let z : suc (length x.replies) + j ≡ suc (length x.replies + j) = omega arith in
          ap (λ (i : ℕ). G i place k) z
          ∙ (ap (by_step b l (log ++ m) place k (G (length x.replies + j))) A.read
          ∙ (ap (λ (d : Entry). taking (enter_on b l k d) e.next (G (length x.replies + j))) A.said ∙ grown-fault n j ih o e.next (eqb (fault_in o.looked) 0) refl u))
      grown-step n j ih place k End p u = idle j place k
      grown-step n j ih place k (Refused i) p u = idle j place k

      pub grown : (n j place : ℕ) (k : Kit) → Clean (S n place k) → Grows j (S n place k) n place k
      unfolding stretch
      grown zero j place k u = idle j place k
      grown (suc n) j place k u = grown-step n j (λ p i w. grown n j p i w) place k (read_at log place) refl u

  -- ---- from the first byte on, where the head is cut: nothing is taken

  module _ (i : ℕ) (q : head_in log ≡ refused i) (b : Bool) (l : Limits) where
    record Idle (n : ℕ) (k : Kit) : Type 0 where
      why : Stop
      stays : stretch b l log n 0 k ≡ here why 0 k

    no-head : (n : ℕ) (k : Kit) → Idle n k
    unfolding stretch read_at
    no-head zero k = record { why = stop.Taken; stays = refl }
    no-head (suc n) k = record { why = stop.Broken i; stays = ap (by_step b l log 0 k (stretch b l log n)) (ap (from_first log) (ap (first_of log) q)) }

-- ---- TWO CALLS: the second from where the first stopped, in the log that has grown

module _ (log m : List ℕ) (h : Bytes log) (g : Bytes (log ++ m)) (place n j : ℕ) (k : Desk) (had : Sizes) (r : Stretch) (k' : Desk) (C : CountsOn log place n k had r k')
    (r'' : Stretch) (k'' : Desk) (D : CountsOn (log ++ m) r.place j k' r.sizes r'' k'') where
  abbrev X : Stretched
  X = stretch_of log place n k had

  abbrev Y : Stretched
  Y = stretch_of (log ++ m) r.place j k' r.sizes

  abbrev K : Kit
  K = kit_of k (held_in k.book.sets had)

  kit-is : kit_of k' (held_in k'.book.sets r.sizes) ≡ X.kit
  kit-is =
      let f = stretch-fits (in_shape k) (limits_in_lem log) log n place K (held_fits k.book.sets had) in
      let e : held_in X.kit.sets X.kit.sizes ≡ X.kit.sizes = fits-held X.kit.sets X.kit.sizes f in
      let s = C.shows in
      (λ i. record { world = (s i).world; list = (s i).list; sets = (s i).sets; sizes = held_in (s i).sets (s i).sizes })
      ∙ (λ i. record { world = X.kit.world; list = X.kit.list; sets = X.kit.sets; sizes = e i })

  -- with the limits of the grown log
  rest-is : stretch (in_shape k) (limits_in_lem (log ++ m)) (log ++ m) j X.place X.kit ≡ Y
  rest-is = λ i. stretch (shape_same k k' C.words C.bytes i) (limits_in_lem (log ++ m)) (log ++ m) j (sym (ap (λ (x : Stretch). x.place) C.gave) i) (sym kit-is i)

  abbrev Whole : Type 0
  Whole = stretch_of (log ++ m) place (r.entries + j) k had ≡ before X.replies X.lists Y

  headed : (v : Edition) (c : List ℕ) → head_in log ≡ taken v c → Clean X → Whole
  headed v c q u =
      (λ i. stretch (in_shape k) (limits-more log m h g v c q i) (log ++ m) (ap (λ (x : Stretch). x.entries) C.gave i + j) place K)
      ∙ (grown log m h g v c q (in_shape k) (limits_in_lem log) n j place K u
      ∙ (ap (λ (l : Limits). before X.replies X.lists (stretch (in_shape k) l (log ++ m) j X.place X.kit)) (sym (limits-more log m h g v c q)) ∙ ap (before X.replies X.lists) rest-is))

  headless : (i : ℕ) → head_in log ≡ refused i → place ≡ 0 → Whole
  headless i q z =
      let I : Idle log m h g i q (in_shape k) (limits_in_lem log) n K = no-head log m h g i q (in_shape k) (limits_in_lem log) n K in
      let e : X ≡ here I.why place K = (λ i. stretch (in_shape k) (limits_in_lem log) log n (z i) K) ∙ (I.stays ∙ ap (λ (p : ℕ). here I.why p K) (sym z)) in
      let t : r.entries + j ≡ j = (let a : r.entries ≡ 0 = ap (λ (x : Stretch). x.entries) C.gave ∙ ap (λ (x : Stretched). length x.replies) e in omega arith) in
      (λ i. stretch (in_shape k) (limits_in_lem (log ++ m)) (log ++ m) (t i) (sym (ap (λ (x : Stretched). x.place) e) i) (sym (ap (λ (x : Stretched). x.kit) e) i))
      ∙ (rest-is ∙ (sym (before-none Y) ∙ ap (λ (x : Stretched). before x.replies x.lists Y) (sym e)))

  whole_is : Begun log place → Clean X → Whole
  whole_is (past_head v c q) u = headed v c q u
  whole_is (from_first_lem z) u = go (head_in log) refl
    where
      go : (t : Taken Edition) → head_in log ≡ t → Whole
      go (taken v c) q = headed v c q u
      go (refused i) q = headless i q z

  one-call : Whole → CountsOn (log ++ m) place (r.entries + j) k had (both r r'') k''
  one-call w = record {
    gave = (λ i. both (C.gave i) (D.gave i)) ∙ (told-both X Y ∙ ap told_on (sym w));
    shows = D.shows ∙ ap (λ (x : Stretched). x.kit) (sym w);
    words = D.words ∙ C.words;
    bytes = D.bytes ∙ C.bytes;
    still = λ e. D.still (let z : r.entries + r''.entries ≡ 0 = e in omega arith) ∙ C.still (let z : r.entries + r''.entries ≡ 0 = e in omega arith);
    handed = λ x i. elim (payloads-both X.replies Y.replies x (subst (λ (y : Stretched). In x (payloads y.replies)) w i)) [ inl u ↦ C.handed x u | inr u ↦ D.handed x u ];
  }

pub log_grows : LogGrows
log_grows log m h g place n j b k had r k' C u r'' k'' D =
    one-call log m h g place n j k had r k' C r'' k'' D (whole_is log m h g place n j k had r k' C r'' k'' D b (λ i e. u i (ap (λ (x : Stretch). x.stop) C.gave ∙ e)))
