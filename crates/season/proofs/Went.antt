-- WHAT A STRETCH LEAVES IN SETS THAT HOLD WHAT WAS SEEN, in however many words; and exactly when 13, 60 and 61 come. Assumes nothing.
use Rattle.wire.proofs.Basics.{◌∙◌, sym, ◌≡◌, ap, refl, subst, ℕ, suc, zero, List, [], ◌∷◌, ◌++◌, append_assoc, append-nil, true, false, Bool, inl, inr, length, eqb, eqb-true, arith}
use Rattle.wire.specs.Choice.{pick}
use Rattle.steps.specs.Answers.{Reply, refused_by, kept, repeat, delivered}
use Rattle.steps.specs.Runs.{World}
use Rattle.flight_log.specs.declared.reader.Limits.{Limits}
use Rattle.flight_log.specs.Step.{Step}
use Rattle.flight_log.specs.Step as step
use Rattle.flight_log.specs.Said.{entry_said, read_at}
use Rattle.sorted_set.specs.Lists.{In}
use Rattle.sorted_set.proofs.Members.{in_left, in_right, in_either}
use Rattle.count_rules.specs.Marks.{PitList, list_in}
use Rattle.count_rules.specs.Run.{payload_in, payloads, lists_read}
use Rattle.count_rules.specs.Walk.{seen_at, seen_after}
use Rattle.pit_marks.specs.declared.Sizes.{Sizes}
use Rattle.pit_marks.specs.Sets.{Sets, rooms, Has, PartOf, Partly}
use Rattle.pit_payloads.specs.Took.{fault_in, lists_in, fault_over}
use Rattle.pit_payloads.specs.Inside.{Took}
use Rattle.pit_payloads.proofs.PayloadTaken.{takes}
use Rattle.stretch.specs.Stop.{Stop}
use Rattle.stretch.specs.Stop as stop
use Rattle.stretch.specs.Stretch.{Kit, looked_at, kit_with, Entered, enter_on, Stretched, here, before, by_step, stretch, Clean, stop_fault}
use Rattle.stretch.proofs.StretchAnswers.{list-long, seen-then, lists-both}
use Rattle.season.specs.Season.{Handed, first_over}

-- ---- parts of lists

into : {m : PitList} {ls ms : List PitList} → ((x : PitList) → In x ls → In x ms) → PartOf m ls → PartOf m ms
into f p = record { whole = p.whole; among = f p.whole p.among; its-tile = p.its-tile; its-marks = p.its-marks }

itself : (m : PitList) (ls : List PitList) → In m ls → PartOf m ls
itself m ls i = record { whole = m; among = i; its-tile = refl; its-marks = λ x j. record { mark = x; among = j; its-pit = refl; as-sure = λ e. e } }

widen : {x : Sets} {had : Sizes} {ls ms seen : List PitList} → ((y : PitList) → In y ls → In y ms) → Partly x had ls seen → Partly x had ms seen
widen f p = record { lists = p.lists; parts = λ m i. into f (p.parts m i); has = p.has }

-- ---- one answer

-- what stands against it
abbrev reply_over : Sizes → ℕ → List PitList → Reply → ℕ
reply_over words room seen (refused_by n) = 0
reply_over words room seen kept = 0
reply_over words room seen repeat = 0
reply_over words room seen (delivered b) = fault_over words room seen b

over-then : (words : Sizes) (room : ℕ) (seen : List PitList) (y : Reply) (ps : List (List ℕ))
    → pick (eqb (reply_over words room seen y) 0) (first_over words room (seen_at seen y) ps) (reply_over words room seen y) ≡ first_over words room seen (payload_in y ++ ps)
unfolding first_over
over-then words room seen (refused_by n) ps = refl
over-then words room seen kept ps = refl
over-then words room seen repeat ps = refl
over-then words room seen (delivered b) ps = refl

seen-at : (seen : List PitList) (y : Reply) → seen_at seen y ≡ lists_read (payload_in y) ++ seen
seen-at seen (refused_by n) = refl
seen-at seen kept = refl
seen-at seen repeat = refl
seen-at seen (delivered b) = ap (λ (ls : List PitList). ls ++ seen) (sym (append-nil (list_in b)))

module _ (k : Kit) (w : World) (seen : List PitList) (h : Has k.sets k.sizes seen) where
  abbrev After : Reply → Kit
  After y = kit_with k w y (looked_at k y)

  record Answered (y : Reply) : Type 0 where
    found : fault_in (looked_at k y).answer ≡ reply_over (rooms k.sets) (length k.list) seen y
    long : rooms (After y).sets ≡ rooms k.sets
    has : fault_in (looked_at k y).answer ≡ 0 → Has (After y).sets (After y).sizes (seen_at seen y)
    lists : fault_in (looked_at k y).answer ≡ 0 → lists_in (looked_at k y).answer ≡ length (lists_read (payload_in y))
    part : Partly (After y).sets (After y).sizes (lists_read (payload_in y)) seen

  nothing-of : Partly k.sets k.sizes [] seen
  nothing-of = record { lists = []; parts = λ m i. absurd i; has = h }

  answered : (y : Reply) → Handed (payload_in y) → Answered y
  answered (refused_by n) b = record { found = refl; long = refl; has = λ z. h; lists = λ z. refl; part = nothing-of }
  answered kept b = record { found = refl; long = refl; has = λ z. h; lists = λ z. refl; part = nothing-of }
  answered repeat b = record { found = refl; long = refl; has = λ z. h; lists = λ z. refl; part = nothing-of }
  answered (delivered p) b =
      let t : Took (length k.list) p k.sets k.sizes seen (looked_at k (delivered p)).answer (looked_at k (delivered p)).sets = takes (length k.list) p k.sets k.sizes seen h (b p (inl refl)) in
      record {
        found = t.found;
        long = t.long;
        has = t.has;
        lists = λ z. t.lists z ∙ ap (λ (ls : List PitList). length ls) (sym (append-nil (list_in p)));
        part = widen (λ y i. in_left y (list_in p) [] i) t.still;
      }

-- ---- a stretch

pub record Went (k : Kit) (seen : List PitList) (x : Stretched) : Type 0 where
  pub long : rooms x.kit.sets ≡ rooms k.sets
  -- nothing stood against it: the sets hold what was seen and the lists read
  pub has : Clean x → Has x.kit.sets x.kit.sizes (seen_after seen (payloads x.replies))
  pub lists : Clean x → x.lists ≡ length (lists_read (payloads x.replies))
  -- refused or not: what was seen, and parts of the lists read
  pub part : Partly x.kit.sets x.kit.sizes (lists_read (payloads x.replies)) seen
  -- what stood against it is the first that stands against a payload
  pub stops : stop_fault x.stop ≡ first_over (rooms k.sets) (length k.list) seen (payloads x.replies)

lists_in_lem : (ps qs : List (List ℕ)) (x : PitList) → In x (lists_read ps) → In x (lists_read (ps ++ qs))
lists_in_lem [] qs x i = absurd i
lists_in_lem (p ∷ ps) qs x i = elim (in_either x (list_in p) (lists_read ps) i) [ inl j ↦ in_left x (list_in p) (lists_read (ps ++ qs)) j | inr j ↦ in_right x (list_in p) (lists_read (ps ++ qs)) (lists_in_lem ps qs x j) ]

lists-behind : (ps qs : List (List ℕ)) (x : PitList) → In x (lists_read qs) → In x (lists_read (ps ++ qs))
lists-behind [] qs x i = i
lists-behind (p ∷ ps) qs x i = in_right x (list_in p) (lists_read (ps ++ qs)) (lists-behind ps qs x i)

-- with the answer's lists before
part_then : (y : Reply) (seen : List PitList) (x : Sets) (had : Sizes) (ps : List (List ℕ)) → Partly x had (lists_read ps) (seen_at seen y) → Partly x had (lists_read (payload_in y ++ ps)) seen
part_then y seen x had ps p = record {
  lists = p.lists ++ lists_read (payload_in y);
  parts = λ m i. elim (in_either m p.lists (lists_read (payload_in y)) i) [
    | inl j ↦ into (lists-behind (payload_in y) ps) (p.parts m j)
    | inr j ↦ itself m (lists_read (payload_in y ++ ps)) (lists_in_lem (payload_in y) ps m j)
  ];
  has = subst (Has x had) (ap (λ (ls : List PitList). p.lists ++ ls) (seen-at seen y) ∙ sym (append_assoc p.lists (lists_read (payload_in y)) seen)) p.has;
}

nothing-went : (k : Kit) (seen : List PitList) → Has k.sets k.sizes seen → (s : Stop) (place : ℕ) → stop_fault s ≡ 0 → Went k seen (here s place k)
unfolding first_over
nothing-went k seen h s place e = record { long = refl; has = λ q. h; lists = λ q. refl; part = record { lists = []; parts = λ m i. absurd i; has = h }; stops = e }

module _ (b : Bool) (l : Limits) (log : List ℕ) where
  abbrev S : ℕ → ℕ → Kit → Stretched
  S = stretch b l log

  abbrev Goes : ℕ → Type 0
  Goes m = (place : ℕ) (k : Kit) (seen : List PitList) → Has k.sets k.sizes seen → Handed (payloads (S m place k).replies) → Went k seen (S m place k)

  -- an entry that was answered y, and what follows: the rest, or that it is refused by f
  on-fault : (m : ℕ) → Goes m → (k : Kit) (w : World) (seen : List PitList) (h : Has k.sets k.sizes seen) (y : Reply) → Answered k w seen h y → (next : ℕ) (c : Bool)
      → let f = fault_in (looked_at k y).answer in let K = kit_with k w y (looked_at k y) in eqb f 0 ≡ c
      → let x = pick c (S m next K) (here (stop.Refused f) next K) in Handed (payloads x.replies) → Went k seen (before (y ∷ []) (lists_in (looked_at k y).answer) x)
  unfolding first_over
  on-fault m ih k w seen h y a next true e hb =
      let f : ℕ = fault_in (looked_at k y).answer in
      let K : Kit = kit_with k w y (looked_at k y) in
      let z : f ≡ 0 = eqb-true f 0 e in
      let x : Stretched = S m next K in
      let g : Went K (seen_at seen y) x = ih next K (seen_at seen y) (a.has z) hb in
      let ps : List (List ℕ) = payloads x.replies in
      let o : reply_over (rooms k.sets) (length k.list) seen y ≡ 0 = sym a.found ∙ z in
      record {
        long = g.long ∙ a.long;
        has = λ q. subst (Has x.kit.sets x.kit.sizes) (seen-then seen y ps) (g.has q);
        lists = λ q. (let i = a.lists z in let j = g.lists q in omega (arith, lists-both (payload_in y) ps));
        part = part_then y seen x.kit.sets x.kit.sizes ps g.part;
        stops =
            g.stops
            ∙ ((λ i. first_over (a.long i) (list-long k.list y i) (seen_at seen y) ps)
            ∙ (sym (ap (λ (n : ℕ). pick (eqb n 0) (first_over (rooms k.sets) (length k.list) (seen_at seen y) ps) n) o) ∙ over-then (rooms k.sets) (length k.list) seen y ps));
      }
  on-fault m ih k w seen h y a next false e hb =
      let f : ℕ = fault_in (looked_at k y).answer in
      record {
        long = a.long;
        has = λ q. absurd (q f refl);
        lists = λ q. absurd (q f refl);
        part = widen (lists_in_lem (payload_in y) []) a.part;
        stops =
            sym (ap (λ (c : Bool). pick c (first_over (rooms k.sets) (length k.list) (seen_at seen y) []) f) e)
            ∙ (ap (λ (n : ℕ). pick (eqb n 0) (first_over (rooms k.sets) (length k.list) (seen_at seen y) []) n) a.found ∙ over-then (rooms k.sets) (length k.list) seen y []);
      }

  on_step : (m : ℕ) → Goes m → (place : ℕ) (k : Kit) (seen : List PitList) → Has k.sets k.sizes seen → (x : Step) → let y = by_step b l log place k (S m) x in Handed (payloads y.replies) → Went k seen y
  unfolding enter_on
  on_step m ih place k seen h (step.Found e) hb =
      let o : Entered = enter_on b l k (entry_said log e) in
      let hr : Handed (payload_in o.reply) = λ p i. hb p (in_left p (payload_in o.reply) _ i) in
      on-fault m ih k o.kit.world seen h o.reply (answered k o.kit.world seen h o.reply hr) e.next (eqb (fault_in o.looked) 0) refl (λ p i. hb p (in_right p (payload_in o.reply) _ i))
  on_step m ih place k seen h step.End hb = nothing-went k seen h stop.End place refl
  on_step m ih place k seen h (step.Refused n) hb = nothing-went k seen h (stop.Broken n) place refl

  pub stretch-went : (m : ℕ) → Goes m
  unfolding stretch
  stretch-went zero place k seen h hb = nothing-went k seen h stop.Taken place refl
  stretch-went (suc m) place k seen h hb = on_step m (stretch-went m) place k seen h (read_at log place) hb
