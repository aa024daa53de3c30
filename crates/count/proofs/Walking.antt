-- A stretch through the count's own sets is the count's walk: what it finds, what it leaves, and what the sets hold. Assumes nothing.
use Rattle.wire.proofs.Basics.{◌∙◌, sym, ◌≡◌, ap, refl, subst, ℕ, suc, zero, List, [], ◌∷◌, append-nil, true, false, Bool, inl, length, eqb, eqb-true, arith}
use Rattle.wire.specs.Bytes.{Bytes}
use Rattle.wire.specs.Choice.{pick}
use Rattle.steps.specs.Answers.{Reply, refused_by, kept, repeat, delivered}
use Rattle.steps.specs.Runs.{World}
use Rattle.flight_log.specs.declared.reader.Limits.{Limits}
use Rattle.flight_log.specs.Step.{Step}
use Rattle.flight_log.specs.Step as step
use Rattle.flight_log.specs.Entries.{Entry}
use Rattle.flight_log.specs.Listed.{Listed, whole, broken, after}
use Rattle.flight_log.specs.Said.{entry_said, read_at, onward, read_on}
use Rattle.sorted_set.specs.Lists.{In}
use Rattle.sorted_set.proofs.Members.{in_left, in_right}
use Rattle.count_rules.specs.Marks.{PitList, list_in}
use Rattle.count_rules.specs.Run.{answer_to, payload_in, payloads, lists_read}
use Rattle.count_rules.specs.Walk.{fault_at_lem, seen_at, Held, Walked, seen_after, walk}
use Rattle.pit_marks.specs.Sets.{rooms, Has}
use Rattle.pit_payloads.specs.Took.{fault_in, lists_in, fault_over}
use Rattle.pit_payloads.specs.Inside.{Took}
use Rattle.pit_payloads.proofs.PayloadTaken.{takes}
use Rattle.stretch.specs.Stop as stop
use Rattle.stretch.specs.Stretch.{Kit, called_on, looked_at, kit_with, enter_on, Stretched, here, by_step, stretch, Clean, stop_fault, entries_of}
use Rattle.stretch.proofs.StretchAnswers.{list-long, seen-then, lists-both, clean-ok, entries-after}
use Rattle.count.specs.Inside.{own}
use Rattle.count.proofs.OwnSets.{fault-own}

-- ---- one answer

pub record HasIn (k : Kit) (seen : List PitList) : Type 0 where
  pub has : Has k.sets k.sizes seen
  pub words : rooms k.sets ≡ own

abbrev Handed : List (List ℕ) → Type 0
Handed ps = (b : List ℕ) → In b ps → Bytes b

module _ (room : ℕ) (k : Kit) (seen : List PitList) (h : HasIn k seen) (long : length k.list ≡ room) where
  took : (b : List ℕ) → Bytes b → let x = looked_at k (delivered b) in Took (length k.list) b k.sets k.sizes seen x.answer x.sets
  took b q = takes (length k.list) b k.sets k.sizes seen h.has q

  reply-fault : (y : Reply) → Handed (payload_in y) → fault_at_lem room seen y ≡ fault_in (looked_at k y).answer
  reply-fault (refused_by n) b = refl
  reply-fault kept b = refl
  reply-fault repeat b = refl
  reply-fault (delivered p) b =
      let q : Bytes p = b p (inl refl) in
      fault-own room seen p q h.has.within ∙ sym ((took p q).found ∙ (λ i. fault_over (h.words i) (long i) seen p))

  reply-has : (w : World) (y : Reply) → Handed (payload_in y) → fault_in (looked_at k y).answer ≡ 0 → HasIn (kit_with k w y (looked_at k y)) (seen_at seen y)
  reply-has w (refused_by n) b z = record { has = h.has; words = h.words }
  reply-has w kept b z = record { has = h.has; words = h.words }
  reply-has w repeat b z = record { has = h.has; words = h.words }
  reply-has w (delivered p) b z = let q : Bytes p = b p (inl refl) in record { has = (took p q).has z; words = (took p q).long ∙ h.words }

  reply-lists : (y : Reply) → Handed (payload_in y) → fault_in (looked_at k y).answer ≡ 0 → lists_in (looked_at k y).answer ≡ length (lists_read (payload_in y))
  reply-lists (refused_by n) b z = refl
  reply-lists kept b z = refl
  reply-lists repeat b z = refl
  reply-lists (delivered p) b z = (took p (b p (inl refl))).lists z ∙ ap (λ (ls : List PitList). length ls) (sym (append-nil (list_in p)))

-- ---- a stretch

abbrev pub held_of : Kit → Held
held_of k = record { world = k.world; list = k.list }

pub record Walks (x : Stretched) (v : Walked) (seen : List PitList) : Type 0 where
  pub found : v.fault ≡ stop_fault x.stop
  pub held : v.held ≡ held_of x.kit
  pub has : Clean x → HasIn x.kit (seen_after seen (payloads x.replies))
  pub lists : Clean x → x.lists ≡ length (lists_read (payloads x.replies))

module _ (l : Limits) (log : List ℕ) (room : ℕ) where
  abbrev S : ℕ → ℕ → Kit → Stretched
  S = stretch true l log

  abbrev Goes : ℕ → Type 0
  Goes m = (place : ℕ) (k : Kit) (seen : List PitList) → HasIn k seen → length k.list ≡ room → Handed (payloads (S m place k).replies) → Walks (S m place k) (walk l room seen (held_of k) (entries_of (read_on m log place))) seen

  on-fault : (m : ℕ) → Goes m → (f next : ℕ) (k : Kit) (seen : List PitList) (c : Bool) → (c ≡ true → HasIn k seen) → length k.list ≡ room
      → let x = pick c (S m next k) (here (stop.Refused f) next k) in Handed (payloads x.replies)
      → Walks x (pick c (walk l room seen (held_of k) (entries_of (read_on m log next))) (record { fault = f; held = held_of k })) seen
  on-fault m ih f next k seen true h long hb = ih next k seen (h refl) long hb
  on-fault m ih f next k seen false h long hb = record { found = refl; held = refl; has = λ q. absurd (q f refl); lists = λ q. absurd (q f refl) }

  on_step : (m : ℕ) → Goes m → (place : ℕ) (k : Kit) (seen : List PitList) → HasIn k seen → length k.list ≡ room → (x : Step)
      → let y = by_step true l log place k (S m) x in Handed (payloads y.replies) → Walks y (walk l room seen (held_of k) (entries_of (onward (read_on m log) log x))) seen
  unfolding walk enter_on called_on
  on_step m ih place k seen h long (step.Found e) hb =
      let E : Entry = entry_said log e in
      let y : Reply = answer_to l k.world E in
      let f : ℕ = fault_in (looked_at k y).answer in
      let K : Kit = (enter_on true l k E).kit in
      let X : Stretched = pick (eqb f 0) (S m e.next K) (here (stop.Refused f) e.next K) in
      let es : List Entry = entries_of (read_on m log e.next) in
      let hr : Handed (payload_in y) = λ p i. hb p (in_left p (payload_in y) _ i) in
      let rf : fault_at_lem room seen y ≡ f = reply-fault room k seen h long y hr in
      let g = on-fault m ih f e.next K (seen_at seen y) (eqb f 0) (λ u. reply-has room k seen h long K.world y hr (eqb-true _ _ u)) (list-long k.list y ∙ long) (λ p i. hb p (in_right p (payload_in y) _ i)) in
      let v : walk l room seen (held_of k) (entries_of (after E (read_on m log e.next))) ≡ pick (eqb f 0) (walk l room (seen_at seen y) (held_of K) es) (record { fault = f; held = held_of K }) =
      ap (walk l room seen (held_of k)) (entries-after E (read_on m log e.next))
      ∙ ap (λ (n : ℕ). pick (eqb n 0) (walk l room (seen_at seen y) (held_of K) es) (record { fault = n; held = held_of K })) rf in
      record {
        found = ap (λ (z : Walked). z.fault) v ∙ g.found;
        held = ap (λ (z : Walked). z.held) v ∙ g.held;
        has = λ q. subst (λ (ls : List PitList). HasIn X.kit ls) (seen-then seen y (payloads X.replies)) (g.has q);
        lists = λ q.
            let z : f ≡ 0 = eqb-true _ _ (clean-ok (eqb f 0) f e.next K (S m e.next K) q) in
            let a = reply-lists room k seen h long y hr z in
            let u = g.lists q in
            omega (arith, lists-both (payload_in y) (payloads X.replies));
      }
  on_step m ih place k seen h long step.End hb = record { found = refl; held = refl; has = λ q. h; lists = λ q. refl }
  on_step m ih place k seen h long (step.Refused j) hb = record { found = refl; held = refl; has = λ q. h; lists = λ q. refl }

  pub stretch-walks : (m : ℕ) → Goes m
  unfolding stretch walk read_on
  stretch-walks zero place k seen h long hb = record { found = refl; held = refl; has = λ q. h; lists = λ q. refl }
  stretch-walks (suc m) place k seen h long hb = on_step m (stretch-walks m) place k seen h long (read_at log place) hb

-- ---- all entries of a whole log

module _ (log : List ℕ) where
  abbrev All : ℕ → Type 0
  All k = (at : ℕ) (es : List Entry) → read_on k log at ≡ whole es → entries_of (read_on (length es) log at) ≡ es

  one_more : (k : ℕ) → All k → (e : Entry) (next : ℕ) (x : Listed) → read_on k log next ≡ x → (es : List Entry) → after e x ≡ whole es
      → (at : ℕ) → ((j : ℕ) → read_on (suc j) log at ≡ after e (read_on j log next)) → entries_of (read_on (length es) log at) ≡ es
  one_more k ih e next (whole ds) p es q at turn =
      let z : e ∷ ds ≡ es = cc in
      subst (λ (l : List Entry). entries_of (read_on (length l) log at) ≡ l) z
      (ap entries_of (turn (length ds)) ∙ (entries-after e (read_on (length ds) log next) ∙ ap (λ (l : List Entry). e ∷ l) (ih next ds p)))
  one_more k ih e next (broken ds n) p es q at turn = absurd (let z : ◌≡◌ {A = ℕ} 0 1 = cc in let y : ⊥ = omega arith in y)

  by-step : (k : ℕ) → All k → (at : ℕ) (es : List Entry) (x : Step) → read_at log at ≡ x → onward (read_on k log) log x ≡ whole es → entries_of (read_on (length es) log at) ≡ es
  unfolding read_on
  by-step k ih at es (step.Found e) p q = one_more k ih (entry_said log e) e.next (read_on k log e.next) refl es q at (λ j. ap (onward (read_on j log) log) p)
  by-step k ih at es step.End p q = let z : [] ≡ es = cc in subst (λ (l : List Entry). entries_of (read_on (length l) log at) ≡ l) z refl
  by-step k ih at es (step.Refused n) p q = absurd (let z : ◌≡◌ {A = ℕ} 0 1 = cc in let y : ⊥ = omega arith in y)

  pub as-many-entries : (k : ℕ) → All k
  unfolding read_on
  as-many-entries zero at es q = let z : [] ≡ es = cc in subst (λ (l : List Entry). entries_of (read_on (length l) log at) ≡ l) z refl
  as-many-entries (suc k) at es q = by-step k (as-many-entries k) at es (read_at log at) refl q
