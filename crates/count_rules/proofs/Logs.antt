-- The entries that keep a feed, within limits that admit its messages, deliver what the feed delivers, the first first. Assumes nothing.
use Rattle.wire.proofs.Basics.{◌∙◌, sym, ◌≡◌, ap, refl, subst, ℕ, List, [], ◌∷◌, ◌++◌, map, append-nil, inl, inr, length, arith}
use Rattle.datagram.specs.Read.{Refused}
use Rattle.steps.specs.Limits.{slot_size_of}
use Rattle.steps.specs.declared.Key.{Key}
use Rattle.steps.specs.Answers.{Reply, refused_by, kept, repeat, delivered, reply}
use Rattle.steps.specs.Runs.{World, world_of, fresh, Arrival, call, run, key_in}
use Rattle.steps.specs.Runs as runs
use Rattle.steps.specs.Receive.{After, stay}
use Rattle.steps.proofs.Reaches.{Good, step-good, opened-good}
use Rattle.arrival.specs.Demand.{Scene, EachSent, slot_bytes, Feed, start, ◌▹◌, arrival, arrivals, after, Delivery, name_in, handed_by, delivery, deliveries, push}
use Rattle.arrival.specs.Demand as demand
use Rattle.arrival.proofs.Track.{Fair}
use Rattle.flight_log.specs.declared.reader.Limits.{Limits}
use Rattle.flight_log.specs.Entries.{Entry}
use Rattle.within_limits.specs.Within.{read_within_lem}
use Rattle.within_limits.proofs.Admits.{Admitted, step_admitted, Refuses, within-refused}
use Rattle.sorted_set.specs.Lists.{In, SameMembers, total}
use Rattle.sorted_set.proofs.Members.{in_left, in_right, in_either, gather_append}
use Rattle.sorted_set.proofs.Sums.{total-append}
use Rattle.count_rules.specs.Run.{arrival_of, called, answer_to, left_by, answers, payload_in, payloads}
use Rattle.count_rules.specs.Promise.{Recorded, no_more, own, stray, Keeps, Admits, delivered_by}
use Rattle.count_rules.proofs.Admitting.{AllAdmitted, all_admitted}

-- ---- answers to arrivals

abbrev pub reply_to : World → Arrival → Reply
reply_to w x = reply x.datagram (call w x).store (call w x).answer

abbrev pub replies : World → List Arrival → List Reply
replies w [] = []
replies w (x ∷ xs) = reply_to w x ∷ replies (world_of (call w x)) xs

-- where the limits admit an entry, it hands over and leaves what its arrival does without them
record AsArrival (l : Limits) (w : World) (e : Entry) : Type 0 where
  hands : payload_in (answer_to l w e) ≡ payload_in (reply_to w (arrival_of e))
  leaves : left_by l w e ≡ world_of (call w (arrival_of e))

as-arrival : (l : Limits) (w : World) (e : Entry) → Admitted l w.machine.slot_size_lem e.datagram → AsArrival l w e
unfolding called stay
as-arrival l w e a = elim (step_admitted l w.machine w.store w.ledger e.sender e.datagram a) [
  | inl q ↦ record { hands = ap (λ (x : After). payload_in (reply e.datagram x.store x.answer)) q; leaves = ap world_of q }
  | inr b ↦ record {
    hands = ap (λ (x : After). payload_in (reply e.datagram x.store x.answer)) b.within ∙ sym (ap (λ (x : After). payload_in (reply e.datagram x.store x.answer)) b.without);
    leaves = ap world_of b.within ∙ sym (ap world_of b.without);
  }
]

-- refused within the limits, it hands over nothing and leaves all as it was
pub record Stays (l : Limits) (w : World) (e : Entry) : Type 0 where
  pub hands : payload_in (answer_to l w e) ≡ []
  pub leaves : left_by l w e ≡ w

pub stays : (l : Limits) (w : World) (e : Entry) (k : ℕ) → read_within_lem l w.machine.slot_size_lem e.datagram ≡ Refused k → Stays l w e
unfolding called stay
stays l w e k q =
    let r : Refuses l w.machine w.store w.ledger e.sender e.datagram = within-refused l w.machine w.store w.ledger e.sender e.datagram k q in
    record { hands = ap (λ (x : After). payload_in (reply e.datagram x.store x.answer)) r.is; leaves = ap world_of r.is }

-- so what is recorded delivers as the arrivals do, and strays hand over and alter nothing
payloads-are : (l : Limits) (n : ℕ) (w : World) → Good n w.machine → {xs : List Arrival} {es : List Entry} → Recorded l (slot_size_of n) xs es
    → AllAdmitted l (slot_size_of n) xs → payloads (answers l w es) ≡ payloads (replies w xs)
unfolding answers
payloads-are l n w g no_more a = refl
payloads-are l n w g (own {xs} {es} e r) a =
    let s : AsArrival l w e = as-arrival l w e (subst (λ (C : ℕ). Admitted l C e.datagram) (sym g.sized) a.0) in
    let v : World = world_of (call w (arrival_of e)) in
    let h : Good n v.machine = step-good n w.machine g w.store w.ledger e.sender e.datagram in
    ap (λ (x : World). payload_in (answer_to l w e) ++ payloads (answers l x es)) s.leaves
    ∙ (λ i. s.hands i ++ payloads-are l n v h r a.1 i)
payloads-are l n w g (stray {xs} {es} e k q r) a =
    let s : Stays l w e = stays l w e k (subst (λ (C : ℕ). read_within_lem l C e.datagram ≡ Refused k) (sym g.sized) q) in
    (λ i. s.hands i ++ payloads (answers l (s.leaves i) es)) ∙ payloads-are l n w g r a

replies-last : (w : World) (xs : List Arrival) (x : Arrival) → replies w (xs ++ x ∷ []) ≡ replies w xs ++ reply_to (runs.left_by w (run w xs)) x ∷ []
unfolding run
replies-last w [] x = refl
replies-last w (y ∷ xs) x = ap (λ (rs : List Reply). reply_to w y ∷ rs) (replies-last (world_of (call w y)) xs x)

payloads-last : (rs : List Reply) (r : Reply) → payloads (rs ++ r ∷ []) ≡ payloads rs ++ payload_in r
payloads-last rs r = gather_append payload_in rs (r ∷ []) ∙ ap (λ (l : List (List ℕ)). payloads rs ++ l) (append-nil (payload_in r))

-- ---- the other way round

abbrev pub backwards : {A : Type 0} → List A → List A
backwards [] = []
backwards (x ∷ l) = backwards l ++ x ∷ []

module _ {A : Type 0} where
  back-there : (l : List A) (x : A) → In x (backwards l) → In x l
  back-there [] x h = h
  back-there (y ∷ l) x h = elim (in_either x (backwards l) (y ∷ []) h) [ inl k ↦ inr (back-there l x k) | inr k ↦ elim k [ inl e ↦ inl e | inr z ↦ absurd z ] ]

  back-back : (l : List A) (x : A) → In x l → In x (backwards l)
  back-back [] x h = h
  back-back (y ∷ l) x (inl e) = in_right x (backwards l) (y ∷ []) (inl e)
  back-back (y ∷ l) x (inr h) = in_left x (backwards l) (y ∷ []) (back-back l x h)

  pub back_members : (l : List A) → SameMembers (backwards l) l
  back_members l = record { there = back-there l; back = back-back l }

  pub back_total : (w : A → ℕ) (l : List A) → total w (backwards l) ≡ total w l
  back_total w [] = refl
  back_total w (x ∷ l) = total-append w (backwards l) (x ∷ []) ∙ (rw (back_total w l) (omega arith))

-- ---- the payloads of deliveries

abbrev pub bytes_in : List Delivery → List (List ℕ)
bytes_in ds = map (λ (d : Delivery). d.bytes) ds

one_more : (k : Key) (name : List ℕ) (r : Reply) (ds : List Delivery) → backwards (bytes_in ds) ++ payload_in r ≡ backwards (bytes_in (push (handed_by k name r) ds))
one_more k name (refused_by n) ds = append-nil (backwards (bytes_in ds))
one_more k name kept ds = append-nil (backwards (bytes_in ds))
one_more k name repeat ds = append-nil (backwards (bytes_in ds))
one_more k name (delivered b) ds = refl

module _ (σ : Scene) where
  abbrev opening : World
  opening = fresh σ.store σ.ledger

  by-arrivals : (f : Feed) → payloads (replies opening (arrivals σ f)) ≡ backwards (bytes_in (deliveries σ f))
  unfolding deliveries delivery after
  by-arrivals start = refl
  by-arrivals (f ▹ e) =
      let r : Reply = reply_to (after σ f) (arrival σ e) in
      ap payloads (replies-last opening (arrivals σ f) (arrival σ e))
      ∙ payloads-last (replies opening (arrivals σ f)) r
      ∙ ap (λ (l : List (List ℕ)). l ++ payload_in r) (by-arrivals f)
      ∙ one_more (key_in (slot_bytes σ) (arrival σ e)) (name_in (demand.call σ (after σ f) e).name) r (deliveries σ f)

  pub by-log : (l : Limits) → Admits l σ → EachSent σ → (f : Feed) → Fair σ f → (es : List Entry) → Keeps l σ f es → delivered_by l σ es ≡ backwards (bytes_in (deliveries σ f))
  by-log l a s f w es k = payloads-are l (length σ.store) opening (opened-good (length σ.store)) k (all_admitted l σ a s f w) ∙ by-arrivals f
