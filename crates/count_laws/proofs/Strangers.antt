-- EVERY MESSAGE THAT L12 PROMISES IS DELIVERED FROM A LOG too, whatever else stands in it. Assumes nothing.
use Rattle.wire.proofs.Basics.{◌∙◌, sym, ◌≡◌, ap, refl, subst, ℕ, List, [], ◌∷◌, ◌++◌, append_assoc, true, inl, inr, some, length, arith}
use Rattle.wire.specs.Choice.{pick}
use Rattle.datagram.specs.declared.Header.{Header}
use Rattle.datagram.specs.Read.{Read, Good, Refused}
use Rattle.steps.specs.Limits.{slot_size_of}
use Rattle.steps.specs.declared.Key.{Key}
use Rattle.steps.specs.Answers.{Reply, refused_by, kept, repeat, delivered, reply}
use Rattle.steps.specs.Runs.{World, world_of, fresh, Arrival, call, run, key_in}
use Rattle.steps.specs.Runs as runs
use Rattle.steps.proofs.Reaches.{opened-good}
use Rattle.steps.proofs.Reaches as reaches
use Rattle.arrival.specs.Demand.{Message, Delivery, name_in, handed_by}
use Rattle.arrival.specs.Strangers.{Start, Feed, begun, ◌▹◌, comes, part, after, complete, its, hands_over, Promised}
use Rattle.arrival.proofs.Strangers.{strangers}
use Rattle.flight_log.specs.declared.reader.Limits.{Limits}
use Rattle.flight_log.specs.Editions.{limits_in_lem}
use Rattle.flight_log.specs.Entries.{Entry}
use Rattle.within_limits.specs.Within.{read_within_lem}
use Rattle.within_limits.proofs.Withins as within
use Rattle.sorted_set.specs.Lists.{In}
use Rattle.sorted_set.proofs.Members.{in_left, in_right}
use Rattle.count_rules.specs.Run.{arrival_of, called, answer_to, left_by, answers, payload_in, payloads}
use Rattle.count_laws.specs.Every.{is_refusal, let_through, fed, start_in, Completed, StrangersDelivered, StrangersCounted}
use Rattle.count_laws.proofs.Every.{in-delivers}
use Rattle.count_rules.proofs.Logs.{stays, Stays, replies, reply_to}

-- ---- what a log's entries deliver is what the arrivals do that its limits let through

as-arrival : (l : Limits) (w : World) (e : Entry) (h : Header) → read_within_lem l w.machine.slot_size_lem e.datagram ≡ Good h → called l w e ≡ call w (arrival_of e)
unfolding called
as-arrival l w e h q = within.step-good l w.machine w.store w.ledger e.sender e.datagram h q

module _ (l : Limits) (n : ℕ) where
  abbrev C : ℕ
  C = slot_size_of n

  abbrev Through : World → List Entry → Type 0
  Through w es = payloads (answers l w es) ≡ payloads (replies w (let_through l C es))

  abbrev choice : World → Entry → List Entry → Read → List (List ℕ)
  choice w e es x = payloads (replies w (pick (is_refusal x) (let_through l C es) (arrival_of e ∷ let_through l C es)))

  one-through : (w : World) → reaches.Good n w.machine → (e : Entry) (es : List Entry) → Through w es → Through (world_of (call w (arrival_of e))) es → (x : Read)
      → read_within_lem l w.machine.slot_size_lem e.datagram ≡ x → payload_in (answer_to l w e) ++ payloads (answers l (left_by l w e) es) ≡ choice w e es x
  one-through w g e es a b (Refused k) q = (let s : Stays l w e = stays l w e k q in (λ i. s.hands i ++ payloads (answers l (s.leaves i) es)) ∙ a)
  one-through w g e es a b (Good h) q =
      let c : called l w e ≡ call w (arrival_of e) = as-arrival l w e h q in
      (λ i. payload_in (reply e.datagram (c i).store (c i).answer) ++ payloads (answers l (world_of (c i)) es)) ∙ ap (λ (ps : List (List ℕ)). payload_in (reply_to w (arrival_of e)) ++ ps) b

  through : (w : World) → reaches.Good n w.machine → (es : List Entry) → Through w es
  unfolding answers
  through w g [] = refl
  through w g (e ∷ es) =
      let r : Read = read_within_lem l w.machine.slot_size_lem e.datagram in
      let v : World = world_of (call w (arrival_of e)) in
      one-through w g e es (through w g es) (through v (reaches.step-good n w.machine g w.store w.ledger e.sender e.datagram) es) r refl
      ∙ ap (λ (c : ℕ). choice w e es (read_within_lem l c e.datagram)) g.sized

-- ---- L12's feed is a run of arrivals

abbrev world_after : World → List Arrival → World
world_after w xs = runs.left_by w (run w xs)

handed_in : (w : World) (earlier : List Arrival) (x : Arrival) (later : List Arrival) (b : List ℕ) → reply_to (world_after w earlier) x ≡ delivered b
    → In b (payloads (replies w (earlier ++ x ∷ later)))
unfolding run
handed_in w [] x later b q = in_left b (payload_in (reply_to w x)) (payloads (replies (world_of (call w x)) later)) (subst (λ (y : Reply). In b (payload_in y)) (sym q) (inl refl))
handed_in w (y ∷ earlier) x later b q =
    in_right b (payload_in (reply_to w y)) (payloads (replies (world_of (call w y)) (earlier ++ x ∷ later))) (handed_in (world_of (call w y)) earlier x later b q)

-- further arrivals after some, in the feed and in the run
fed-after : (σ : Start) (f : Feed) (xs : List Arrival) → after σ (fed f xs) ≡ world_after (after σ f) xs
unfolding after run
fed-after σ f [] = refl
fed-after σ f (x ∷ xs) = fed-after σ (f ▹ comes x) xs

-- so its payload stands among what is delivered
handed-over : (k : Key) (name : List ℕ) (y : Reply) (m : Message) → handed_by k name y ≡ some (its m) → y ≡ delivered m.payload
handed-over k name (refused_by n) m e = absurd (let z : ◌≡◌ {A = ℕ} 0 1 = cc in let y : ⊥ = omega arith in y)
handed-over k name kept m e = absurd (let z : ◌≡◌ {A = ℕ} 0 1 = cc in let y : ⊥ = omega arith in y)
handed-over k name repeat m e = absurd (let z : ◌≡◌ {A = ℕ} 0 1 = cc in let y : ⊥ = omega arith in y)
handed-over k name (delivered b) m e =
    let z : record { key = k; name = name; bytes = b } ≡ its m = cc in ap (λ (d : Delivery). delivered d.bytes) z

hands-payload : (w : World) (x : Arrival) (m : Message) → hands_over w x ≡ some (its m) → reply_to w x ≡ delivered m.payload
hands-payload w x m e = handed-over (key_in w.machine.slot_size_lem x) (name_in (call w x).name) (reply_to w x) m e

-- one run after another
on-from : (w : World) (xs ys : List Arrival) → world_after w (xs ++ ys) ≡ world_after (world_after w xs) ys
unfolding run
on-from w [] ys = refl
on-from w (x ∷ xs) ys = on-from (world_of (call w x)) xs ys

module _ (store ledger : List ℕ) (m : Message) (earlier : List Arrival) (k : ℕ) (p : Promised (start_in store ledger m earlier k)) where
  abbrev opening : World
  opening = fresh store ledger

  abbrev σ : Start
  σ = start_in store ledger m earlier k

  at_first_lem : complete σ begun ≡ true → (later : List Arrival) → In m.payload (payloads (replies opening (earlier ++ part m k ∷ later)))
  at_first_lem c later = handed_in opening earlier (part m k) later m.payload (hands-payload (world_after opening earlier) (part m k) m (p.at_once c))

  finds : (between : List Arrival) → world_after opening (earlier ++ part m k ∷ between) ≡ after σ (fed begun between)
  unfolding after run
  finds between = on-from opening earlier (part m k ∷ between) ∙ sym (fed-after σ begun between)

  at_last : (later : List Arrival) → Completed σ later → In m.payload (payloads (replies opening (earlier ++ part m k ∷ later)))
  at_last later c =
      let ys : List Arrival = earlier ++ part m k ∷ c.between in
      let e : reply_to (world_after opening ys) c.last ≡ delivered m.payload =
      subst (λ (w : World). reply_to w c.last ≡ delivered m.payload) (sym (finds c.between))
      (hands-payload (after σ (fed begun c.between)) c.last m (p.at_last (fed begun c.between) c.last c.supposed c.completes)) in
      subst (λ (xs : List Arrival). In m.payload (payloads (replies opening xs)))
      (append_assoc earlier (part m k ∷ c.between) (c.last ∷ c.rest) ∙ ap (λ (xs : List Arrival). earlier ++ part m k ∷ xs) (sym c.stand))
      (handed_in opening ys c.last c.rest m.payload e)

pub strangers-delivered : StrangersDelivered
strangers-delivered store ledger log m h =
    let p : Promised (start_in store ledger m h.earlier h.first) = strangers (start_in store ledger m h.earlier h.first) h.begins in
    let i : In m.payload (payloads (replies (fresh store ledger) (h.earlier ++ part m h.first ∷ h.later))) =
    elim h.completed [ inl c ↦ at_first_lem store ledger m h.earlier h.first p c h.later | inr c ↦ at_last store ledger m h.earlier h.first p h.later c ] in
    in-delivers store ledger log h.entries h.reads m.payload
    (subst (λ (ps : List (List ℕ)). In m.payload ps)
    (sym (through (limits_in_lem log) (length store) (fresh store ledger) (opened-good (length store)) h.entries ∙ ap (λ (xs : List Arrival). payloads (replies (fresh store ledger) xs)) h.stand)) i)

pub strangers-counted : StrangersCounted
strangers-counted store ledger log r d m h l i = (d.all-delivered l).1 (record { payload = m.payload; delivers = strangers-delivered store ledger log m h; is = i })
