-- Limits that admit the messages admit each arrival of a fair feed, noise too; those of the receiver admit all messages. Assumes nothing.
use Rattle.wire.proofs.Basics.{sym, ◌≡◌, refl, subst, ℕ, ◌≤◌, ◌<◌, List, [], ◌∷◌, ◌++◌, true, false, Bool, length, arith}
use Rattle.wire.specs.Choice.{pick}
use Rattle.datagram.specs.Limits.{max_payload, max_fragments}
use Rattle.steps.specs.Runs.{Arrival}
use Rattle.arrival.specs.Demand.{Message, Scene, parts, datagram, message, slot_bytes, SentSmall, SentCut, Sent, EachSent, Event, part, noise, Feed, start, ◌▹◌, arrival, arrivals}
use Rattle.arrival.proofs.Within.{small-within}
use Rattle.arrival.proofs.Pieces.{Cut, cut_of, piece}
use Rattle.arrival.proofs.Track.{Arrives, Fair}
use Rattle.flight_log.specs.declared.reader.Limits.{Limits}
use Rattle.flight_log.specs.Editions.{limits_of, edition2}
use Rattle.within_limits.proofs.Admits.{Admitted, refused_admitted, small_admitted, fragment_admitted}
use Rattle.count_rules.specs.Promise.{Admits}

abbrev pub AllAdmitted : Limits → ℕ → List Arrival → Type 0
AllAdmitted l C [] = Unit {0}
AllAdmitted l C (x ∷ xs) = Admitted l C x.datagram × AllAdmitted l C xs

one_more : (l : Limits) (C : ℕ) (xs : List Arrival) (x : Arrival) → AllAdmitted l C xs → Admitted l C x.datagram → AllAdmitted l C (xs ++ x ∷ [])
one_more l C [] x a b = (b, tt)
one_more l C (y ∷ xs) x a b = (a.0, one_more l C xs x a.1 b)

-- datagram k of a message that is sent
pub sent_admitted : (l : Limits) (C : ℕ) (m : Message) → Sent C m → (m.fragmented ≡ true → (length m.payload ≤ l.payload) × (parts m ≤ l.fragments))
    → (k : ℕ) → k < parts m → Admitted l C (datagram m k)
sent_admitted l C m s w k b = go m.fragmented refl s
  where
    go : (t : Bool) → m.fragmented ≡ t → pick t (SentCut C m) (SentSmall m) → Admitted l C (datagram m k)
    go true e p =
        let c : Cut C m = cut_of C m p in
        let n : (length m.payload ≤ l.payload) × (parts m ≤ l.fragments) = w e in
        fragment_admitted l C (datagram m k) (piece C m k) (c.reads k b)
        (subst (λ (x : ℕ). x ≤ l.payload) (sym (c.its-size k b)) n.0) (subst (λ (x : ℕ). x ≤ l.fragments) (sym (c.its-count k b)) n.1)
    go false e p =
        let one : parts m ≡ 1 = p.single in
        let z : 0 ≡ k = omega arith in
        subst (λ (j : ℕ). Admitted l C (datagram m j)) z
        (small_admitted l C (datagram m 0) m.sequence m.name m.payload (small-within C max_payload max_fragments (datagram m 0) m.sequence m.name m.payload p.reads))

module _ (l : Limits) (σ : Scene) (a : Admits l σ) (s : EachSent σ) where
  one_admitted : (f : Feed) (e : Event) → Arrives σ f e → Admitted l (slot_bytes σ) (arrival σ e).datagram
  one_admitted f (part i k) w = sent_admitted l (slot_bytes σ) (message σ i) (s i w.known) (a i w.known) k w.exists
  one_admitted f (noise from d) w = refused_admitted l (slot_bytes σ) d w.number w.refuses

  pub all_admitted : (f : Feed) → Fair σ f → AllAdmitted l (slot_bytes σ) (arrivals σ f)
  all_admitted start w = tt
  all_admitted (f ▹ e) w = one_more l (slot_bytes σ) (arrivals σ f) (arrival σ e) (all_admitted f w.0) (one_admitted f e w.1)

-- AN EDITION 2 LOG OF THE LARGEST LIMIT ADMITS ALL MESSAGES that are sent as is supposed
pub largest-admits : (σ : Scene) → EachSent σ → Admits (limits_of (edition2 max_payload)) σ
largest-admits σ s i b f = go (message σ i) f (s i b)
  where
    go : (m : Message) → m.fragmented ≡ true → Sent (slot_bytes σ) m → (length m.payload ≤ max_payload) × (parts m ≤ max_fragments)
    go m e p =
        let q : SentCut (slot_bytes σ) m = subst (λ (t : Bool). pick t (SentCut (slot_bytes σ) m) (SentSmall m)) e p in
        let c : Cut (slot_bytes σ) m = cut_of (slot_bytes σ) m q in
        let w = c.formed 0 c.some-parts in
        let x = c.its-size 0 c.some-parts in
        let y = c.its-count 0 c.some-parts in
        (omega (arith, w.fits, x), omega (arith, w.few, y))
