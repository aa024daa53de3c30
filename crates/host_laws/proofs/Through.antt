-- Limits that admit the messages let each of their datagrams through, whatever C calls came before: so a host that passes a log's limits may go by `qm_receive_within` alone.
-- Assumes nothing.
use Rattle.wire.proofs.Basics.{◌∙◌, sym, ◌≡◌, ap, refl, subst, ℕ, ◌<◌, min, List, true, false, Bool, ◌≢◌, arith}
use Rattle.wire.specs.Choice.{pick}
use Rattle.datagram.specs.Limits.{max_payload, max_fragments}
use Rattle.datagram.specs.Read.{read_datagram_lem}
use Rattle.datagram.specs.Said.{refused, says, said}
use Rattle.datagram.specs.Read.{Read}
use Rattle.datagram.specs.Read as read
use Rattle.receiver.specs.Lent.{Lent}
use Rattle.flight_log.specs.declared.reader.Limits.{Limits}
use Rattle.within_limits.proofs.Admits.{Admitted}
use Rattle.arrival.specs.Demand.{Message, Scene, size, message, parts, datagram, slot_bytes, SentSmall, SentCut, Sent, EachSent, part, Feed, arrival}
use Rattle.arrival.specs.ArrivalCalls.{LetThrough}
use Rattle.arrival.proofs.Within.{small-within}
use Rattle.arrival.proofs.Pieces.{cut_of}
use Rattle.count_rules.specs.Promise.{Admits}
use Rattle.count_rules.proofs.Admitting.{sent_admitted}
use Rattle.host_laws.specs.HostRuns.{HostCalls}
use Rattle.host_laws.proofs.HostDemand3.{sized}

-- a datagram that is admitted and not refused says the same within the limits
admitted-same : (limits : Limits) (C : ℕ) (d : List ℕ) → Admitted limits C d → ((n : ℕ) → said C max_fragments d ≢ refused n)
    → said (min C limits.payload) (min max_fragments limits.fragments) d ≡ said C max_fragments d
unfolding said
admitted-same limits C d a w = go (read_datagram_lem C max_fragments d) refl
  where
    go : (r : Read) → read_datagram_lem C max_fragments d ≡ r → says d (read_datagram_lem (min C limits.payload) (min max_fragments limits.fragments) d) ≡ says d (read_datagram_lem C max_fragments d)
    go (read.Good h) e = ap (says d) (a h e ∙ sym e)
    go (read.Refused n) e = absurd (w n (ap (says d) e))

-- no datagram of a message that is sent is refused
own-said : (C : ℕ) (m : Message) → Sent C m → (k : ℕ) → k < parts m → (n : ℕ) → said C max_fragments (datagram m k) ≢ refused n
own-said C m s k b n q = go m.fragmented s
  where
    go : (t : Bool) → pick t (SentCut C m) (SentSmall m) → ⊥
    go true p = let e = (cut_of C m p).reads k b in let z : ◌≡◌ {A = ℕ} 0 1 = cc (sym e ∙ q) in omega arith
    go false p =
        let one : parts m ≡ 1 = p.single in
        let z : k ≡ 0 = omega arith in
        let e = small-within C max_payload max_fragments (datagram m 0) m.sequence m.name m.payload p.reads in
        let y : ◌≡◌ {A = ℕ} 0 1 = cc (sym e ∙ (ap (λ (j : ℕ). said C max_fragments (datagram m j)) (sym z) ∙ q)) in
        omega arith

module _ (limits : Limits) (σ : Scene) (a : Admits limits σ) (s : EachSent σ) where
  pub own-through : (f : Feed) (l : Lent) → HostCalls σ f l → (i k : ℕ) → i < size σ → k < parts (message σ i) → LetThrough limits.payload limits.fragments l (arrival σ (part i k))
  own-through f l h i k b j =
      let C : ℕ = slot_bytes σ in
      subst (λ (c : ℕ). said (min c limits.payload) (min max_fragments limits.fragments) (datagram (message σ i) k) ≡ said c max_fragments (datagram (message σ i) k)) (sym (sized σ f l h))
      (admitted-same limits C (datagram (message σ i) k) (sent_admitted limits C (message σ i) (s i b) (a i b) k j) (own-said C (message σ i) (s i b) k j))
