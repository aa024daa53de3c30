-- Under demand 3's suppositions, and where the limits admit the messages, the delivered payloads are the messages', each once: as members, and in every sum. Assumes nothing.
use Rattle.wire.proofs.Basics.{◌∙◌, sym, ◌≡◌, ap, refl, subst, ℕ, ◌+◌, ◌<◌, List, [], ◌∷◌, map, inl, inr, ne_eqb, ℕ_discrete, arith}
use Rattle.steps.specs.Search.{one}
use Rattle.steps.proofs.Tables.{all_of}
use Rattle.arrival.specs.Demand.{Scene, nobody, parts, size, Message, message, Feed, got, done, completed, own, in_order_of_completion, Supposed}
use Rattle.arrival.proofs.Track.{Lawful, Fair, fair-of, times, done-once}
use Rattle.arrival.proofs.Whole.{Apart, completed-apart, whole-tidy}
use Rattle.arrival.proofs.Demand3.{delivered-own}
use Rattle.flight_log.specs.declared.reader.Limits.{Limits}
use Rattle.flight_log.specs.Entries.{Entry}
use Rattle.sorted_set.specs.Lists.{In, SameMembers, total}
use Rattle.sorted_set.proofs.Members.{chained, in-at, Place, place, map_in_lem, map-from, Origin}
use Rattle.sorted_set.proofs.Sums.{total-map}
use Rattle.count_rules.specs.Promise.{Keeps, Admits, payloads_of, delivered_by}
use Rattle.count_rules.proofs.Sums.{total-at, total-once}
use Rattle.count_rules.proofs.Logs.{backwards, back_members, back_total, bytes_in, by-log}

pub times_in : (i : ℕ) (l : List ℕ) → 0 < times i l → In i l
unfolding times
times_in i [] h = absurd (let z : ⊥ = omega arith in z)
times_in i (x ∷ l) h = elim (ℕ_discrete i x) [
  | yes e ↦ inl e
  | no e ↦ inr (times_in i l (let g : 0 < 0 + times i l = rw (ne_eqb x i (λ q. e (sym q))) at h in omega arith))
]

pub apart_below : (σ : Scene) (l : List ℕ) → Apart σ l → (i : ℕ) → In i l → i < size σ
apart_below σ [] a i h = absurd h
apart_below σ (x ∷ l) a i (inl e) = subst (λ (j : ℕ). j < size σ) (sym e) a.0
apart_below σ (x ∷ l) a i (inr h) = apart_below σ l a.2 i h

-- the payload of message i
abbrev payload : Scene → ℕ → List ℕ
payload σ i = (message σ i).payload

pub own-bytes : (σ : Scene) (l : List ℕ) → bytes_in (map (own σ) l) ≡ map (payload σ) l
own-bytes σ [] = refl
own-bytes σ (i ∷ l) = ap (λ (ps : List (List ℕ)). payload σ i ∷ ps) (own-bytes σ l)

module _ (σ : Scene) (f : Feed) (s : Supposed σ f) where
  pub law : Lawful σ
  law = record { distinct = s.distinct; sent = s.sent; ledger-fits = s.ledger-fits }

  pub fair : Fair σ f
  fair = fair-of σ f s.mixture s.never-over-eight s.few-senders s.never_too-late

  -- only messages of the scene are completed, and each of them once
  completed-below : (i : ℕ) → In i (completed σ f) → i < size σ
  completed-below = apart_below σ (completed σ f) (completed-apart σ law f fair)

  -- fed whole, one after another, they are fair too
  pub whole-fair : Fair σ (in_order_of_completion σ f)
  whole-fair = (whole-tidy σ law (completed σ f) (completed-apart σ law f fair)).fair

  completed-once : (i : ℕ) → i < size σ → times i (completed σ f) ≡ 1
  unfolding done
  completed-once i b = done-once σ law f fair i b ∙ ap one (all_of (parts (message σ i)) (got f i) (λ k c. s.each-comes i k b c))

  own_members : SameMembers (map (payload σ) (completed σ f)) (payloads_of σ)
  own_members = record {
    there = λ p h.
        let o : Origin (payload σ) (completed σ f) p = map-from (payload σ) (completed σ f) p h in
        subst (λ (x : List ℕ). In x (payloads_of σ)) (sym o.gives)
        (map_in_lem (λ (m : Message). m.payload) σ.messages (message σ o.x) (in-at σ.messages o.x nobody (completed-below o.x o.inside)));
    back = λ p h.
        let o : Origin (λ (m : Message). m.payload) σ.messages p = map-from (λ (m : Message). m.payload) σ.messages p h in
        let q : Place σ.messages nobody o.x = place σ.messages nobody o.x o.inside in
        let t : times q.i (completed σ f) ≡ 1 = completed-once q.i q.inside in
        subst (λ (x : List ℕ). In x (map (payload σ) (completed σ f))) (sym (o.gives ∙ ap (λ (m : Message). m.payload) q.here))
        (map_in_lem (payload σ) (completed σ f) q.i (times_in q.i (completed σ f) (omega arith)));
  }

  module _ (l : Limits) (a : Admits l σ) (es : List Entry) (k : Keeps l σ f es) where
    delivered-are : delivered_by l σ es ≡ backwards (map (payload σ) (completed σ f))
    delivered-are = by-log σ l a s.sent f fair es k ∙ ap (λ (ps : List (List ℕ)). backwards ps) (ap bytes_in (delivered-own σ law f fair) ∙ own-bytes σ (completed σ f))

    pub delivered_members : SameMembers (delivered_by l σ es) (payloads_of σ)
    delivered_members = subst (λ (ps : List (List ℕ)). SameMembers ps (payloads_of σ)) (sym delivered-are)
        (chained (back_members (map (payload σ) (completed σ f))) own_members)

    -- whatever is summed over the delivered payloads, it is the sum over the messages'
    pub delivered-total : (w : List ℕ → ℕ) → total w (delivered_by l σ es) ≡ total w (payloads_of σ)
    delivered-total w =
        ap (total w) delivered-are
        ∙ back_total w (map (payload σ) (completed σ f))
        ∙ total-map (payload σ) w (completed σ f)
        ∙ total-once (λ i. w (payload σ i)) (size σ) (completed σ f) completed-below completed-once
        ∙ sym (total-map (λ (m : Message). m.payload) w σ.messages ∙ total-at (λ (m : Message). w m.payload) nobody σ.messages)
