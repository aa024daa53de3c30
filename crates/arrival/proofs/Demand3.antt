-- DEMAND 3, proved.
use Rattle.wire.proofs.Basics.{◌∙◌, sym, ◌≡◌, ap, refl, subst, ℕ, ◌+◌, ◌<◌, List, [], ◌∷◌, map, true, Bool, inl, inr, some, none, Option, Option·map, eqb, eq-eqb, ne_eqb, ℕ_discrete}
use Rattle.wire.proofs.Choices.{never, either}
use Rattle.steps.specs.Search.{one}
use Rattle.steps.specs.Memory.{same_key, remember_all}
use Rattle.steps.specs.Slots.{busy, slot_at}
use Rattle.steps.proofs.Tables.{all_of}
use Rattle.steps.proofs.Memories.{key-same}
use Rattle.arrival.specs.Demand.{Scene, Feed, start, ◌▹◌, Event, parts, size, message, key, Supposed, got, done, completes, completed, keys_of, call, after, delivery, Delivery, own, deliveries, times_of, push, in_order_of_completion, AtCompletion, NoneEmptied, Promised, Demand3, AllAnswered}
use Rattle.arrival.proofs.Track.{Lawful, Fair, fair-of, times, other_key, done-once, ended_dead}
use Rattle.arrival.proofs.Order.{Inv, Fine, arrival-fine, invariant}
use Rattle.arrival.proofs.Whole.{Apart, Tidy, whole-tidy, completed-apart}

module _ (σ : Scene) (law : Lawful σ) where
  fine : (f : Feed) → Fair σ f → (e : Event) → Fair σ (f ▹ e) → Fine σ f e (call σ (after σ f) e)
  fine f fair e g = arrival-fine σ law f fair (after σ f) (invariant σ law f fair) e g.1

  pub at_completion : (f : Feed) → Fair σ f → AtCompletion σ f
  unfolding delivery
  at_completion start fair = tt
  at_completion (f ▹ e) fair = (at_completion f fair.0, (fine f fair.0 e fair).hands)

  pub none-emptied : (f : Feed) → Fair σ f → NoneEmptied σ f
  none-emptied start fair = tt
  none-emptied (f ▹ e) fair = (none-emptied f fair.0, (fine f fair.0 e fair).spared)

  pub all-answered : (f : Feed) → Fair σ f → AllAnswered σ f
  all-answered start fair = tt
  all-answered (f ▹ e) fair =
      let a = fine f fair.0 e fair in
      (all-answered f fair.0, λ j. record { answer = a.answers j; emptied = a.spared j })

  push-map : (o : Option ℕ) (l : List ℕ) → push (Option·map (own σ) o) (map (own σ) l) ≡ map (own σ) (push o l)
  push-map none l = refl
  push-map (some a) l = refl

  -- what is delivered are the completed messages' own, in order of completion
  pub delivered-own : (f : Feed) → Fair σ f → deliveries σ f ≡ map (own σ) (completed σ f)
  unfolding deliveries completed delivery
  delivered-own start fair = refl
  delivered-own (f ▹ e) fair =
      ap (λ (o : Option Delivery). push o (deliveries σ f)) (fine f fair.0 e fair).hands
      ∙ ap (λ (x : List Delivery). push (Option·map (own σ) (completes σ f e)) x) (delivered-own f fair.0)
      ∙ push-map (completes σ f e) (completed σ f)

  same_test : (x i : ℕ) → x < size σ → i < size σ → same_key (key (message σ x)) (key (message σ i)) ≡ eqb x i
  same_test x i a b = elim (ℕ_discrete x i) [
    | yes e ↦ subst (λ (y : ℕ). same_key (key (message σ x)) (key (message σ y)) ≡ true) e (key-same (key (message σ x))) ∙ sym (eq-eqb x i e)
    | no e ↦ other_key σ law x i a b e ∙ sym (ne_eqb x i e)
  ]

  -- a message's key is delivered as often as the message is completed
  once-each : (i : ℕ) → i < size σ → (l : List ℕ) → Apart σ l → times_of (key (message σ i)) (map (own σ) l) ≡ times i l
  unfolding times_of times
  once-each i b [] n = refl
  once-each i b (x ∷ l) n =
      ap (λ (u : Bool). one u + times_of (key (message σ i)) (map (own σ) l)) (same_test x i n.0 b)
      ∙ ap (λ (y : ℕ). one (eqb x i) + y) (once-each i b l n.2)

  promised : (f : Feed) → Fair σ f → ((i : ℕ) → i < size σ → done σ f i ≡ true) → Promised σ f
  promised f fair full =
      let v : Inv σ f (after σ f) = invariant σ law f fair in
      let t : Tidy σ (in_order_of_completion σ f) (completed σ f) = whole-tidy σ law (completed σ f) (completed-apart σ law f fair) in
      let u : Inv σ (in_order_of_completion σ f) (after σ (in_order_of_completion σ f)) = invariant σ law (in_order_of_completion σ f) t.fair in
      record {
        at_completion = at_completion f fair;
        once = λ i b.
            ap (times_of (key (message σ i))) (delivered-own f fair)
            ∙ once-each i b (completed σ f) (completed-apart σ law f fair) ∙ done-once σ law f fair i b ∙ ap one (full i b);
        same-deliveries = delivered-own f fair ∙ sym (delivered-own (in_order_of_completion σ f) t.fair ∙ ap (map (own σ)) t.list);
        same_memory = v.memory ∙ sym (u.memory ∙ ap (λ (l : List ℕ). remember_all (keys_of σ l)) t.list);
        none-emptied = none-emptied f fair;
        none_open_lem = λ s b. elim (either (busy (slot_at (after σ f).machine.slots s))) [
          | inl e ↦
              let o = v.slots.owner s b e in
              never o.alive (ended_dead σ f o.i (full o.i o.known))
          | inr e ↦ e
        ];
      }

pub demand3 : Demand3
unfolding done
demand3 σ f s =
    promised σ (record { distinct = s.distinct; sent = s.sent; ledger-fits = s.ledger-fits }) f
    (fair-of σ f s.mixture s.never-over-eight s.few-senders s.never_too-late)
    (λ i b. all_of (parts (message σ i)) (got f i) (λ k c. s.each-comes i k b c))

-- WHAT EACH ARRIVAL IS ANSWERED, under the same premises
pub each-answered : (σ : Scene) (f : Feed) → Supposed σ f → AllAnswered σ f
each-answered σ f s =
    all-answered σ (record { distinct = s.distinct; sent = s.sent; ledger-fits = s.ledger-fits }) f
    (fair-of σ f s.mixture s.never-over-eight s.few-senders s.never_too-late)
