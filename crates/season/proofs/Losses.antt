-- WITH LOSSES the lists of a flight, of whatever length, are those of the messages that came whole, each once. Assumes nothing.
use Rattle.wire.proofs.Basics.{◌∙◌, sym, ◌≡◌, ap, refl, subst, ℕ, ◌<◌, suc, zero, List, [], ◌∷◌, ◌++◌, map, true, false, Bool, inl, inr, length, eq-eqb, ℕ_discrete, arith}
use Rattle.wire.specs.Choice.{pick}
use Rattle.steps.specs.Search.{one}
use Rattle.arrival.specs.Demand.{Scene, size, message, Feed, done, completed}
use Rattle.arrival.proofs.Track.{Lawful, Fair, fair-of, times, done-once}
use Rattle.arrival.proofs.Whole.{completed-apart}
use Rattle.arrival.proofs.Demand3.{delivered-own}
use Rattle.flight_log.specs.declared.reader.Limits.{Limits}
use Rattle.flight_log.specs.Editions.{limits_in_lem}
use Rattle.flight_log.specs.Entries.{Entry}
use Rattle.flight_log.specs.Listed.{entries_in}
use Rattle.sorted_set.specs.Lists.{In, SameMembers}
use Rattle.sorted_set.proofs.Members.{chained, map_in_lem, map-from, Origin, in_left, in_right, in_either, gather-same}
use Rattle.count_rules.specs.Marks.{list_in}
use Rattle.count_rules.specs.Run.{payloads, lists_read}
use Rattle.count_rules.specs.Count.{answers_to}
use Rattle.count_rules.specs.Promise.{Keeps, Admits, LogOf, delivered_by}
use Rattle.count_rules.proofs.Lendings.{same-answers}
use Rattle.count_rules.proofs.Logs.{backwards, back_members, bytes_in, by-log}
use Rattle.stretch.specs.Stretch.{entries_of}
use Rattle.season.specs.Season.{Flight, lists_of}
use Rattle.season.specs.Losses.{Arrives, whole_of, came_whole}
use Rattle.count_rules.proofs.Delivered.{own-bytes, times_in, apart_below}

-- ---- which messages were completed

in-times : (i : ℕ) (l : List ℕ) → In i l → 0 < times i l
unfolding times
in-times i [] h = absurd h
in-times i (x ∷ l) (inl e) = rw (eq-eqb x i (sym e)) (omega arith)
in-times i (x ∷ l) (inr h) = (let o : 0 < times i l = in-times i l h in omega arith)

abbrev payload : Scene → ℕ → List ℕ
payload σ i = (message σ i).payload

-- ---- those that came whole

record Came (σ : Scene) (f : Feed) (n : ℕ) (p : List ℕ) : Type 0 where
  i : ℕ
  inside : i < n
  whole : done σ f i ≡ true
  is : p ≡ payload σ i

came_in_lem : (σ : Scene) (f : Feed) (n i : ℕ) → i < n → done σ f i ≡ true → In (payload σ i) (whole_of σ f n)
came_in_lem σ f zero i o e = absurd (let z : ⊥ = omega arith in z)
came_in_lem σ f (suc n) i o e = elim (ℕ_discrete i n) [
  | yes q ↦
      subst (λ (j : ℕ). In (payload σ i) (pick (done σ f j) (payload σ j ∷ []) [] ++ whole_of σ f n)) q
      (in_left (payload σ i) (pick (done σ f i) (payload σ i ∷ []) []) (whole_of σ f n) (rw e (inl refl)))
  | no q ↦ in_right (payload σ i) (pick (done σ f n) (payload σ n ∷ []) []) (whole_of σ f n) (came_in_lem σ f n i (omega arith) e)
]

one-came : (σ : Scene) (f : Feed) (n : ℕ) (p : List ℕ) (b : Bool) → done σ f n ≡ b → In p (pick b (payload σ n ∷ []) []) → Came σ f (suc n) p
one-came σ f n p true e (inl q) = record { i = n; inside = omega arith; whole = e; is = q }
one-came σ f n p true e (inr q) = absurd q
one-came σ f n p false e h = absurd h

came_from : (σ : Scene) (f : Feed) (n : ℕ) (p : List ℕ) → In p (whole_of σ f n) → Came σ f n p
came_from σ f zero p h = absurd h
came_from σ f (suc n) p h = elim (in_either p (pick (done σ f n) (payload σ n ∷ []) []) (whole_of σ f n) h) [
  | inl j ↦ one-came σ f n p (done σ f n) refl j
  | inr j ↦ let c : Came σ f n p = came_from σ f n p j in record { i = c.i; inside = (let o = c.inside in omega arith); whole = c.whole; is = c.is }
]

module _ (σ : Scene) (f : Feed) (s : Arrives σ f) where
  law : Lawful σ
  law = record { distinct = s.distinct; sent = s.sent; ledger-fits = s.ledger-fits }

  fair : Fair σ f
  fair = fair-of σ f s.mixture s.never-over-eight s.few-senders s.never_too-late

  is-done : (b : Bool) → 0 < one b → b ≡ true
  is-done true o = refl
  is-done false o = absurd (let z : ⊥ = omega arith in z)

  whole_members : SameMembers (map (payload σ) (completed σ f)) (came_whole σ f)
  whole_members = record {
    there = λ p h.
        let o : Origin (payload σ) (completed σ f) p = map-from (payload σ) (completed σ f) p h in
        let b : o.x < size σ = apart_below σ (completed σ f) (completed-apart σ law f fair) o.x o.inside in
        let t : 0 < times o.x (completed σ f) = in-times o.x (completed σ f) o.inside in
        let d : done σ f o.x ≡ true = is-done (done σ f o.x) (subst (λ (n : ℕ). 0 < n) (done-once σ law f fair o.x b) t) in
        subst (λ (q : List ℕ). In q (came_whole σ f)) (sym o.gives) (came_in_lem σ f (size σ) o.x b d);
    back = λ p h.
        let c : Came σ f (size σ) p = came_from σ f (size σ) p h in
        let t : times c.i (completed σ f) ≡ 1 = done-once σ law f fair c.i c.inside ∙ ap one c.whole in
        subst (λ (q : List ℕ). In q (map (payload σ) (completed σ f))) (sym c.is) (map_in_lem (payload σ) (completed σ f) c.i (times_in c.i (completed σ f) (omega arith)));
  }

  pub whole-delivered : (l : Limits) → Admits l σ → (es : List Entry) → Keeps l σ f es → SameMembers (delivered_by l σ es) (came_whole σ f)
  whole-delivered l a es k =
      let e : delivered_by l σ es ≡ backwards (map (payload σ) (completed σ f)) =
      by-log σ l a s.sent f fair es k ∙ ap (λ (ps : List (List ℕ)). backwards ps) (ap bytes_in (delivered-own σ law f fair) ∙ own-bytes σ (completed σ f)) in
      subst (λ (ps : List (List ℕ)). SameMembers ps (came_whole σ f)) (sym e) (chained (back_members (map (payload σ) (completed σ f))) whole_members)

-- the flight's log keeps the feed, its limits admit the messages, and it is flown with a store and a ledger as long as the scene's
pub flight-lists-whole : (t : Flight) (σ : Scene) (f : Feed) → Arrives σ f → LogOf σ f t.log → length t.store ≡ length σ.store → length t.ledger ≡ length σ.ledger → SameMembers (lists_of t) (lists_read (came_whole σ f))
flight-lists-whole t σ f s k es el =
    let ds : List Entry = k.entries in
    let e : delivered_by (limits_in_lem t.log) σ ds ≡ payloads (answers_to (limits_in_lem t.log) t.store t.ledger (entries_of (entries_in t.log))) =
    ap payloads (same-answers σ.store σ.ledger t.store t.ledger (sym es) (sym el) (limits_in_lem t.log) ds)
    ∙ (λ i. payloads (answers_to (limits_in_lem t.log) t.store t.ledger (entries_of (sym k.reads i)))) in
    gather-same list_in _ _ (subst (λ (ps : List (List ℕ)). SameMembers ps (came_whole σ f)) e (whole-delivered σ f s (limits_in_lem t.log) k.admits ds k.keeps))
