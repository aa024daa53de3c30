-- WITH LOSSES the count is that of the messages that came whole. Assumes nothing.
use Rattle.wire.proofs.Basics.{◌∙◌, sym, ◌≡◌, ap, refl, subst, ℕ, ◌+◌, ◌<◌, suc, zero, ◌*◌, List, [], ◌∷◌, map, true, false, Bool, inl, inr, some, none, Option, eqb, ℕ_discrete, arith}
use Rattle.wire.specs.Choice.{pick}
use Rattle.wire.specs.Sum.{sum}
use Rattle.steps.specs.Search.{one}
use Rattle.steps.proofs.Tables.{all-at, all_of}
use Rattle.arrival.specs.Demand.{Scene, size, message, parts, Feed, got, done, completed}
use Rattle.arrival.proofs.Track.{Lawful, Fair, fair-of, times, done-once}
use Rattle.arrival.proofs.Whole.{completed-apart}
use Rattle.arrival.proofs.Demand3.{delivered-own}
use Rattle.flight_log.specs.declared.reader.Limits.{Limits}
use Rattle.flight_log.specs.Editions.{limits_in_lem}
use Rattle.flight_log.specs.Entries.{Entry}
use Rattle.sorted_set.specs.Lists.{In, total}
use Rattle.sorted_set.proofs.Members.{in_left, in_right, in_either}
use Rattle.sorted_set.proofs.Sums.{total-append, total-map}
use Rattle.count_rules.specs.Count.{first_fault}
use Rattle.count_rules.specs.Promise.{Keeps, Admits, Shown, delivered_by}
use Rattle.count_rules.proofs.Sums.{sum_to, sum_same, total-times}
use Rattle.count_rules.proofs.Logs.{backwards, back_total, bytes_in, by-log}
use Rattle.count_rules.proofs.Limits.{same-faults}
use Rattle.season.specs.Losses.{Arrives, whole_of, came_whole}
use Rattle.season.proofs.Losses.{whole-delivered}
use Rattle.count_laws.specs.Losses.{shown_from, CameWhole, WholeMeans, LossPromise, CountedWhole}
use Rattle.count_laws.proofs.Shown.{same-shown, shown_by, given_by}
use Rattle.count_rules.proofs.Delivered.{apart_below, own-bytes}

abbrev payload : Scene → ℕ → List ℕ
payload σ i = (message σ i).payload

-- ---- which payloads these are

module _ (σ : Scene) (f : Feed) where
  is-done : (i : ℕ) → ((k : ℕ) → k < parts (message σ i) → got f i k ≡ true) → done σ f i ≡ true
  unfolding done
  is-done i h = all_of (parts (message σ i)) (got f i) h

  each_of : (i : ℕ) → done σ f i ≡ true → (k : ℕ) → k < parts (message σ i) → got f i k ≡ true
  unfolding done
  each_of i e k b = all-at (parts (message σ i)) (got f i) e k b

  came_in_lem : (n i : ℕ) → i < n → done σ f i ≡ true → In (payload σ i) (whole_of σ f n)
  came_in_lem zero i o e = absurd (let z : ⊥ = omega arith in z)
  came_in_lem (suc n) i o e = elim (ℕ_discrete i n) [
    | yes q ↦ in_left (payload σ i) (pick (done σ f n) (payload σ n ∷ []) []) (whole_of σ f n) (rw (sym q, e) (inl refl))
    | no q ↦ in_right (payload σ i) (pick (done σ f n) (payload σ n ∷ []) []) (whole_of σ f n) (came_in_lem n i (omega arith) e)
  ]

  one-came : (n : ℕ) (p : List ℕ) → n < size σ → (b : Bool) → done σ f n ≡ b → In p (pick b (payload σ n ∷ []) []) → CameWhole σ f p
  one-came n p o true e (inl q) = record { which = n; inside = o; each-came = each_of n e; is = q }
  one-came n p o true e (inr q) = absurd q
  one-came n p o false e h = absurd h

  came_from : (n : ℕ) (p : List ℕ) → ((i : ℕ) → i < n → i < size σ) → In p (whole_of σ f n) → CameWhole σ f p
  came_from zero p o h = absurd h
  came_from (suc n) p o h = elim (in_either p (pick (done σ f n) (payload σ n ∷ []) []) (whole_of σ f n) h) [
    | inl j ↦ one-came n p (o n (omega arith)) (done σ f n) refl j
    | inr j ↦ came_from n p (λ i b. o i (omega arith)) j
  ]

pub whole_means : WholeMeans
whole_means σ f p = (
  (λ h. came_from σ f (size σ) p (λ i b. b) h),
  (λ c. subst (λ (q : List ℕ). In q (came_whole σ f)) (sym c.is) (came_in_lem σ f (size σ) c.which c.inside (is-done σ f c.which c.each-came))),
)

-- ---- sums over them

sum-last : (n : ℕ) (h : ℕ → ℕ) → sum_to (suc n) h ≡ h n + sum_to n h
unfolding sum
sum-last zero h = refl
sum-last (suc n) h = (let r : sum_to (suc n) (λ i. h (suc i)) ≡ h (suc n) + sum_to n (λ i. h (suc i)) = sum-last n (λ i. h (suc i)) in omega arith)

one-total : (w : List ℕ → ℕ) (p : List ℕ) (b : Bool) → total w (pick b (p ∷ []) []) ≡ one b * w p
one-total w p true = (let z : w p + 0 ≡ 1 * w p = omega arith in z)
one-total w p false = (let z : 0 ≡ 0 * w p = omega arith in z)

whole_sum : (σ : Scene) (f : Feed) (w : List ℕ → ℕ) (n : ℕ) → total w (whole_of σ f n) ≡ sum_to n (λ i. one (done σ f i) * w (payload σ i))
unfolding sum
whole_sum σ f w zero = refl
whole_sum σ f w (suc n) =
    total-append w (pick (done σ f n) (payload σ n ∷ []) []) (whole_of σ f n)
    ∙ ((λ i. one-total w (payload σ n) (done σ f n) i + whole_sum σ f w n i) ∙ sym (sum-last n (λ i. one (done σ f i) * w (payload σ i))))

module _ (σ : Scene) (f : Feed) (s : Arrives σ f) (l : Limits) (a : Admits l σ) (es : List Entry) (k : Keeps l σ f es) where
  law : Lawful σ
  law = record { distinct = s.distinct; sent = s.sent; ledger-fits = s.ledger-fits }

  fair : Fair σ f
  fair = fair-of σ f s.mixture s.never-over-eight s.few-senders s.never_too-late

  -- whatever is summed over the delivered payloads, it is the sum over those that came whole
  delivered-sum : (w : List ℕ → ℕ) → total w (delivered_by l σ es) ≡ total w (came_whole σ f)
  delivered-sum w =
      let c : List ℕ = completed σ f in
      let v : ℕ → ℕ = λ i. w (payload σ i) in
      ap (total w) (by-log σ l a s.sent f fair es k ∙ ap (λ (ps : List (List ℕ)). backwards ps) (ap bytes_in (delivered-own σ law f fair) ∙ own-bytes σ c))
      ∙ (back_total w (map (payload σ) c)
      ∙ (total-map (payload σ) w c
      ∙ (total-times v (size σ) c (apart_below σ c (completed-apart σ law f fair))
      ∙ (sum_same (size σ) (λ i. times i c * v i) (λ i. one (done σ f i) * v i) (λ i b. ap (λ (n : ℕ). n * v i) (done-once σ law f fair i b)) ∙ sym (whole_sum σ f w (size σ))))))

  whole-shown : shown_from (delivered_by l σ es) ≡ shown_from (came_whole σ f)
  whole-shown = same-shown (delivered_by l σ es) (came_whole σ f) (whole-delivered σ f s l a es k) delivered-sum

-- ---- the promise

pub loss_promise : LossPromise
loss_promise σ f log s k few room =
    let l : Limits = limits_in_lem log in
    let n : eqb (first_fault room [] (delivered_by l σ k.entries)) 0 ≡ eqb (first_fault room [] (came_whole σ f)) 0 =
    same-faults room (delivered_by l σ k.entries) (came_whole σ f) (whole-delivered σ f s l k.admits k.entries k.keeps) in
    shown_by σ.store σ.ledger log k.entries k.reads room few ∙ (λ i. pick {X = Option Shown} (n i) (some (whole-shown σ f s l k.admits k.entries k.keeps i)) none)

pub counted-whole : CountedWhole
counted-whole σ f log s k room r e =
    (given_by σ.store σ.ledger log k.entries k.reads room r e).shows ∙ whole-shown σ f s (limits_in_lem log) k.admits k.entries k.keeps
