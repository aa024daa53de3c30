-- Messages fed whole, one after another, are a fair feed too, and are completed in that order.
use Rattle.wire.proofs.Basics.{◌∙◌, sym, ◌≡◌, ap, refl, subst, ℕ, ◌<◌, suc, zero, zero-le, List, [], ◌∷◌, true, false, Bool, ◌&&◌, ◌||◌, not, ◌≢◌, eqb, ltb, eq-eqb, le-ltb, ne_eqb, lt-ltb, le_refl}
use Rattle.wire.proofs.Basics.{le_trans, ℕ_discrete, dec_le, arith}
use Rattle.wire.proofs.Choices.{never}
use Rattle.steps.specs.Search.{one}
use Rattle.steps.proofs.Tables.{or-not, or_yes, all_of, all-not, count-one}
use Rattle.arrival.specs.Demand.{Scene, parts, size, message, part, noise, Feed, start, ◌▹◌, got, begun, done, completes, completed, unfinished, fed_whole, one_after_another}
use Rattle.arrival.proofs.Track.{Lawful, MayArrive, Fair, got-own, begun-other, not-begun, done-other, completes_yes, completes-not, completed-none, completed-some, done-once, has_parts, Change, same, more, change, times}

-- distinct messages of the scene
abbrev pub Apart : Scene → List ℕ → Type 0
Apart σ [] = Unit {0}
Apart σ (i ∷ l) = (i < size σ) × (times i l ≡ 0) × Apart σ l

pub completed-apart : (σ : Scene) → Lawful σ → (f : Feed) → Fair σ f → Apart σ (completed σ f)
unfolding completed completes
completed-apart σ law start fair = tt
completed-apart σ law (f ▹ noise from d) fair = completed-apart σ law f fair.0
completed-apart σ law (f ▹ part a k) fair = go (completed-apart σ law f fair.0) (change σ law f a k)
  where
    go : Apart σ (completed σ f) → Change σ law f a k → Apart σ (completed σ (f ▹ part a k))
    go ih (same p q) = subst (Apart σ) (sym p) ih
    go ih (more p q r) = subst (Apart σ) (sym p) (fair.1.known, done-once σ law f fair.0 a fair.1.known ∙ ap one q, ih)

-- after the messages of l, each whole
pub record Tidy (σ : Scene) (f : Feed) (l : List ℕ) : Type 0 where
  pub fair : Fair σ f
  pub list : completed σ f ≡ l
  pub ended : (a : ℕ) → a < size σ → begun f a ≡ true → done σ f a ≡ true
  pub fresh : (a : ℕ) → times a l ≡ 0 → begun f a ≡ false

-- after j fragments of message i more
record Partly (σ : Scene) (f : Feed) (l : List ℕ) (i j : ℕ) (h : Feed) : Type 0 where
  fair : Fair σ h
  list : completed σ h ≡ l
  ours : (k : ℕ) → got h i k ≡ ltb k j
  others : (a : ℕ) → a ≢ i → begun h a ≡ begun f a
  ends : (a : ℕ) → a ≢ i → done σ h a ≡ done σ f a

and-off : (x b d : Bool) → (b ≡ true → d ≡ true) → (x && (b && not d)) ≡ false
and-off false b d h = refl
and-off true false d h = refl
and-off true true d h = rw (h refl)

up_to : (j k : ℕ) → (eqb j k || ltb k j) ≡ ltb k (suc j)
up_to j k = elim (dec_le k j) [
  | yes q ↦ elim (ℕ_discrete j k) [
    | yes e ↦ or_yes (eqb j k) (ltb k j) (eq-eqb j k e) ∙ sym (lt-ltb k (suc j) (omega arith))
    | no e ↦ or-not (eqb j k) (ltb k j) (ne_eqb j k e) ∙ lt-ltb k j (omega arith) ∙ sym (lt-ltb k (suc j) (omega arith))
  ]
  | no q ↦ or-not (eqb j k) (ltb k j) (ne_eqb j k (omega arith)) ∙ le-ltb k j (omega arith) ∙ sym (le-ltb k (suc j) (omega arith))
]

module _ (σ : Scene) (law : Lawful σ) (f : Feed) (l : List ℕ) (t : Tidy σ f l) (i : ℕ) (known : i < size σ) (new : times i l ≡ 0) where
  undone : (j : ℕ) → j < parts (message σ i) → (h : Feed) → Partly σ f l i j h → done σ h i ≡ false
  unfolding done
  undone j b h p = all-not (parts (message σ i)) (got h i) j b (p.ours j ∙ le-ltb j j (le_refl j))

  may : (j : ℕ) → j < parts (message σ i) → (h : Feed) → Partly σ f l i j h → MayArrive σ h i j
  unfolding unfinished
  may j b h p = record {
    known = known;
    exists = b;
    room = le_trans (count-one (size σ) (unfinished σ h (h ▹ part i j)) i (λ a c n.
        and-off (message σ a).fragmented (begun (h ▹ part i j) a) (done σ h a)
        (λ e. p.ends a n ∙ t.ended a c (sym (p.others a n) ∙ sym (begun-other h i j a n) ∙ e)))) (omega arith);
    recent = λ e. never e (undone j b h p);
  }

  next : (j : ℕ) → suc j < parts (message σ i) → (h : Feed) → Partly σ f l i j h → Partly σ f l i (suc j) (h ▹ part i j)
  unfolding done
  next j b h p =
      let ours' : (k : ℕ) → got (h ▹ part i j) i k ≡ ltb k (suc j) = λ k. got-own h i j k ∙ ap (λ (x : Bool). eqb j k || x) (p.ours k) ∙ up_to j k in
      let not_yet : done σ (h ▹ part i j) i ≡ false =
      all-not (parts (message σ i)) (got (h ▹ part i j) i) (suc j) b (ours' (suc j) ∙ le-ltb (suc j) (suc j) (le_refl (suc j))) in
      record {
        fair = (p.fair, may j (omega arith) h p);
        list = completed-none σ law h (part i j) (completes-not σ h i j not_yet) ∙ p.list;
        ours = ours';
        others = λ a n. begun-other h i j a n ∙ p.others a n;
        ends = λ a n. done-other σ h i j a n ∙ p.ends a n;
      }

  partly : (j : ℕ) → j < parts (message σ i) → Partly σ f l i j (fed_whole f i j)
  unfolding fed_whole
  partly zero b = record {
    fair = t.fair;
    list = t.list;
    ours = λ k. not-begun f i k (t.fresh i new) ∙ sym (le-ltb k 0 zero-le);
    others = λ a n. refl;
    ends = λ a n. refl;
  }
  partly (suc j) b =
      let p : Partly σ f l i j (fed_whole f i j) = partly j (omega arith) in
      next j b (fed_whole f i j) p

  -- the last fragment
  last : (n : ℕ) → parts (message σ i) ≡ suc n → (h : Feed) → Partly σ f l i n h → Tidy σ (h ▹ part i n) (i ∷ l)
  unfolding done times
  last n e h p =
      let full : done σ (h ▹ part i n) i ≡ true =
      all_of (parts (message σ i)) (got (h ▹ part i n) i) (λ k b. got-own h i n k ∙ ap (λ (x : Bool). eqb n k || x) (p.ours k) ∙ up_to n k ∙ lt-ltb k (suc n) (omega (arith, e, b))) in
      let not_yet : done σ h i ≡ false = undone n (omega (arith, e)) h p in
      record {
        fair = (p.fair, may n (omega (arith, e)) h p);
        list = completed-some σ law h (part i n) i (completes_yes σ h i n not_yet full) ∙ ap (λ (x : List ℕ). i ∷ x) p.list;
        ended = λ a b q. elim (ℕ_discrete a i) [
          | yes z ↦ subst (λ (x : ℕ). done σ (h ▹ part i n) x ≡ true) (sym z) full
          | no z ↦ done-other σ h i n a z ∙ p.ends a z ∙ t.ended a b (sym (p.others a z) ∙ sym (begun-other h i n a z) ∙ q)
        ];
        fresh = λ a q. elim (ℕ_discrete a i) [
          | yes z ↦ absurd (let y : one (eqb i a) ≡ 1 = ap one (eq-eqb i a (sym z)) in let w : ⊥ = omega arith in w)
          | no z ↦
              begun-other h i n a z ∙ p.others a z
              ∙ t.fresh a (let y : one (eqb i a) ≡ 0 = ap one (ne_eqb i a (λ u. z (sym u))) in omega arith)
        ];
      }

  pub tidy_one : Tidy σ (fed_whole f i (parts (message σ i))) (i ∷ l)
  unfolding fed_whole
  tidy_one = go (parts (message σ i)) refl
    where
      go : (n : ℕ) → parts (message σ i) ≡ n → Tidy σ (fed_whole f i n) (i ∷ l)
      go zero e = absurd (let b : 0 < parts (message σ i) = has_parts σ law i known in let w : ⊥ = omega arith in w)
      go (suc n) e = last n e (fed_whole f i n) (partly n (omega (arith, e)))

pub whole-tidy : (σ : Scene) → Lawful σ → (l : List ℕ) → Apart σ l → Tidy σ (one_after_another σ l) l
unfolding one_after_another completed
whole-tidy σ law [] n = record { fair = tt; list = refl; ended = λ a b e. never e refl; fresh = λ a e. refl }
whole-tidy σ law (i ∷ l) n = tidy_one σ law (one_after_another σ l) l (whole-tidy σ law l n.2) i n.0 n.1
