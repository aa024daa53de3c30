-- What an arrival does to the book-keeping of a feed: what has come, what is done, in which order. Nothing here knows of the receiver.
use Rattle.wire.proofs.Basics.{◌∙◌, sym, ◌≡◌, ap, refl, subst, ℕ, ◌≤◌, ◌+◌, ◌<◌, suc, zero, List, [], ◌∷◌, map, true, false, Bool, ◌&&◌, ◌||◌, not, or-true, inl, inr, ◌≢◌, some, none, Option, length}
use Rattle.wire.proofs.Basics.{get_or, eqb, eq-eqb, ne_eqb, not-suc-le-zero, le_of_suc-le-suc, ℕ_discrete, arith}
use Rattle.wire.specs.Choice.{pick}
use Rattle.wire.proofs.Choices.{either, never, or-of-right}
use Rattle.steps.specs.declared.Key.{Key}
use Rattle.steps.specs.Limits.{slot_count, ledger_length}
use Rattle.steps.specs.Search.{one, count}
use Rattle.steps.specs.Memory.{same_key, among, FewSenders}
use Rattle.steps.proofs.Tables.{or-not, or_yes, all-at, all_of, all-not, all_cong}
use Rattle.steps.proofs.Memories.{same_key_lem, key-same}
use Rattle.steps.proofs.Latest.{Recent}
use Rattle.arrival.specs.Demand.{Message, Scene, nobody, Distinct, EachSent, SentCut, SentSmall, Sent, key, parts, size, message, slot_bytes, Event, part, noise, Feed}
use Rattle.arrival.specs.Demand.{start, ◌▹◌, RefusedForForm, MayCome, Mixture, NeverOverEight, AtMost16Senders, StillKnown, NeverTooLate, got, begun, done, completes, completed, keys_of, unfinished, push}

-- ---- what is supposed, arrival by arrival

pub record Lawful (σ : Scene) : Type 0 where
  pub distinct : Distinct σ
  pub sent : EachSent σ
  pub ledger-fits : length σ.ledger ≡ ledger_length

-- datagram k of message i may come after f
pub record MayArrive (σ : Scene) (f : Feed) (i k : ℕ) : Type 0 where
  pub known : i < size σ
  pub exists : k < parts (message σ i)
  pub room : count (unfinished σ f (f ▹ part i k)) (size σ) ≤ slot_count
  pub recent : done σ f i ≡ true → Recent (keys_of σ (completed σ f)) (key (message σ i))

abbrev pub Arrives : Scene → Feed → Event → Type 0
Arrives σ f (part i k) = MayArrive σ f i k
Arrives σ f (noise from d) = RefusedForForm (slot_bytes σ) d

abbrev pub Fair : Scene → Feed → Type 0
Fair σ start = Unit {0}
Fair σ (f ▹ e) = Fair σ f × Arrives σ f e

-- the completed messages are some of all
its-key : (l : List Message) (i : ℕ) → i < length l → among (map key l) (key (get_or l i nobody)) ≡ true
unfolding among
its-key [] i h = absurd (not-suc-le-zero h)
its-key (m ∷ l) zero h = or_yes (same_key (key m) (key m)) (among (map key l) (key m)) (key-same (key m))
its-key (m ∷ l) (suc i) h = or-of-right (same_key (key m) (key (get_or l i nobody))) (its-key l i (le_of_suc-le-suc h))

some-of-all : (σ : Scene) (f : Feed) → Mixture σ f → (k : Key) → among (keys_of σ (completed σ f)) k ≡ true → among (map key σ.messages) k ≡ true
unfolding completed completes among
some-of-all σ start a k e = never e refl
some-of-all σ (f ▹ noise from d) a k e = some-of-all σ f a.0 k e
some-of-all σ (f ▹ part i j) a k e = go (not (done σ f i) && done σ (f ▹ part i j) i) (some-of-all σ f a.0 k) e
  where
    go : (b : Bool) → (among (keys_of σ (completed σ f)) k ≡ true → among (map key σ.messages) k ≡ true)
        → among (keys_of σ (push (pick b (some i) none) (completed σ f))) k ≡ true → among (map key σ.messages) k ≡ true
    go false ih q = ih q
    go true ih q = elim (either (same_key (key (message σ i)) k)) [
      | inl t ↦ subst (λ (x : Key). among (map key σ.messages) x ≡ true) (same_key_lem (key (message σ i)) k t) (its-key σ.messages i a.1.0)
      | inr t ↦ ih (sym (or-not (same_key (key (message σ i)) k) (among (keys_of σ (completed σ f)) k) t) ∙ q)
    ]

arrival-of : (σ : Scene) (f : Feed) (e : Event) → MayCome σ e → count (unfinished σ f (f ▹ e)) (size σ) ≤ slot_count
    → FewSenders (keys_of σ (completed σ f)) → StillKnown σ f e → Arrives σ f e
arrival-of σ f (part i k) a b w c = record { known = a.0; exists = a.1; room = b; recent = λ d. record { lately = c d; few = w } }
arrival-of σ f (noise from d) a b w c = a

pub fair-of : (σ : Scene) (f : Feed) → Mixture σ f → NeverOverEight σ f → AtMost16Senders σ → NeverTooLate σ f → Fair σ f
fair-of σ start a b w c = tt
fair-of σ (f ▹ e) a b w c = (
  fair-of σ f a.0 b.0 w c.0,
  arrival-of σ f e a.1 b.1 (record { senders = w.senders; few = w.few; all = λ k q. w.all k (some-of-all σ f a.0 k q) }) c.1,
)

-- how often i stands in l
unfoldable pub times : ℕ → List ℕ → ℕ
times i [] = 0
times i (x ∷ xs) = one (eqb x i) + times i xs

-- ---- one arrival, datagram k of message i

module _ (f : Feed) (i k : ℕ) where
  pub got-own : (j : ℕ) → got (f ▹ part i k) i j ≡ (eqb k j || got f i j)
  got-own j = rw (eq-eqb i i refl)

  pub got_other : (a j : ℕ) → a ≢ i → got (f ▹ part i k) a j ≡ got f a j
  got_other a j n = rw (ne_eqb i a (λ e. n (sym e)))

  pub begun-other : (a : ℕ) → a ≢ i → begun (f ▹ part i k) a ≡ begun f a
  begun-other a n = rw (ne_eqb i a (λ e. n (sym e)))

  pub got-stays : (j : ℕ) → got f i j ≡ true → got (f ▹ part i k) i j ≡ true
  got-stays j e = got-own j ∙ (rw e (or-true (eqb k j)))

  pub got-again : (j : ℕ) → got f i k ≡ true → got (f ▹ part i k) i j ≡ got f i j
  got-again j e = elim (ℕ_discrete j k) [
    | yes q ↦ rw q (got-stays k e ∙ sym e)
    | no q ↦ got-own j ∙ or-not (eqb k j) (got f i j) (ne_eqb k j (λ z. q (sym z)))
  ]

pub not-begun : (f : Feed) (i j : ℕ) → begun f i ≡ false → got f i j ≡ false
not-begun start i j e = refl
not-begun (f ▹ part a b) i j e = elim (ℕ_discrete a i) [
  | yes q ↦ never (or_yes (eqb a i) (begun f i) (eq-eqb a i q)) e
  | no q ↦
      let z : eqb a i ≡ false = ne_eqb a i q in
      let r : begun f i ≡ false = sym (or-not (eqb a i) (begun f i) z) ∙ e in
      rw z (not-begun f i j r)
]
not-begun (f ▹ noise from d) i j e = not-begun f i j e

module _ (σ : Scene) (f : Feed) (i k : ℕ) where
  pub done-other : (a : ℕ) → a ≢ i → done σ (f ▹ part i k) a ≡ done σ f a
  unfolding done
  done-other a n = all_cong (parts (message σ a)) (got (f ▹ part i k) a) (got f a) (λ j b. got_other f i k a j n)

  pub done-stays : done σ f i ≡ true → done σ (f ▹ part i k) i ≡ true
  unfolding done
  done-stays e = all_of (parts (message σ i)) (got (f ▹ part i k) i) (λ j b. got-stays f i k j (all-at (parts (message σ i)) (got f i) e j b))

  pub done-again : got f i k ≡ true → done σ (f ▹ part i k) i ≡ done σ f i
  unfolding done
  done-again e = all_cong (parts (message σ i)) (got (f ▹ part i k) i) (got f i) (λ j b. got-again f i k j e)

  pub live-other : (a : ℕ) → a ≢ i → unfinished σ (f ▹ part i k) (f ▹ part i k) a ≡ unfinished σ f f a
  unfolding unfinished
  live-other a n = rw (begun-other f i k a n, done-other a n)

  -- whether the arrival completes its message
  pub completes_yes : done σ f i ≡ false → done σ (f ▹ part i k) i ≡ true → completes σ f (part i k) ≡ some i
  unfolding completes
  completes_yes p q = cc

  pub completes-not : done σ (f ▹ part i k) i ≡ false → completes σ f (part i k) ≡ none
  unfolding completes
  completes-not q = elim (either (done σ f i)) [ inl e ↦ never (done-stays e) q | inr e ↦ cc ]

  pub completes-past : done σ f i ≡ true → completes σ f (part i k) ≡ none
  unfolding completes
  completes-past q = cc

-- a message that is done is not unfinished
pub ended_dead : (σ : Scene) (h : Feed) (i : ℕ) → done σ h i ≡ true → unfinished σ h h i ≡ false
unfolding unfinished
ended_dead σ h i e = rw e (go (message σ i).fragmented (begun h i))
  where
    go : (a b : Bool) → (a && (b && false)) ≡ false
    go true true = refl
    go true false = refl
    go false b = refl

pub has_parts : (σ : Scene) → Lawful σ → (i : ℕ) → i < size σ → 0 < parts (message σ i)
has_parts σ law i b = go (message σ i) (law.sent i b)
  where
    by : (m : Message) (c : Bool) → pick c (SentCut (slot_bytes σ) m) (SentSmall m) → 0 < parts m
    by m true s = s.lawful.cut.at_least_one
    by m false s = omega (arith, s.single)

    go : (m : Message) → Sent (slot_bytes σ) m → 0 < parts m
    go m s = by m m.fragmented s

module _ (σ : Scene) (law : Lawful σ) where
  nothing-done : (i : ℕ) → i < size σ → done σ start i ≡ false
  unfolding done
  nothing-done i b = all-not (parts (message σ i)) (got start i) 0 (has_parts σ law i b) refl

  pub other_key : (a i : ℕ) → a < size σ → i < size σ → a ≢ i → same_key (key (message σ a)) (key (message σ i)) ≡ false
  other_key a i p q n = elim (either (same_key (key (message σ a)) (key (message σ i)))) [
    | inl e ↦ absurd (n (law.distinct a i p q (same_key_lem (key (message σ a)) (key (message σ i)) e)))
    | inr e ↦ e
  ]

  -- An arrival leaves the completed messages as they are, and every message as done as it was; or it completes its message.
  pub data Change (f : Feed) (a k : ℕ) : Type 0 where
    same : completed σ (f ▹ part a k) ≡ completed σ f → ((i : ℕ) → done σ (f ▹ part a k) i ≡ done σ f i) → Change f a k
    more : completed σ (f ▹ part a k) ≡ a ∷ completed σ f → done σ f a ≡ false → done σ (f ▹ part a k) a ≡ true → Change f a k

  pub completed-none : (f : Feed) (e : Event) → completes σ f e ≡ none → completed σ (f ▹ e) ≡ completed σ f
  unfolding completed
  completed-none f e q = ap (λ (o : Option ℕ). push o (completed σ f)) q

  pub completed-some : (f : Feed) (e : Event) (a : ℕ) → completes σ f e ≡ some a → completed σ (f ▹ e) ≡ a ∷ completed σ f
  unfolding completed
  completed-some f e a q = ap (λ (o : Option ℕ). push o (completed σ f)) q

  pub change : (f : Feed) (a k : ℕ) → Change f a k
  change f a k = elim (either (done σ f a)) [
    | inl p ↦ same (completed-none f (part a k) (completes-past σ f a k p)) (agree (done-stays σ f a k p ∙ sym p))
    | inr p ↦ elim (either (done σ (f ▹ part a k) a)) [
      | inl q ↦ more (completed-some f (part a k) a (completes_yes σ f a k p q)) p q
      | inr q ↦ same (completed-none f (part a k) (completes-not σ f a k q)) (agree (q ∙ sym p))
    ]
  ]
    where
      agree : done σ (f ▹ part a k) a ≡ done σ f a → (i : ℕ) → done σ (f ▹ part a k) i ≡ done σ f i
      agree e i = elim (ℕ_discrete i a) [ yes q ↦ rw q e | no q ↦ done-other σ f a k i q ]

  -- the delivered keys are those of the messages that are done, each once
  pub done-keys : (f : Feed) → Fair σ f → (i : ℕ) → i < size σ → among (keys_of σ (completed σ f)) (key (message σ i)) ≡ done σ f i
  unfolding completed completes among done
  done-keys start fair i b = sym (nothing-done i b)
  done-keys (f ▹ noise from d) fair i b = done-keys f fair.0 i b
  done-keys (f ▹ part a k) fair i b = go (done-keys f fair.0 i b) (change f a k)
    where
      go : among (keys_of σ (completed σ f)) (key (message σ i)) ≡ done σ f i → Change f a k
          → among (keys_of σ (completed σ (f ▹ part a k))) (key (message σ i)) ≡ done σ (f ▹ part a k) i
      go ih (same p q) = rw p (ih ∙ sym (q i))
      go ih (more p q r) = rw p (elim (ℕ_discrete a i) [
        | yes z ↦ rw z (or_yes (same_key (key (message σ i)) (key (message σ i))) _ (key-same (key (message σ i)))) ∙ sym (subst (λ (x : ℕ). done σ (f ▹ part a k) x ≡ true) z r)
        | no z ↦
            or-not (same_key (key (message σ a)) (key (message σ i))) _ (other_key a i fair.1.known b z)
            ∙ ih ∙ sym (done-other σ f a k i (λ y. z (sym y)))
      ])

  pub done-once : (f : Feed) → Fair σ f → (i : ℕ) → i < size σ → times i (completed σ f) ≡ one (done σ f i)
  unfolding completed completes times done
  done-once start fair i b = sym (ap one (nothing-done i b))
  done-once (f ▹ noise from d) fair i b = done-once f fair.0 i b
  done-once (f ▹ part a k) fair i b = go (done-once f fair.0 i b) (change f a k)
    where
      go : times i (completed σ f) ≡ one (done σ f i) → Change f a k → times i (completed σ (f ▹ part a k)) ≡ one (done σ (f ▹ part a k) i)
      go ih (same p q) = rw p (ih ∙ ap one (sym (q i)))
      go ih (more p q r) = rw p (elim (ℕ_discrete a i) [
        | yes z ↦
            let q' : done σ f i ≡ false = rw z at q in
            let r' : done σ (f ▹ part a k) i ≡ true = subst (λ (x : ℕ). done σ (f ▹ part a k) x ≡ true) z r in
            let t' : times i (completed σ f) ≡ 0 = ih ∙ ap one q' in
            rw (eq-eqb a i z, t', r')
        | no z ↦ rw (ne_eqb a i z, ih, done-other σ f a k i (λ y. z (sym y))) (omega arith)
      ])
