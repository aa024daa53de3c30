-- The premises of demand 3 as tests that compute, and that a scene and a feed that pass them meet the premises.
use Rattle.wire.proofs.Basics.{◌∙◌, sym, ◌≡◌, ap, refl, subst, ℕ, ◌+◌, ◌<◌, List, [], ◌∷◌, map, true, false, Bool, ◌&&◌, ◌||◌, not, inl, inr, length, eqb, ltb, leb, lt-ltb, eqb-true, ltb-true}
use Rattle.wire.proofs.Basics.{leb-true, ℕ_discrete, dec_le, arith}
use Rattle.wire.specs.Choice.{pick}
use Rattle.wire.specs.Same.{same}
use Rattle.wire.proofs.Choices.{either, never, and_l, and_r}
use Rattle.wire.proofs.Parts.{same_true}
use Rattle.datagram.specs.Limits.{max_payload, max_fragments}
use Rattle.datagram.specs.Said.{Fragment, Said, refused, small, fragment, said}
use Rattle.cutter.specs.Trip.{joined}
use Rattle.steps.specs.declared.Key.{Key}
use Rattle.steps.specs.Limits.{slot_count, senders_most, keys_each, ledger_length}
use Rattle.steps.specs.Search.{all_below, count}
use Rattle.steps.specs.Memory.{same_key, among, has, since}
use Rattle.steps.proofs.Tables.{all-at, not-true, or-not, or_yes}
use Rattle.steps.proofs.Memories.{key-same}
use Rattle.arrival.specs.Demand.{Message, Scene, SentSmall, SentCut, Sent, key, parts, datagram, size, message, slot_bytes, Distinct, Event, part, noise}
use Rattle.arrival.specs.Demand.{Feed, start, ◌▹◌, RefusedForForm, MayCome, Mixture, got, done, unfinished, NeverOverEight, AtMost16Senders, completed, keys_of, StillKnown, NeverTooLate, Supposed}
use Rattle.arrival.proofs.Pieces.{fragment_said, piece}

-- ---- the tests

abbrev is_fragment : Said → Bool
is_fragment (refused n) = false
is_fragment (small q name payload) = false
is_fragment (fragment f) = true

abbrev says_small : Message → Said → Bool
says_small m (refused n) = false
says_small m (small q name payload) = eqb q m.sequence && (same name m.name && same payload m.payload)
says_small m (fragment f) = false

abbrev is_form : Said → Bool
is_form (refused n) = leb 1 n && leb n 7
is_form (small q name payload) = false
is_form (fragment f) = false

abbrev sent_small : Message → Bool
sent_small m = eqb (parts m) 1 && says_small m (said max_payload max_fragments (datagram m 0))

-- fragment k by itself, and that the next begins where it ends
abbrev piece_ok : Message → ℕ → Bool
piece_ok m k =
    let f : Fragment = piece max_payload m k in
    is_fragment (said max_payload max_fragments (datagram m k))
    && (eqb f.number k && (eqb f.sequence m.sequence && (eqb f.size (length m.payload) && (eqb f.count (parts m)
    && pick (ltb (k + 1) (parts m)) (eqb (piece max_payload m (k + 1)).offset (f.offset + length f.bytes)) true))))

abbrev sent_cut : ℕ → Message → Bool
sent_cut C m =
    ltb 0 (parts m)
    && (leb (length m.payload) C
    && (all_below (parts m) (piece_ok m)
    && (same (piece max_payload m 0).name m.name
    && same (joined (λ k. (piece max_payload m k).bytes) (parts m)) m.payload)))

abbrev sent_ok : ℕ → Message → Bool
sent_ok C m = pick m.fragmented (sent_cut C m) (sent_small m)

abbrev may_come : Scene → Event → Bool
may_come σ (part i k) = ltb i (size σ) && ltb k (parts (message σ i))
may_come σ (noise from d) = is_form (said (slot_bytes σ) max_fragments d)

abbrev pub mixture_ok : Scene → Feed → Bool
mixture_ok σ start = true
mixture_ok σ (f ▹ e) = may_come σ e && mixture_ok σ f

abbrev pub eight_ok : Scene → Feed → Bool
eight_ok σ start = true
eight_ok σ (f ▹ e) = leb (count (unfinished σ f (f ▹ e)) (size σ)) slot_count && eight_ok σ f

abbrev still_known : Scene → Feed → Event → Bool
still_known σ f (part i k) = pick (done σ f i) (ltb (since (keys_of σ (completed σ f)) (key (message σ i))) keys_each) true
still_known σ f (noise from d) = true

abbrev pub late_ok : Scene → Feed → Bool
late_ok σ start = true
late_ok σ (f ▹ e) = still_known σ f e && late_ok σ f

-- each number once
abbrev each_once : List ℕ → List ℕ
each_once [] = []
each_once (x ∷ l) = pick (has l x) (each_once l) (x ∷ each_once l)

abbrev senders_of : List Message → List ℕ
senders_of l = each_once (map (λ (m : Message). m.sender) l)

abbrev pub senders_ok : Scene → Bool
senders_ok σ = leb (length (senders_of σ.messages)) senders_most

-- one test for each premise
pub record Tests : Type 0 where
  pub distinct : Bool
  pub sent : Bool
  pub ledger-fits : Bool
  pub mixture : Bool
  pub each-comes : Bool
  pub never-over-eight : Bool
  pub few-senders : Bool
  pub never_too-late : Bool

unfoldable pub tests : Scene → Feed → Tests
tests σ f = record {
  distinct = all_below (size σ) (λ i. all_below i (λ j. not (same_key (key (message σ i)) (key (message σ j)))));
  sent = all_below (size σ) (λ i. sent_ok (slot_bytes σ) (message σ i));
  ledger-fits = eqb (length σ.ledger) ledger_length;
  mixture = mixture_ok σ f;
  each-comes = all_below (size σ) (λ i. all_below (parts (message σ i)) (got f i));
  never-over-eight = eight_ok σ f;
  few-senders = senders_ok σ;
  never_too-late = late_ok σ f;
}

-- what the eight give, in that order
abbrev pub giving : Bool → Bool → Bool → Bool → Bool → Bool → Bool → Bool → Tests
giving a b c d e f g h = record { distinct = a; sent = b; ledger-fits = c; mixture = d; each-comes = e; never-over-eight = f; few-senders = g; never_too-late = h }

abbrev pub all_pass : Tests
all_pass = giving true true true true true true true true

-- ---- what they show

distinct_of : (σ : Scene) → all_below (size σ) (λ i. all_below i (λ j. not (same_key (key (message σ i)) (key (message σ j))))) ≡ true → Distinct σ
distinct_of σ e i j a b q = elim (ℕ_discrete i j) [
  | yes z ↦ z
  | no z ↦ elim (dec_le i j) [
    | yes l ↦ absurd (differ j i b (omega arith) (sym q))
    | no l ↦ absurd (differ i j a (omega arith) q)
  ]
]
  where
    differ : (i j : ℕ) → i < size σ → j < i → key (message σ i) ≡ key (message σ j) → ⊥
    differ i j a b q =
        never (subst (λ k. same_key (key (message σ i)) k ≡ true) q (key-same (key (message σ i))))
        (not-true (same_key (key (message σ i)) (key (message σ j)))
        (all-at i (λ j. not (same_key (key (message σ i)) (key (message σ j)))) (all-at (size σ) (λ i. all_below i (λ j. not (same_key (key (message σ i)) (key (message σ j))))) e i a) j b))

small_of_lem : (m : Message) → sent_small m ≡ true → SentSmall m
small_of_lem m e = record {
  single = eqb-true (parts m) 1 (and_l (eqb (parts m) 1) _ e);
  reads = go (said max_payload max_fragments (datagram m 0)) (and_r (eqb (parts m) 1) _ e);
}
  where
    go : (r : Said) → says_small m r ≡ true → r ≡ small m.sequence m.name m.payload
    go (refused n) q = never refl (sym q)
    go (fragment f) q = never refl (sym q)
    go (small s name payload) q =
        let a : s ≡ m.sequence = eqb-true s m.sequence (and_l (eqb s m.sequence) (same name m.name && same payload m.payload) q) in
        let b : (same name m.name && same payload m.payload) ≡ true = and_r (eqb s m.sequence) _ q in
        let c : name ≡ m.name = same_true name m.name (and_l (same name m.name) (same payload m.payload) b) in
        let d : payload ≡ m.payload = same_true payload m.payload (and_r (same name m.name) (same payload m.payload) b) in
        cc

is-fragment : (r : Said) → is_fragment r ≡ true → r ≡ fragment (fragment_said r)
is-fragment (refused n) q = never refl (sym q)
is-fragment (small s name payload) q = never refl (sym q)
is-fragment (fragment f) q = refl

module _ (C : ℕ) (m : Message) (e : sent_cut C m ≡ true) where
  abbrev n : ℕ
  n = parts m

  abbrev fr : ℕ → Fragment
  fr = piece max_payload m

  e₂ : (leb (length m.payload) C && (all_below n (piece_ok m) && (same (fr 0).name m.name && same (joined (λ k. (fr k).bytes) n) m.payload))) ≡ true
  e₂ = and_r (ltb 0 n) _ e

  e₃ : (all_below n (piece_ok m) && (same (fr 0).name m.name && same (joined (λ k. (fr k).bytes) n) m.payload)) ≡ true
  e₃ = and_r (leb (length m.payload) C) _ e₂

  e₄ : (same (fr 0).name m.name && same (joined (λ k. (fr k).bytes) n) m.payload) ≡ true
  e₄ = and_r (all_below n (piece_ok m)) _ e₃

  module _ (k : ℕ) (h : k < n) where
    p₁ : piece_ok m k ≡ true
    p₁ = all-at n (piece_ok m) (and_l (all_below n (piece_ok m)) _ e₃) k h

    p₂ : (eqb (fr k).number k && (eqb (fr k).sequence m.sequence && (eqb (fr k).size (length m.payload) && (eqb (fr k).count n
        && pick (ltb (k + 1) n) (eqb (fr (k + 1)).offset ((fr k).offset + length (fr k).bytes)) true)))) ≡ true
    p₂ = and_r (is_fragment (said max_payload max_fragments (datagram m k))) _ p₁

    p₃ : (eqb (fr k).sequence m.sequence && (eqb (fr k).size (length m.payload) && (eqb (fr k).count n
        && pick (ltb (k + 1) n) (eqb (fr (k + 1)).offset ((fr k).offset + length (fr k).bytes)) true))) ≡ true
    p₃ = and_r (eqb (fr k).number k) _ p₂

    p₄ : (eqb (fr k).size (length m.payload) && (eqb (fr k).count n
        && pick (ltb (k + 1) n) (eqb (fr (k + 1)).offset ((fr k).offset + length (fr k).bytes)) true)) ≡ true
    p₄ = and_r (eqb (fr k).sequence m.sequence) _ p₃

    p₅ : (eqb (fr k).count n && pick (ltb (k + 1) n) (eqb (fr (k + 1)).offset ((fr k).offset + length (fr k).bytes)) true) ≡ true
    p₅ = and_r (eqb (fr k).size (length m.payload)) _ p₄

    next-at : k + 1 < n → (fr (k + 1)).offset ≡ (fr k).offset + length (fr k).bytes
    next-at b = eqb-true _ _ (subst (λ (t : Bool). pick t (eqb (fr (k + 1)).offset ((fr k).offset + length (fr k).bytes)) true ≡ true) (lt-ltb (k + 1) n b)
        (and_r (eqb (fr k).count n) _ p₅))

  cut-sent : SentCut C m
  cut-sent = record {
    lawful = record {
      cut = record {
        at_least_one = ltb-true 0 n (and_l (ltb 0 n) _ e);
        sequence = m.sequence;
        size = length m.payload;
        piece = fr;
        good = λ k h. is-fragment (said max_payload max_fragments (datagram m k)) (and_l (is_fragment (said max_payload max_fragments (datagram m k))) _ (p₁ k h));
        numbers = λ k h. eqb-true (fr k).number k (and_l (eqb (fr k).number k) _ (p₂ k h));
        sequences = λ k h. eqb-true (fr k).sequence m.sequence (and_l (eqb (fr k).sequence m.sequence) _ (p₃ k h));
        sizes = λ k h. eqb-true (fr k).size (length m.payload) (and_l (eqb (fr k).size (length m.payload)) _ (p₄ k h));
        counts = λ k h. eqb-true (fr k).count n (and_l (eqb (fr k).count n) _ (p₅ k h));
        follows = λ k h. next-at k (omega arith) h;
      };
      its-sequence = refl;
      its-name = same_true (fr 0).name m.name (and_l (same (fr 0).name m.name) _ e₄);
      its-payload = same_true (joined (λ k. (fr k).bytes) n) m.payload (and_r (same (fr 0).name m.name) _ e₄);
    };
    no-larger = leb-true (length m.payload) C (and_l (leb (length m.payload) C) _ e₂);
  }

sent-of : (C : ℕ) (m : Message) → sent_ok C m ≡ true → Sent C m
sent-of C m e = go m.fragmented e
  where
    go : (b : Bool) → pick b (sent_cut C m) (sent_small m) ≡ true → pick b (SentCut C m) (SentSmall m)
    go true q = cut-sent C m q
    go false q = small_of_lem m q

may-come : (σ : Scene) (e : Event) → may_come σ e ≡ true → MayCome σ e
may-come σ (part i k) q =
    (ltb-true i (size σ) (and_l (ltb i (size σ)) (ltb k (parts (message σ i))) q), ltb-true k (parts (message σ i)) (and_r (ltb i (size σ)) (ltb k (parts (message σ i))) q))
may-come σ (noise from d) q = go (said (slot_bytes σ) max_fragments d) refl q
  where
    go : (r : Said) → said (slot_bytes σ) max_fragments d ≡ r → is_form r ≡ true → RefusedForForm (slot_bytes σ) d
    go (refused n) p z = record {
      number = n;
      least = leb-true 1 n (and_l (leb 1 n) (leb n 7) z);
      most = leb-true n 7 (and_r (leb 1 n) (leb n 7) z);
      refuses = p;
    }
    go (small s name payload) p z = never refl (sym z)
    go (fragment f) p z = never refl (sym z)

mixture-of : (σ : Scene) (f : Feed) → mixture_ok σ f ≡ true → Mixture σ f
mixture-of σ start q = tt
mixture-of σ (f ▹ e) q = (mixture-of σ f (and_r (may_come σ e) (mixture_ok σ f) q), may-come σ e (and_l (may_come σ e) (mixture_ok σ f) q))

eight-of : (σ : Scene) (f : Feed) → eight_ok σ f ≡ true → NeverOverEight σ f
eight-of σ start q = tt
eight-of σ (f ▹ e) q = (eight-of σ f (and_r (leb (count (unfinished σ f (f ▹ e)) (size σ)) slot_count) (eight_ok σ f) q), leb-true _ _ (and_l (leb (count (unfinished σ f (f ▹ e)) (size σ)) slot_count) (eight_ok σ f) q))

known_of : (σ : Scene) (f : Feed) (e : Event) → still_known σ f e ≡ true → StillKnown σ f e
known_of σ f (part i k) q = λ d. ltb-true _ _ (subst (λ (t : Bool). pick t (ltb (since (keys_of σ (completed σ f)) (key (message σ i))) keys_each) true ≡ true) d q)
known_of σ f (noise from d) q = tt

late_of : (σ : Scene) (f : Feed) → late_ok σ f ≡ true → NeverTooLate σ f
late_of σ start q = tt
late_of σ (f ▹ e) q = (late_of σ f (and_r (still_known σ f e) (late_ok σ f) q), known_of σ f e (and_l (still_known σ f e) (late_ok σ f) q))

once-has : (l : List ℕ) (x : ℕ) → has l x ≡ true → has (each_once l) x ≡ true
once-has [] x e = e
once-has (y ∷ l) x e = go (has l y) refl (once-has l x)
  where
    keep : (t : Bool) → (t || has l x) ≡ true → (has l x ≡ true → has (each_once l) x ≡ true) → (t || has (each_once l) x) ≡ true
    keep true q ih = refl
    keep false q ih = ih q

    go : (b : Bool) → has l y ≡ b → (has l x ≡ true → has (each_once l) x ≡ true) → has (pick b (each_once l) (y ∷ each_once l)) x ≡ true
    go false p ih = keep (eqb y x) e ih
    go true p ih = elim (either (eqb y x)) [
      | inl t ↦ ih (subst (λ (z : ℕ). has l z ≡ true) (eqb-true y x t) p)
      | inr t ↦ ih (sym (or-not (eqb y x) (has l x) t) ∙ e)
    ]

key-sender : (l : List Message) (k : Key) → among (map key l) k ≡ true → has (map (λ (m : Message). m.sender) l) k.sender ≡ true
unfolding among
key-sender [] k e = e
key-sender (m ∷ l) k e = elim (either (same_key (key m) k)) [
  | inl t ↦ or_yes (eqb m.sender k.sender) _ (and_l (eqb m.sender k.sender) _ t)
  | inr t ↦ right (eqb m.sender k.sender) (key-sender l k (sym (or-not (same_key (key m) k) (among (map key l) k) t) ∙ e))
]
  where
    right : (a : Bool) {b : Bool} → b ≡ true → (a || b) ≡ true
    right true q = refl
    right false q = q

senders-of : (σ : Scene) → senders_ok σ ≡ true → AtMost16Senders σ
senders-of σ e = record {
  senders = senders_of σ.messages;
  few = leb-true _ _ e;
  all = λ k q. once-has (map (λ (m : Message). m.sender) σ.messages) k.sender (key-sender σ.messages k q);
}

-- a scene and a feed that pass every test meet the premises
pub tested : (σ : Scene) (f : Feed) → tests σ f ≡ all_pass → Supposed σ f
unfolding tests
tested σ f e = record {
  distinct = distinct_of σ (ap (λ (t : Tests). t.distinct) e);
  sent = λ i b. sent-of (slot_bytes σ) (message σ i) (all-at (size σ) (λ i. sent_ok (slot_bytes σ) (message σ i)) (ap (λ (t : Tests). t.sent) e) i b);
  ledger-fits = eqb-true (length σ.ledger) ledger_length (ap (λ (t : Tests). t.ledger-fits) e);
  mixture = mixture-of σ f (ap (λ (t : Tests). t.mixture) e);
  each-comes = λ i k b c.
      all-at (parts (message σ i)) (got f i) (all-at (size σ) (λ i. all_below (parts (message σ i)) (got f i)) (ap (λ (t : Tests). t.each-comes) e) i b) k c;
  never-over-eight = eight-of σ f (ap (λ (t : Tests). t.never-over-eight) e);
  few-senders = senders-of σ (ap (λ (t : Tests). t.few-senders) e);
  never_too-late = late_of σ f (ap (λ (t : Tests). t.never_too-late) e);
}
