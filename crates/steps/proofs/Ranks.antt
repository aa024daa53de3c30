-- The turns of the open slots are their ranks in the order of opening: below their number, each once, from 0 up. What a slot freed, opened or filled does to them.
use Rattle.wire.proofs.Basics.{◌∙◌, sym, ◌≡◌, ap, refl, subst, subst₂, ℕ, ◌≤◌, ◌<◌, ◌-◌, suc, List, true, false, inl, inr, ◌≢◌, ◌⊎◌, none, length, set, length-set, get_or-set_other, ltb, le-ltb, lt-ltb}
use Rattle.wire.proofs.Basics.{not-suc-le-zero, ℕ_discrete, dec_le, arith}
use Rattle.wire.specs.Choice.{pick}
use Rattle.wire.proofs.Choices.{either, never}
use Rattle.datagram.specs.Said.{Fragment}
use Rattle.steps.specs.Limits.{slot_count}
use Rattle.steps.specs.Memory.{Key}
use Rattle.steps.specs.Slots.{Slot, busy, no_slot, slot_at, find_open_lem, open_count_lem, oldest, lower, release, filled, all_held_lem, Seat, seat, Emptied}
use Rattle.steps.specs.Receive.{Machine, After, step5}
use Rattle.steps.proofs.Tables.{count_same, count_flip, count_none}
use Rattle.steps.proofs.Seats.{busy_at, turn_at, key_at, look, same-busy, same-its-key, set_there, release_length, freed, left, left-look, left_busy, not-freed, oldest-low, open_none, Seated, free, full, seated}
use Rattle.steps.proofs.Branches.{step5-delivered, step5-kept}

pub record Ranks (slots : List Slot) : Type 0 where
  pub below : (a : ℕ) → a < slot_count → busy_at slots a ≡ true → turn_at slots a < open_count_lem slots
  pub once : (a b : ℕ) → a < slot_count → b < slot_count → busy_at slots a ≡ true → busy_at slots b ≡ true → turn_at slots a ≡ turn_at slots b → a ≡ b
  pub all : (t : ℕ) → t < open_count_lem slots → (a : ℕ) × (a < slot_count) × (busy_at slots a ≡ true) × (turn_at slots a ≡ t)

pub none-ranked : (slots : List Slot) → ((a : ℕ) → a < slot_count → busy_at slots a ≡ false) → Ranks slots
unfolding open_count_lem
none-ranked slots h = record {
  below = λ a b e. never e (h a b);
  once = λ a b p q e f g. never e (h a p);
  all = λ t b. absurd (not-suc-le-zero (subst (λ (n : ℕ). t < n) (count_none slot_count (busy_at slots) h) b));
}

-- ---- a slot is freed

abbrev down : ℕ → ℕ → ℕ
down t u = pick (ltb t u) (u - 1) u

-- turn u, when a slot of turn t is freed
down-case : (t u : ℕ) → ((t < u) × (down t u ≡ u - 1)) ⊎ ((u ≤ t) × (down t u ≡ u))
down-case t u = elim (dec_le u t) [ yes h ↦ inr (h, rw (le-ltb t u h)) | no h ↦ inl (omega arith, rw (lt-ltb t u (omega arith))) ]

down_lt : (t u n : ℕ) → u ≢ t → u < suc n → t < suc n → down t u < n
down_lt t u n d a b = elim (down-case t u) [ inl p ↦ omega (arith, p.0, p.1) | inr p ↦ omega (arith, p.0, p.1) ]

-- of two that stay, the lower stays the lower, and so two that differ differ
down-order : (t u v : ℕ) → u ≢ t → u < v → down t u < down t v
down-order t u v d e = elim (down-case t u) [
  | inl p ↦ elim (down-case t v) [ inl q ↦ omega (arith, p.0, p.1, q.0, q.1) | inr q ↦ omega (arith, p.0, p.1, q.0, q.1) ]
  | inr p ↦ elim (down-case t v) [ inl q ↦ omega (arith, p.0, p.1, q.0, q.1) | inr q ↦ omega (arith, p.0, p.1, q.0, q.1) ]
]

down-once : (t u v : ℕ) → u ≢ t → v ≢ t → down t u ≡ down t v → u ≡ v
down-once t u v a b e = elim (down-case t u) [
  | inl p ↦ elim (down-case t v) [ inl q ↦ omega (arith, p.0, p.1, q.0, q.1) | inr q ↦ omega (arith, p.0, p.1, q.0, q.1) ]
  | inr p ↦ elim (down-case t v) [ inl q ↦ omega (arith, p.0, p.1, q.0, q.1) | inr q ↦ omega (arith, p.0, p.1, q.0, q.1) ]
]

-- What freeing slot s does to another: a free slot and one of no later turn stay as they are, an open one of a later turn moves down by one.
module _ (slots : List Slot) (s a : ℕ) (n : a ≢ s) where
  pub free_stays : busy_at slots a ≡ false → slot_at (release slots s) a ≡ slot_at slots a
  unfolding lower
  free_stays e = left slots s a n ∙ rw e

  pub earlier-stays : turn_at slots a ≤ turn_at slots s → slot_at (release slots s) a ≡ slot_at slots a
  unfolding lower
  earlier-stays h = left slots s a n ∙ elim (either (busy_at slots a)) [
    | inl e ↦ rw (e, le-ltb (turn_at slots s) (turn_at slots a) h)
    | inr e ↦ rw e
  ]

  pub later-moves : busy_at slots a ≡ true → turn_at slots s < turn_at slots a → turn_at (release slots s) a ≡ turn_at slots a - 1
  unfolding lower
  later-moves e h = ap (λ (x : Slot). x.turn) (left slots s a n) ∙ rw (e, lt-ltb (turn_at slots s) (turn_at slots a) h)

  pub left-turn : busy_at slots a ≡ true → turn_at (release slots s) a ≡ down (turn_at slots s) (turn_at slots a)
  unfolding lower
  left-turn b = ap (λ (x : Slot). x.turn) (left slots s a n) ∙ (rw b)

-- Some open slots are freed: the others keep all but their turns, and their order.
pub record Shrunk (old new : List Slot) : Type 0 where
  pub eight : length new ≡ slot_count
  pub ranks : Ranks new
  pub as_before : (s : ℕ) → busy_at new s ≡ true → look new s ≡ look old s
  pub order : (s t : ℕ) → s < slot_count → t < slot_count → busy_at new s ≡ true → busy_at new t ≡ true → turn_at old s < turn_at old t → turn_at new s < turn_at new t

pub was-open : {old new : List Slot} → Shrunk old new → (s : ℕ) → busy_at new s ≡ true → busy_at old s ≡ true
was-open h s e = sym (same-busy (h.as_before s e)) ∙ e

pub order-back : {old new : List Slot} → Ranks old → Shrunk old new → (s t : ℕ) → s < slot_count → t < slot_count → busy_at new s ≡ true → busy_at new t ≡ true
    → turn_at new s < turn_at new t → turn_at old s < turn_at old t
order-back {old} {new} o h s t a b p q e = elim (dec_le (suc (turn_at old s)) (turn_at old t)) [
  | yes u ↦ u
  | no u ↦ elim (ℕ_discrete (turn_at old s) (turn_at old t)) [
    | yes v ↦
        let z : s ≡ t = o.once s t a b (was-open h s p) (was-open h t q) v in
        let w : turn_at new s ≡ turn_at new t = ap (turn_at new) z in
        omega arith
    | no v ↦
        let w : turn_at new t < turn_at new s = h.order t s b a q p (omega arith) in
        omega arith
  ]
]

pub shrunk-none : (slots : List Slot) → length slots ≡ slot_count → Ranks slots → Shrunk slots slots
shrunk-none slots e o = record { eight = e; ranks = o; as_before = λ s b. refl; order = λ s t a b p q h. h }

pub shrunk-then : {a b c : List Slot} → Shrunk a b → Shrunk b c → Shrunk a c
shrunk-then h k = record {
  eight = k.eight;
  ranks = k.ranks;
  as_before = λ s e. k.as_before s e ∙ h.as_before s (was-open k s e);
  order = λ s t a b p q e. k.order s t a b p q (h.order s t a b (was-open k s p) (was-open k t q) e);
}

module _ (slots : List Slot) (eight : length slots ≡ slot_count) (o : Ranks slots) (s : ℕ) (inside : s < slot_count) (is-busy : busy_at slots s ≡ true) where
  abbrev new : List Slot
  new = release slots s

  spared : (a : ℕ) → busy_at new a ≡ true → a ≢ s
  spared a e = not-freed slots s a eight inside e

  was : (a : ℕ) → busy_at new a ≡ true → busy_at slots a ≡ true
  was a e = sym (left_busy slots s a (spared a e)) ∙ e

  fewer : open_count_lem slots ≡ suc (open_count_lem new)
  unfolding open_count_lem
  fewer = count_flip slot_count (busy_at new) (busy_at slots) s inside (ap busy (freed slots s eight inside)) is-busy (λ a b n. left_busy slots s a n)

  other-turn : (a : ℕ) → a < slot_count → busy_at new a ≡ true → turn_at slots a ≢ turn_at slots s
  other-turn a b e q = spared a e (o.once a s b inside (was a e) is-busy q)

  its-turn : (a : ℕ) → busy_at new a ≡ true → turn_at new a ≡ down (turn_at slots s) (turn_at slots a)
  its-turn a e = left-turn slots s a (spared a e) (was a e)

  -- the slot that had turn u has turn t now
  now : (t u : ℕ) → u < open_count_lem slots → u ≢ turn_at slots s → down (turn_at slots s) u ≡ t
      → (a : ℕ) × (a < slot_count) × (busy_at new a ≡ true) × (turn_at new a ≡ t)
  now t u b d e =
      let r = o.all u b in
      let n : r.0 ≢ s = λ q. d (sym r.3 ∙ ap (turn_at slots) q) in
      (r.0, r.1, left_busy slots s r.0 n ∙ r.2, left-turn slots s r.0 n r.2 ∙ ap (down (turn_at slots s)) r.3 ∙ e)

  pub shrunk-release : Shrunk slots (release slots s)
  shrunk-release = record {
    eight = release_length slots s ∙ eight;
    ranks = record {
      below = λ a b e. subst (λ (x : ℕ). x < open_count_lem new) (sym (its-turn a e))
          (down_lt (turn_at slots s) (turn_at slots a) (open_count_lem new) (other-turn a b e)
          (subst (λ (x : ℕ). turn_at slots a < x) fewer (o.below a b (was a e))) (subst (λ (x : ℕ). turn_at slots s < x) fewer (o.below s inside is-busy)));
      once = λ a b p q e f g. o.once a b p q (was a e) (was b f)
          (down-once (turn_at slots s) (turn_at slots a) (turn_at slots b) (other-turn a p e) (other-turn b q f) (sym (its-turn a e) ∙ g ∙ its-turn b f));
      all = λ t b. elim (dec_le (suc t) (turn_at slots s)) [
        | yes q ↦ now t t (omega (arith, fewer)) (omega arith) (rw (le-ltb (turn_at slots s) t (omega arith)))
        | no q ↦ now t (suc t) (omega (arith, fewer)) (omega arith) (rw (lt-ltb (turn_at slots s) (suc t) (omega arith)) (omega arith))
      ];
    };
    as_before = λ a e. left-look slots s a (spared a e);
    order = λ a b p q e f h. subst₂ (λ (x y : ℕ). x < y) (sym (its-turn a e)) (sym (its-turn b f))
        (down-order (turn_at slots s) (turn_at slots a) (turn_at slots b) (other-turn a p e) h);
  }

-- ---- a slot is opened

module _ (slots : List Slot) (eight : length slots ≡ slot_count) (o : Ranks slots) (t : ℕ) (inside : t < slot_count) (free : busy_at slots t ≡ false) (x : Slot)
    (is-busy : busy x ≡ true) (is-turn : x.turn ≡ open_count_lem slots) where
  abbrev more : List Slot
  more = set slots t x

  there : slot_at more t ≡ x
  there = set_there slots t x eight inside

  stays : (a : ℕ) → a ≢ t → slot_at more a ≡ slot_at slots a
  stays a n = get_or-set_other slots t a x no_slot n

  had : (a : ℕ) → a ≢ t → busy_at more a ≡ true → busy_at slots a ≡ true
  had a n e = sym (ap busy (stays a n)) ∙ e

  pub one_more : open_count_lem (set slots t x) ≡ suc (open_count_lem slots)
  unfolding open_count_lem
  one_more = count_flip slot_count (busy_at slots) (busy_at more) t inside free (ap busy there ∙ is-busy) (λ a b n. sym (ap busy (stays a n)))

  pub last_turn : (a : ℕ) → a ≡ t → turn_at (set slots t x) a ≡ open_count_lem slots
  last_turn a e = ap (turn_at more) e ∙ ap (λ (y : Slot). y.turn) there ∙ is-turn

  same_turn : (a : ℕ) → a ≢ t → turn_at more a ≡ turn_at slots a
  same_turn a n = ap (λ (y : Slot). y.turn) (stays a n)

  pub ranks-open : Ranks (set slots t x)
  ranks-open = record {
    below = λ a b e. elim (ℕ_discrete a t) [
      | yes q ↦ omega (arith, last_turn a q, one_more)
      | no q ↦ omega (arith, same_turn a q, one_more, o.below a b (had a q e))
    ];
    once = λ a b p q e f g. elim (ℕ_discrete a t) [
      | yes u ↦ elim (ℕ_discrete b t) [
        | yes v ↦ u ∙ sym v
        | no v ↦ absurd (let z : ⊥ = omega (arith, last_turn a u, same_turn b v, o.below b q (had b v f), g) in z)
      ]
      | no u ↦ elim (ℕ_discrete b t) [
        | yes v ↦ absurd (let z : ⊥ = omega (arith, last_turn b v, same_turn a u, o.below a p (had a u e), g) in z)
        | no v ↦ o.once a b p q (had a u e) (had b v f) (sym (same_turn a u) ∙ g ∙ same_turn b v)
      ]
    ];
    all = λ u b. elim (ℕ_discrete u (open_count_lem slots)) [
      | yes q ↦ (t, inside, ap busy there ∙ is-busy, last_turn t refl ∙ sym q)
      | no q ↦
          let r = o.all u (omega (arith, one_more)) in
          let n : r.0 ≢ t = λ z. never (subst (λ (y : ℕ). busy_at slots y ≡ true) z r.2) free in
          (r.0, r.1, ap busy (stays r.0 n) ∙ r.2, same_turn r.0 n ∙ r.3)
    ];
  }

-- ---- a slot takes a fragment

pub record Alike (old new : List Slot) (a : ℕ) : Type 0 where
  pub same-open : busy_at new a ≡ busy_at old a
  pub same_turn : turn_at new a ≡ turn_at old a
  pub same_key_lem : key_at new a ≡ key_at old a

module _ (slots : List Slot) (eight : length slots ≡ slot_count) (s : ℕ) (inside : s < slot_count) (f : Fragment) where
  abbrev fuller : List Slot
  fuller = set slots s (filled (slot_at slots s) f)

  pub fill-alike : (a : ℕ) → Alike slots (set slots s (filled (slot_at slots s) f)) a
  unfolding filled
  fill-alike a = elim (ℕ_discrete a s) [
    | yes q ↦
        let e : slot_at fuller a ≡ filled (slot_at slots a) f = rw q (set_there slots s (filled (slot_at slots s) f) eight inside) in
        record { same-open = ap busy e; same_turn = ap (λ (x : Slot). x.turn) e; same_key_lem = ap (λ (x : Slot). x.key) e }
    | no q ↦
        let e : slot_at fuller a ≡ slot_at slots a = get_or-set_other slots s a (filled (slot_at slots s) f) no_slot q in
        record { same-open = ap busy e; same_turn = ap (λ (x : Slot). x.turn) e; same_key_lem = ap (λ (x : Slot). x.key) e }
  ]

  same_count : open_count_lem fuller ≡ open_count_lem slots
  unfolding open_count_lem
  same_count = count_same slot_count (busy_at fuller) (busy_at slots) (λ a b. (fill-alike a).same-open)

  pub ranks-fill : Ranks slots → Ranks (set slots s (filled (slot_at slots s) f))
  ranks-fill o = record {
    below = λ a b e. omega (arith, same_count, (fill-alike a).same_turn, o.below a b (sym (fill-alike a).same-open ∙ e));
    once = λ a b p q e h g. o.once a b p q (sym (fill-alike a).same-open ∙ e) (sym (fill-alike b).same-open ∙ h) (sym (fill-alike a).same_turn ∙ g ∙ (fill-alike b).same_turn);
    all = λ t b.
        let r = o.all t (omega (arith, same_count)) in
        (r.0, r.1, (fill-alike r.0).same-open ∙ r.2, (fill-alike r.0).same_turn ∙ r.3);
  }

-- ---- a seat is taken

pub record Sat (slots : List Slot) (t : Seat) : Type 0 where
  pub inside : t.at < slot_count
  pub is_free_lem : busy_at t.slots t.at ≡ false
  pub shrunk : Shrunk slots t.slots

pub oldest-inside : (slots : List Slot) → length slots ≡ slot_count → oldest slots < slot_count
oldest-inside slots e = omega (arith, (oldest-low slots (omega arith)).0)

pub sat : (slots : List Slot) → length slots ≡ slot_count → Ranks slots → Sat slots (seat slots)
sat slots e o = go (seat slots) (seated slots e)
  where
    go : (t : Seat) → Seated slots t → Sat slots t
    go t (free s b q) = record { inside = b; is_free_lem = q; shrunk = shrunk-none slots e o }
    go t (full all) = record {
      inside = oldest-inside slots e;
      is_free_lem = ap busy (freed slots (oldest slots) e (oldest-inside slots e));
      shrunk = shrunk-release slots e o (oldest slots) (oldest-inside slots e) (all (oldest slots) (oldest-inside slots e));
    }

-- a key that was not open is not open in what is left
pub not-open : {old new : List Slot} → length old ≡ slot_count → Shrunk old new → (k : Key) → find_open_lem old k ≡ none → (s : ℕ) → s < slot_count → busy_at new s ≡ true → key_at new s ≢ k
not-open {old} e h k q s b y z = open_none old e k q s b (was-open h s y) (sym (same-its-key (h.as_before s y)) ∙ z)

-- ---- step 5: a slot takes a fragment, and is freed if its message is whole

module _ (m : Machine) (slots : List Slot) (eight : length slots ≡ slot_count) (o : Ranks slots) (store ledger : List ℕ) (gone : Emptied)
    (s : ℕ) (inside : s < slot_count) (is-busy : busy_at slots s ≡ true) (f : Fragment) where
  pub step5-shrunk : Shrunk (set slots s (filled (slot_at slots s) f)) (step5 m slots store ledger gone s f).machine.slots
  step5-shrunk =
      let new : List Slot = set slots s (filled (slot_at slots s) f) in
      let eight' : length new ≡ slot_count = length-set slots s (filled (slot_at slots s) f) ∙ eight in
      let o' : Ranks new = ranks-fill slots eight s inside f o in
      elim (either (all_held_lem (filled (slot_at slots s) f))) [
        | inl e ↦ subst (λ (a : After). Shrunk new a.machine.slots) (sym (step5-delivered m slots store ledger s f e gone))
            (shrunk-release new eight' o' s inside ((fill-alike slots eight s inside f s).same-open ∙ is-busy))
        | inr e ↦ subst (λ (a : After). Shrunk new a.machine.slots) (sym (step5-kept m slots store ledger s f e gone)) (shrunk-none new eight' o')
      ]

pub step5-gone : (m : Machine) (slots : List Slot) (store ledger : List ℕ) (gone : Emptied) (s : ℕ) (f : Fragment) → (step5 m slots store ledger gone s f).emptied ≡ gone
step5-gone m slots store ledger gone s f = elim (either (all_held_lem (filled (slot_at slots s) f))) [
  | inl e ↦ ap (λ (a : After). a.emptied) (step5-delivered m slots store ledger s f e gone)
  | inr e ↦ ap (λ (a : After). a.emptied) (step5-kept m slots store ledger s f e gone)
]
