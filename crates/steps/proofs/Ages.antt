-- The order of opening over the calls that led to a state: the turns follow it, and the key that is emptied is the one whose opening lies furthest back.
use Rattle.wire.proofs.Basics.{◌∙◌, sym, ◌≡◌, ap, refl, subst, subst₂, ℕ, ◌≤◌, ◌<◌, suc, zero-le, suc-le-suc, List, true, false, Bool, ◌&&◌, not, inl, inr, ◌≢◌, some, none, Option, length, set}
use Rattle.wire.proofs.Basics.{get_or-replicate, get_or-set_other, ℕ_discrete, arith}
use Rattle.wire.proofs.Choices.{either, never, and-of}
use Rattle.datagram.specs.Limits.{max_fragments}
use Rattle.datagram.specs.Said.{Said, fragment, Fragment, said}
use Rattle.steps.specs.Limits.{slot_count}
use Rattle.steps.specs.Memory.{Key, key_of, same_key}
use Rattle.steps.specs.Slots.{Slot, busy, no_slot, slot_at, find_open_lem, open_count_lem, oldest, release_of, opening, filled, Seat, seat, Emptied, Nobody}
use Rattle.steps.specs.Receive.{Machine, After, stay, step5, step, forget, opened, sequence_of}
use Rattle.steps.specs.Answers.{emptied_key}
use Rattle.steps.specs.Runs.{World, lending, Arrival, from, key_in, call}
use Rattle.steps.specs.Reach.{Reached, opens, receives, forgets, found, is_open, is_stored, opens_slot, opens_for, ago, FurthestBack, OldestFirst}
use Rattle.steps.proofs.Tables.{and_no, count-all, clash-none}
use Rattle.steps.proofs.Memories.{same_key_lem, key-same, whole-ok}
use Rattle.steps.proofs.Seats.{busy_at, key_at, turn_at, same-its-key, Found, open-found, is_found, set_there, Seated, free, full, seated, oldest-low}
use Rattle.steps.proofs.Branches.{Course, unmoved, given, joined, begun, course, step5-stores}
use Rattle.steps.proofs.Ranks.{Ranks, Shrunk, was-open, order-back, ranks-open, last_turn, fill-alike, ranks-fill, Sat, oldest-inside, step5-shrunk, step5-gone}
use Rattle.steps.proofs.Reaches.{Good, good-form, seat-sat, begun-tidy, begun-busy, good-released, reached-good}

-- the open slots of later turns have keys of lower age
abbrev Aged : List Slot → (Key → ℕ) → Type 0
Aged slots g = (s t : ℕ) → s < slot_count → t < slot_count → busy_at slots s ≡ true → busy_at slots t ≡ true → turn_at slots s < turn_at slots t
    → g (key_at slots t) < g (key_at slots s)

-- slots are freed
aged-shrunk : {old new : List Slot} → Ranks old → Shrunk old new → (g : Key → ℕ) → Aged old g → Aged new g
aged-shrunk {old} {new} o h g k s t a b p q e =
    subst₂ (λ (x y : Key). g x < g y) (sym (same-its-key (h.as_before t q))) (sym (same-its-key (h.as_before s p)))
    (k s t a b (was-open h s p) (was-open h t q) (order-back o h s t a b p q e))

-- all are one call older
aged-on : (slots : List Slot) (g h : Key → ℕ) → ((s : ℕ) → s < slot_count → busy_at slots s ≡ true → h (key_at slots s) ≡ suc (g (key_at slots s))) → Aged slots g → Aged slots h
aged-on slots g h n k s t a b p q e = subst₂ (λ (x y : ℕ). x < y) (sym (n t b q)) (sym (n s a p)) (suc-le-suc (k s t a b p q e))

-- a slot takes a fragment
aged-filled : (slots : List Slot) → length slots ≡ slot_count → (i : ℕ) → i < slot_count → (f : Fragment) (g : Key → ℕ) → Aged slots g → Aged (set slots i (filled (slot_at slots i) f)) g
aged-filled slots e i c f g k s t a b p q l =
    let x = fill-alike slots e i c f s in
    let y = fill-alike slots e i c f t in
    subst₂ (λ (u v : Key). g u < g v) (sym y.same_key_lem) (sym x.same_key_lem)
    (k s t a b (sym x.same-open ∙ p) (sym y.same-open ∙ q) (subst₂ (λ (u v : ℕ). u < v) x.same_turn y.same_turn l))

-- a slot is opened: its key is the youngest
module _ (slots : List Slot) (e : length slots ≡ slot_count) (o : Ranks slots) (i : ℕ) (c : i < slot_count) (is_free_lem : busy_at slots i ≡ false) (x : Slot)
    (is-busy : busy x ≡ true) (is-turn : x.turn ≡ open_count_lem slots) (g h : Key → ℕ) (now : h x.key ≡ 0)
    (n : (s : ℕ) → s < slot_count → busy_at slots s ≡ true → h (key_at slots s) ≡ suc (g (key_at slots s))) where
  abbrev new : List Slot
  new = set slots i x

  stays : (a : ℕ) → a ≢ i → slot_at new a ≡ slot_at slots a
  stays a q = get_or-set_other slots i a x no_slot q

  was : (a : ℕ) → a ≢ i → busy_at new a ≡ true → busy_at slots a ≡ true
  was a q b = sym (ap busy (stays a q)) ∙ b

  older : (a : ℕ) → a < slot_count → a ≢ i → busy_at new a ≡ true → h (key_at new a) ≡ suc (g (key_at slots a))
  older a b q y = ap (λ (z : Slot). h z.key) (stays a q) ∙ n a b (was a q y)

  ranked : Ranks new
  ranked = ranks-open slots e o i c is_free_lem x is-busy is-turn

  aged-opened : Aged slots g → Aged new h
  aged-opened k s t a b p q l = elim (ℕ_discrete t i) [
    | yes y ↦ elim (ℕ_discrete s i) [
      | yes z ↦ absurd (let w : turn_at new s ≡ turn_at new t = ap (turn_at new) (z ∙ sym y) in let v : ⊥ = omega arith in v)
      | no z ↦
          let zero-now : h (key_at new t) ≡ 0 = ap (λ (j : ℕ). h (key_at new j)) y ∙ ap (λ (u : Slot). h u.key) (set_there slots i x e c) ∙ now in
          subst₂ (λ (u v : ℕ). u < v) (sym zero-now) (sym (older s a z p)) (suc-le-suc zero-le)
    ]
    | no y ↦ elim (ℕ_discrete s i) [
      | yes z ↦
          let top : turn_at new s ≡ open_count_lem slots = last_turn slots e o i c is_free_lem x is-busy is-turn s z in
          let low : turn_at slots t < open_count_lem slots = o.below t b (was t y q) in
          let same : turn_at new t ≡ turn_at slots t = ap (λ (u : Slot). u.turn) (stays t y) in
          absurd (let v : ⊥ = omega arith in v)
      | no z ↦
          let l' : turn_at slots s < turn_at slots t = subst₂ (λ (u v : Slot). u.turn < v.turn) (stays s z) (stays t y) l in
          subst₂ (λ (u v : ℕ). u < v) (sym (older t b y q)) (sym (older s a z p)) (suc-le-suc (k s t a b (was s z p) (was t y q) l'))
    ]
  ]

-- ---- a call

-- step 5 leaves the ages in order
aged-step5 : (m : Machine) (slots : List Slot) → length slots ≡ slot_count → Ranks slots → (store ledger : List ℕ) (gone : Emptied) (s : ℕ) → s < slot_count → busy_at slots s ≡ true
    → (f : Fragment) (g : Key → ℕ) → Aged slots g → Aged (step5 m slots store ledger gone s f).machine.slots g
aged-step5 m slots e o store ledger gone s b y f g k =
    aged-shrunk (ranks-fill slots e s b f o) (step5-shrunk m slots e o store ledger gone s b y f) g (aged-filled slots e s b f g k)

module _ (w : World) (x : Arrival) where
  -- an open key is not opened
  not_opened : (k : Key) → is_open w.machine k ≡ true → opens_for w x k ≡ false
  unfolding opens_for opens_slot
  not_opened k e = elim (either (same_key its k)) [
    | inl q ↦ and_no (same_key its k) (ap (λ (b : Bool). not b && is_stored (call w x).answer) (ap (is_open w.machine) (same_key_lem its k q) ∙ e))
    | inr q ↦ rw q
  ]
    where
      its : Key
      its = key_in w.machine.slot_size_lem x

  -- the key of a fragment that opens a slot is
  is-opened : (f : Fragment) → said w.machine.slot_size_lem max_fragments x.datagram ≡ fragment f → find_open_lem w.machine.slots (key_of x.sender f.sequence) ≡ none
      → is_stored (call w x).answer ≡ true → opens_for w x (key_of x.sender f.sequence) ≡ true
  unfolding opens_for opens_slot
  is-opened f t p e =
      let k : Key = key_of x.sender f.sequence in
      let its : key_in w.machine.slot_size_lem x ≡ k = ap (λ (r : Said). key_of x.sender (sequence_of r)) t in
      subst (λ (y : Key). (same_key y k && (not (is_open w.machine y) && is_stored (call w x).answer)) ≡ true) (sym its)
      (and-of (same_key k k) (not (is_open w.machine k) && is_stored (call w x).answer) (key-same k)
      (and-of (not (is_open w.machine k)) (is_stored (call w x).answer) (ap (λ (o : Option ℕ). not (found o)) p) e))

module _ {n : ℕ} {m : Machine} (r : Reached n m) (g : Good n m) (store ledger : List ℕ) (sender : ℕ) (d : List ℕ) where
  abbrev then' : Key → ℕ
  then' = ago (receives r store ledger sender d)

  abbrev out : After
  out = step m store ledger sender d

  one-older : (k : Key) → is_open m k ≡ true → then' k ≡ suc (ago r k)
  unfolding ago
  one-older k e = rw (not_opened (lending m store ledger) (from sender d) k e)

  all-older : (s : ℕ) → s < slot_count → busy_at m.slots s ≡ true → then' (key_at m.slots s) ≡ suc (ago r (key_at m.slots s))
  all-older s b e = one-older (key_at m.slots s) (is_found m.slots g.tidy.eight s b e)

  zero_old : (k : Key) → opens_for (lending m store ledger) (from sender d) k ≡ true → then' k ≡ 0
  unfolding ago
  zero_old k e = rw e

  call_aged : Aged m.slots (ago r) → Aged (step m store ledger sender d).machine.slots then'
  unfolding stay opening
  call_aged h = go (course m store ledger sender d)
    where
      go : Course m store ledger sender (said m.slot_size_lem max_fragments d) out → Aged out.machine.slots then'
      go (unmoved x t e) = subst (λ (a : After). Aged a.machine.slots then') (sym e) (aged-on m.slots (ago r) then' all-older h)
      go (given q name payload t p e) = subst (λ (a : After). Aged a.machine.slots then') (sym e) (aged-on m.slots (ago r) then' all-older h)
      go (joined f s t p e) =
          let y : Found m.slots (key_of sender f.sequence) s = open-found m.slots g.tidy.eight (key_of sender f.sequence) s p in
          subst (λ (a : After). Aged a.machine.slots then') (sym e)
          (aged-step5 m m.slots g.tidy.eight g.tidy.ranks store ledger Nobody s y.inside y.is-busy f then' (aged-on m.slots (ago r) then' all-older h))
      go (begun f t u p e) =
          let k : Key = key_of sender f.sequence in
          let z : Sat m.slots (seat m.slots) = seat-sat n m g in
          let rest : List Slot = (seat m.slots).slots in
          let tidy₁ = begun-tidy n m g store ledger k f (good-form n m g d f t) u p in
          let busy₁ = begun-busy n m g store ledger k f (good-form n m g d f t) u p in
          let stored : is_stored out.answer ≡ true = ap (λ (a : After). is_stored a.answer) e ∙ step5-stores m _ store ledger _ f _ in
          subst (λ (a : After). Aged a.machine.slots then') (sym e)
          (aged-step5 m (set rest (seat m.slots).at (opening rest k f)) tidy₁.eight tidy₁.ranks store ledger (seat m.slots).emptied (seat m.slots).at z.inside busy₁ f then'
          (aged-opened rest z.shrunk.eight z.shrunk.ranks (seat m.slots).at z.inside z.is_free_lem (opening rest k f)
          (sym (ap busy (set_there rest (seat m.slots).at (opening rest k f) z.shrunk.eight z.inside)) ∙ busy₁) refl
          (ago r) then' (zero_old k (is-opened (lending m store ledger) (from sender d) f t p stored))
          (λ s b y.
          let same : key_at rest s ≡ key_at m.slots s = same-its-key (z.shrunk.as_before s y) in
          subst (λ (x : Key). then' x ≡ suc (ago r x)) (sym same) (all-older s b (was-open z.shrunk s y)))
          (aged-shrunk g.tidy.ranks z.shrunk (ago r) h)))

-- a sender is forgotten
forget_aged : {n : ℕ} {m : Machine} (r : Reached n m) → Good n m → (sender : ℕ) → Aged m.slots (ago r) → Aged (forget m sender).machine.slots (ago (forgets r sender))
unfolding ago forget
forget_aged {n} {m} r g sender h =
    let new : List Slot = release_of sender slot_count m.slots in
    rw (whole-ok m.memory g.whole) (aged-on new (ago r) (λ k. suc (ago r k)) (λ s b e. refl)
    (aged-shrunk g.tidy.ranks (good-released n m g sender).shrunk (ago r) h))

-- the turns are in the order of opening
reached_aged : {n : ℕ} {m : Machine} (r : Reached n m) → Aged m.slots (ago r)
unfolding opened
reached_aged opens = λ s t a b p q l. never p (ap busy (get_or-replicate slot_count s no_slot no_slot a))
reached_aged {n} (receives {m = m} r store ledger sender d) = call_aged r (reached-good n m r) store ledger sender d (reached_aged r)
reached_aged {n} (forgets {m = m} r sender) = forget_aged r (reached-good n m r) sender (reached_aged r)

-- ---- the emptied key

-- with all eight slots open, the oldest's key is the one whose opening lies furthest back
oldest-furthest : {n : ℕ} {m : Machine} (r : Reached n m) → ((a : ℕ) → a < slot_count → busy_at m.slots a ≡ true) → FurthestBack r (key_at m.slots (oldest m.slots))
unfolding open_count_lem
oldest-furthest {n} {m} r all =
    let g : Good n m = reached-good n m r in
    let slots : List Slot = m.slots in
    let i : oldest slots < slot_count = oldest-inside slots g.tidy.eight in
    record {
      all-open = count-all slot_count (busy_at slots) all;
      is_open_lem = is_found slots g.tidy.eight (oldest slots) i (all (oldest slots) i);
      furthest = λ j e n. go g i j n (find_open_lem slots j) refl e;
    }
  where
    go : Good n m → oldest m.slots < slot_count → (j : Key) → j ≢ key_at m.slots (oldest m.slots) → (o : Option ℕ) → find_open_lem m.slots j ≡ o → found (find_open_lem m.slots j) ≡ true
        → ago r j < ago r (key_at m.slots (oldest m.slots))
    go g i j d none q e = never e (ap found q)
    go g i j d (some t) q e =
        let y : Found m.slots j t = open-found m.slots g.tidy.eight j t q in
        let apart : t ≢ oldest m.slots = λ z. d (sym y.its-key ∙ ap (key_at m.slots) z) in
        let low : turn_at m.slots (oldest m.slots) ≤ turn_at m.slots t = (oldest-low m.slots (omega (arith, g.tidy.eight))).1 t (omega (arith, y.inside, g.tidy.eight)) in
        let other : turn_at m.slots t ≢ turn_at m.slots (oldest m.slots) = λ z. apart (g.tidy.ranks.once t (oldest m.slots) y.inside i y.is-busy (all (oldest m.slots) i) z) in
        subst (λ (x : Key). ago r x < ago r (key_at m.slots (oldest m.slots))) y.its-key
        (reached_aged r (oldest m.slots) t i y.inside (all (oldest m.slots) i) y.is-busy (omega arith))

emptied-furthest : {n : ℕ} {m : Machine} (r : Reached n m) (store ledger : List ℕ) (sender : ℕ) (d : List ℕ) (k : Key)
    → emptied_key (step m store ledger sender d).emptied ≡ some k → FurthestBack r k
unfolding stay
emptied-furthest {n} {m} r store ledger sender d k e = go (course m store ledger sender d)
  where
    nobody : (a : After) → step m store ledger sender d ≡ a → a.emptied ≡ Nobody → FurthestBack r k
    nobody a q z = clash-none (sym (ap emptied_key z) ∙ sym (ap (λ (x : After). emptied_key x.emptied) q) ∙ e)

    from-seat : (t : Seat) → Seated m.slots t → emptied_key t.emptied ≡ some k → FurthestBack r k
    from-seat t (free s b q) z = clash-none z
    from-seat t (full all) z = let y : key_at m.slots (oldest m.slots) ≡ k = cc in subst (FurthestBack r) y (oldest-furthest r all)

    go : Course m store ledger sender (said m.slot_size_lem max_fragments d) (step m store ledger sender d) → FurthestBack r k
    go (unmoved x t q) = nobody _ q refl
    go (given i name payload t p q) = nobody _ q refl
    go (joined f s t p q) = nobody _ q (step5-gone m m.slots store ledger Nobody s f)
    go (begun f t u p q) = from-seat (seat m.slots) (seated m.slots (reached-good n m r).tidy.eight)
        (sym (ap emptied_key (ap (λ (x : After). x.emptied) q ∙ step5-gone m _ store ledger _ _ f)) ∙ e)

-- OVER ANY RUN OF CALLS, THE EMPTIED KEY IS THE ONE WHOSE OPENING LIES FURTHEST BACK
pub oldest-first : {n : ℕ} {m : Machine} (r : Reached n m) → OldestFirst r
oldest-first r = record { order = reached_aged r; emptied = emptied-furthest r }
