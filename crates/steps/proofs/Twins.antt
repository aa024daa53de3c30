-- TWO STORES AND TWO LEDGERS under one machine, which agree on all that is held, whatever else is in them: a fragment that is stored in both leaves them so, and a message that is whole has the same bytes in both.
use Rattle.wire.proofs.Basics.{◌∙◌, sym, ◌≡◌, ap, refl, subst, ℕ, ◌≤◌, ◌+◌, ◌<◌, ◌-◌, suc, zero, ◌*◌, min, zero-le, List, true, false, Bool, ◌&&◌, ◌||◌, not, inl, inr, ◌≢◌, length, drop, get_or, take}
use Rattle.wire.proofs.Basics.{length-drop, set, length-take, get_or-drop, get_or-take, ext_get_or, eqb, ltb, leb, eq-eqb, le-ltb, lt-ltb, eqb-true, not-suc-le-zero, ℕ_discrete, dec_le, add-one, arith}
use native.Mathlib.Nat.{add_assoc}
use Rattle.wire.specs.Choice.{pick}
use Rattle.wire.specs.Same.{same}
use Rattle.wire.specs.Overlay.{overlay}
use Rattle.wire.proofs.Choices.{never, either}
use Rattle.wire.proofs.Overlays.{length-overlay}
use Rattle.datagram.specs.Limits.{max_fragments}
use Rattle.datagram.specs.Said.{Fragment}
use Rattle.datagram.proofs.Saids.{Formed}
use Rattle.steps.specs.Limits.{slot_count, ledger_length, slot_size_of}
use Rattle.steps.specs.Held.{is_held}
use Rattle.steps.specs.Memory.{Key}
use Rattle.steps.specs.Slots.{Slot, no_slot, slot_at, release, opening, filled, all_held_lem, padded}
use Rattle.steps.specs.Receive.{Machine, row, offset_of, length_of, place_of, store_with, ledger_with, same_fragment_lem, in_order_lem, agrees, agrees_with_all}
use Rattle.steps.specs.Promises.{OfMessage}
use Rattle.steps.proofs.Tables.{or-not, all-at, or_yes, all_cong}
use Rattle.steps.proofs.Helds.{none-held, hold-other}
use Rattle.steps.proofs.Seats.{unturned, look, Changed, set-changed, set_here, release-changed, release-here}
use Rattle.steps.proofs.Stores.{write_in, write-out, part-fits, row_apart, offset-own, length-own, offset-other, length-other, length-ledger}

-- ---- two stores and two ledgers that are lent to one machine

pub record Two : Type 0 where
  pub store : List ℕ
  pub ledger : List ℕ
  pub store' : List ℕ
  pub ledger' : List ℕ

abbrev pub two : List ℕ → List ℕ → List ℕ → List ℕ → Two
two store ledger store' ledger' = record { store = store; ledger = ledger; store' = store'; ledger' = ledger' }

-- fragment k of slot s has the same numbers and the same bytes in both, and its neighbour, if that is held, follows it
pub record Part (C : ℕ) (t : Two) (s : ℕ) (slot : Slot) (k : ℕ) : Type 0 where
  pub offset : offset_of t.ledger s k ≡ offset_of t.ledger' s k
  pub long : length_of t.ledger s k ≡ length_of t.ledger' s k
  pub bytes : (y : ℕ) → offset_of t.ledger s k ≤ y → y < offset_of t.ledger s k + length_of t.ledger s k → get_or t.store (s * C + y) 0 ≡ get_or t.store' (s * C + y) 0
  pub begins : k ≡ 0 → offset_of t.ledger s k ≡ 0
  pub ends : suc k ≡ slot.count → offset_of t.ledger s k + length_of t.ledger s k ≡ slot.size
  pub next : is_held slot.held (suc k) ≡ true → suc k < slot.count → offset_of t.ledger s k + length_of t.ledger s k ≡ offset_of t.ledger s (suc k)

-- so has each that is held
pub record Alike (C : ℕ) (t : Two) (s : ℕ) (slot : Slot) : Type 0 where
  pub few : slot.count ≤ max_fragments
  pub parts : (k : ℕ) → k < slot.count → is_held slot.held k ≡ true → Part C t s slot k

abbrev pub AllAlike : ℕ → Two → List Slot → Type 0
AllAlike C t slots = (s : ℕ) → s < slot_count → Alike C t s (look slots s)

-- a free slot holds nothing
pub free-alike : (C : ℕ) (t : Two) (s : ℕ) → Alike C t s (unturned no_slot)
free-alike C t s = record { few = zero-le; parts = λ k b h. absurd (not-suc-le-zero b) }

-- nor does one that was just opened
pub open-alike : (C : ℕ) (t : Two) (s : ℕ) (slots : List Slot) (k : Key) (f : Fragment) → f.count ≤ max_fragments → Alike C t s (unturned (opening slots k f))
unfolding opening
open-alike C t s slots k f few = record { few = few; parts = λ j b h. never h (none-held j) }

module _ (C : ℕ) (t : Two) (slots : List Slot) (all : AllAlike C t slots) (s : ℕ) where
  changed-alike : (new : List Slot) → Changed s slots new → Alike C t s (look new s) → AllAlike C t new
  changed-alike new c h u b = elim (ℕ_discrete u s) [
    | yes e ↦ subst (λ (i : ℕ). Alike C t i (look new i)) (sym e) h
    | no n ↦ subst (Alike C t u) (sym (c.others u n)) (all u b)
  ]

  module _ (eight : length slots ≡ slot_count) (inside : s < slot_count) where
    pub set-alike : (x : Slot) → Alike C t s (unturned x) → AllAlike C t (set slots s x)
    set-alike x h = changed-alike (set slots s x) (set-changed slots s x eight) (subst (Alike C t s) (sym (set_here slots s x eight inside)) h)

    pub release-alike : AllAlike C t (release slots s)
    release-alike = changed-alike (release slots s) (release-changed slots s eight) (subst (Alike C t s) (sym (release-here slots s eight inside)) (free-alike C t s))

-- ---- the same bytes written at the same place

module _ (d e : List ℕ) (at : ℕ) (b : List ℕ) (p : at + length b ≤ length d) (q : at + length b ≤ length e) where
  both_in : (i : ℕ) → at ≤ i → i < at + length b → get_or (overlay d at b) i 0 ≡ get_or (overlay e at b) i 0
  both_in i x y =
      let z : at + (i - at) ≡ i = omega arith in
      subst (λ (n : ℕ). get_or (overlay d at b) n 0 ≡ get_or (overlay e at b) n 0) z (write_in d at b p (i - at) (omega arith) ∙ sym (write_in e at b q (i - at) (omega arith)))

  both-kept : (i : ℕ) → get_or d i 0 ≡ get_or e i 0 → get_or (overlay d at b) i 0 ≡ get_or (overlay e at b) i 0
  both-kept i h = elim (dec_le at i) [
    | yes x ↦ elim (dec_le (suc i) (at + length b)) [ yes y ↦ both_in i x y | no y ↦ out (λ u v. y v) ]
    | no x ↦ out (λ u v. x u)
  ]
    where
      out : (at ≤ i → i < at + length b → ⊥) → get_or (overlay d at b) i 0 ≡ get_or (overlay e at b) i 0
      out n = write-out d at b i n ∙ h ∙ sym (write-out e at b i n)

-- ---- how long they are

pub record Lengths (C : ℕ) (t : Two) : Type 0 where
  pub stores : length t.store ≡ length t.store'
  pub sized : C ≡ slot_size_of (length t.store)
  pub ledgers : length t.ledger ≡ ledger_length
  pub ledgers' : length t.ledger' ≡ ledger_length

-- so many bytes from a place, where each of them is the same
pub same_bytes : (d e : List ℕ) → length d ≡ length e → (at n : ℕ) → ((i : ℕ) → i < n → get_or d (at + i) 0 ≡ get_or e (at + i) 0) → take n (drop at d) ≡ take n (drop at e)
same_bytes d e l at n h =
    ext_get_or 0 (take n (drop at d)) (take n (drop at e))
    (length-take n (drop at d) ∙ (ap (min n) (length-drop at d ∙ (ap (λ (k : ℕ). k - at) l ∙ sym (length-drop at e))) ∙ sym (length-take n (drop at e))))
    (λ i b. let c : i < n = omega (arith, length-take n (drop at d)) in
    get_or-take n (drop at d) i 0 c ∙ (get_or-drop at d i 0 ∙ (h i c ∙ sym (get_or-take n (drop at e) i 0 c ∙ get_or-drop at e i 0))))

-- one machine over two stores and two ledgers, which agree on all that was stored
pub record Twin (m : Machine) (t : Two) : Type 0 where
  pub eight : length m.slots ≡ slot_count
  pub stores : length t.store ≡ length t.store'
  pub ledgers : length t.ledger ≡ length t.ledger'
  pub all : AllAlike m.slot_size_lem t m.slots

-- ---- what step 3 reads of them

-- tests one after another: the third need only be the same where the first two pass
same_chain : (a a' b b' c c' d : Bool) → a ≡ a' → b ≡ b' → (a ≡ true → b ≡ true → c ≡ c') → (a && (b && (c && d))) ≡ (a' && (b' && (c' && d)))
same_chain true a' true b' c c' d e g h = λ i. e i && (g i && (h refl refl i && d))
same_chain true a' false b' c c' d e g h = λ i. e i && (g i && (c' && d))
same_chain false a' b b' c c' d e g h = λ i. e i && (b' && (c' && d))

module _ (m : Machine) (t : Two) (w : Twin m t) (s : ℕ) (f : Fragment) where
  abbrev at : Slot
  at = slot_at m.slots s

  pub same-fragment : Part m.slot_size_lem t s (look m.slots s) f.number
      → same_fragment_lem m.slot_size_lem t.store t.ledger s at f ≡ same_fragment_lem m.slot_size_lem t.store' t.ledger' s at f
  unfolding same_fragment_lem
  same-fragment p =
      same_chain _ _ _ _ _ _ (pick (eqb f.number 0) (same at.name (padded f.name)) true)
      (ap (λ (x : ℕ). eqb x f.offset) p.offset) (ap (λ (x : ℕ). eqb x (length f.bytes)) p.long) (λ a b.
      let o : offset_of t.ledger s f.number ≡ f.offset = eqb-true (offset_of t.ledger s f.number) f.offset a in
      let n : length_of t.ledger s f.number ≡ length f.bytes = eqb-true (length_of t.ledger s f.number) (length f.bytes) b in
      ap (λ (x : List ℕ). same x f.bytes) (same_bytes t.store t.store' w.stores (place_of m.slot_size_lem s f) (length f.bytes) (λ i c.
      subst (λ (x : ℕ). get_or t.store x 0 ≡ get_or t.store' x 0) (sym (add_assoc (s * m.slot_size_lem) f.offset i)) (p.bytes (f.offset + i) (omega arith) (omega arith)))))

  pub same-agrees : s < slot_count → agrees_with_all t.ledger s at f ≡ agrees_with_all t.ledger' s at f
  unfolding agrees
  same-agrees inside = all_cong at.count (λ j. not (is_held at.held j) || agrees t.ledger s f j) (λ j. not (is_held at.held j) || agrees t.ledger' s f j) (λ j b. elim (either (is_held at.held j)) [
    | inl h ↦
        let p : Part m.slot_size_lem t s (look m.slots s) j = (w.all s inside).parts j b h in
        λ i. not (is_held at.held j) || pick (ltb j f.number) (in_order_lem j (p.offset i + p.long i) f.number f.offset) (in_order_lem f.number (f.offset + length f.bytes) j (p.offset i))
    | inr h ↦ or_yes (not (is_held at.held j)) (agrees t.ledger s f j) (ap not h) ∙ sym (or_yes (not (is_held at.held j)) (agrees t.ledger' s f j) (ap not h))
  ])

-- ---- a fragment is stored

module _ (C : ℕ) (t : Two) (slots : List Slot) (s : ℕ) (f : Fragment) (eight : length slots ≡ slot_count) (inside : s < slot_count) (l : Lengths C t) (form : Formed C max_fragments f)
    (all : AllAlike C t slots) (of : OfMessage (slot_at slots s) f) (ordered : agrees_with_all t.ledger s (slot_at slots s) f ≡ true) where
  abbrev pub now : Two
  now = two (store_with C t.store s f) (ledger_with t.ledger s f) (store_with C t.store' s f) (ledger_with t.ledger' s f)

  abbrev slot : Slot
  slot = slot_at slots s

  abbrev new : Slot
  new = filled slot f

  abbrev o : ℕ → ℕ → ℕ
  o u k = offset_of t.ledger u k

  abbrev n : ℕ → ℕ → ℕ
  n u k = length_of t.ledger u k

  room : place_of C s f + length f.bytes ≤ length t.store
  room = omega (arith, part-fits s (length t.store) C inside l.sized, form.inside, form.fits)

  room' : place_of C s f + length f.bytes ≤ length t.store'
  room' = omega (arith, room, l.stores)

  pub still-long : length now.store ≡ length now.store'
  still-long = length-overlay t.store (place_of C s f) f.bytes ∙ (l.stores ∙ sym (length-overlay t.store' (place_of C s f) f.bytes))

  pub ledger-long : length now.ledger ≡ length now.ledger'
  ledger-long = length-ledger t.ledger s f ∙ (l.ledgers ∙ sym (length-ledger t.ledger' s f ∙ l.ledgers'))

  few : f.number < max_fragments
  few = omega (arith, form.below, form.few)

  -- a fragment elsewhere stays as it is
  stays : (u k : ℕ) (x y : Slot) → row u k ≢ row s f.number → Part C t u x k → y.count ≡ x.count → y.size ≡ x.size
      → (is_held y.held (suc k) ≡ true → suc k < y.count → o u k + n u k ≡ offset_of now.ledger u (suc k)) → Part C now u y k
  stays u k x y r p c z nx =
      let a : offset_of now.ledger u k ≡ o u k = offset-other t.ledger s f u k r in
      let b : length_of now.ledger u k ≡ n u k = length-other t.ledger s f u k r in
      record {
        offset = a ∙ (p.offset ∙ sym (offset-other t.ledger' s f u k r));
        long = b ∙ (p.long ∙ sym (length-other t.ledger' s f u k r));
        bytes = λ i g h. both-kept t.store t.store' (place_of C s f) f.bytes room room' (u * C + i) (p.bytes i (omega (arith, a)) (omega (arith, a, b)));
        begins = λ e. a ∙ p.begins e;
        ends = λ e. (let d : o u k + n u k ≡ x.size = p.ends (e ∙ c) in omega (arith, a, b, z));
        next = λ g h. (let d : o u k + n u k ≡ offset_of now.ledger u (suc k) = nx g h in omega (arith, a, b));
      }

  -- in another slot
  others : (u : ℕ) → u ≢ s → Alike C t u (look slots u) → Alike C now u (look slots u)
  others u q h = record {
    few = h.few;
    parts = λ k b g.
        let x : Slot = look slots u in
        let p : Part C t u x k = h.parts k b g in
        stays u k x x (row_apart s u k f.number (omega (arith, h.few)) few (λ e z. q e)) p refl refl (λ i j.
        p.next i j ∙ sym (offset-other t.ledger s f u (suc k) (row_apart s u (suc k) f.number (omega (arith, h.few)) few (λ e z. q e))));
  }

  -- it lies beside the held fragment j as step 3 asks
  beside : (j : ℕ) → j < slot.count → is_held slot.held j ≡ true → agrees t.ledger s f j ≡ true
  beside j b h = sym (or-not (not (is_held slot.held j)) (agrees t.ledger s f j) (ap not h)) ∙ all-at slot.count (λ j. not (is_held slot.held j) || agrees t.ledger s f j) ordered j b

  neighbours : (i ends j begins : ℕ) → suc i ≡ j → in_order_lem i ends j begins ≡ true → ends ≡ begins
  neighbours i ends j begins e q = eqb-true ends begins (sym (ap (λ (b : Bool). pick b (eqb ends begins) (leb ends begins)) (eq-eqb (suc i) j e)) ∙ q)

  above : suc f.number < slot.count → is_held slot.held (suc f.number) ≡ true → f.offset + length f.bytes ≡ o s (suc f.number)
  unfolding agrees
  above b h =
      let j : ℕ = suc f.number in
      neighbours f.number (f.offset + length f.bytes) j (o s j) refl
      (sym (ap (λ (c : Bool). pick c (in_order_lem j (o s j + n s j) f.number f.offset) (in_order_lem f.number (f.offset + length f.bytes) j (o s j))) (le-ltb j f.number (omega arith))) ∙ beside j b h)

  below : (k : ℕ) → suc k ≡ f.number → k < slot.count → is_held slot.held k ≡ true → o s k + n s k ≡ f.offset
  unfolding agrees
  below k e b h =
      neighbours k (o s k + n s k) f.number f.offset e
      (sym (ap (λ (c : Bool). pick c (in_order_lem k (o s k + n s k) f.number f.offset) (in_order_lem f.number (f.offset + length f.bytes) k (o s k))) (lt-ltb k f.number (omega arith))) ∙ beside k b h)

  own : Part C now s (unturned new) f.number
  unfolding filled
  own =
      let a : offset_of now.ledger s f.number ≡ f.offset = offset-own t.ledger s f l.ledgers inside few in
      let b : length_of now.ledger s f.number ≡ length f.bytes = length-own t.ledger s f l.ledgers inside few in
      record {
        offset = a ∙ sym (offset-own t.ledger' s f l.ledgers' inside few);
        long = b ∙ sym (length-own t.ledger' s f l.ledgers' inside few);
        bytes = λ i g h. both_in t.store t.store' (place_of C s f) f.bytes room room' (s * C + i) (omega (arith, a)) (omega (arith, a, b));
        begins = λ e. a ∙ form.first e;
        ends = λ e. (let d : f.offset + length f.bytes ≡ f.size = form.last (add-one f.number ∙ (e ∙ sym of.same_count)) in omega (arith, a, b, of.same_size));
        next = λ g h.
            let w : is_held slot.held (suc f.number) ≡ true = sym (hold-other slot.held f.number (suc f.number) (omega arith)) ∙ g in
            let d : f.offset + length f.bytes ≡ o s (suc f.number) = above h w in
            let r : row s (suc f.number) ≢ row s f.number = omega arith in
            omega (arith, a, b, offset-other t.ledger s f s (suc f.number) r);
      }

  -- in its own slot
  mine : Alike C now s (unturned new)
  unfolding filled
  mine = record {
    few = (all s inside).few;
    parts = λ k b g. elim (ℕ_discrete k f.number) [
      | yes e ↦ subst (Part C now s (unturned new)) (sym e) own
      | no q ↦
          let w : is_held slot.held k ≡ true = sym (hold-other slot.held f.number k q) ∙ g in
          let p : Part C t s (look slots s) k = (all s inside).parts k b w in
          let c : k < max_fragments = omega (arith, (all s inside).few) in
          stays s k (look slots s) (unturned new) (row_apart s s k f.number c few (λ z y. q y)) p refl refl (λ i j. elim (ℕ_discrete (suc k) f.number) [
            | yes e ↦ below k e b w ∙ (sym (offset-own t.ledger s f l.ledgers inside few) ∙ ap (offset_of now.ledger s) (sym e))
            | no v ↦
                p.next (sym (hold-other slot.held f.number (suc k) v) ∙ i) j
                ∙ sym (offset-other t.ledger s f s (suc k) (row_apart s s (suc k) f.number (omega (arith, (all s inside).few)) few (λ z y. v y)))
          ])
    ];
  }

  pub stored-alike : AllAlike C now (set slots s new)
  stored-alike u b = elim (ℕ_discrete u s) [
    | yes e ↦ subst (λ (i : ℕ). Alike C now i (look (set slots s new) i)) (sym e) (subst (Alike C now s) (sym (set_here slots s new eight inside)) mine)
    | no q ↦ subst (Alike C now u) (sym ((set-changed slots s new eight).others u q)) (others u q (all u b))
  ]

  -- ---- the message is whole

  module _ (whole : all_held_lem new ≡ true) where
    its : (k : ℕ) → k < slot.count → Part C now s (unturned new) k
    unfolding filled
    its k b = mine.parts k b (all-at new.count (is_held new.held) whole k b)

    -- fragments side by side leave no byte out
    cover : (k : ℕ) → k < slot.count → (y : ℕ) → y < offset_of now.ledger s k + length_of now.ledger s k → get_or now.store (s * C + y) 0 ≡ get_or now.store' (s * C + y) 0
    unfolding filled
    cover zero b y h = (its zero b).bytes y (omega (arith, (its zero b).begins refl)) h
    cover (suc k) b y h =
        let c : k < slot.count = omega arith in
        elim (dec_le (suc y) (offset_of now.ledger s k + length_of now.ledger s k)) [
          | yes g ↦ cover k c y g
          | no g ↦ (its (suc k) b).bytes y (omega (arith, (its k c).next (all-at new.count (is_held new.held) whole (suc k) b) b)) h
        ]

    pub whole-bytes : take slot.size (drop (s * C) now.store) ≡ take slot.size (drop (s * C) now.store')
    unfolding filled
    whole-bytes = go slot.count refl
      where
        go : (c : ℕ) → slot.count ≡ c → take slot.size (drop (s * C) now.store) ≡ take slot.size (drop (s * C) now.store')
        go zero e = absurd (let z : ⊥ = omega (arith, form.below, of.same_count) in z)
        go (suc k) e =
            let b : k < slot.count = omega arith in
            same_bytes now.store now.store' still-long (s * C) slot.size (λ i h. cover k b i (omega (arith, (its k b).ends (sym e))))
