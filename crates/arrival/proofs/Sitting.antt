-- The slots against the messages that are open: the invariant, and the one way in which it moves.
use Rattle.wire.proofs.Basics.{◌∙◌, sym, ◌≡◌, ap, refl, subst, ℕ, ◌+◌, ◌<◌, suc, ◌*◌, List, true, false, Bool, ◌≢◌, length, get_or, ℕ_discrete}
use native.Mathlib.Nat.{suc_inj}
use Rattle.datagram.specs.Limits.{max_fragments}
use Rattle.steps.specs.Limits.{slot_count, ledger_length}
use Rattle.steps.specs.Search.{count}
use Rattle.steps.specs.Slots.{Slot, busy}
use Rattle.steps.specs.Receive.{offset_of, length_of}
use Rattle.steps.proofs.Tables.{count_same, count_flip}
use Rattle.steps.proofs.Seats.{look, same-busy, same-its-key, Changed}
use Rattle.arrival.specs.Demand.{Scene, Distinct, key, parts, size, message, slot_bytes}
use Rattle.arrival.proofs.Joining.{Holds, holds_move}

-- slot s belongs to a live message, and holds what has come of it
pub record Owner (σ : Scene) (live : ℕ → Bool) (have : ℕ → ℕ → Bool) (slots : List Slot) (store ledger : List ℕ) (s : ℕ) : Type 0 where
  pub i : ℕ
  pub known : i < size σ
  pub alive : live i ≡ true
  pub holds : Holds (slot_bytes σ) (message σ i) s (have i) (look slots s) store ledger

-- message i has a slot
pub record Placed (σ : Scene) (slots : List Slot) (i : ℕ) : Type 0 where
  pub s : ℕ
  pub inside : s < slot_count
  pub is-busy : busy (look slots s) ≡ true
  pub its-key : (look slots s).key ≡ key (message σ i)

-- The open slots are those of the live messages, one each; `have i` are the fragments of message i that have come.
pub record Slots (σ : Scene) (live : ℕ → Bool) (have : ℕ → ℕ → Bool) (slots : List Slot) (store ledger : List ℕ) : Type 0 where
  pub eight : length slots ≡ slot_count
  pub store_length_lem : length store ≡ length σ.store
  pub ledger-length : length ledger ≡ ledger_length
  pub owner : (s : ℕ) → s < slot_count → busy (look slots s) ≡ true → Owner σ live have slots store ledger s
  pub placed : (i : ℕ) → i < size σ → live i ≡ true → Placed σ slots i
  pub unique : (s t : ℕ) → s < slot_count → t < slot_count → busy (look slots s) ≡ true → busy (look slots t) ≡ true → (look slots s).key ≡ (look slots t).key → s ≡ t
  pub counted : count (λ s. busy (look slots s)) slot_count ≡ count live (size σ)

-- nothing has changed for the live messages
pub slots_same : {σ : Scene} {live : ℕ → Bool} {have : ℕ → ℕ → Bool} {slots : List Slot} {store ledger : List ℕ} (live' : ℕ → Bool) (have' : ℕ → ℕ → Bool)
    → Slots σ live have slots store ledger
    → ((i : ℕ) → i < size σ → live' i ≡ live i)
    → ((i : ℕ) → i < size σ → live i ≡ true → (k : ℕ) → k < parts (message σ i) → have' i k ≡ have i k)
    → Slots σ live' have' slots store ledger
slots_same {σ} {live} {have} {slots} {store} {ledger} live' have' h l g = record {
  eight = h.eight;
  store_length_lem = h.store_length_lem;
  ledger-length = h.ledger-length;
  owner = λ s b e.
      let o : Owner σ live have slots store ledger s = h.owner s b e in record {
        i = o.i;
        known = o.known;
        alive = l o.i o.known ∙ o.alive;
        holds = holds_move (have' o.i) store ledger o.holds (g o.i o.known o.alive) (λ y c. refl) (λ k c. refl) (λ k c. refl);
      };
  placed = λ i b e. h.placed i b (sym (l i b) ∙ e);
  unique = h.unique;
  counted = h.counted ∙ count_same (size σ) live live' (λ i b. sym (l i b));
}

module _ {σ : Scene} (law : Distinct σ) {live : ℕ → Bool} {have : ℕ → ℕ → Bool} {slots : List Slot} {store ledger : List ℕ}
    (h : Slots σ live have slots store ledger) (i : ℕ) (known : i < size σ) (s : ℕ) (inside : s < slot_count) where
  -- whoever sits in a slot with i's key is i
  pub owner-is : (o : Owner σ live have slots store ledger s) → (look slots s).key ≡ key (message σ i) → o.i ≡ i
  owner-is o e = law o.i i o.known known (sym o.holds.its-key ∙ e)

  -- a slot that hosts i
  pub owner-holds : busy (look slots s) ≡ true → (look slots s).key ≡ key (message σ i)
      → (live i ≡ true) × Holds (slot_bytes σ) (message σ i) s (have i) (look slots s) store ledger
  owner-holds b e =
      let o : Owner σ live have slots store ledger s = h.owner s inside b in
      let q : o.i ≡ i = owner-is o e in
      (rw q at o.alive, subst (λ (a : ℕ). Holds (slot_bytes σ) (message σ a) s (have a) (look slots s) store ledger) q o.holds)

-- Slot s is message i's seat, before and after: open just when i is live. All else stays. That is the one way in which the slots ever change.
pub record Reseat (σ : Scene) (live live' : ℕ → Bool) (have have' : ℕ → ℕ → Bool) (slots slots' : List Slot) (store ledger store' ledger' : List ℕ) (i s : ℕ) : Type 0 where
  pub known : i < size σ
  pub inside : s < slot_count
  pub changed : Changed s slots slots'
  pub was : busy (look slots s) ≡ live i
  pub was-key : busy (look slots s) ≡ true → (look slots s).key ≡ key (message σ i)
  pub is : busy (look slots' s) ≡ live' i
  pub is-held : live' i ≡ true → Holds (slot_bytes σ) (message σ i) s (have' i) (look slots' s) store' ledger'
  pub other_live : (a : ℕ) → a ≢ i → live' a ≡ live a
  pub other_have : (a k : ℕ) → a ≢ i → have' a k ≡ have a k
  pub store_length_lem : length store' ≡ length store
  pub ledger-length : length ledger' ≡ length ledger
  pub other-bytes : (t y : ℕ) → t ≢ s → y < slot_bytes σ → get_or store' (t * slot_bytes σ + y) 0 ≡ get_or store (t * slot_bytes σ + y) 0
  pub other-off : (t k : ℕ) → t ≢ s → k < max_fragments → offset_of ledger' t k ≡ offset_of ledger t k
  pub other-len : (t k : ℕ) → t ≢ s → k < max_fragments → length_of ledger' t k ≡ length_of ledger t k

module _ {σ : Scene} (law : Distinct σ) {live live' : ℕ → Bool} {have have' : ℕ → ℕ → Bool} {slots slots' : List Slot} {store ledger store' ledger' : List ℕ}
    (h : Slots σ live have slots store ledger) {i s : ℕ} (r : Reseat σ live live' have have' slots slots' store ledger store' ledger' i s) where
  -- nobody else sits in a slot with i's key
  not-i : (t : ℕ) → t < slot_count → t ≢ s → (o : Owner σ live have slots store ledger t) → busy (look slots t) ≡ true → o.i ≢ i
  not-i t b n o e q =
      let l : live i ≡ true = rw q at o.alive in
      let busy : busy (look slots s) ≡ true = r.was ∙ l in
      let k : (look slots t).key ≡ key (message σ i) = rw q at o.holds.its-key in
      n (h.unique t s b r.inside e busy (k ∙ sym (r.was-key busy)))

  -- nor has i's key
  not_key : (t : ℕ) → t < slot_count → t ≢ s → busy (look slots t) ≡ true → (look slots t).key ≡ key (message σ i) → ⊥
  not_key t b n e k =
      let o : Owner σ live have slots store ledger t = h.owner t b e in
      not-i t b n o e (owner-is law h i r.known t b o k)

  old-busy : (t : ℕ) → t ≢ s → busy (look slots' t) ≡ true → busy (look slots t) ≡ true
  old-busy t n e = sym (same-busy (r.changed.others t n)) ∙ e

  reseat-owner : (t : ℕ) → t < slot_count → busy (look slots' t) ≡ true → Owner σ live' have' slots' store' ledger' t
  reseat-owner t b e = elim (ℕ_discrete t s) [
    | yes q ↦
        let l : live' i ≡ true = sym r.is ∙ (rw q at e) in
        record { i = i; known = r.known; alive = l; holds = rw q (r.is-held l) }
    | no q ↦
        let e₀ : busy (look slots t) ≡ true = old-busy t q e in
        let o : Owner σ live have slots store ledger t = h.owner t b e₀ in
        let n : o.i ≢ i = not-i t b q o e₀ in
        record {
          i = o.i;
          known = o.known;
          alive = r.other_live o.i n ∙ o.alive;
          holds = rw (r.changed.others t q) (holds_move (have' o.i) store' ledger' o.holds (λ k c. r.other_have o.i k n)
              (λ y c. r.other-bytes t y q c) (λ k c. r.other-off t k q c) (λ k c. r.other-len t k q c));
        }
  ]

  reseat-placed : (a : ℕ) → a < size σ → live' a ≡ true → Placed σ slots' a
  reseat-placed a b e = elim (ℕ_discrete a i) [
    | yes q ↦
        let l : live' i ≡ true = rw q at e in
        record { s = s; inside = r.inside; is-busy = r.is ∙ l; its-key = rw q (r.is-held l).its-key }
    | no q ↦
        let p : Placed σ slots a = h.placed a b (sym (r.other_live a q) ∙ e) in
        let n : p.s ≢ s = λ z.
        let busy : busy (look slots s) ≡ true = rw z at p.is-busy in
        let k : (look slots s).key ≡ key (message σ a) = rw z at p.its-key in
        q (law a i b r.known (sym k ∙ r.was-key busy)) in
        record {
          s = p.s;
          inside = p.inside;
          is-busy = same-busy (r.changed.others p.s n) ∙ p.is-busy;
          its-key = same-its-key (r.changed.others p.s n) ∙ p.its-key;
        }
  ]

  -- slot s, open after, has i's key
  new-key : busy (look slots' s) ≡ true → (look slots' s).key ≡ key (message σ i)
  new-key e = (r.is-held (sym r.is ∙ e)).its-key

  reseat-unique : (t u : ℕ) → t < slot_count → u < slot_count → busy (look slots' t) ≡ true → busy (look slots' u) ≡ true
      → (look slots' t).key ≡ (look slots' u).key → t ≡ u
  reseat-unique t u a b c d e = elim (ℕ_discrete t s) [
    | yes q ↦ elim (ℕ_discrete u s) [
      | yes z ↦ q ∙ sym z
      | no z ↦
          let k : (look slots u).key ≡ key (message σ i) = sym (same-its-key (r.changed.others u z)) ∙ sym e ∙ (rw q (new-key (rw q at c))) in
          absurd (not_key u b z (old-busy u z d) k)
    ]
    | no q ↦ elim (ℕ_discrete u s) [
      | yes z ↦
          let k : (look slots t).key ≡ key (message σ i) = sym (same-its-key (r.changed.others t q)) ∙ e ∙ (rw z (new-key (rw z at d))) in
          absurd (not_key t a q (old-busy t q c) k)
      | no z ↦
          h.unique t u a b (old-busy t q c) (old-busy u z d)
          (sym (same-its-key (r.changed.others t q)) ∙ e ∙ same-its-key (r.changed.others u z))
    ]
  ]

  counted_same : live i ≡ live' i → count (λ t. busy (look slots' t)) slot_count ≡ count live' (size σ)
  counted_same e =
      count_same slot_count (λ t. busy (look slots' t)) (λ t. busy (look slots t)) (λ t b. elim (ℕ_discrete t s) [
        | yes q ↦ rw q (r.is ∙ sym e ∙ sym r.was)
        | no q ↦ same-busy (r.changed.others t q)
      ])
      ∙ h.counted
      ∙ count_same (size σ) live live' (λ a b. elim (ℕ_discrete a i) [ yes q ↦ rw q e | no q ↦ sym (r.other_live a q) ])

  reseat-counted : (b b' : Bool) → live i ≡ b → live' i ≡ b' → count (λ t. busy (look slots' t)) slot_count ≡ count live' (size σ)
  reseat-counted true true e e' = counted_same (e ∙ sym e')
  reseat-counted false false e e' = counted_same (e ∙ sym e')
  reseat-counted false true e e' =
      count_flip slot_count (λ t. busy (look slots t)) (λ t. busy (look slots' t)) s r.inside (r.was ∙ e) (r.is ∙ e')
      (λ t b n. sym (same-busy (r.changed.others t n)))
      ∙ ap suc h.counted
      ∙ sym (count_flip (size σ) live live' i r.known e e' (λ a b n. sym (r.other_live a n)))
  reseat-counted true false e e' =
      suc_inj (sym (count_flip slot_count (λ t. busy (look slots' t)) (λ t. busy (look slots t)) s r.inside (r.is ∙ e') (r.was ∙ e)
      (λ t b n. same-busy (r.changed.others t n)))
      ∙ h.counted
      ∙ count_flip (size σ) live' live i r.known e' e (λ a b n. r.other_live a n))

  pub reseat : Slots σ live' have' slots' store' ledger'
  reseat = record {
    eight = r.changed.eight;
    store_length_lem = r.store_length_lem ∙ h.store_length_lem;
    ledger-length = r.ledger-length ∙ h.ledger-length;
    owner = reseat-owner;
    placed = reseat-placed;
    unique = reseat-unique;
    counted = reseat-counted (live i) (live' i) refl refl;
  }
