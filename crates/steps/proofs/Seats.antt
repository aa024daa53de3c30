-- Slots found, taken and freed: what each leaves of the slots.
use Rattle.wire.proofs.Basics.{◌∙◌, sym, ◌≡◌, ap, refl, subst, ℕ, ◌≤◌, ◌<◌, suc, zero, min, zero-le, suc-le-suc, List, [], ◌∷◌, true, false, Bool, not, ◌≢◌, some, none, Option, length, set}
use Rattle.wire.proofs.Basics.{length-set, List·getD-eq-default, length-map, get_or-set_other, get_or-set_same, eqb, eq-eqb, ne_eqb, eqb-true, not-suc-le-zero, le_refl, le_of_suc-le-suc, dec_le, arith}
use lib.ListN.{get_or-map}
use Rattle.wire.proofs.Choices.{never, and_l, and_r, and-of}
use Rattle.steps.specs.Limits.{slot_count}
use Rattle.steps.specs.Search.{first}
use Rattle.steps.specs.Memory.{Key, same_key}
use Rattle.steps.specs.Slots.{Slot, busy, no_slot, slot_at, has_key, is_free, find_open_lem, find_free, lowest_turn, or_zero, oldest, lower, release, Seat, seat_at, seat, Nobody, Was}
use Rattle.steps.specs.Reach.{found}
pub use Rattle.steps.specs.Promises.{unturned}
use Rattle.steps.proofs.Tables.{First, first_some, first-none, not-true, not-false}
use Rattle.steps.proofs.Memories.{same_key_lem, key-same}

abbrev pub busy_at : List Slot → ℕ → Bool
busy_at slots a = busy (slot_at slots a)

abbrev pub turn_at : List Slot → ℕ → ℕ
turn_at slots a = (slot_at slots a).turn

abbrev pub key_at : List Slot → ℕ → Key
key_at slots a = (slot_at slots a).key

abbrev pub look : List Slot → ℕ → Slot
look slots a = unturned (slot_at slots a)

-- a count that is not 0
pub counted-busy : (x : Slot) → 0 < x.count → busy x ≡ true
counted-busy x h = ap not (ne_eqb x.count 0 (omega arith))

pub busy-counted : (x : Slot) → busy x ≡ true → 0 < x.count
busy-counted x e = go x.count e
  where
    go : (n : ℕ) → not (eqb n 0) ≡ true → 0 < n
    go zero q = never q refl
    go (suc n) q = suc-le-suc zero-le

pub same-busy : {a b : Slot} → a ≡ b → busy a ≡ busy b
same-busy e = ap busy e

pub same-its-key : {a b : Slot} → a ≡ b → a.key ≡ b.key
same-its-key e = ap (λ (x : Slot). x.key) e

-- an open slot is one of the eight
pub open-inside : (slots : List Slot) → length slots ≡ slot_count → (s : ℕ) → busy_at slots s ≡ true → s < slot_count
open-inside slots e s b = elim (dec_le (suc s) slot_count) [
  | yes h ↦ h
  | no h ↦ never b (ap busy (List·getD-eq-default slots no_slot {n = s} (omega arith)))
]

-- ---- a slot is found

-- slot s is open for key k
pub record Found (slots : List Slot) (k : Key) (s : ℕ) : Type 0 where
  pub inside : s < slot_count
  pub is-busy : busy_at slots s ≡ true
  pub its-key : key_at slots s ≡ k

module _ (slots : List Slot) (eight : length slots ≡ slot_count) where
  pub open-found : (k : Key) (s : ℕ) → find_open_lem slots k ≡ some s → Found slots k s
  open-found k s e =
      let r : First (has_key k) slots s no_slot = first_some (has_key k) no_slot slots s e in
      record {
        inside = omega (arith, r.inside);
        is-busy = and_l (busy_at slots s) (same_key (key_at slots s) k) r.passes;
        its-key = same_key_lem (key_at slots s) k (and_r (busy_at slots s) (same_key (key_at slots s) k) r.passes);
      }

  pub open_none : (k : Key) → find_open_lem slots k ≡ none → (s : ℕ) → s < slot_count → busy_at slots s ≡ true → key_at slots s ≢ k
  open_none k e s b y q =
      never
      (and-of (busy_at slots s) (same_key (key_at slots s) k) y (subst (λ (x : Key). same_key x k ≡ true) (sym q) (key-same k)))
      (first-none (has_key k) no_slot slots e s (omega arith))

  pub is_found : (s : ℕ) → s < slot_count → busy_at slots s ≡ true → found (find_open_lem slots (key_at slots s)) ≡ true
  is_found s b e = go (find_open_lem slots (key_at slots s)) refl
    where
      go : (o : Option ℕ) → find_open_lem slots (key_at slots s) ≡ o → found (find_open_lem slots (key_at slots s)) ≡ true
      go none q = absurd (open_none (key_at slots s) q s b e refl)
      go (some t) q = ap found q

  pub free-found : (s : ℕ) → find_free slots ≡ some s → (s < slot_count) × (busy_at slots s ≡ false)
  free-found s e =
      let r : First is_free slots s no_slot = first_some is_free no_slot slots s e in
      (omega (arith, r.inside), not-true (busy_at slots s) r.passes)

  pub free-none : find_free slots ≡ none → (s : ℕ) → s < slot_count → busy_at slots s ≡ true
  free-none e s b = not-false (busy_at slots s) (first-none is_free no_slot slots e s (omega arith))

pub seat-free : (slots : List Slot) (s : ℕ) → find_free slots ≡ some s → seat slots ≡ record { at = s; slots = slots; emptied = Nobody }
unfolding seat
seat-free slots s e = ap (seat_at slots) e

pub seat-full : (slots : List Slot) → find_free slots ≡ none
    → seat slots ≡ record { at = oldest slots; slots = release slots (oldest slots); emptied = Was (key_at slots (oldest slots)) }
unfolding seat
seat-full slots e = ap (seat_at slots) e

-- the seat: a free slot, or with none free the oldest, which is freed
pub data Seated (slots : List Slot) : Seat → Type 0 where
  free : (s : ℕ) → s < slot_count → busy_at slots s ≡ false → Seated slots (record { at = s; slots = slots; emptied = Nobody })
  full : ((a : ℕ) → a < slot_count → busy_at slots a ≡ true)
      → Seated slots (record { at = oldest slots; slots = release slots (oldest slots); emptied = Was (key_at slots (oldest slots)) })

pub seated : (slots : List Slot) → length slots ≡ slot_count → Seated slots (seat slots)
seated slots e = go (find_free slots) refl
  where
    go : (o : Option ℕ) → find_free slots ≡ o → Seated slots (seat slots)
    go none q = subst (Seated slots) (sym (seat-full slots q)) (full (free-none slots e q))
    go (some s) q = let z = free-found slots e s q in subst (Seated slots) (sym (seat-free slots s q)) (free s z.0 z.1)

-- ---- one slot changes

-- only slot s has changed, but for turns
pub record Changed (s : ℕ) (old new : List Slot) : Type 0 where
  pub eight : length new ≡ slot_count
  pub others : (t : ℕ) → t ≢ s → look new t ≡ look old t

pub set-changed : (slots : List Slot) (s : ℕ) (x : Slot) → length slots ≡ slot_count → Changed s slots (set slots s x)
set-changed slots s x e = record {
  eight = length-set slots s x ∙ e;
  others = λ t n. ap unturned (get_or-set_other slots s t x no_slot n);
}

pub set_there : (slots : List Slot) (s : ℕ) (x : Slot) → length slots ≡ slot_count → s < slot_count → slot_at (set slots s x) s ≡ x
set_there slots s x e h = get_or-set_same slots s x no_slot (omega arith)

pub set_here : (slots : List Slot) (s : ℕ) (x : Slot) → length slots ≡ slot_count → s < slot_count → look (set slots s x) s ≡ unturned x
set_here slots s x e h = ap unturned (set_there slots s x e h)

-- ---- a slot is freed

pub release_length : (slots : List Slot) (s : ℕ) → length (release slots s) ≡ length slots
unfolding release
release_length slots s = length-map (set slots s no_slot) (lower (turn_at slots s)) ∙ length-set slots s no_slot

-- it is all zeros
pub freed : (slots : List Slot) (s : ℕ) → length slots ≡ slot_count → s < slot_count → slot_at (release slots s) s ≡ no_slot
unfolding release lower
freed slots s e h =
    get_or-map (lower (turn_at slots s)) (set slots s no_slot) s no_slot
    ∙ ap (lower (turn_at slots s)) (set_there slots s no_slot e h)

-- the others keep all but their turns
pub left : (slots : List Slot) (s a : ℕ) → a ≢ s → slot_at (release slots s) a ≡ lower (turn_at slots s) (slot_at slots a)
unfolding release lower
left slots s a n =
    get_or-map (lower (turn_at slots s)) (set slots s no_slot) a no_slot
    ∙ ap (lower (turn_at slots s)) (get_or-set_other slots s a no_slot no_slot n)

pub left-look : (slots : List Slot) (s a : ℕ) → a ≢ s → look (release slots s) a ≡ look slots a
unfolding lower
left-look slots s a n = ap unturned (left slots s a n)

pub left_busy : (slots : List Slot) (s a : ℕ) → a ≢ s → busy_at (release slots s) a ≡ busy_at slots a
left_busy slots s a n = same-busy (left-look slots s a n)

pub left_key : (slots : List Slot) (s a : ℕ) → a ≢ s → key_at (release slots s) a ≡ key_at slots a
left_key slots s a n = same-its-key (left-look slots s a n)

pub release-changed : (slots : List Slot) (s : ℕ) → length slots ≡ slot_count → Changed s slots (release slots s)
release-changed slots s e = record { eight = release_length slots s ∙ e; others = left-look slots s }

pub release-here : (slots : List Slot) (s : ℕ) → length slots ≡ slot_count → s < slot_count → look (release slots s) s ≡ unturned no_slot
release-here slots s e h = ap unturned (freed slots s e h)

pub not-freed : (slots : List Slot) (s a : ℕ) → length slots ≡ slot_count → s < slot_count → busy_at (release slots s) a ≡ true → a ≢ s
not-freed slots s a e h b q = never (sym (same-busy (ap (slot_at (release slots s)) q ∙ freed slots s e h)) ∙ b) refl

-- ---- the slot that was opened longest ago

lowest-le : (l : List Slot) (a : ℕ) → a < length l → lowest_turn l ≤ turn_at l a
lowest-le [] a b = absurd (not-suc-le-zero b)
lowest-le (x ∷ []) zero b = le_refl x.turn
lowest-le (x ∷ []) (suc a) b = absurd (not-suc-le-zero (le_of_suc-le-suc b))
lowest-le (x ∷ y ∷ l) zero b = omega arith
lowest-le (x ∷ y ∷ l) (suc a) b = let r : lowest_turn (y ∷ l) ≤ turn_at (y ∷ l) a = lowest-le (y ∷ l) a (le_of_suc-le-suc b) in omega arith

lowest-at : (l : List Slot) → 0 < length l → (a : ℕ) × (a < length l) × (turn_at l a ≡ lowest_turn l)
lowest-at [] b = absurd (not-suc-le-zero b)
lowest-at (x ∷ []) b = (0, b, refl)
lowest-at (x ∷ y ∷ l) b =
    let r = lowest-at (y ∷ l) (suc-le-suc zero-le) in
    elim (dec_le x.turn (lowest_turn (y ∷ l))) [
      | yes h ↦ (0, suc-le-suc zero-le, omega arith)
      | no h ↦ (suc r.0, suc-le-suc r.1, r.2 ∙ (let z : lowest_turn (y ∷ l) ≡ min x.turn (lowest_turn (y ∷ l)) = omega arith in z))
    ]

-- it has the lowest turn
pub oldest-low : (slots : List Slot) → 0 < length slots
    → (oldest slots < length slots) × ((a : ℕ) → a < length slots → turn_at slots (oldest slots) ≤ turn_at slots a)
unfolding oldest
oldest-low slots b = go (first (λ x. eqb x.turn (lowest_turn slots)) slots) refl
  where
    go : (o : Option ℕ) → first (λ x. eqb x.turn (lowest_turn slots)) slots ≡ o
        → (oldest slots < length slots) × ((a : ℕ) → a < length slots → turn_at slots (oldest slots) ≤ turn_at slots a)
    go none e =
        let r = lowest-at slots b in
        never (eq-eqb (turn_at slots r.0) (lowest_turn slots) r.2) (first-none (λ x. eqb x.turn (lowest_turn slots)) no_slot slots e r.0 r.1)
    go (some s) e =
        let r : First (λ x. eqb x.turn (lowest_turn slots)) slots s no_slot = first_some (λ x. eqb x.turn (lowest_turn slots)) no_slot slots s e in
        let z : turn_at slots s ≡ lowest_turn slots = eqb-true (turn_at slots s) (lowest_turn slots) r.passes in
        let w : oldest slots ≡ s = ap or_zero e in
        (rw w r.inside, λ a c. rw (w, z) (lowest-le slots a c))
