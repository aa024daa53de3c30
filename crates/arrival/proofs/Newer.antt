-- How many open slots were opened after a given one: by that number the promise with strangers about counts.
use Rattle.wire.proofs.Basics.{◌∙◌, sym, ◌≡◌, ap, refl, subst, ℕ, ◌≤◌, ◌<◌, suc, List, true, false, Bool, ◌&&◌, inl, inr, ◌≢◌, length, set, get_or-set_other, ltb, le-ltb, lt-ltb, ltb-true, le_refl}
use Rattle.wire.proofs.Basics.{ℕ_discrete, arith}
use native.Mathlib.Nat.{le_of_eq}
use Rattle.wire.proofs.Choices.{either, never, and_l, and_r, and-of}
use Rattle.datagram.specs.Said.{Fragment}
use Rattle.steps.specs.Limits.{slot_count}
use Rattle.steps.specs.Search.{count}
use Rattle.steps.specs.Slots.{Slot, busy, no_slot, slot_at, open_count_lem, filled}
use Rattle.steps.proofs.Tables.{and_no, count_same, count_flip, count_mono, count_none, count-all}
use Rattle.steps.proofs.Seats.{busy_at, turn_at, set_there}
use Rattle.steps.proofs.Ranks.{Ranks, Shrunk, was-open, order-back, last_turn, fill-alike}

-- slot a is open, and was opened after turn t
abbrev is_newer : List Slot → ℕ → ℕ → Bool
is_newer slots t a = busy_at slots a && ltb t (turn_at slots a)

unfoldable pub newer : List Slot → ℕ → ℕ
newer slots t = count (is_newer slots t) slot_count

-- slots are freed
pub newer-shrunk : {old new : List Slot} → Ranks old → Shrunk old new → (s : ℕ) → s < slot_count → busy_at new s ≡ true → newer new (turn_at new s) ≤ newer old (turn_at old s)
unfolding newer
newer-shrunk {old} {new} o h s b e = count_mono slot_count (is_newer new (turn_at new s)) (is_newer old (turn_at old s)) (λ a c q.
    let p : busy_at new a ≡ true = and_l (busy_at new a) (ltb (turn_at new s) (turn_at new a)) q in
    let l : turn_at new s < turn_at new a = ltb-true (turn_at new s) (turn_at new a) (and_r (busy_at new a) (ltb (turn_at new s) (turn_at new a)) q) in
    and-of (busy_at old a) (ltb (turn_at old s) (turn_at old a)) (was-open h a p) (lt-ltb (turn_at old s) (turn_at old a) (order-back o h s a b c e p l)))

-- a slot takes a fragment
pub newer-filled : (slots : List Slot) → length slots ≡ slot_count → (t : ℕ) → t < slot_count → (f : Fragment) (s : ℕ)
    → newer (set slots t (filled (slot_at slots t) f)) (turn_at (set slots t (filled (slot_at slots t) f)) s) ≡ newer slots (turn_at slots s)
unfolding newer
newer-filled slots e t b f s =
    let new : List Slot = set slots t (filled (slot_at slots t) f) in
    count_same slot_count (is_newer new (turn_at new s)) (is_newer slots (turn_at slots s))
    (λ a c. λ i. (fill-alike slots e t b f a).same-open i && ltb ((fill-alike slots e t b f s).same_turn i) ((fill-alike slots e t b f a).same_turn i))

-- slot t is opened
module _ (slots : List Slot) (eight : length slots ≡ slot_count) (o : Ranks slots) (t : ℕ) (inside : t < slot_count) (free : busy_at slots t ≡ false) (x : Slot)
    (is-busy : busy x ≡ true) (is-turn : x.turn ≡ open_count_lem slots) where
  abbrev new : List Slot
  new = set slots t x

  stays : (a : ℕ) → a ≢ t → slot_at new a ≡ slot_at slots a
  stays a n = get_or-set_other slots t a x no_slot n

  top : turn_at new t ≡ open_count_lem slots
  top = last_turn slots eight o t inside free x is-busy is-turn t refl

  -- one more is newer than another
  pub newer-opened : (s : ℕ) → s < slot_count → busy_at slots s ≡ true → newer (set slots t x) (turn_at (set slots t x) s) ≤ suc (newer slots (turn_at slots s))
  unfolding newer
  newer-opened s b e =
      let n : s ≢ t = λ q. never (subst (λ (y : ℕ). busy_at slots y ≡ true) q e) free in
      subst (λ (u : ℕ). count (is_newer new u) slot_count ≤ suc (count (is_newer slots (turn_at slots s)) slot_count)) (sym (ap (λ (y : Slot). y.turn) (stays s n)))
      (le_of_eq (count_flip slot_count (is_newer slots (turn_at slots s)) (is_newer new (turn_at slots s)) t inside
      (rw free)
      (and-of (busy_at new t) (ltb (turn_at slots s) (turn_at new t)) (ap busy (set_there slots t x eight inside) ∙ is-busy)
      (lt-ltb (turn_at slots s) (turn_at new t) (omega (arith, top, o.below s b e))))
      (λ a c m. sym (ap (λ (y : Slot). busy y && ltb (turn_at slots s) y.turn) (stays a m)))))

  -- and none is newer than itself
  pub newest : newer (set slots t x) (turn_at (set slots t x) t) ≡ 0
  unfolding newer
  newest = count_none slot_count (is_newer new (turn_at new t)) (λ a b. elim (ℕ_discrete a t) [
    | yes q ↦ subst (λ (y : ℕ). is_newer new (turn_at new t) y ≡ false) (sym q) (and_no (busy_at new t) (le-ltb (turn_at new t) (turn_at new t) (le_refl (turn_at new t))))
    | no q ↦ elim (either (busy_at slots a)) [
      | inl c ↦ and_no (busy_at new a) (le-ltb (turn_at new t) (turn_at new a) (omega (arith, top, ap (λ (y : Slot). y.turn) (stays a q), o.below a b c)))
      | inr c ↦ rw (ap busy (stays a q) ∙ c)
    ]
  ])

-- with every slot open, seven are newer than the oldest
pub oldest-newer : (slots : List Slot) → Ranks slots → (s : ℕ) → s < slot_count → ((a : ℕ) → a < slot_count → busy_at slots a ≡ true)
    → ((a : ℕ) → a < slot_count → turn_at slots s ≤ turn_at slots a) → suc (newer slots (turn_at slots s)) ≡ slot_count
unfolding newer
oldest-newer slots o s inside full low =
    sym (count_flip slot_count (is_newer slots (turn_at slots s)) (busy_at slots) s inside
    (and_no (busy_at slots s) (le-ltb (turn_at slots s) (turn_at slots s) (le_refl (turn_at slots s))))
    (full s inside)
    (λ a b n.
    let d : turn_at slots a ≢ turn_at slots s = λ e. n (o.once a s b inside (full a b) (full s inside) e) in
    let l : turn_at slots s ≤ turn_at slots a = low a b in
    and-of (busy_at slots a) (ltb (turn_at slots s) (turn_at slots a)) (full a b) (lt-ltb (turn_at slots s) (turn_at slots a) (omega arith)) ∙ sym (full a b)))
    ∙ count-all slot_count (busy_at slots) full
