-- Every state that calls can reach is in order; and what forget leaves of one.
use Rattle.wire.proofs.Basics.{◌∙◌, sym, ◌≡◌, ap, refl, subst, ℕ, ◌≤◌, ◌<◌, List, true, false, not, or-true, inl, inr, ◌≢◌, none, length, set, replicate, length-set, length-replicate, get_or-replicate}
use Rattle.wire.proofs.Basics.{get_or-set_other, eq-eqb, le-leb, le_refl, ℕ_discrete, arith}
use Rattle.wire.proofs.Choices.{either, never, and-five}
use Rattle.datagram.specs.Limits.{max_fragments}
use Rattle.datagram.specs.Said.{fragment, Fragment, said}
use Rattle.datagram.proofs.Saids.{Formed, fragment-formed}
use Rattle.steps.specs.Limits.{slot_count, ledger_length, slot_size_of}
use Rattle.steps.specs.Search.{all_below}
use Rattle.steps.specs.Memory.{Key, key_of, same_key, Memory, is_remembered_lem, remember}
use Rattle.steps.specs.Slots.{Slot, busy, no_slot, slot_at, find_open_lem, release, release_of, opening, filled, all_held_lem, seat, Emptied, Nobody}
use Rattle.steps.specs.Receive.{Machine, After, stay, opened, step5, begin_at, slot_ok, sound, step, forget}
use Rattle.steps.specs.Reach.{Reached, opens, receives, forgets, InOrder}
use Rattle.steps.specs.Promises.{Forgotten}
use Rattle.steps.proofs.Tables.{all_of}
use Rattle.steps.proofs.Memories.{same_key_lem, Whole, whole-ok, empty-whole, remember-whole, remember-other, forget-whole, forget-other, forget-own, forget-kept}
use Rattle.steps.proofs.Seats.{busy_at, key_at, counted-busy, same-its-key, open-inside, Found, open-found, open_none, set_there, not-freed}
use Rattle.steps.proofs.Branches.{Course, unmoved, given, joined, begun, course, step5-delivered, step5-kept}
use Rattle.steps.proofs.Numbers.{never-by-nine}
use Rattle.steps.proofs.Ranks.{Ranks, none-ranked, Shrunk, was-open, shrunk-release, ranks-open, fill-alike, ranks-fill, Sat, sat, not-open}
use Rattle.steps.proofs.Forgets.{Released, released}

-- ---- slots in order, beside a memory

pub record Tidy (C : ℕ) (slots : List Slot) (memory : Memory) : Type 0 where
  pub eight : length slots ≡ slot_count
  pub sizes : (s : ℕ) → s < slot_count → slot_ok C (slot_at slots s) ≡ true
  pub one-slot : (s t : ℕ) → s < slot_count → t < slot_count → busy_at slots s ≡ true → busy_at slots t ≡ true → key_at slots s ≡ key_at slots t → s ≡ t
  pub not-both : (s : ℕ) → s < slot_count → busy_at slots s ≡ true → is_remembered_lem memory (key_at slots s) ≡ false
  pub ranks : Ranks slots

pub other_key : (a b : Key) → a ≢ b → same_key a b ≡ false
other_key a b n = elim (either (same_key a b)) [ inl e ↦ absurd (n (same_key_lem a b e)) | inr e ↦ e ]

slot_ok_lem : (C : ℕ) (x : Slot) → x.size ≤ C → x.count ≤ max_fragments → slot_ok C x ≡ true
slot_ok_lem C x a b = rw (le-leb x.size C a, le-leb x.count max_fragments b) (or-true (not (busy x)))

module _ {C : ℕ} {slots : List Slot} {memory : Memory} (h : Tidy C slots memory) where
  -- slot s becomes x
  module _ (s : ℕ) (inside : s < slot_count) (x : Slot) (ok : slot_ok C x ≡ true)
      (own : (t : ℕ) → t < slot_count → t ≢ s → busy_at slots t ≡ true → key_at slots t ≢ x.key)
      (new : is_remembered_lem memory x.key ≡ false) (ranked : Ranks (set slots s x)) where
    there : slot_at (set slots s x) s ≡ x
    there = set_there slots s x h.eight inside

    stays : (t : ℕ) → t ≢ s → slot_at (set slots s x) t ≡ slot_at slots t
    stays t n = get_or-set_other slots s t x no_slot n

    was-busy : (t : ℕ) → t ≢ s → busy_at (set slots s x) t ≡ true → busy_at slots t ≡ true
    was-busy t n e = sym (ap busy (stays t n)) ∙ e

    its-key : (t : ℕ) → t ≡ s → key_at (set slots s x) t ≡ x.key
    its-key t q = ap (key_at (set slots s x)) q ∙ ap (λ (y : Slot). y.key) there

    old-key : (t : ℕ) → t ≢ s → key_at (set slots s x) t ≡ key_at slots t
    old-key t n = ap (λ (y : Slot). y.key) (stays t n)

    pub tidy-set : Tidy C (set slots s x) memory
    tidy-set = record {
      eight = length-set slots s x ∙ h.eight;
      sizes = λ t b. elim (ℕ_discrete t s) [
        | yes q ↦ ap (slot_ok C) (ap (slot_at (set slots s x)) q ∙ there) ∙ ok
        | no q ↦ ap (slot_ok C) (stays t q) ∙ h.sizes t b
      ];
      one-slot = λ t u a b c d e. elim (ℕ_discrete t s) [
        | yes p ↦ elim (ℕ_discrete u s) [
          | yes q ↦ p ∙ sym q
          | no q ↦ absurd (own u b q (was-busy u q d) (sym (old-key u q) ∙ sym e ∙ its-key t p))
        ]
        | no p ↦ elim (ℕ_discrete u s) [
          | yes q ↦ absurd (own t a p (was-busy t p c) (sym (old-key t p) ∙ e ∙ its-key u q))
          | no q ↦ h.one-slot t u a b (was-busy t p c) (was-busy u q d) (sym (old-key t p) ∙ e ∙ old-key u q)
        ]
      ];
      not-both = λ t b e. elim (ℕ_discrete t s) [
        | yes q ↦ ap (is_remembered_lem memory) (its-key t q) ∙ new
        | no q ↦ ap (is_remembered_lem memory) (old-key t q) ∙ h.not-both t b (was-busy t q e)
      ];
      ranks = ranked;
    }

  -- slots are freed
  pub tidy-shrunk : {new : List Slot} → Shrunk slots new → Tidy C new memory
  tidy-shrunk {new} k = record {
    eight = k.eight;
    sizes = λ s b. elim (either (busy_at new s)) [
      | inl e ↦ ap (slot_ok C) (k.as_before s e) ∙ h.sizes s b
      | inr e ↦ rw e
    ];
    one-slot = λ s t a b c d e. h.one-slot s t a b (was-open k s c) (was-open k t d) (sym (its s c) ∙ e ∙ its t d);
    not-both = λ s b e. ap (is_remembered_lem memory) (its s e) ∙ h.not-both s b (was-open k s e);
    ranks = k.ranks;
  }
    where
      its : (s : ℕ) → busy_at new s ≡ true → key_at new s ≡ key_at slots s
      its s e = same-its-key (k.as_before s e)

  -- a key is remembered that is not open
  pub tidy-remember : Whole memory → (k : Key) → ((t : ℕ) → t < slot_count → busy_at slots t ≡ true → key_at slots t ≢ k) → Tidy C slots (remember memory k)
  tidy-remember w k n = record {
    eight = h.eight;
    sizes = h.sizes;
    one-slot = h.one-slot;
    not-both = λ t b e. remember-other memory k (key_at slots t) w (other_key k (key_at slots t) (λ q. n t b e (sym q))) (h.not-both t b e);
    ranks = h.ranks;
  }

  -- the slot of an open message takes a fragment
  pub tidy-filled : (s : ℕ) → s < slot_count → busy_at slots s ≡ true → (f : Fragment) → Tidy C (set slots s (filled (slot_at slots s) f)) memory
  unfolding filled
  tidy-filled s inside y f =
      tidy-set s inside (filled (slot_at slots s) f) (h.sizes s inside) (λ t b q e k. q (h.one-slot t s b inside e y k)) (h.not-both s inside y)
      (ranks-fill slots h.eight s inside f h.ranks)

  -- a free slot is opened for a key that is neither open nor remembered
  module _ (s : ℕ) (inside : s < slot_count) (free : busy_at slots s ≡ false) (k : Key) (f : Fragment) (form : Formed C max_fragments f)
      (new : is_remembered_lem memory k ≡ false) (own : (t : ℕ) → t < slot_count → busy_at slots t ≡ true → key_at slots t ≢ k) where
    its-busy : busy (opening slots k f) ≡ true
    unfolding opening
    its-busy = counted-busy (opening slots k f) (omega (arith, form.below))

    pub opened-busy : busy_at (set slots s (opening slots k f)) s ≡ true
    opened-busy = ap busy (set_there slots s (opening slots k f) h.eight inside) ∙ its-busy

    pub tidy-opened : Tidy C (set slots s (opening slots k f)) memory
    unfolding opening
    tidy-opened =
        tidy-set s inside (opening slots k f) (slot_ok_lem C (opening slots k f) form.fits form.few) (λ t b q e. own t b e) new
        (ranks-open slots h.eight h.ranks s inside free (opening slots k f) its-busy refl)

-- ---- a machine in order

pub record Good (n : ℕ) (m : Machine) : Type 0 where
  pub long : m.store_length ≡ n
  pub sized : m.slot_size_lem ≡ slot_size_of n
  pub tidy : Tidy (slot_size_of n) m.slots m.memory
  pub whole : Whole m.memory

pub good-sound : (n : ℕ) (m : Machine) → Good n m → sound m n ledger_length ≡ true
unfolding sound
good-sound n m g =
    let all : all_below slot_count (λ s. slot_ok m.slot_size_lem (slot_at m.slots s)) ≡ true =
    all_of slot_count (λ s. slot_ok m.slot_size_lem (slot_at m.slots s))
    (λ s b. subst (λ (c : ℕ). slot_ok c (slot_at m.slots s) ≡ true) (sym g.sized) (g.tidy.sizes s b)) in
    and-five _ _ _ _ _ (eq-eqb n m.store_length (sym g.long)) (eq-eqb ledger_length ledger_length refl) (eq-eqb m.slot_size_lem (slot_size_of n) g.sized) all (whole-ok m.memory g.whole)

-- ---- a fragment is stored

module _ (n : ℕ) (m : Machine) (g : Good n m) (slots : List Slot) (h : Tidy (slot_size_of n) slots m.memory) (s : ℕ) (inside : s < slot_count)
    (is-busy : busy_at slots s ≡ true) (store ledger : List ℕ) (f : Fragment) where
  abbrev slot : Slot
  slot = filled (slot_at slots s) f

  filled-tidy : Tidy (slot_size_of n) (set slots s slot) m.memory
  filled-tidy = tidy-filled h s inside is-busy f

  here : slot_at (set slots s slot) s ≡ slot
  here = set_there slots s slot h.eight inside

  slot-busy : busy_at (set slots s slot) s ≡ true
  slot-busy = (fill-alike slots h.eight s inside f s).same-open ∙ is-busy

  freed-shrunk : Shrunk (set slots s slot) (release (set slots s slot) s)
  freed-shrunk = shrunk-release (set slots s slot) filled-tidy.eight filled-tidy.ranks s inside slot-busy

  freed-tidy : Tidy (slot_size_of n) (release (set slots s slot) s) (remember m.memory slot.key)
  freed-tidy = tidy-remember (tidy-shrunk filled-tidy freed-shrunk) g.whole slot.key (λ t b e k.
      let new : List Slot = set slots s slot in
      let same : t ≡ s = filled-tidy.one-slot t s b inside (was-open freed-shrunk t e) slot-busy
      (sym (same-its-key (freed-shrunk.as_before t e)) ∙ k ∙ sym (same-its-key here)) in
      not-freed new s t filled-tidy.eight inside e same)

  pub step5-good : (gone : Emptied) → Good n (step5 m slots store ledger gone s f).machine
  step5-good gone = elim (either (all_held_lem slot)) [
    | inl e ↦ subst (λ (a : After). Good n a.machine) (sym (step5-delivered m slots store ledger s f e gone))
        (record { long = g.long; sized = g.sized; tidy = freed-tidy; whole = remember-whole m.memory slot.key g.whole })
    | inr e ↦ subst (λ (a : After). Good n a.machine) (sym (step5-kept m slots store ledger s f e gone))
        (record { long = g.long; sized = g.sized; tidy = filled-tidy; whole = g.whole })
  ]

-- ---- a call

module _ (n : ℕ) (m : Machine) (g : Good n m) where
  -- what is read with the machine's slot size
  pub good-form : (d : List ℕ) (f : Fragment) → said m.slot_size_lem max_fragments d ≡ fragment f → Formed (slot_size_of n) max_fragments f
  good-form d f q = subst (λ (c : ℕ). Formed c max_fragments f) g.sized (fragment-formed m.slot_size_lem max_fragments d f q)

  pub seat-sat : Sat m.slots (seat m.slots)
  seat-sat = sat m.slots g.tidy.eight g.tidy.ranks

  module _ (store ledger : List ℕ) (k : Key) (f : Fragment) (form : Formed (slot_size_of n) max_fragments f) (new : is_remembered_lem m.memory k ≡ false) (closed : find_open_lem m.slots k ≡ none) where
    abbrev rest : List Slot
    rest = (seat m.slots).slots

    abbrev at : ℕ
    at = (seat m.slots).at

    rest-tidy : Tidy (slot_size_of n) rest m.memory
    rest-tidy = tidy-shrunk g.tidy seat-sat.shrunk

    pub rest-own : (t : ℕ) → t < slot_count → busy_at (seat m.slots).slots t ≡ true → key_at (seat m.slots).slots t ≢ k
    rest-own = not-open g.tidy.eight seat-sat.shrunk k closed

    pub begun-tidy : Tidy (slot_size_of n) (set (seat m.slots).slots (seat m.slots).at (opening (seat m.slots).slots k f)) m.memory
    begun-tidy = tidy-opened rest-tidy at seat-sat.inside seat-sat.is_free_lem k f form new rest-own

    pub begun-busy : busy_at (set (seat m.slots).slots (seat m.slots).at (opening (seat m.slots).slots k f)) (seat m.slots).at ≡ true
    begun-busy = opened-busy rest-tidy at seat-sat.inside seat-sat.is_free_lem k f form new rest-own

    begun-good : Good n (begin_at m store ledger k f (seat m.slots)).machine
    begun-good = step5-good n m g (set rest at (opening rest k f)) begun-tidy at seat-sat.inside begun-busy store ledger f (seat m.slots).emptied

  pub step-good : (store ledger : List ℕ) (sender : ℕ) (d : List ℕ) → Good n (step m store ledger sender d).machine
  unfolding stay
  step-good store ledger sender d = go (course m store ledger sender d)
    where
      go : Course m store ledger sender (said m.slot_size_lem max_fragments d) (step m store ledger sender d) → Good n (step m store ledger sender d).machine
      go (unmoved x t e) = subst (λ (a : After). Good n a.machine) (sym e) g
      go (given q name payload t p e) = subst (λ (a : After). Good n a.machine) (sym e) (record {
        long = g.long;
        sized = g.sized;
        tidy = tidy-remember g.tidy g.whole (key_of sender q) (open_none m.slots g.tidy.eight (key_of sender q) p);
        whole = remember-whole m.memory (key_of sender q) g.whole;
      })
      go (joined f s t p e) =
          let r : Found m.slots (key_of sender f.sequence) s = open-found m.slots g.tidy.eight (key_of sender f.sequence) s p in
          subst (λ (a : After). Good n a.machine) (sym e) (step5-good n m g m.slots g.tidy s r.inside r.is-busy store ledger f Nobody)
      go (begun f t u p e) = subst (λ (a : After). Good n a.machine) (sym e) (begun-good store ledger (key_of sender f.sequence) f (good-form d f t) u p)

-- ---- forget

pub good-released : (n : ℕ) (m : Machine) → Good n m → (sender : ℕ) → Released sender slot_count m.slots (release_of sender slot_count m.slots)
good-released n m g sender = released sender slot_count (le_refl slot_count) m.slots g.tidy.eight g.tidy.ranks

pub forget-good : (n : ℕ) (m : Machine) → Good n m → (sender : ℕ) → Good n (forget m sender).machine
unfolding forget
forget-good n m g sender = rw (whole-ok m.memory g.whole) (record {
  long = g.long;
  sized = g.sized;
  tidy =
      let t : Tidy (slot_size_of n) (release_of sender slot_count m.slots) m.memory = tidy-shrunk g.tidy (good-released n m g sender).shrunk in
      record {
        eight = t.eight;
        sizes = t.sizes;
        one-slot = t.one-slot;
        not-both = λ s b e. forget-other m.memory sender (key_at (release_of sender slot_count m.slots) s) (t.not-both s b e);
        ranks = t.ranks;
      };
  whole = forget-whole m.memory sender g.whole;
})

pub opened-good : (n : ℕ) → Good n (opened n)
unfolding opened
opened-good n = record {
  long = refl;
  sized = refl;
  tidy = record {
    eight = length-replicate slot_count no_slot;
    sizes = λ s b. ap (slot_ok (slot_size_of n)) (get_or-replicate slot_count s no_slot no_slot b);
    one-slot = λ s t a b c d e. never c (fresh s a);
    not-both = λ s b e. never e (fresh s b);
    ranks = none-ranked (replicate slot_count no_slot) fresh;
  };
  whole = empty-whole;
}
  where
    fresh : (s : ℕ) → s < slot_count → busy_at (replicate slot_count no_slot) s ≡ false
    fresh s b = ap busy (get_or-replicate slot_count s no_slot no_slot b)

pub reached-good : (n : ℕ) (m : Machine) → Reached n m → Good n m
reached-good n m opens = opened-good n
reached-good n m (receives {m = m₀} r store ledger sender d) = step-good n m₀ (reached-good n m₀ r) store ledger sender d
reached-good n m (forgets {m = m₀} r sender) = forget-good n m₀ (reached-good n m₀ r) sender

-- THE THEOREM
pub reached_in-order : (n : ℕ) (m : Machine) → Reached n m → InOrder n m
reached_in-order n m r =
    let g : Good n m = reached-good n m r in
    record {
      is-sound = good-sound n m g;
      never-nine = λ store ledger a b sender d. never-by-nine m store ledger sender d (rw (a, b) (good-sound n m g));
      one-slot = g.tidy.one-slot;
      not-both = g.tidy.not-both;
      turns-below = g.tidy.ranks.below;
      turns-once = g.tidy.ranks.once;
      turns-all = λ t b. let a = g.tidy.ranks.all t b in record { slot = a.0; inside = a.1; is_open_lem = a.2; its-turn = a.3 };
    }

-- WHAT FORGET LEAVES
pub forgotten : (n : ℕ) (m : Machine) → Reached n m → (sender : ℕ) → Forgotten sender m (forget m sender).machine
unfolding forget
forgotten n m reached sender =
    let g : Good n m = reached-good n m reached in
    let r : Released sender slot_count m.slots (release_of sender slot_count m.slots) = good-released n m g sender in
    rw (whole-ok m.memory g.whole) (record {
      none_open_lem = λ s e. r.none_left s (open-inside (release_of sender slot_count m.slots) r.shrunk.eight s e) e;
      none-remembered = forget-own m.memory sender;
      others-open = r.others-stay;
      as_before = r.shrunk.as_before;
      others-remembered = forget-kept m.memory sender;
      order = r.shrunk.order;
    })
