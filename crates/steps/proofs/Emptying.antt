-- AN EMPTIED KEY IS NOT REMEMBERED: after the call that empties it, from any state that calls can reach, it is neither open nor remembered.
use Rattle.wire.proofs.Basics.{◌∙◌, sym, ◌≡◌, ap, refl, subst, ℕ, ◌<◌, List, true, false, inl, inr, ◌≢◌, some, none, Option, length, set, get_or-set_other, ℕ_discrete}
use Rattle.wire.proofs.Choices.{either}
use Rattle.datagram.specs.Limits.{max_fragments}
use Rattle.datagram.specs.Said.{Fragment, said}
use Rattle.datagram.proofs.Saids.{Formed}
use Rattle.steps.specs.Limits.{slot_count, slot_size_of}
use Rattle.steps.specs.Memory.{Key, key_of, is_remembered_lem, remember}
use Rattle.steps.specs.Slots.{Slot, busy, no_slot, slot_at, find_open_lem, oldest, opening, filled, all_held_lem, Seat, seat, Nobody}
use Rattle.steps.specs.Receive.{Machine, After, stay, step5, step}
use Rattle.steps.specs.Answers.{emptied_key}
use Rattle.steps.specs.Reach.{Reached, found, is_open, Unknown}
use Rattle.steps.proofs.Tables.{clash-none}
use Rattle.steps.proofs.Memories.{remember-other}
use Rattle.steps.proofs.Seats.{busy_at, key_at, same-its-key, Found, open-found, open_none, set_there, Seated, free, full, seated}
use Rattle.steps.proofs.Branches.{Course, unmoved, given, joined, begun, course, step5-delivered, step5-kept}
use Rattle.steps.proofs.Ranks.{Shrunk, was-open, fill-alike, Sat, oldest-inside, step5-shrunk, step5-gone}
use Rattle.steps.proofs.Reaches.{Good, other_key, good-form, seat-sat, begun-tidy, begun-busy, reached-good}

-- a key that no open slot has is not open
pub not_found : (slots : List Slot) → length slots ≡ slot_count → (k : Key) → ((s : ℕ) → s < slot_count → busy_at slots s ≡ true → key_at slots s ≢ k) → found (find_open_lem slots k) ≡ false
not_found slots e k h = go (find_open_lem slots k) refl
  where
    go : (o : Option ℕ) → find_open_lem slots k ≡ o → found (find_open_lem slots k) ≡ false
    go none q = ap found q
    go (some s) q = let y : Found slots k s = open-found slots e k s q in absurd (h s y.inside y.is-busy y.its-key)

-- the slot that is taken was open for the emptied key
record Taken (slots : List Slot) (at : ℕ) (k : Key) : Type 0 where
  inside : at < slot_count
  was-busy : busy_at slots at ≡ true
  its-key : key_at slots at ≡ k

taken : (slots : List Slot) → length slots ≡ slot_count → (k : Key) (t : Seat) → Seated slots t → emptied_key t.emptied ≡ some k → Taken slots t.at k
taken slots e k t (free s b q) z = clash-none z
taken slots e k t (full all) z = record { inside = oldest-inside slots e; was-busy = all (oldest slots) (oldest-inside slots e); its-key = cc }

module _ (n : ℕ) (m : Machine) (g : Good n m) (store ledger : List ℕ) (new : Key) (f : Fragment) (form : Formed (slot_size_of n) max_fragments f)
    (unknown : is_remembered_lem m.memory new ≡ false) (closed : find_open_lem m.slots new ≡ none) (k : Key) (y : Taken m.slots (seat m.slots).at k) where
  abbrev at : ℕ
  at = (seat m.slots).at

  abbrev rest : List Slot
  rest = (seat m.slots).slots

  abbrev slots₁ : List Slot
  slots₁ = set rest at (opening rest new f)

  abbrev out : After
  out = step5 m slots₁ store ledger (seat m.slots).emptied at f

  sat : Sat m.slots (seat m.slots)
  sat = seat-sat n m g

  apart : new ≢ k
  apart e = open_none m.slots g.tidy.eight new closed at y.inside y.was-busy (y.its-key ∙ sym e)

  here : slot_at slots₁ at ≡ opening rest new f
  here = set_there rest at (opening rest new f) sat.shrunk.eight sat.inside

  new-here : key_at slots₁ at ≡ new
  unfolding opening
  new-here = same-its-key here

  -- no slot is open for the emptied key, once its own is
  none_left : (s : ℕ) → s < slot_count → busy_at slots₁ s ≡ true → key_at slots₁ s ≢ k
  none_left s b o e = elim (ℕ_discrete s at) [
    | yes q ↦ apart (sym new-here ∙ ap (key_at slots₁) (sym q) ∙ e)
    | no q ↦
        let stays : slot_at slots₁ s ≡ slot_at rest s = get_or-set_other rest at s (opening rest new f) no_slot q in
        let o₁ : busy_at rest s ≡ true = sym (ap busy stays) ∙ o in
        let same : key_at rest s ≡ key_at m.slots s = same-its-key (sat.shrunk.as_before s o₁) in
        q (g.tidy.one-slot s at b y.inside (was-open sat.shrunk s o₁) y.was-busy (sym same ∙ sym (same-its-key stays) ∙ e ∙ sym y.its-key))
  ]

  begun-closed : is_open out.machine k ≡ false
  begun-closed =
      let tidy₁ = begun-tidy n m g store ledger new f form unknown closed in
      let busy₁ = begun-busy n m g store ledger new f form unknown closed in
      let h : Shrunk (set slots₁ at (filled (slot_at slots₁ at) f)) out.machine.slots =
      step5-shrunk m slots₁ tidy₁.eight tidy₁.ranks store ledger (seat m.slots).emptied at sat.inside busy₁ f in
      not_found out.machine.slots h.eight k (λ s b o e.
      let a = fill-alike slots₁ tidy₁.eight at sat.inside f s in
      none_left s b (sym a.same-open ∙ was-open h s o) (sym a.same_key_lem ∙ sym (same-its-key (h.as_before s o)) ∙ e))

  forgotten-before : is_remembered_lem m.memory k ≡ false
  forgotten-before = subst (λ (x : Key). is_remembered_lem m.memory x ≡ false) y.its-key (g.tidy.not-both at y.inside y.was-busy)

  begun-unknown : Unknown out.machine k
  unfolding filled
  begun-unknown = record {
    not-open = begun-closed;
    not-remembered = elim (either (all_held_lem (filled (slot_at slots₁ at) f))) [
      | inl e ↦ ap (λ (a : After). is_remembered_lem a.machine.memory k) (step5-delivered m slots₁ store ledger at f e (seat m.slots).emptied)
          ∙ ap (λ (x : Key). is_remembered_lem (remember m.memory x) k) new-here
          ∙ remember-other m.memory new k g.whole (other_key new k apart) forgotten-before
      | inr e ↦ ap (λ (a : After). is_remembered_lem a.machine.memory k) (step5-kept m slots₁ store ledger at f e (seat m.slots).emptied) ∙ forgotten-before
    ];
  }

-- THE THEOREM
pub emptied-unknown : {n : ℕ} {m : Machine} → Reached n m → (store ledger : List ℕ) (sender : ℕ) (d : List ℕ) (k : Key)
    → emptied_key (step m store ledger sender d).emptied ≡ some k → Unknown (step m store ledger sender d).machine k
unfolding stay
emptied-unknown {n} {m} r store ledger sender d k e = go (course m store ledger sender d)
  where
    g : Good n m
    g = reached-good n m r

    nobody : (a : After) → step m store ledger sender d ≡ a → a.emptied ≡ Nobody → Unknown (step m store ledger sender d).machine k
    nobody a q z = clash-none (sym (ap emptied_key z) ∙ sym (ap (λ (x : After). emptied_key x.emptied) q) ∙ e)

    go : Course m store ledger sender (said m.slot_size_lem max_fragments d) (step m store ledger sender d) → Unknown (step m store ledger sender d).machine k
    go (unmoved x t q) = nobody _ q refl
    go (given i name payload t p q) = nobody _ q refl
    go (joined f s t p q) = nobody _ q (step5-gone m m.slots store ledger Nobody s f)
    go (begun f t u p q) =
        let gone : emptied_key (seat m.slots).emptied ≡ some k = sym (ap emptied_key (ap (λ (x : After). x.emptied) q ∙ step5-gone m _ store ledger _ _ f)) ∙ e in
        subst (λ (a : After). Unknown a.machine k) (sym q)
        (begun-unknown n m g store ledger (key_of sender f.sequence) f (good-form n m g d f t) u p k
        (taken m.slots g.tidy.eight k (seat m.slots) (seated m.slots g.tidy.eight) gone))
