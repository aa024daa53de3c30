-- While a fragment of the message is missing: what every call, its own and any other, and every forgetting leave of it.
use Rattle.wire.proofs.Basics.{◌∙◌, sym, ◌≡◌, ap, refl, subst, ℕ, ◌≤◌, ◌+◌, ◌<◌, suc, ◌*◌, List, true, false, Bool, ◌&&◌, ◌||◌, not, inl, inr, ◌≢◌, some, none, Option, length, drop, take, set, eqb}
use Rattle.wire.proofs.Basics.{eq-eqb, ne_eqb, le_trans, ℕ_discrete, arith}
use native.Mathlib.Nat.{le_of_eq}
use Rattle.wire.proofs.Choices.{either, never, and-of}
use Rattle.wire.proofs.Overlays.{length-overlay}
use Rattle.datagram.specs.Limits.{max_fragments}
use Rattle.names.specs.Name.{good_name_lem}
use Rattle.datagram.specs.Said.{Fragment, Said, fragment, said}
use Rattle.datagram.proofs.Saids.{Formed}
use Rattle.steps.specs.declared.Key.{Key}
use Rattle.steps.specs.Receive.{Answer}
use Rattle.steps.specs.Receive.{Refused, Kept, Repeat, Delivered}
use Rattle.steps.specs.declared.Emptied.{Emptied}
use Rattle.steps.specs.declared.Emptied.TheVariants.{Nobody}
use Rattle.steps.specs.Limits.{slot_count, ledger_length, slot_size_of}
use Rattle.steps.specs.Search.{all_below, one}
use Rattle.steps.specs.Held.{is_held}
use Rattle.steps.specs.Memory.{key_of, same_key, is_remembered_lem}
use Rattle.steps.specs.Slots.{Slot, busy, slot_at, find_open_lem, opening, filled, all_held_lem, seat, release_of}
use Rattle.steps.specs.Receive.{Machine, After, stay, place_of, store_with, ledger_with, Verdict, step3, step5, begin_at, act, receive, forget, sequence_of}
use Rattle.steps.specs.Runs.{World, lending, world_of, Arrival, key_in, call}
use Rattle.steps.specs.Reach.{found, is_open, is_stored, opens_slot, is_accepted}
use Rattle.steps.proofs.Tables.{all-at, all_cong, or-not, or_yes}
use Rattle.steps.proofs.Memories.{key-same, whole-ok, remember-other, forget-other}
use Rattle.steps.proofs.Seats.{unturned, look, busy_at, key_at, Found, open-found, open_none, same-its-key, set_there, set_here}
use Rattle.steps.proofs.Stores.{part-fits}
use Rattle.steps.proofs.RunComputed.{step5-ledger}
use Rattle.steps.proofs.Branches.{Course, unmoved, given, joined, begun, course, step-sound, fragment-open, step5-delivered, step5-kept, step5-stores}
use Rattle.steps.proofs.Ranks.{Sat}
use Rattle.steps.proofs.Reaches.{Good, Tidy, good-sound, good-form, seat-sat, begun-tidy, begun-busy, step-good, good-released, forget-good, other_key as differs}
use Rattle.arrival.specs.Demand.{Message, key, parts, datagram, handed, name_in}
use Rattle.arrival.specs.Strangers.{part, is_own, is_foreign, accepts_foreign, opens_other, its, hands_over}
use Rattle.arrival.proofs.Pieces.{piece, Cut}
use Rattle.arrival.proofs.Joining.{Holds, holds_move, holds-put, whole-bytes, arrives-again, arrives-new}
use Rattle.arrival.proofs.Newer.{newer-filled}
use Rattle.arrival.proofs.Beside.{Mine, mine-busy, mine-shrunk, mine-opened, mine-step5, mine-seat}
use Rattle.arrival.proofs.Order.{name_back}

pub record Watched (n : ℕ) (m : Message) (g : ℕ → Bool) (o : ℕ) (w : World) : Type 0 where
  pub good : Good n w.machine
  pub store_length_lem : length w.store ≡ n
  pub ledger-length : length w.ledger ≡ ledger_length
  pub unknown : is_remembered_lem w.machine.memory (key m) ≡ false
  pub s : ℕ
  pub mine : Mine (slot_size_of n) m g o s w.machine.slots w.store w.ledger

-- what is stored is accepted
pub stored-accepted : (a : Answer) → is_stored a ≡ true → is_accepted a ≡ true
stored-accepted (Refused n) e = e
stored-accepted Kept e = refl
stored-accepted Repeat e = e
stored-accepted (Delivered p k) e = refl

-- ---- what step 5 leaves of lengths and of the memory

module _ (m : Machine) (slots : List Slot) (store ledger : List ℕ) (gone : Emptied) (s : ℕ) (f : Fragment) where
  pub step5-store : length (step5 m slots store ledger gone s f).store ≡ length store
  step5-store = elim (either (all_held_lem (filled (slot_at slots s) f))) [
    | inl e ↦ ap (λ (a : After). length a.store) (step5-delivered m slots store ledger s f e gone) ∙ length-overlay store (place_of m.slot_size_lem s f) f.bytes
    | inr e ↦ ap (λ (a : After). length a.store) (step5-kept m slots store ledger s f e gone) ∙ length-overlay store (place_of m.slot_size_lem s f) f.bytes
  ]

  -- another key than the slot's stays unknown
  step5-unknown : {n : ℕ} → Good n m → (k : Key) → key_at slots s ≢ k → is_remembered_lem m.memory k ≡ false
      → is_remembered_lem (step5 m slots store ledger gone s f).machine.memory k ≡ false
  unfolding filled
  step5-unknown h k d u = elim (either (all_held_lem (filled (slot_at slots s) f))) [
    | inl e ↦ ap (λ (a : After). is_remembered_lem a.machine.memory k) (step5-delivered m slots store ledger s f e gone)
        ∙ remember-other m.memory (key_at slots s) k h.whole (differs (key_at slots s) k d) u
    | inr e ↦ ap (λ (a : After). is_remembered_lem a.machine.memory k) (step5-kept m slots store ledger s f e gone) ∙ u
  ]

-- ---- one of its own fragments is stored in its slot

module _ (mach : Machine) (C : ℕ) (sized : mach.slot_size_lem ≡ C) (slots : List Slot) (eight : length slots ≡ slot_count) (store ledger : List ℕ)
    (room : (t : ℕ) → t < slot_count → t * C + C ≤ length store) (long : length ledger ≡ ledger_length) (gone : Emptied)
    {m : Message} {g : ℕ → Bool} {o s : ℕ} (h : Mine C m g o s slots store ledger) (k : ℕ) (k< : k < parts m) (g' : ℕ → Bool) (plus : (j : ℕ) → g' j ≡ (eqb k j || g j)) where
  abbrev pub fr : Fragment
  fr = piece C m k

  abbrev pub out : After
  out = step5 mach slots store ledger gone s fr

  abbrev slot : Slot
  slot = filled (slot_at slots s) fr

  held : Holds C m s g' (unturned slot) (store_with C store s fr) (ledger_with ledger s fr)
  held = holds-put (slot_at slots s) h.holds k k< h.inside (room s h.inside) long g' plus

  all_held : all_held_lem slot ≡ all_below (parts m) g'
  all_held = ap (λ (c : ℕ). all_below c (is_held slot.held)) held.its-count ∙ all_cong (parts m) (is_held slot.held) g' held.bits

  -- others are missing
  pub own-kept : all_below (parts m) g' ≡ false → (is_remembered_lem out.machine.memory (key m) ≡ is_remembered_lem mach.memory (key m)) × Mine C m g' o s out.machine.slots out.store out.ledger
  own-kept e = subst (λ (a : After). (is_remembered_lem a.machine.memory (key m) ≡ is_remembered_lem mach.memory (key m)) × Mine C m g' o s a.machine.slots a.store a.ledger)
      (sym (step5-kept mach slots store ledger s fr (all_held ∙ e) gone)) (
        refl,
        record {
          inside = h.inside;
          holds = subst (λ (c : ℕ). Holds C m s g' (look (set slots s slot) s) (store_with c store s fr) (ledger_with ledger s fr)) (sym sized)
              (subst (λ (x : Slot). Holds C m s g' x (store_with C store s fr) (ledger_with ledger s fr)) (sym (set_here slots s slot eight h.inside)) held);
          few-newer = le_trans (le_of_eq (newer-filled slots eight s h.inside fr s)) h.few-newer;
        },
      )

  -- none is missing: it is delivered, with its own name and bytes
  pub own-delivered : (d : List ℕ) → all_below (parts m) g' ≡ true → handed (key m) d out ≡ some (its m)
  own-delivered d e =
      let name : name_in slot.name ≡ m.name =
      ap name_in (held.its-name (all-at (parts m) g' e 0 held.cut.some-parts))
      ∙ name_back m.name (subst (λ (x : List ℕ). good_name_lem x ≡ true) held.cut.its-name ((held.cut.formed 0 held.cut.some-parts).named (held.cut.its-number 0 held.cut.some-parts))) in
      let bytes : take (length m.payload) (drop (s * C) (store_with C store s fr)) ≡ m.payload =
      whole-bytes held (omega (arith, room s h.inside, length-overlay store (place_of C s fr) fr.bytes)) (all-at (parts m) g' e) in
      ap (handed (key m) d) (step5-delivered mach slots store ledger s fr (all_held ∙ e) gone)
      ∙ (λ i. some (record { key = key m; name = name i; bytes = take (held.its-size i) (drop (s * sized i) (store_with (sized i) store s fr)) }))
      ∙ ap (λ (b : List ℕ). some (record { key = key m; name = m.name; bytes = b })) bytes

-- ---- a call in a world that is watched

module _ (n : ℕ) (m : Message) (g : ℕ → Bool) (o : ℕ) (w : World) (v : Watched n m g o w) where
  abbrev C : ℕ
  C = slot_size_of n

  abbrev mach : Machine
  mach = w.machine

  room : (t : ℕ) → t < slot_count → t * C + C ≤ length w.store
  room t b = part-fits t (length w.store) C b (ap slot_size_of (sym v.store_length_lem))

  -- its key is open in its slot
  its-open : busy_at mach.slots v.s ≡ true
  its-open = mine-busy v.mine

  pub its-slot : find_open_lem mach.slots (key m) ≡ some v.s
  its-slot = go (find_open_lem mach.slots (key m)) refl
    where
      go : (x : Option ℕ) → find_open_lem mach.slots (key m) ≡ x → find_open_lem mach.slots (key m) ≡ some v.s
      go none e = absurd (open_none mach.slots v.good.tidy.eight (key m) e v.s v.mine.inside its-open v.mine.holds.its-key)
      go (some t) e =
          let y : Found mach.slots (key m) t = open-found mach.slots v.good.tidy.eight (key m) t e in
          e ∙ ap some (v.good.tidy.one-slot t v.s y.inside v.mine.inside y.is-busy its-open (y.its-key ∙ sym v.mine.holds.its-key))

  -- a key that is not open is another
  not-its : (k : Key) → find_open_lem mach.slots k ≡ none → k ≢ key m
  not-its k e q = clash (sym e ∙ ap (find_open_lem mach.slots) q ∙ its-slot)
    where
      clash : ◌≡◌ {A = Option ℕ} none (some v.s) → ⊥
      clash z = never {b = found none} (ap found z ∙ refl) refl

  -- more may be newer
  more : (o' : ℕ) → o ≤ o' → Mine C m g o' v.s mach.slots w.store w.ledger
  more o' l = record { inside = v.mine.inside; holds = v.mine.holds; few-newer = le_trans v.mine.few-newer l }

  -- ---- anything but its own

  module _ (x : Arrival) (foreign : is_own m x ≡ false) (unaccepted : accepts_foreign m w x ≡ false) (few : one (opens_other m w x) + o < slot_count) where
    abbrev out' : After
    out' = call w x

    abbrev o' : ℕ
    o' = one (opens_other m w x) + o

    after-good : Good n out'.machine
    after-good = step-good n mach v.good w.store w.ledger x.sender x.datagram

    other_key : (f : Fragment) → said mach.slot_size_lem max_fragments x.datagram ≡ fragment f → is_stored out'.answer ≡ true → key_of x.sender f.sequence ≢ key m
    other_key f t e q =
        let k : same_key (key_in mach.slot_size_lem x) (key m) ≡ true =
        subst (λ (r : Said). same_key (key_of x.sender (sequence_of r)) (key m) ≡ true) (sym t) (subst (λ (y : Key). same_key y (key m) ≡ true) (sym q) (key-same (key m))) in
        never (and-of (is_foreign mach.slot_size_lem m x) (is_accepted out'.answer)
        (and-of (same_key (key_in mach.slot_size_lem x) (key m)) (not (is_own m x)) k (ap not foreign)) (stored-accepted out'.answer e)) unaccepted

    more-or-same : o ≤ o'
    more-or-same = omega arith

    -- the call came to a
    module _ (a : After) (e : out' ≡ a) where
      good-a : Good n a.machine
      good-a = subst (λ (z : After). Good n z.machine) e after-good

      came : Watched n m g o' (world_of a) → Watched n m g o' (world_of out')
      came z = subst (λ (y : After). Watched n m g o' (world_of y)) (sym e) z

    -- a fragment joins another message
    join-beside : (f : Fragment) (t : ℕ) → said mach.slot_size_lem max_fragments x.datagram ≡ fragment f → find_open_lem mach.slots (key_of x.sender f.sequence) ≡ some t
        → out' ≡ step5 mach mach.slots w.store w.ledger Nobody t f → Watched n m g o' (world_of out')
    join-beside f t q p e =
        let k : Key = key_of x.sender f.sequence in
        let y : Found mach.slots k t = open-found mach.slots v.good.tidy.eight k t p in
        let d : key_at mach.slots t ≢ key m = λ z.
        other_key f q (ap (λ (a : After). is_stored a.answer) e ∙ step5-stores mach mach.slots w.store w.ledger t f Nobody) (sym y.its-key ∙ z) in
        let apart : v.s ≢ t = λ z. d (ap (key_at mach.slots) (sym z) ∙ v.mine.holds.its-key) in
        came _ e (record {
          good = good-a _ e;
          store_length_lem = step5-store mach mach.slots w.store w.ledger Nobody t f ∙ v.store_length_lem;
          ledger-length = step5-ledger mach mach.slots w.store w.ledger Nobody t f ∙ v.ledger-length;
          unknown = step5-unknown mach mach.slots w.store w.ledger Nobody t f v.good (key m) d v.unknown;
          s = v.s;
          mine = mine-step5 C mach.slots v.good.tidy.eight w.store w.ledger t y.inside f (good-form n mach v.good x.datagram f q) (more o' more-or-same) apart
              mach v.good.sized v.good.tidy.ranks y.is-busy Nobody;
        })

    -- a slot is opened for another message
    module _ (f : Fragment) (q : said mach.slot_size_lem max_fragments x.datagram ≡ fragment f) (new-key : is_remembered_lem mach.memory (key_of x.sender f.sequence) ≡ false)
        (closed : find_open_lem mach.slots (key_of x.sender f.sequence) ≡ none)
        (e : out' ≡ begin_at mach w.store w.ledger (key_of x.sender f.sequence) f (seat mach.slots)) where
      abbrev k : Key
      k = key_of x.sender f.sequence

      abbrev rest : List Slot
      rest = (seat mach.slots).slots

      abbrev at : ℕ
      at = (seat mach.slots).at

      abbrev slots₁ : List Slot
      slots₁ = set rest at (opening rest k f)

      form : Formed C max_fragments f
      form = good-form n mach v.good x.datagram f q

      seat-is : Sat mach.slots (seat mach.slots)
      seat-is = seat-sat n mach v.good

      tidy₁ : Tidy C slots₁ mach.memory
      tidy₁ = begun-tidy n mach v.good w.store w.ledger k f form new-key closed

      busy₁ : busy_at slots₁ at ≡ true
      busy₁ = begun-busy n mach v.good w.store w.ledger k f form new-key closed

      key-is : key_in mach.slot_size_lem x ≡ k
      key-is = ap (λ (r : Said). key_of x.sender (sequence_of r)) q

      one_more : one (opens_other m w x) ≡ 1
      unfolding opens_slot
      one_more = ap one (and-of (not (is_open mach (key_in mach.slot_size_lem x)) && is_stored out'.answer) (not (same_key (key_in mach.slot_size_lem x) (key m)))
          (and-of (not (is_open mach (key_in mach.slot_size_lem x))) (is_stored out'.answer)
          (ap (λ (y : Key). not (is_open mach y)) key-is ∙ ap (λ (y : Option ℕ). not (found y)) closed)
          (ap (λ (a : After). is_stored a.answer) e ∙ step5-stores mach slots₁ w.store w.ledger at f (seat mach.slots).emptied))
          (ap (λ (y : Key). not (same_key y (key m))) key-is ∙ ap not (differs k (key m) (not-its k closed))))

      mine₁ : Mine C m g o v.s rest w.store w.ledger
      mine₁ = mine-seat v.good.tidy.eight v.good.tidy.ranks (omega (arith, few, one_more)) v.mine

      apart : v.s ≢ at
      apart z = never (subst (λ (y : ℕ). busy_at rest y ≡ true) z (mine-busy mine₁)) seat-is.is_free_lem

      mine₂ : Mine C m g (suc o) v.s slots₁ w.store w.ledger
      unfolding opening
      mine₂ = mine-opened seat-is.shrunk.eight seat-is.shrunk.ranks at seat-is.inside seat-is.is_free_lem (opening rest k f)
          (sym (ap busy (set_there rest at (opening rest k f) seat-is.shrunk.eight seat-is.inside)) ∙ busy₁) refl mine₁

      key₁ : key_at slots₁ at ≡ k
      unfolding opening
      key₁ = same-its-key (set_there rest at (opening rest k f) seat-is.shrunk.eight seat-is.inside)

      begin-beside : Watched n m g o' (world_of out')
      begin-beside = subst (λ (j : ℕ). Watched n m g j (world_of out')) (let z : suc o ≡ o' = omega (arith, one_more) in z) (subst (λ (a : After). Watched n m g (suc o) (world_of a)) (sym e) (record {
        good = good-a _ e;
        store_length_lem = step5-store mach slots₁ w.store w.ledger (seat mach.slots).emptied at f ∙ v.store_length_lem;
        ledger-length = step5-ledger mach slots₁ w.store w.ledger (seat mach.slots).emptied at f ∙ v.ledger-length;
        unknown = step5-unknown mach slots₁ w.store w.ledger (seat mach.slots).emptied at f v.good (key m) (λ z. not-its k closed (sym key₁ ∙ z)) v.unknown;
        s = v.s;
        mine = mine-step5 C slots₁ tidy₁.eight w.store w.ledger at seat-is.inside f form mine₂ apart mach v.good.sized tidy₁.ranks busy₁ (seat mach.slots).emptied;
      }))

    pub stranger : Watched n m g (one (opens_other m w x) + o) (world_of (call w x))
    unfolding stay
    stranger = go (course mach w.store w.ledger x.sender x.datagram)
      where
        go : Course mach w.store w.ledger x.sender (said mach.slot_size_lem max_fragments x.datagram) out' → Watched n m g o' (world_of out')
        go (unmoved y t e) = came _ e (record {
          good = v.good;
          store_length_lem = v.store_length_lem;
          ledger-length = v.ledger-length;
          unknown = v.unknown;
          s = v.s;
          mine = more o' more-or-same;
        })
        go (given q name payload t p e) = came _ e (record {
          good = good-a _ e;
          store_length_lem = v.store_length_lem;
          ledger-length = v.ledger-length;
          unknown = remember-other mach.memory (key_of x.sender q) (key m) v.good.whole (differs (key_of x.sender q) (key m) (not-its (key_of x.sender q) p)) v.unknown;
          s = v.s;
          mine = more o' more-or-same;
        })
        go (joined f t q p e) = join-beside f t q p e
        go (begun f q u p e) = begin-beside f q u p e

  -- ---- one of its own

  module _ (k : ℕ) (k< : k < parts m) where
    abbrev fr' : Fragment
    fr' = piece C m k

    abbrev with-k : ℕ → Bool
    with-k j = eqb k j || g j

    cut : Cut C m
    cut = v.mine.holds.cut

    its-key : key_of m.sender fr'.sequence ≡ key m
    its-key = ap (key_of m.sender) (cut.its-sequence k k<)

    abbrev verdict : Verdict
    verdict = step3 C w.store w.ledger v.s (slot_at mach.slots v.s) fr'

    to-open : call w (part m k) ≡ act mach w.store w.ledger (key_of m.sender fr'.sequence) verdict
    to-open =
        step-sound mach w.store w.ledger m.sender (datagram m k) (rw (v.store_length_lem, v.ledger-length) (good-sound n mach v.good))
        ∙ ap (λ (c : ℕ). receive mach w.store w.ledger m.sender (said c max_fragments (datagram m k))) v.good.sized
        ∙ ap (receive mach w.store w.ledger m.sender) (cut.reads k k<)
        ∙ fragment-open mach w.store w.ledger m.sender fr' v.s (ap (is_remembered_lem mach.memory) its-key ∙ v.unknown) (ap (find_open_lem mach.slots) its-key ∙ its-slot)
        ∙ ap (λ (c : ℕ). act mach w.store w.ledger (key_of m.sender fr'.sequence) (step3 c w.store w.ledger v.s (slot_at mach.slots v.s) fr')) v.good.sized

    same_have : g k ≡ true → (j : ℕ) → with-k j ≡ g j
    same_have e j = elim (ℕ_discrete k j) [
      | yes q ↦ or_yes (eqb k j) (g j) (eq-eqb k j q) ∙ sym (subst (λ (i : ℕ). g i ≡ true) q e)
      | no q ↦ or-not (eqb k j) (g j) (ne_eqb k j q)
    ]

    to-put : g k ≡ false → call w (part m k) ≡ step5 mach mach.slots w.store w.ledger Nobody v.s fr'
    unfolding act
    to-put e = to-open ∙ ap (act mach w.store w.ledger (key_of m.sender fr'.sequence)) (arrives-new (slot_at mach.slots v.s) v.mine.holds k k< (room v.s v.mine.inside) e)

    -- others are missing
    pub own-step : all_below (parts m) (λ j. eqb k j || g j) ≡ false → Watched n m (λ j. eqb k j || g j) o (world_of (call w (part m k)))
    unfolding act stay
    own-step e = elim (either (g k)) [
      | inl q ↦
          subst (λ (a : After). Watched n m with-k o (world_of a))
          (sym (to-open ∙ ap (act mach w.store w.ledger (key_of m.sender fr'.sequence)) (arrives-again (slot_at mach.slots v.s) v.mine.holds k k< (room v.s v.mine.inside) q)))
          (record {
            good = v.good;
            store_length_lem = v.store_length_lem;
            ledger-length = v.ledger-length;
            unknown = v.unknown;
            s = v.s;
            mine = record {
              inside = v.mine.inside;
              holds = holds_move with-k w.store w.ledger v.mine.holds (λ j b. same_have q j) (λ y c. refl) (λ j c. refl) (λ j c. refl);
              few-newer = v.mine.few-newer;
            };
          })
      | inr q ↦
          let p = own-kept mach C v.good.sized mach.slots v.good.tidy.eight w.store w.ledger room v.ledger-length Nobody v.mine k k< with-k (λ j. refl) e in
          let good' : Good n (call w (part m k)).machine = step-good n mach v.good w.store w.ledger m.sender (datagram m k) in
          subst (λ (a : After). Watched n m with-k o (world_of a)) (sym (to-put q)) (record {
            good = subst (λ (a : After). Good n a.machine) (to-put q) good';
            store_length_lem = step5-store mach mach.slots w.store w.ledger Nobody v.s fr' ∙ v.store_length_lem;
            ledger-length = step5-ledger mach mach.slots w.store w.ledger Nobody v.s fr' ∙ v.ledger-length;
            unknown = p.0 ∙ v.unknown;
            s = v.s;
            mine = p.1;
          })
    ]

    -- it was the last missing one
    pub own-last : all_below (parts m) g ≡ false → all_below (parts m) (λ j. eqb k j || g j) ≡ true → hands_over w (part m k) ≡ some (its m)
    own-last a b = elim (either (g k)) [
      | inl q ↦ never (sym (all_cong (parts m) with-k g (λ j c. same_have q j)) ∙ b) a
      | inr q ↦
          let key_here : key_in mach.slot_size_lem (part m k) ≡ key m =
          ap (λ (c : ℕ). key_in c (part m k)) v.good.sized ∙ ap (λ (r : Said). key_of m.sender (sequence_of r)) (cut.reads k k<) ∙ its-key in
          ap (λ (y : Key). handed y (datagram m k) (call w (part m k))) key_here
          ∙ ap (handed (key m) (datagram m k)) (to-put q)
          ∙ own-delivered mach C v.good.sized mach.slots v.good.tidy.eight w.store w.ledger room v.ledger-length Nobody v.mine k k< with-k (λ j. refl) (datagram m k) b
    ]

  -- ---- another sender is forgotten

  pub forgotten-beside : (sender : ℕ) → sender ≢ m.sender → Watched n m g o (lending (forget w.machine sender).machine w.store w.ledger)
  unfolding forget
  forgotten-beside sender d =
      let r = good-released n mach v.good sender in
      let still : busy_at (release_of sender slot_count mach.slots) v.s ≡ true =
      r.others-stay v.s its-open (λ z. d (sym z ∙ ap (λ (y : Key). y.sender) v.mine.holds.its-key)) in
      let good' : Good n (forget mach sender).machine = forget-good n mach v.good sender in
      record {
        good = good';
        store_length_lem = v.store_length_lem;
        ledger-length = v.ledger-length;
        unknown = rw (whole-ok mach.memory v.good.whole) (forget-other mach.memory sender (key m) v.unknown);
        s = v.s;
        mine = rw (whole-ok mach.memory v.good.whole) (mine-shrunk v.good.tidy.ranks r.shrunk still v.mine);
      }
