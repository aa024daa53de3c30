-- The invariant between the receiver and the feed, and that every arrival keeps it and is answered as demanded.
use Rattle.wire.proofs.Basics.{◌∙◌, sym, ◌≡◌, ap, refl, subst, ℕ, ◌≤◌, ◌+◌, ◌<◌, ◌-◌, suc, zero, ◌*◌, List, [], ◌∷◌, ◌++◌, append-nil, true, false, Bool, ◌&&◌, not, inl, inr, some, none, Option}
use Rattle.wire.proofs.Basics.{Option·map, length, drop, take, set, replicate, length-replicate, get_or-replicate, take-length, take-append_seam, eqb, eq-eqb, le-leb, ℕ_discrete, arith}
use native.Mathlib.Nat.{suc_inj}
use Rattle.wire.specs.Choice.{pick}
use Rattle.wire.proofs.Choices.{either, never, and-five}
use Rattle.datagram.specs.Limits.{max_fragments, max_name, max_payload}
use Rattle.names.specs.Name.{good_name_lem}
use Rattle.datagram.specs.Name.{until_zero_lem}
use Rattle.datagram.specs.Said.{Fragment, Said, refused, small, fragment, said}
use Rattle.datagram.proofs.Names.{name-no-zero}
use Rattle.datagram.proofs.Saids.{SmallRead, small-read}
use Rattle.steps.specs.declared.Key.{Key}
use Rattle.steps.specs.declared.Emptied.TheVariants.{Nobody}
use Rattle.steps.specs.Receive.{Refused, Repeat}
use Rattle.steps.specs.Limits.{slot_count, ledger_length, slot_size_of}
use Rattle.steps.specs.Search.{all_below, count}
use Rattle.steps.specs.Memory.{key_of, Memory, is_remembered_lem, remember, remember_all, memory_ok}
use Rattle.steps.specs.Slots.{Slot, busy, no_slot, slot_at, padded, find_open_lem, find_free, opening}
use Rattle.steps.specs.Receive.{Machine, After, opened, stay, step3, step5, act, delivered_small, receive, slot_ok, sound, step, sequence_of}
use Rattle.steps.specs.Answers.{refused_by, kept, repeat, delivered, reply, emptied_key}
use Rattle.steps.specs.Runs.{World, world_of, fresh, key_in, run}
use Rattle.steps.proofs.Running.{left-more}
use Rattle.steps.proofs.Tables.{all-at, all_of, count_flip, count_none, count-all}
use Rattle.steps.proofs.Memories.{strange, memory-ok}
use Rattle.steps.proofs.Latest.{recalled}
use Rattle.steps.proofs.Seats.{busy_at, look, Found, open-found, open_none, free-found, free-none, Changed, set-changed, set_here}
use Rattle.steps.proofs.Stores.{part-fits}
use Rattle.steps.proofs.Branches.{step-sound, receive-refused, small-again, small-whole, fragment-again, fragment-free, fragment-open}
use Rattle.arrival.specs.Demand.{Message, SentSmall, SentCut, Scene, key, parts, datagram, size, message, slot_bytes, Event, part, noise, Feed, start, ◌▹◌}
use Rattle.arrival.specs.Demand.{bytes_of, arrival, arrivals, call, after, got, begun, done, completes, completed, keys_of, unfinished, handed, name_in, own, number_of, answer_to}
use Rattle.arrival.proofs.Within.{small-within}
use Rattle.arrival.proofs.Pieces.{piece, Cut, cut_of, payload-fits, few-parts}
use Rattle.arrival.proofs.Joining.{Holds, holds-open, arrives-again, arrives-new}
use Rattle.arrival.proofs.Sitting.{Owner, Placed, Slots, slots_same, owner-holds}
use Rattle.arrival.proofs.Storing.{stored_out, stored-slots, stored_is, stored_bytes}
use Rattle.arrival.proofs.Track.{Lawful, MayArrive, Arrives, Fair, got-own, got_other, got-again, begun-other, not-begun, done-stays, done-again, live-other, completes_yes, completes-not, completes-past, completed-none, completed-some, done-keys, ended_dead}

-- The invariant: the slots are those of the unfinished messages, and the memory is that of the completed ones.
pub record Inv (σ : Scene) (f : Feed) (w : World) : Type 0 where
  pub slots : Slots σ (unfinished σ f f) (got f) w.machine.slots w.store w.ledger
  pub long : w.machine.store_length ≡ length σ.store
  pub sized : w.machine.slot_size_lem ≡ slot_bytes σ
  pub memory : w.machine.memory ≡ remember_all (keys_of σ (completed σ f))

-- an arrival goes as demanded
pub record Fine (σ : Scene) (f : Feed) (e : Event) (a : After) : Type 0 where
  pub inv : Inv σ (f ▹ e) (world_of a)
  pub hands : handed (key_in (slot_bytes σ) (arrival σ e)) (bytes_of σ e) a ≡ Option·map (own σ) (completes σ f e)
  pub answers : reply (bytes_of σ e) a.store a.answer ≡ answer_to σ f e
  pub spared : emptied_key a.emptied ≡ none

-- ---- a name in 63 bytes is read back

until-own : (nm : List ℕ) → until_zero_lem (nm ++ 0 ∷ []) ≡ length nm → until_zero_lem nm ≡ length nm
unfolding until_zero_lem
until-own [] e = refl
until-own (x ∷ xs) e = go (eqb x 0) (λ q. until-own xs q) e
  where
    go : (b : Bool) → (until_zero_lem (xs ++ 0 ∷ []) ≡ length xs → until_zero_lem xs ≡ length xs)
        → pick b 0 (suc (until_zero_lem (xs ++ 0 ∷ []))) ≡ suc (length xs) → pick b 0 (suc (until_zero_lem xs)) ≡ suc (length xs)
    go true ih q = absurd (let z : ⊥ = omega arith in z)
    go false ih q = ap suc (ih (suc_inj q))

until-padded : (nm : List ℕ) → good_name_lem nm ≡ true → (n : ℕ) → until_zero_lem (nm ++ replicate n 0) ≡ length nm
until-padded nm g zero = ap until_zero_lem (append-nil nm) ∙ until-own nm (name-no-zero nm [] g)
until-padded nm g (suc n) = name-no-zero nm (replicate n 0) g

pub name_back : (nm : List ℕ) → good_name_lem nm ≡ true → name_in (padded nm) ≡ nm
name_back nm g =
    ap (λ (n : ℕ). take n (padded nm)) (until-padded nm g (max_name - length nm))
    ∙ take-append_seam nm (replicate (max_name - length nm) 0)

-- ---- refusal 9 does not come

slot_ok_lem : {σ : Scene} {live : ℕ → Bool} {have : ℕ → ℕ → Bool} {slots : List Slot} {store ledger : List ℕ} → Slots σ live have slots store ledger
    → (s : ℕ) → s < slot_count → slot_ok (slot_bytes σ) (slot_at slots s) ≡ true
slot_ok_lem {σ} {live} {have} {slots} {store} {ledger} h s b = elim (either (busy (slot_at slots s))) [
  | inl e ↦
      let o : Owner σ live have slots store ledger s = h.owner s b e in
      let m : Message = message σ o.i in
      let x : (slot_at slots s).size ≤ slot_bytes σ = subst (λ (n : ℕ). n ≤ slot_bytes σ) (sym o.holds.its-size) (payload-fits o.holds.cut) in
      let y : (slot_at slots s).count ≤ max_fragments = subst (λ (n : ℕ). n ≤ max_fragments) (sym o.holds.its-count) (few-parts o.holds.cut) in
      rw (e, le-leb (slot_at slots s).size (slot_bytes σ) x, le-leb (slot_at slots s).count max_fragments y)
  | inr e ↦ rw e
]

sound-ok : (σ : Scene) (f : Feed) (w : World) → Inv σ f w → sound w.machine (length w.store) (length w.ledger) ≡ true
unfolding sound
sound-ok σ f w v =
    let m : Machine = w.machine in
    let all : all_below slot_count (λ s. slot_ok m.slot_size_lem (slot_at m.slots s)) ≡ true =
    all_of slot_count (λ s. slot_ok m.slot_size_lem (slot_at m.slots s))
    (λ s b. subst (λ (n : ℕ). slot_ok n (slot_at m.slots s) ≡ true) (sym v.sized) (slot_ok_lem v.slots s b)) in
    let mem : memory_ok m.memory ≡ true = rw v.memory (memory-ok (keys_of σ (completed σ f))) in
    and-five _ _ _ _ _
    (eq-eqb (length w.store) m.store_length (v.slots.store_length_lem ∙ sym v.long))
    (eq-eqb (length w.ledger) ledger_length v.slots.ledger-length)
    (eq-eqb m.slot_size_lem (slot_size_of (length w.store)) (v.sized ∙ ap slot_size_of (sym v.slots.store_length_lem)))
    all mem

step_is : (σ : Scene) (f : Feed) (w : World) → Inv σ f w → (from : ℕ) (d : List ℕ)
    → step w.machine w.store w.ledger from d ≡ receive w.machine w.store w.ledger from (said (slot_bytes σ) max_fragments d)
step_is σ f w v from d =
    step-sound w.machine w.store w.ledger from d (sound-ok σ f w v)
    ∙ ap (λ (c : ℕ). receive w.machine w.store w.ledger from (said c max_fragments d)) v.sized

-- ---- a datagram that is refused for form

noise-fine : (σ : Scene) (f : Feed) (w : World) → Inv σ f w → (from : ℕ) (d : List ℕ) (n : ℕ) → said (slot_bytes σ) max_fragments d ≡ refused n
    → Fine σ f (noise from d) (stay w.machine w.store w.ledger (Refused n))
unfolding stay completes completed unfinished done
noise-fine σ f w v from d n e = record {
  inv = record {
    slots = slots_same (unfinished σ (f ▹ noise from d) (f ▹ noise from d)) (got (f ▹ noise from d)) v.slots (λ i b. refl) (λ i b l k c. refl);
    long = v.long;
    sized = v.sized;
    memory = v.memory;
  };
  hands = refl;
  answers = ap (λ (r : Said). refused_by (number_of r)) (sym e);
  spared = refl;
}

noise-out : (σ : Scene) (f : Feed) (w : World) → Inv σ f w → (from : ℕ) (d : List ℕ) (n : ℕ) → said (slot_bytes σ) max_fragments d ≡ refused n
    → Fine σ f (noise from d) (call σ w (noise from d))
noise-out σ f w v from d n e = subst (λ (a : After). Fine σ f (noise from d) a)
    (sym (step_is σ f w v from d ∙ ap (receive w.machine w.store w.ledger from) e ∙ receive-refused w.machine w.store w.ledger from n))
    (noise-fine σ f w v from d n e)

-- ---- which slot

module _ {σ : Scene} (law : Lawful σ) {live : ℕ → Bool} {have : ℕ → ℕ → Bool} {slots : List Slot} {store ledger : List ℕ} (h : Slots σ live have slots store ledger) where
  find_none : (i : ℕ) → i < size σ → live i ≡ false → find_open_lem slots (key (message σ i)) ≡ none
  find_none i b dead = go (find_open_lem slots (key (message σ i))) refl
    where
      go : (o : Option ℕ) → find_open_lem slots (key (message σ i)) ≡ o → find_open_lem slots (key (message σ i)) ≡ none
      go none e = e
      go (some s) e =
          let r : Found slots (key (message σ i)) s = open-found slots h.eight (key (message σ i)) s e in
          never (owner-holds law.distinct h i b s r.inside r.is-busy r.its-key).0 dead

  find-some : (i : ℕ) → i < size σ → live i ≡ true → (s : ℕ) × (find_open_lem slots (key (message σ i)) ≡ some s) × Found slots (key (message σ i)) s
  find-some i b alive = go (find_open_lem slots (key (message σ i))) refl
    where
      go : (o : Option ℕ) → find_open_lem slots (key (message σ i)) ≡ o → (s : ℕ) × (find_open_lem slots (key (message σ i)) ≡ some s) × Found slots (key (message σ i)) s
      go (some s) e = (s, e, open-found slots h.eight (key (message σ i)) s e)
      go none e =
          let p : Placed σ slots i = h.placed i b alive in
          absurd (open_none slots h.eight (key (message σ i)) e p.s p.inside p.is-busy p.its-key)

  find-free : count live (size σ) < slot_count → (s : ℕ) × (find_free slots ≡ some s) × (s < slot_count) × (busy_at slots s ≡ false)
  find-free room = go (find_free slots) refl
    where
      full : (a b : ℕ) → a ≡ slot_count → a ≡ b → b < slot_count → ⊥
      full a b p q r = omega arith

      go : (o : Option ℕ) → find_free slots ≡ o → (s : ℕ) × (find_free slots ≡ some s) × (s < slot_count) × (busy_at slots s ≡ false)
      go (some s) e = let r = free-found slots h.eight s e in (s, e, r.0, r.1)
      go none e =
          let all : count (λ s. busy (look slots s)) slot_count ≡ slot_count = count-all slot_count (λ s. busy (look slots s)) (free-none slots h.eight e) in
          absurd (full (count (λ s. busy (look slots s)) slot_count) (count live (size σ)) all h.counted room)

-- ---- datagram k of message i

module _ (σ : Scene) (law : Lawful σ) (f : Feed) (fair : Fair σ f) (w : World) (v : Inv σ f w) (i k : ℕ) (c : MayArrive σ f i k) where
  abbrev m : Message
  m = message σ i

  abbrev g : Feed
  g = f ▹ part i k

  abbrev mach : Machine
  mach = w.machine

  known-again : done σ f i ≡ true → is_remembered_lem mach.memory (key m) ≡ true
  known-again e = rw v.memory (recalled (keys_of σ (completed σ f)) (key m) (done-keys σ law f fair i c.known ∙ e) (c.recent e))

  not_known : done σ f i ≡ false → is_remembered_lem mach.memory (key m) ≡ false
  not_known e = rw v.memory (strange (keys_of σ (completed σ f)) (key m) (done-keys σ law f fair i c.known ∙ e))

  memory-more : completes σ f (part i k) ≡ some i → remember mach.memory (key m) ≡ remember_all (keys_of σ (completed σ g))
  unfolding remember_all
  memory-more e =
      ap (λ (x : Memory). remember x (key m)) v.memory
      ∙ ap (λ (x : List ℕ). remember_all (keys_of σ x)) (sym (completed-some σ law f (part i k) i e))

  memory-same : completes σ f (part i k) ≡ none → mach.memory ≡ remember_all (keys_of σ (completed σ g))
  memory-same e = v.memory ∙ ap (λ (x : List ℕ). remember_all (keys_of σ x)) (sym (completed-none σ law f (part i k) e))

  done-got : done σ f i ≡ true → got f i k ≡ true
  unfolding done
  done-got e = all-at (parts m) (got f i) e k c.exists

  -- what is answered
  again-answer : got f i k ≡ true → answer_to σ f (part i k) ≡ repeat
  again-answer e = ap (λ (b : Bool). pick b repeat (pick (done σ g i) (delivered m.payload) kept)) e

  new-answer : got f i k ≡ false → (b : Bool) → done σ g i ≡ b → answer_to σ f (part i k) ≡ pick b (delivered m.payload) kept
  new-answer e b q =
      ap (λ (c : Bool). pick c repeat (pick (done σ g i) (delivered m.payload) kept)) e ∙ ap (λ (c : Bool). pick c (delivered m.payload) kept) q

  -- nothing moves
  unmoved : got f i k ≡ true → completes σ f (part i k) ≡ none → unfinished σ g g i ≡ unfinished σ f f i
      → (unfinished σ f f i ≡ true → (j : ℕ) → got g i j ≡ got f i j) → Fine σ f (part i k) (stay mach w.store w.ledger Repeat)
  unfolding stay
  unmoved came e l h = record {
    inv = record {
      slots = slots_same (unfinished σ g g) (got g) v.slots
          (λ a b. elim (ℕ_discrete a i) [ yes q ↦ rw q l | no q ↦ live-other σ f i k a q ])
          (λ a b t j z. elim (ℕ_discrete a i) [ yes q ↦ rw q (h (rw q at t) j) | no q ↦ got_other f i k a j q ]);
      long = v.long;
      sized = v.sized;
      memory = memory-same e;
    };
    hands = ap (Option·map (own σ)) (sym e);
    answers = sym (again-answer came);
    spared = refl;
  }

  -- its message was delivered before
  past-fine : done σ f i ≡ true → Fine σ f (part i k) (stay mach w.store w.ledger Repeat)
  past-fine e = unmoved (done-got e) (completes-past σ f i k e) (ended_dead σ g i (done-stays σ f i k e) ∙ sym (ended_dead σ f i e)) (λ l. never l (ended_dead σ f i e))

  -- ---- sent small

  module _ (plain : m.fragmented ≡ false) (sent : SentSmall m) where
    not_live : (h : Feed) → unfinished σ h h i ≡ false
    unfolding unfinished
    not_live h = rw plain

    k-zero : k ≡ 0
    k-zero = omega (arith, c.exists, sent.single)

    small-done : done σ g i ≡ true
    unfolding done
    small-done = all_of (parts m) (got g i) (λ j b. got-own f i k j ∙ (rw (eq-eqb k j (omega (arith, b, sent.single, k-zero)))))

    small-said : said (slot_bytes σ) max_fragments (datagram m k) ≡ small m.sequence m.name m.payload
    small-said = rw k-zero (small-within (slot_bytes σ) max_payload max_fragments (datagram m 0) m.sequence m.name m.payload sent.reads)

    read : SmallRead (datagram m k) m.name m.payload
    read = small-read (slot_bytes σ) max_fragments (datagram m k) m.sequence m.name m.payload small-said

    small_bytes_lem : take (length m.payload) (drop (9 + length m.name) (datagram m k)) ≡ m.payload
    small_bytes_lem = ap (take (length m.payload)) read.stands ∙ take-length m.payload

    small-new : done σ f i ≡ false → got f i k ≡ false
    unfolding done
    small-new e = elim (either (got f i k)) [
      | inl q ↦ never (all_of (parts m) (got f i) (λ j b. let z : k ≡ j = omega (arith, b, sent.single, k-zero) in subst (λ (x : ℕ). got f i x ≡ true) z q)) e
      | inr q ↦ q
    ]

    small-fine : done σ f i ≡ false → Fine σ f (part i k) (delivered_small mach w.store w.ledger (key m) m.name (length m.payload))
    small-fine e = record {
      inv = record {
        slots = slots_same (unfinished σ g g) (got g) v.slots
            (λ a b. elim (ℕ_discrete a i) [ yes q ↦ rw q (not_live g ∙ sym (not_live f)) | no q ↦ live-other σ f i k a q ])
            (λ a b t j z. elim (ℕ_discrete a i) [ yes q ↦ never (rw q at t) (not_live f) | no q ↦ got_other f i k a j q ]);
        long = v.long;
        sized = v.sized;
        memory = memory-more (completes_yes σ f i k e small-done);
      };
      hands = cc (completes_yes σ f i k e small-done, ap sequence_of small-said, small_bytes_lem, name_back m.name read.named);
      answers = ap delivered small_bytes_lem ∙ sym (new-answer (small-new e) true small-done);
      spared = refl;
    }

    small-out : Fine σ f (part i k) (call σ w (part i k))
    small-out =
        let to : call σ w (part i k) ≡ receive mach w.store w.ledger m.sender (small m.sequence m.name m.payload) =
        step_is σ f w v m.sender (datagram m k) ∙ ap (receive mach w.store w.ledger m.sender) small-said in
        elim (either (done σ f i)) [
          | inl e ↦ subst (λ (a : After). Fine σ f (part i k) a)
              (sym (to ∙ small-again mach w.store w.ledger m.sender m.sequence m.name m.payload (known-again e)))
              (past-fine e)
          | inr e ↦ subst (λ (a : After). Fine σ f (part i k) a)
              (sym (to ∙ small-whole mach w.store w.ledger m.sender m.sequence m.name m.payload (not_known e)
              (find_none law v.slots i c.known (not_live f))))
              (small-fine e)
        ]

  -- ---- lawfully cut

  module _ (in_parts : m.fragmented ≡ true) (cut : Cut (slot_bytes σ) m) where
    abbrev fr : Fragment
    fr = piece (slot_bytes σ) m k

    its-key : key_of m.sender fr.sequence ≡ key m
    its-key = ap (key_of m.sender) (cut.its-sequence k c.exists)

    key_here : key_in (slot_bytes σ) (arrival σ (part i k)) ≡ key m
    key_here = ap (λ (r : Said). key_of m.sender (sequence_of r)) (cut.reads k c.exists) ∙ its-key

    good-name : good_name_lem m.name ≡ true
    good-name = subst (λ (x : List ℕ). good_name_lem x ≡ true) cut.its-name ((cut.formed 0 cut.some-parts).named (cut.its-number 0 cut.some-parts))

    live_now : unfinished σ g g i ≡ not (all_below (parts m) (got g i))
    unfolding unfinished done
    live_now = rw (in_parts, eq-eqb i i refl)

    live_then : unfinished σ f f i ≡ (begun f i && not (done σ f i))
    unfolding unfinished
    live_then = rw in_parts

    -- the fragment is stored in slot s
    module _ (s : ℕ) (inside : s < slot_count) (was : busy (look mach.slots s) ≡ unfinished σ f f i)
        (was-key : busy (look mach.slots s) ≡ true → (look mach.slots s).key ≡ key m)
        (slots₁ : List Slot) (ch : Changed s mach.slots slots₁)
        (h₁ : Holds (slot_bytes σ) m s (got f i) (look slots₁ s) w.store w.ledger) where
      stored-fine : got f i k ≡ false → done σ f i ≡ false → (b : Bool) → done σ g i ≡ b
          → Fine σ f (part i k) (stored_out law.distinct v.slots i s k c.known inside c.exists was was-key slots₁ ch h₁ (live-other σ f i k) (got_other f i k) (got-own f i k) live_now mach Nobody b)
      unfolding done
      stored-fine new e true q = record {
        inv = record {
          slots = stored-slots law.distinct v.slots i s k c.known inside c.exists was was-key slots₁ ch h₁ (live-other σ f i k) (got_other f i k) (got-own f i k) live_now true q;
          long = v.long;
          sized = v.sized;
          memory = memory-more (completes_yes σ f i k e q);
        };
        hands = cc (completes_yes σ f i k e q, key_here, name_back m.name good-name, stored_bytes law.distinct v.slots i s k c.known inside c.exists was was-key slots₁ ch h₁ (live-other σ f i k) (got_other f i k) (got-own f i k) live_now q);
        answers = ap delivered (stored_bytes law.distinct v.slots i s k c.known inside c.exists was was-key slots₁ ch h₁ (live-other σ f i k) (got_other f i k) (got-own f i k) live_now q) ∙ sym (new-answer new true q);
        spared = refl;
      }
      stored-fine new e false q = record {
        inv = record {
          slots = stored-slots law.distinct v.slots i s k c.known inside c.exists was was-key slots₁ ch h₁ (live-other σ f i k) (got_other f i k) (got-own f i k) live_now false q;
          long = v.long;
          sized = v.sized;
          memory = memory-same (completes-not σ f i k q);
        };
        hands = ap (Option·map (own σ)) (sym (completes-not σ f i k q));
        answers = sym (new-answer new false q);
        spared = refl;
      }

      put-fine : got f i k ≡ false → done σ f i ≡ false → Fine σ f (part i k) (step5 mach slots₁ w.store w.ledger Nobody s fr)
      unfolding done
      put-fine new e = subst (λ (a : After). Fine σ f (part i k) a)
          (sym (stored_is law.distinct v.slots i s k c.known inside c.exists was was-key slots₁ ch h₁ (live-other σ f i k) (got_other f i k) (got-own f i k) live_now mach v.sized Nobody (done σ g i) refl))
          (stored-fine new e (done σ g i) refl)

    to-fragment : call σ w (part i k) ≡ receive mach w.store w.ledger m.sender (fragment fr)
    to-fragment = step_is σ f w v m.sender (datagram m k) ∙ ap (receive mach w.store w.ledger m.sender) (cut.reads k c.exists)

    -- its first fragment
    room : done σ f i ≡ false → begun f i ≡ false → count (unfinished σ f f) (size σ) < slot_count
    unfolding unfinished
    room e n =
        let z : count (unfinished σ f g) (size σ) ≡ suc (count (unfinished σ f f) (size σ)) =
        count_flip (size σ) (unfinished σ f f) (unfinished σ f g) i c.known (rw (in_parts, n)) (rw (in_parts, eq-eqb i i refl, e))
        (λ a b q. rw (begun-other f i k a q)) in
        subst (λ (x : ℕ). x ≤ slot_count) z c.room

    first_fine : done σ f i ≡ false → begun f i ≡ false → Fine σ f (part i k) (call σ w (part i k))
    first_fine e n =
        let d : unfinished σ f f i ≡ false = rw n at live_then in
        let t = find-free law v.slots (room e n) in
        let s : ℕ = t.0 in
        let slot : Slot = opening mach.slots (key m) fr in
        let eq : call σ w (part i k) ≡ step5 mach (set mach.slots s slot) w.store w.ledger Nobody s fr =
        to-fragment
        ∙ fragment-free mach w.store w.ledger m.sender fr s
        (ap (is_remembered_lem mach.memory) its-key ∙ not_known e)
        (ap (find_open_lem mach.slots) its-key ∙ find_none law v.slots i c.known d)
        t.1
        ∙ ap (λ (x : Key). step5 mach (set mach.slots s (opening mach.slots x fr)) w.store w.ledger Nobody s fr) its-key in
        subst (λ (a : After). Fine σ f (part i k) a) (sym eq)
        (put-fine s t.2 (t.3 ∙ sym d) (λ q. never q t.3) (set mach.slots s slot) (set-changed mach.slots s slot v.slots.eight)
        (subst (λ (x : Slot). Holds (slot_bytes σ) m s (got f i) x w.store w.ledger) (sym (set_here mach.slots s slot v.slots.eight t.2))
        (holds-open cut s (got f i) mach.slots k c.exists w.store w.ledger (λ j b. not-begun f i j n)))
        (not-begun f i k n) e)

    live_on : done σ g i ≡ false → unfinished σ g g i ≡ true
    unfolding done
    live_on e = live_now ∙ ap not e

    -- a later one
    later-fine : done σ f i ≡ false → begun f i ≡ true → Fine σ f (part i k) (call σ w (part i k))
    unfolding act
    later-fine e n =
        let alive : unfinished σ f f i ≡ true = rw (n, e) at live_then in
        let t = find-some law v.slots i c.known alive in
        let s : ℕ = t.0 in
        let r : Found mach.slots (key m) s = t.2 in
        let h : Holds (slot_bytes σ) m s (got f i) (look mach.slots s) w.store w.ledger =
        (owner-holds law.distinct v.slots i c.known s r.inside r.is-busy r.its-key).1 in
        let fits : s * slot_bytes σ + slot_bytes σ ≤ length w.store =
        part-fits s (length w.store) (slot_bytes σ) r.inside (ap slot_size_of (sym v.slots.store_length_lem)) in
        let to-open : call σ w (part i k)
        ≡ act mach w.store w.ledger (key_of m.sender fr.sequence) (step3 (slot_bytes σ) w.store w.ledger s (slot_at mach.slots s) fr) =
        to-fragment
        ∙ fragment-open mach w.store w.ledger m.sender fr s
        (ap (is_remembered_lem mach.memory) its-key ∙ not_known e)
        (ap (find_open_lem mach.slots) its-key ∙ t.1)
        ∙ ap (λ (x : ℕ). act mach w.store w.ledger (key_of m.sender fr.sequence) (step3 x w.store w.ledger s (slot_at mach.slots s) fr)) v.sized in
        elim (either (got f i k)) [
          | inl q ↦
              let same : done σ g i ≡ false = done-again σ f i k q ∙ e in
              subst (λ (a : After). Fine σ f (part i k) a)
              (sym (to-open ∙ ap (act mach w.store w.ledger (key_of m.sender fr.sequence)) (arrives-again (slot_at mach.slots s) h k c.exists fits q)))
              (unmoved q (completes-not σ f i k same) (live_on same ∙ sym alive) (λ l j. got-again f i k j q))
          | inr q ↦
              subst (λ (a : After). Fine σ f (part i k) a)
              (sym (to-open ∙ ap (act mach w.store w.ledger (key_of m.sender fr.sequence)) (arrives-new (slot_at mach.slots s) h k c.exists fits q)))
              (put-fine s r.inside (r.is-busy ∙ sym alive) (λ b. r.its-key) mach.slots (record { eight = v.slots.eight; others = λ a b. refl }) h q e)
        ]

    fragment-out : Fine σ f (part i k) (call σ w (part i k))
    fragment-out = elim (either (done σ f i)) [
      | inl e ↦ subst (λ (a : After). Fine σ f (part i k) a)
          (sym (to-fragment ∙ fragment-again mach w.store w.ledger m.sender fr (ap (is_remembered_lem mach.memory) its-key ∙ known-again e)))
          (past-fine e)
      | inr e ↦ elim (either (begun f i)) [ inl n ↦ later-fine e n | inr n ↦ first_fine e n ]
    ]

  part_out : Fine σ f (part i k) (call σ w (part i k))
  part_out = go m.fragmented refl (law.sent i c.known)
    where
      go : (b : Bool) → m.fragmented ≡ b → pick m.fragmented (SentCut (slot_bytes σ) m) (SentSmall m) → Fine σ f (part i k) (call σ w (part i k))
      go true e x = fragment-out e (cut_of (slot_bytes σ) m (subst (λ (b : Bool). pick b (SentCut (slot_bytes σ) m) (SentSmall m)) e x))
      go false e x = small-out e (subst (λ (b : Bool). pick b (SentCut (slot_bytes σ) m) (SentSmall m)) e x)

-- ---- the whole feed

pub arrival-fine : (σ : Scene) → Lawful σ → (f : Feed) → Fair σ f → (w : World) → Inv σ f w → (e : Event) → Arrives σ f e → Fine σ f e (call σ w e)
arrival-fine σ law f fair w v (part i k) c = part_out σ law f fair w v i k c
arrival-fine σ law f fair w v (noise from d) c = noise-out σ f w v from d c.number c.refuses

idle-start : (σ : Scene) (i : ℕ) → unfinished σ start start i ≡ false
unfolding unfinished
idle-start σ i = go (message σ i).fragmented
  where
    go : (b : Bool) → (b && (false && not (done σ start i))) ≡ false
    go true = refl
    go false = refl

start-inv : (σ : Scene) → Lawful σ → Inv σ start (after σ start)
unfolding after run opened completed remember_all
start-inv σ law = record {
  slots = record {
    eight = length-replicate slot_count no_slot;
    store_length_lem = refl;
    ledger-length = law.ledger-fits;
    owner = λ s b e. never e (fresh s b);
    placed = λ i b e. never e (idle-start σ i);
    unique = λ s t a b c d e. never c (fresh s a);
    counted = count_none slot_count (λ s. busy (look (replicate slot_count no_slot) s)) fresh ∙ sym (count_none (size σ) (unfinished σ start start) (λ i b. idle-start σ i));
  };
  long = refl;
  sized = refl;
  memory = refl;
}
  where
    fresh : (s : ℕ) → s < slot_count → busy (look (replicate slot_count no_slot) s) ≡ false
    fresh s b = ap busy (get_or-replicate slot_count s no_slot no_slot b)

-- one call more
pub after_more : (σ : Scene) (f : Feed) (e : Event) → after σ (f ▹ e) ≡ world_of (call σ (after σ f) e)
unfolding after
after_more σ f e = left-more (fresh σ.store σ.ledger) (arrivals σ f) (arrival σ e)

pub invariant : (σ : Scene) → Lawful σ → (f : Feed) → Fair σ f → Inv σ f (after σ f)
invariant σ law start fair = start-inv σ law
invariant σ law (f ▹ e) fair = subst (Inv σ (f ▹ e)) (sym (after_more σ f e)) (arrival-fine σ law f fair.0 (after σ f) (invariant σ law f fair.0) e fair.1).inv
