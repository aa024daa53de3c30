-- L12, proved: its first fragment, then the run.
use Rattle.wire.proofs.Basics.{◌∙◌, sym, ◌≡◌, ap, refl, subst, ℕ, ◌≤◌, ◌+◌, ◌<◌, ◌*◌, List, true, false, Bool, ◌||◌, not, inl, inr, some, none, Option, length, set, eqb, eq-eqb, ne_eqb, eqb-true}
use Rattle.wire.proofs.Basics.{eqb-false, le_trans, ℕ_discrete, arith}
use native.Mathlib.Nat.{le_of_eq}
use Rattle.wire.specs.Same.{same}
use Rattle.wire.proofs.Choices.{either, never, and_l, and_r, and-of, or-of-right}
use Rattle.wire.proofs.Parts.{same_refl, same_true}
use Rattle.datagram.specs.Limits.{max_payload, max_fragments}
use Rattle.datagram.specs.Said.{Fragment, Said, refused, small, fragment, said}
use Rattle.datagram.proofs.Saids.{Formed, fragment-formed}
use Rattle.steps.specs.declared.Key.{Key}
use Rattle.steps.specs.Limits.{slot_count, ledger_length, slot_size_of}
use Rattle.steps.specs.Search.{all_below, one}
use Rattle.steps.specs.Memory.{key_of, is_remembered_lem}
use Rattle.steps.specs.Slots.{Slot, busy, find_open_lem, opening, seat}
use Rattle.steps.specs.Receive.{Machine, After, stay, step5, begin_at, receive, sound, sequence_of}
use Rattle.steps.specs.Runs.{World, world_of, Arrival, key_in, call}
use Rattle.steps.specs.Reach.{found, is_accepted}
use Rattle.steps.proofs.RunComputed.{step5-ledger}
use Rattle.steps.proofs.Tables.{not-true, not-false, and_no, all-at, all_of, all_none, all_cong}
use Rattle.steps.proofs.Seats.{set_there, set_here}
use Rattle.steps.proofs.Stores.{part-fits}
use Rattle.steps.proofs.Branches.{step-unsound, step-sound, receive-refused, fragment-again, fragment-begin}
use Rattle.steps.proofs.Ranks.{Sat}
use Rattle.steps.proofs.Reaches.{Good, Tidy, reached-good, seat-sat, begun-tidy, begun-busy, step-good}
use Rattle.arrival.specs.Demand.{Message, key, parts, datagram, handed}
use Rattle.arrival.specs.Strangers.{Start, part, Begins, Event, comes, forgets, Feed, begun, ◌▹◌, after, is_part, is_own, accepts_foreign, no_foreign, opens_other, openings, come, complete, not_forgotten, Supposed, its, hands_over, Strangers}
use Rattle.arrival.proofs.Within.{fragment-within, small-within}
use Rattle.arrival.proofs.Pieces.{fragment_said, piece, Cut, cut-within}
use Rattle.arrival.proofs.Joining.{Holds, holds_move, holds-open}
use Rattle.arrival.proofs.Newer.{newest}
use Rattle.arrival.proofs.Beside.{Mine}
use Rattle.arrival.proofs.Watched.{Watched, step5-store, own-kept, own-delivered, stranger, own-step, own-last, forgotten-beside}

-- ---- what follows from its first fragment's being accepted

module _ (σ : Start) (b : Begins σ) where
  abbrev m : Message
  m = σ.message

  abbrev w : World
  w = σ.world

  abbrev mach : Machine
  mach = w.machine

  abbrev n : ℕ
  n = b.opened-over

  abbrev C : ℕ
  C = slot_size_of n

  abbrev k₀ : ℕ
  k₀ = σ.first

  abbrev out₀ : After
  out₀ = call w (part m k₀)

  good : Good n mach
  good = reached-good n mach b.reached

  not_so : (a : After) → out₀ ≡ a → is_accepted a.answer ≡ false → ⊥
  not_so a e q = never b.accepted (ap (λ (x : After). is_accepted x.answer) e ∙ q)

  -- store and ledger fit
  is-sound : sound mach (length w.store) (length w.ledger) ≡ true
  unfolding stay
  is-sound = elim (either (sound mach (length w.store) (length w.ledger))) [
    | inl e ↦ e
    | inr e ↦ absurd (not_so _ (step-unsound mach w.store w.ledger m.sender (datagram m k₀) e) refl)
  ]

  store-fits : length w.store ≡ n
  unfolding sound
  store-fits = eqb-true (length w.store) mach.store_length (and_l (eqb (length w.store) mach.store_length) _ is-sound) ∙ good.long

  ledger-fits : length w.ledger ≡ ledger_length
  unfolding sound
  ledger-fits = eqb-true (length w.ledger) ledger_length
      (and_l (eqb (length w.ledger) ledger_length) _ (and_r (eqb (length w.store) mach.store_length) _ is-sound))

  to-receive : out₀ ≡ receive mach w.store w.ledger m.sender (said C max_fragments (datagram m k₀))
  to-receive = step-sound mach w.store w.ledger m.sender (datagram m k₀) is-sound
      ∙ ap (λ (c : ℕ). receive mach w.store w.ledger m.sender (said c max_fragments (datagram m k₀))) good.sized

  in_limit : C ≤ max_payload
  in_limit = omega arith

  -- it is no larger than a slot
  pub fits : b.lawful.cut.size ≤ C
  unfolding stay
  fits = go (said C max_fragments (datagram m k₀)) refl
    where
      law : said max_payload max_fragments (datagram m k₀) ≡ fragment (b.lawful.cut.piece k₀)
      law = b.lawful.cut.good k₀ b.its_own

      go : (r : Said) → said C max_fragments (datagram m k₀) ≡ r → b.lawful.cut.size ≤ C
      go (refused c) e = absurd (not_so _ (to-receive ∙ ap (receive mach w.store w.ledger m.sender) e ∙ receive-refused mach w.store w.ledger m.sender c) refl)
      go (small q name payload) e =
          let z : ◌≡◌ {A = ℕ} 0 1 = cc (sym law ∙ small-within max_payload C max_fragments (datagram m k₀) q name payload e) in
          absurd (let y : ⊥ = omega arith in y)
      go (fragment f) e =
          let form : Formed C max_fragments f = fragment-formed C max_fragments (datagram m k₀) f e in
          let same : fragment f ≡ fragment (b.lawful.cut.piece k₀) = sym (fragment-within max_payload C max_fragments (datagram m k₀) f e (le_trans form.fits in_limit)) ∙ law in
          let piece_is : f ≡ b.lawful.cut.piece k₀ = cc in
          subst (λ (x : ℕ). x ≤ C) (ap (λ (x : Fragment). x.size) piece_is ∙ b.lawful.cut.sizes k₀ b.its_own) form.fits

  pub cut : Cut C m
  cut = cut-within C m b.lawful fits

  abbrev f₀ : Fragment
  f₀ = piece C m k₀

  its-key : key_of m.sender f₀.sequence ≡ key m
  its-key = ap (key_of m.sender) (cut.its-sequence k₀ b.its_own)

  to-fragment : out₀ ≡ receive mach w.store w.ledger m.sender (fragment f₀)
  to-fragment = to-receive ∙ ap (receive mach w.store w.ledger m.sender) (cut.reads k₀ b.its_own)

  -- its key is not remembered
  pub not-remembered : is_remembered_lem mach.memory (key m) ≡ false
  unfolding stay
  not-remembered = elim (either (is_remembered_lem mach.memory (key m))) [
    | inl e ↦ absurd (not_so _ (to-fragment ∙ fragment-again mach w.store w.ledger m.sender f₀ (ap (is_remembered_lem mach.memory) its-key ∙ e)) refl)
    | inr e ↦ e
  ]

  closed : find_open_lem mach.slots (key m) ≡ none
  closed = go (find_open_lem mach.slots (key m)) refl
    where
      go : (o : Option ℕ) → find_open_lem mach.slots (key m) ≡ o → find_open_lem mach.slots (key m) ≡ none
      go none e = e
      go (some s) e = never (ap found e) b.not-open

  -- ---- the slot that it opens

  abbrev rest : List Slot
  rest = (seat mach.slots).slots

  abbrev at : ℕ
  at = (seat mach.slots).at

  abbrev slots₁ : List Slot
  slots₁ = set rest at (opening rest (key m) f₀)

  form₀ : Formed C max_fragments f₀
  form₀ = cut.formed k₀ b.its_own

  seat-is : Sat mach.slots (seat mach.slots)
  seat-is = seat-sat n mach good

  tidy₁ : Tidy C slots₁ mach.memory
  tidy₁ = begun-tidy n mach good w.store w.ledger (key m) f₀ form₀ not-remembered closed

  to-begin : out₀ ≡ step5 mach slots₁ w.store w.ledger (seat mach.slots).emptied at f₀
  to-begin = to-fragment
      ∙ fragment-begin mach w.store w.ledger m.sender f₀ (ap (is_remembered_lem mach.memory) its-key ∙ not-remembered) (ap (find_open_lem mach.slots) its-key ∙ closed)
      ∙ ap (λ (x : Key). begin_at mach w.store w.ledger x f₀ (seat mach.slots)) its-key

  nothing : ℕ → Bool
  nothing j = false

  mine₁ : Mine C m nothing 0 at slots₁ w.store w.ledger
  unfolding opening nothing
  mine₁ = record {
    inside = seat-is.inside;
    holds = subst (λ (x : Slot). Holds C m at nothing x w.store w.ledger) (sym (set_here rest at (opening rest (key m) f₀) seat-is.shrunk.eight seat-is.inside))
        (holds-open cut at nothing rest k₀ b.its_own w.store w.ledger (λ j c. refl));
    few-newer = le_of_eq (newest rest seat-is.shrunk.eight seat-is.shrunk.ranks at seat-is.inside seat-is.is_free_lem (opening rest (key m) f₀)
        (sym (ap busy (set_there rest at (opening rest (key m) f₀) seat-is.shrunk.eight seat-is.inside))
        ∙ begun-busy n mach good w.store w.ledger (key m) f₀ form₀ not-remembered closed) refl);
  }

  room : (t : ℕ) → t < slot_count → t * C + C ≤ length w.store
  room t i = part-fits t (length w.store) C i (ap slot_size_of (sym store-fits))

  -- ---- which fragment it is

  is-part : (k j : ℕ) → k < parts m → j < parts m → is_part m (part m k) j ≡ eqb k j
  is-part k j p q = elim (ℕ_discrete k j) [
    | yes e ↦ and-of (eqb m.sender m.sender) (same (datagram m k) (datagram m j)) (eq-eqb m.sender m.sender refl)
        (subst (λ (i : ℕ). same (datagram m k) (datagram m i) ≡ true) e (same_refl (datagram m k))) ∙ sym (eq-eqb k j e)
    | no e ↦ elim (either (same (datagram m k) (datagram m j))) [
      | inl d ↦
          let one_piece : piece C m k ≡ piece C m j = ap (λ (x : List ℕ). fragment_said (said C max_fragments x)) (same_true (datagram m k) (datagram m j) d) in
          absurd (e (sym (cut.its-number k p) ∙ ap (λ (x : Fragment). x.number) one_piece ∙ cut.its-number j q))
      | inr d ↦ and_no (eqb m.sender m.sender) d ∙ sym (ne_eqb k j e)
    ]
  ]

  its-part : (x : Arrival) (k : ℕ) → is_part m x k ≡ true → x ≡ part m k
  its-part x k e =
      let p : x.sender ≡ m.sender = eqb-true x.sender m.sender (and_l (eqb x.sender m.sender) (same x.datagram (datagram m k)) e) in
      let q : x.datagram ≡ datagram m k = same_true x.datagram (datagram m k) (and_r (eqb x.sender m.sender) (same x.datagram (datagram m k)) e) in
      λ i. record { sender = p i; datagram = q i }

  -- other tests for what has come, the same below its number of fragments
  recount : {o : ℕ} {v : World} (g h : ℕ → Bool) → ((j : ℕ) → j < parts m → h j ≡ g j) → Watched n m g o v → Watched n m h o v
  recount {v = v} g h e x = record {
    good = x.good;
    store_length_lem = x.store_length_lem;
    ledger-length = x.ledger-length;
    unknown = x.unknown;
    s = x.s;
    mine = record {
      inside = x.mine.inside;
      holds = holds_move h v.store v.ledger x.mine.holds e (λ y c. refl) (λ j c. refl) (λ j c. refl);
      few-newer = x.mine.few-newer;
    };
  }

  -- ---- its first fragment

  first_plus : (j : ℕ) → j < parts m → come σ begun j ≡ (eqb k₀ j || nothing j)
  unfolding nothing
  first_plus j q = is-part k₀ j b.its_own q ∙ or-none' (eqb k₀ j)
    where
      or-none' : (t : Bool) → t ≡ (t || false)
      or-none' true = refl
      or-none' false = refl

  watched-first : complete σ begun ≡ false → Watched n m (come σ begun) 0 (after σ begun)
  unfolding complete after
  watched-first e = recount (λ j. eqb k₀ j || nothing j) (come σ begun) first_plus (subst (λ (a : After). Watched n m (λ j. eqb k₀ j || nothing j) 0 (world_of a)) (sym to-begin)
      (let p = own-kept mach C good.sized slots₁ tidy₁.eight w.store w.ledger room ledger-fits (seat mach.slots).emptied mine₁ k₀ b.its_own (λ j. eqb k₀ j || nothing j) (λ j. refl)
      (sym (all_cong (parts m) (come σ begun) (λ j. eqb k₀ j || nothing j) first_plus) ∙ e) in
      record {
        good = subst (λ (a : After). Good n a.machine) to-begin (step-good n mach good w.store w.ledger m.sender (datagram m k₀));
        store_length_lem = step5-store mach slots₁ w.store w.ledger (seat mach.slots).emptied at f₀ ∙ store-fits;
        ledger-length = step5-ledger mach slots₁ w.store w.ledger (seat mach.slots).emptied at f₀ ∙ ledger-fits;
        unknown = p.0 ∙ not-remembered;
        s = at;
        mine = p.1;
      }))

  key-read : key_in mach.slot_size_lem (part m k₀) ≡ key m
  key-read = ap (λ (c : ℕ). key_in c (part m k₀)) good.sized ∙ ap (λ (r : Said). key_of m.sender (sequence_of r)) (cut.reads k₀ b.its_own) ∙ its-key

  at_once : complete σ begun ≡ true → hands_over w (part m k₀) ≡ some (its m)
  unfolding complete
  at_once e =
      ap (λ (x : Key). handed x (datagram m k₀) out₀) key-read
      ∙ ap (handed (key m) (datagram m k₀)) to-begin
      ∙ own-delivered mach C good.sized slots₁ tidy₁.eight w.store w.ledger room ledger-fits (seat mach.slots).emptied mine₁ k₀ b.its_own (λ j. eqb k₀ j || nothing j) (λ j. refl)
      (datagram m k₀) (sym (all_cong (parts m) (come σ begun) (λ j. eqb k₀ j || nothing j) first_plus) ∙ e)

  -- ---- the run

  -- what is incomplete after an event was so before it
  still-missing : (f : Feed) (e : Event) → complete σ (f ▹ e) ≡ false → complete σ f ≡ false
  unfolding complete
  still-missing f e q = elim (either (all_below (parts m) (come σ f))) [
    | inl t ↦ never (all_of (parts m) (come σ (f ▹ e)) (λ j c. more-come f e j (all-at (parts m) (come σ f) t j c))) q
    | inr t ↦ t
  ]
    where
      more-come : (f : Feed) (e : Event) (j : ℕ) → come σ f j ≡ true → come σ (f ▹ e) j ≡ true
      more-come f (comes x) j t = or-of-right (is_part m x j) t
      more-come f (forgets from) j t = t

  -- an arrival that is one of its own is its fragment k
  own-part : (x : Arrival) → is_own m x ≡ true → (k : ℕ) × (k < parts m) × (x ≡ part m k)
  own-part x e =
      let r = all_none (parts m) (λ k. not (is_part m x k)) (not-true (all_below (parts m) (λ k. not (is_part m x k))) e) in
      (r.0, r.1, its-part x r.0 (not-false (is_part m x r.0) r.2))

  not-part : (x : Arrival) → is_own m x ≡ false → (j : ℕ) → j < parts m → is_part m x j ≡ false
  not-part x e j q = not-true (is_part m x j) (all-at (parts m) (λ k. not (is_part m x k)) (not-false (all_below (parts m) (λ k. not (is_part m x k))) e) j q)

  own_plus : (f : Feed) (k : ℕ) → k < parts m → (j : ℕ) → j < parts m → come σ (f ▹ comes (part m k)) j ≡ (eqb k j || come σ f j)
  own_plus f k p j q = ap (λ (t : Bool). t || come σ f j) (is-part k j p q)

  raise : {g : ℕ → Bool} {v : World} (o o' : ℕ) → o ≤ o' → Watched n m g o v → Watched n m g o' v
  raise o o' l x = record {
    good = x.good;
    store_length_lem = x.store_length_lem;
    ledger-length = x.ledger-length;
    unknown = x.unknown;
    s = x.s;
    mine = record { inside = x.mine.inside; holds = x.mine.holds; few-newer = le_trans x.mine.few-newer l };
  }

  -- one of its own comes, and another is missing
  own-comes : (f : Feed) → Watched n m (come σ f) (openings σ f) (after σ f) → (k : ℕ) → k < parts m → (x : Arrival) → x ≡ part m k → complete σ (f ▹ comes x) ≡ false
      → Watched n m (come σ (f ▹ comes x)) (one (opens_other m (after σ f) x) + openings σ f) (world_of (call (after σ f) x))
  unfolding complete
  own-comes f ih k p x q e =
      subst (λ (z : Arrival). complete σ (f ▹ comes z) ≡ false → Watched n m (come σ (f ▹ comes z)) (one (opens_other m (after σ f) z) + openings σ f) (world_of (call (after σ f) z))) (sym q)
      (λ t. recount (λ j. eqb k j || come σ f j) (come σ (f ▹ comes (part m k))) (own_plus f k p)
      (raise (openings σ f) _ (let l : openings σ f ≤ one (opens_other m (after σ f) (part m k)) + openings σ f = omega arith in l)
      (own-step n m (come σ f) (openings σ f) (after σ f) ih k p (sym (all_cong (parts m) (come σ (f ▹ comes (part m k))) (λ j. eqb k j || come σ f j) (own_plus f k p)) ∙ t)))) e

  watched : (f : Feed) → no_foreign σ f ≡ true → openings σ f < slot_count → not_forgotten σ f ≡ true → complete σ f ≡ false
      → Watched n m (come σ f) (openings σ f) (after σ f)
  unfolding after no_foreign openings
  watched begun a few c e = watched-first e
  watched (f ▹ comes x) a few c e =
      let ih : Watched n m (come σ f) (openings σ f) (after σ f) = watched f (and_r (not (accepts_foreign m (after σ f) x)) (no_foreign σ f) a) (omega arith) c (still-missing f (comes x) e) in
      elim (either (is_own m x)) [
        | inl y ↦ let p = own-part x y in own-comes f ih p.0 p.1 x p.2 e
        | inr y ↦
            recount (come σ f) (come σ (f ▹ comes x)) (λ j q. ap (λ (t : Bool). t || come σ f j) (not-part x y j q))
            (stranger n m (come σ f) (openings σ f) (after σ f) ih x y (not-true (accepts_foreign m (after σ f) x) (and_l (not (accepts_foreign m (after σ f) x)) (no_foreign σ f) a)) few)
      ]
  watched (f ▹ forgets from) a few c e =
      forgotten-beside n m (come σ f) (openings σ f) (after σ f)
      (watched f a few (and_r (not (eqb from m.sender)) (not_forgotten σ f) c) (still-missing f (forgets from) e))
      from (eqb-false from m.sender (not-true (eqb from m.sender) (and_l (not (eqb from m.sender)) (not_forgotten σ f) c)))

  -- its last missing fragment
  at_last : (f : Feed) (x : Arrival) → Supposed σ f → complete σ (f ▹ comes x) ≡ true → hands_over (after σ f) x ≡ some (its m)
  unfolding complete
  at_last f x s e = elim (either (is_own m x)) [
    | inl y ↦
        let p = own-part x y in
        subst (λ (z : Arrival). complete σ (f ▹ comes z) ≡ true → hands_over (after σ f) z ≡ some (its m)) (sym p.2)
        (λ t. own-last n m (come σ f) (openings σ f) (after σ f) here p.0 p.1 s.missing
        (sym (all_cong (parts m) (come σ (f ▹ comes (part m p.0))) (λ j. eqb p.0 j || come σ f j) (own_plus f p.0 p.1)) ∙ t)) e
    | inr y ↦ never (sym (all_cong (parts m) (come σ (f ▹ comes x)) (come σ f) (λ j q. ap (λ (t : Bool). t || come σ f j) (not-part x y j q))) ∙ e) s.missing
  ]
    where
      here : Watched n m (come σ f) (openings σ f) (after σ f)
      here = watched f s.no-foreign s.few-openings s.not-forgotten s.missing

-- A PROMISE WITH STRANGERS ABOUT
pub strangers : Strangers
strangers σ b = record { at_once = at_once σ b; at_last = at_last σ b }
