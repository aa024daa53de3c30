-- WHATEVER STORE AND LEDGER HELD at the opening: a call reads of them only what was stored since. So what is answered and delivered depends on how long they are, and on nothing else of them.
use Rattle.wire.proofs.Basics.{◌∙◌, sym, ◌≡◌, ap, refl, subst, ℕ, ◌<◌, min, List, true, false, Bool, ◌||◌, not, some, none, Option, length, set, length-replicate, get_or-replicate, eqb, eqb-true, arith}
use Rattle.wire.specs.Choice.{pick}
use Rattle.wire.proofs.Choices.{and_l, and_r}
use Rattle.datagram.specs.Limits.{max_fragments}
use Rattle.datagram.specs.Read.{read_datagram_lem}
use Rattle.datagram.specs.Said.{fragment, Fragment, Said, refused, small, says, said}
use Rattle.datagram.specs.Read.{Read}
use Rattle.datagram.specs.Read as read
use Rattle.datagram.proofs.Larger.{larger}
use Rattle.datagram.proofs.Saids.{Formed, fragment-formed}
use Rattle.steps.specs.Limits.{slot_count, ledger_length, slot_size_of}
use Rattle.steps.specs.Held.{is_held}
use Rattle.steps.specs.Memory.{Key, key_of, is_remembered_lem}
use Rattle.steps.specs.Slots.{Slot, no_slot, slot_at, find_open_lem, oldest, release, Seat, seat, opening, filled, all_held_lem, Emptied, Nobody}
use Rattle.steps.specs.Receive.{Machine, After, Refused, opened, stay, Verdict, refuse, again, deliver, join, begin, same_message, same_fragment_lem, agrees, agrees_with_all, step2, step3, step3or4, decide, step5, begin_at, act, sequence_of, receive, sound, step_within}
use Rattle.steps.specs.Answers.{delivered, reply}
use Rattle.steps.specs.Promises.{OfMessage}
use Rattle.steps.proofs.Tables.{or_yes, all_of}
use Rattle.steps.proofs.Helds.{none-held}
use Rattle.steps.proofs.Seats.{unturned, set-changed, free, open-found, set_there, release_length, Seated, full, seated}
use Rattle.steps.proofs.Ranks.{oldest-inside}
use Rattle.steps.proofs.Copies.{message-of}
use Rattle.steps.proofs.Twins.{Two, two, Alike, AllAlike, free-alike, open-alike, set-alike, release-alike, Lengths, Twin, same-fragment, same-agrees, now, still-long, ledger-long, stored-alike, whole-bytes}

-- ---- what steps 1 to 4 decide

-- what holds of both sides holds of two choices by one test
pick-both {ℓ} : {X : Type ℓ} (P : X → X → Type 0) (b : Bool) {x y x' y' : X} → (b ≡ true → P x x') → (b ≡ false → P y y') → P (pick b x y) (pick b x' y')
pick-both P true f g = f refl
pick-both P false f g = g refl

module _ (m : Machine) (t : Two) (w : Twin m t) where
  abbrev Fits : Fragment → Type 0
  Fits f = Formed m.slot_size_lem max_fragments f

  -- both decide the same, and a fragment that joins has its place
  data Both : Verdict → Verdict → Type 0 where
    turned : (k : ℕ) → Both (refuse k) (refuse k)
    repeated : Both again again
    given : (name : List ℕ) (k : ℕ) → Both (deliver name k) (deliver name k)
    joins : (s : ℕ) (f : Fragment) → s < slot_count → Fits f → OfMessage (slot_at m.slots s) f → agrees_with_all t.ledger s (slot_at m.slots s) f ≡ true → Both (join s f) (join s f)
    opens : (f : Fragment) → Fits f → Both (begin f) (begin f)

  module _ (s : ℕ) (inside : s < slot_count) (f : Fragment) where
    abbrev at : Slot
    at = slot_at m.slots s

    both3 : Fits f → Both (step3 m.slot_size_lem t.store t.ledger s at f) (step3 m.slot_size_lem t.store' t.ledger' s at f)
    unfolding step3
    both3 form = pick-both Both (same_message at f) (λ x. pick-both Both (is_held at.held f.number)
        (λ h. subst (λ (b : Bool). Both (pick (same_fragment_lem m.slot_size_lem t.store t.ledger s at f) again (refuse 8)) (pick b again (refuse 8)))
        (same-fragment m t w s f ((w.all s inside).parts f.number (omega (arith, form.below, (message-of at f x).same_count)) h))
        (pick-both Both (same_fragment_lem m.slot_size_lem t.store t.ledger s at f) (λ y. repeated) (λ y. turned 8)))
        (λ h. subst (λ (b : Bool). Both (pick (agrees_with_all t.ledger s at f) (join s f) (refuse 8)) (pick b (join s f) (refuse 8))) (same-agrees m t w s f inside)
        (pick-both Both (agrees_with_all t.ledger s at f) (λ y. joins s f inside form (message-of at f x) y) (λ y. turned 8))))
        (λ x. turned 8)

  both : (sender : ℕ) (r : Said) → ((f : Fragment) → r ≡ fragment f → Fits f) → Both (decide m t.store t.ledger sender r) (decide m t.store' t.ledger' sender r)
  unfolding decide
  both sender (refused k) h = turned k
  both sender (small q name payload) h = pick-both Both (is_remembered_lem m.memory (key_of sender q)) (λ x. repeated) (λ x. by (find_open_lem m.slots (key_of sender q)))
    where
      by : (o : Option ℕ) → Both (step2 o name payload) (step2 o name payload)
      by none = given name (length payload)
      by (some s) = turned 8
  both sender (fragment f) h = pick-both Both (is_remembered_lem m.memory (key_of sender f.sequence)) (λ x. repeated) (λ x. by (find_open_lem m.slots (key_of sender f.sequence)) refl)
    where
      by : (o : Option ℕ) → find_open_lem m.slots (key_of sender f.sequence) ≡ o → Both (step3or4 m t.store t.ledger f o) (step3or4 m t.store' t.ledger' f o)
      by none e = opens f (h f refl)
      by (some s) e = both3 s (open-found m.slots w.eight (key_of sender f.sequence) s e).inside f (h f refl)

-- ---- what is then done

-- two calls answer the same, deliver the same bytes, and leave such a pair again
pub record Same (d : List ℕ) (a b : After) : Type 0 where
  pub machine : a.machine ≡ b.machine
  pub replies : reply d a.store a.answer ≡ reply d b.store b.answer
  pub twin : Twin a.machine (two a.store a.ledger b.store b.ledger)

module _ (m : Machine) (t : Two) (l : Lengths m.slot_size_lem t) (d : List ℕ) where
  stored_same : (slots : List Slot) (gone : Emptied) (s : ℕ) (f : Fragment) → length slots ≡ slot_count → s < slot_count → Formed m.slot_size_lem max_fragments f → AllAlike m.slot_size_lem t slots
      → OfMessage (slot_at slots s) f → agrees_with_all t.ledger s (slot_at slots s) f ≡ true → Same d (step5 m slots t.store t.ledger gone s f) (step5 m slots t.store' t.ledger' gone s f)
  unfolding step5 filled
  stored_same slots gone s f eight inside form all of ordered =
      let C : ℕ = m.slot_size_lem in
      let new : Slot = filled (slot_at slots s) f in
      let a : AllAlike C (now C t slots s f eight inside l form all of ordered) (set slots s new) = stored-alike C t slots s f eight inside l form all of ordered in
      let e : length (set slots s new) ≡ slot_count = (set-changed slots s new eight).eight in
      let p = still-long C t slots s f eight inside l form all of ordered in
      let q = ledger-long C t slots s f eight inside l form all of ordered in
      pick-both (Same d) (all_held_lem new)
      (λ whole. record {
        machine = refl;
        replies = ap delivered (whole-bytes C t slots s f eight inside l form all of ordered whole);
        twin = record { eight = release_length (set slots s new) s ∙ e; stores = p; ledgers = q; all = release-alike C _ (set slots s new) a s e inside };
      })
      (λ part. record { machine = refl; replies = refl; twin = record { eight = e; stores = p; ledgers = q; all = a } })

  module _ (w : Twin m t) (k : Key) where
    -- a slot that was just opened holds nothing that could be against the fragment
    begun-same : (f : Fragment) → Formed m.slot_size_lem max_fragments f → (x : Seat) → Seated m.slots x → Same d (begin_at m t.store t.ledger k f x) (begin_at m t.store' t.ledger' k f x)
    unfolding opening
    begun-same f form x at = by x at
      where
        opened-at : (slots : List Slot) → length slots ≡ slot_count → AllAlike m.slot_size_lem t slots → (s : ℕ) → s < slot_count → (gone : Emptied)
            → let new = set slots s (opening slots k f) in Same d (step5 m new t.store t.ledger gone s f) (step5 m new t.store' t.ledger' gone s f)
        opened-at slots eight all s inside gone =
            let e : opening slots k f ≡ slot_at (set slots s (opening slots k f)) s = sym (set_there slots s (opening slots k f) eight inside) in
            stored_same (set slots s (opening slots k f)) gone s f (set-changed slots s (opening slots k f) eight).eight inside form
            (set-alike m.slot_size_lem t slots all s eight inside (opening slots k f) (open-alike m.slot_size_lem t s slots k f form.few))
            (subst (λ (y : Slot). OfMessage y f) e (record { same_size = refl; same_count = refl }))
            (subst (λ (y : Slot). agrees_with_all t.ledger s y f ≡ true) e (all_of f.count (λ j. not (is_held (opening slots k f).held j) || agrees t.ledger s f j) (λ j b.
            or_yes (not (is_held (opening slots k f).held j)) (agrees t.ledger s f j) (ap not (none-held j)))))

        by : (x : Seat) → Seated m.slots x → Same d (begin_at m t.store t.ledger k f x) (begin_at m t.store' t.ledger' k f x)
        by _ (free s b q) = opened-at m.slots w.eight w.all s b Nobody
        by _ (full q) =
            let o : ℕ = oldest m.slots in
            let b : o < slot_count = oldest-inside m.slots w.eight in
            opened-at (release m.slots o) (release_length m.slots o ∙ w.eight) (release-alike m.slot_size_lem t m.slots w.all o w.eight b) o b _

    acts : (v v' : Verdict) → Both m t w v v' → Same d (act m t.store t.ledger k v) (act m t.store' t.ledger' k v')
    unfolding act stay
    acts _ _ (turned n) = record { machine = refl; replies = refl; twin = w }
    acts _ _ repeated = record { machine = refl; replies = refl; twin = w }
    acts _ _ (given name n) = record { machine = refl; replies = refl; twin = record { eight = w.eight; stores = w.stores; ledgers = w.ledgers; all = w.all } }
    acts _ _ (joins s f inside form of ordered) = stored_same m.slots Nobody s f w.eight inside form w.all of ordered
    acts _ _ (opens f form) = begun-same f form (seat m.slots) (seated m.slots w.eight)

-- ---- a call within further limits

-- a fragment that is read within them is read within the receiver's own
read-larger : (C payload fragments : ℕ) (d : List ℕ) (f : Fragment) → said (min C payload) (min max_fragments fragments) d ≡ fragment f → Formed C max_fragments f
unfolding said
read-larger C payload fragments d f e = go (read_datagram_lem (min C payload) (min max_fragments fragments) d) refl
  where
    go : (r : Read) → read_datagram_lem (min C payload) (min max_fragments fragments) d ≡ r → Formed C max_fragments f
    go (read.Good h) q = fragment-formed C max_fragments d f (ap (says d) (larger d (min C payload) (min max_fragments fragments) C max_fragments (omega arith) (omega arith) h q ∙ sym q) ∙ e)
    go (read.Refused n) q = let z : ◌≡◌ {A = ℕ} 0 1 = cc (sym (ap (says d) q) ∙ e) in absurd (let y : ⊥ = omega arith in y)

-- what refusal 9 looks at of them is how long they are
sound_lengths : (m : Machine) (t : Two) → Twin m t → sound m (length t.store) (length t.ledger) ≡ true → Lengths m.slot_size_lem t
unfolding sound
sound_lengths m t w e =
    let x = and_r (eqb (length t.store) m.store_length) _ e in
    let g : length t.ledger ≡ ledger_length = eqb-true (length t.ledger) ledger_length (and_l (eqb (length t.ledger) ledger_length) _ x) in
    record {
      stores = w.stores;
      sized = eqb-true m.slot_size_lem (slot_size_of (length t.store)) (and_l (eqb m.slot_size_lem (slot_size_of (length t.store))) _ (and_r (eqb (length t.ledger) ledger_length) _ x));
      ledgers = g;
      ledgers' = sym w.ledgers ∙ g;
    }

-- A CALL OVER EITHER: the same answer, the same bytes
pub within_same : (payload fragments : ℕ) (m : Machine) (t : Two) → Twin m t → (sender : ℕ) (d : List ℕ)
    → Same d (step_within payload fragments m t.store t.ledger sender d) (step_within payload fragments m t.store' t.ledger' sender d)
unfolding step_within receive stay
within_same payload fragments m t w sender d =
    let r : Said = said (min m.slot_size_lem payload) (min max_fragments fragments) d in
    subst (λ (b : Bool). Same d (step_within payload fragments m t.store t.ledger sender d) (pick b (receive m t.store' t.ledger' sender r) (stay m t.store' t.ledger' (Refused 9))))
    (λ i. sound m (w.stores i) (w.ledgers i))
    (pick-both (Same d) (sound m (length t.store) (length t.ledger))
    (λ e. acts m t (sound_lengths m t w e) d w (key_of sender (sequence_of r)) _ _ (both m t w sender r (λ f q. read-larger m.slot_size_lem payload fragments d f q)))
    (λ e. record { machine = refl; replies = refl; twin = w }))

-- A FRESH RECEIVER has stored nothing
pub fresh-twin : (t : Two) → length t.store ≡ length t.store' → length t.ledger ≡ length t.ledger' → Twin (opened (length t.store)) t
unfolding opened
fresh-twin t p q = record {
  eight = length-replicate slot_count no_slot;
  stores = p;
  ledgers = q;
  all = λ s b. subst (λ (x : Slot). Alike (slot_size_of (length t.store)) t s (unturned x)) (sym (get_or-replicate slot_count s no_slot no_slot b)) (free-alike (slot_size_of (length t.store)) t s);
}
