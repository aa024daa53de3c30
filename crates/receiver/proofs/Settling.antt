-- A verdict carried out is what the step list does, and a refusal alters nothing.
use Rattle.wire.proofs.Basics.{◌∙◌, sym, ◌≡◌, ap, refl, subst, ℕ, List, [], true, false, Bool, inl, inr, ◌⊎◌, length, get_or, set, arith}
use Rattle.wire.specs.Choice.{pick}
use Rattle.wire.proofs.Choices.{either}
use Rattle.wire.specs.Slices.{◌⇒◌}
use Rattle.datagram.specs.Limits.{max_fragments}
use Rattle.datagram.specs.Read.{read_datagram_lem, part_of}
use Rattle.datagram.specs.Said.{Fragment, says, said, fragment_in}
use Rattle.datagram.specs.Said as spoken
use Rattle.datagram.specs.declared.Header.{Header}
use Rattle.datagram.specs.Read.{Read}
use Rattle.datagram.specs.Read as read
use Rattle.refusals.specs.declared.Refusal.{Refusal}
use Rattle.steps.specs.declared.Answer.TheVariants as given
use Rattle.steps.specs.declared.PayloadAt.{PayloadAt}
use Rattle.steps.specs.declared.Emptied.{Emptied}
use Rattle.steps.specs.declared.Emptied.TheVariants.{Nobody}
use Rattle.steps.specs.Answers.{answer_told, reply, emptied_key}
use Rattle.steps.specs.Memory.{key_of}
use Rattle.steps.specs.Slots.{Slot, all_held_lem, filled, slot_at, seat, opening}
use Rattle.steps.specs.Runs.{heard, from}
use Rattle.steps.specs.Receive.{Answer, Refused, Kept, Delivered, Machine, After, with_slots, stay, Verdict, refuse, again, deliver, join, begin, decide, act, step5, receive, sequence_of, step}
use Rattle.steps.proofs.Branches.{step-unsound, step-sound, receive-refused, step5-delivered, step5-kept}
use Rattle.receiver_state.specs.View.{room_word, slots_of, view, shaped, ready}
use Rattle.receiver_state.proofs.StepListCases.{ready-after}
use Rattle.verdict.specs.Decided.{verdict_told, with_header, verdict_of, decided}
use Rattle.verdict.specs.Inside.{Possible}
use Rattle.verdict.specs.declared.Verdict as code
use Rattle.verdict.specs.declared.Verdict.TheVariants.{Refuse, Again, Deliver, Join, Begin}
use Rattle.verdict.proofs.Gates.{ready-shaped, ready-sound}
use Rattle.verdict.proofs.Decides.{said-back, possible, unready, decided-refused, decided-good}
use Rattle.receiver.specs.Lent.{Lent, lent}
use Rattle.receiver.specs.Calls.{received, Leaves, told, Receives}
use Rattle.receiver.specs.Inside.{stayed, SmallDone, Puts, Begins, enacted, settled, store_after, ledger_after, Storable, Able, Still, Plans, Settles}
use Rattle.receiver.specs.declared.Outcome.{Outcome}
use Rattle.receiver.specs.declared.Seat.{Seat}
use Rattle.receiver.specs.declared.Plan.{Plan}
use Rattle.receiver.specs.declared.Plan.TheVariants as plan

-- ---- step 5 refuses nothing

clash : (X : Type 0) (n : ℕ) (a : Answer) → a ≡ Refused n → (a ≡ Kept) ⊎ ((p : PayloadAt) × ((m : ℕ) × (a ≡ Delivered p m))) → X
clash X n a e (inl q) = let z : ◌≡◌ {A = ℕ} 0 1 = cc in absurd (let h : ⊥ = omega arith in h)
clash X n a e (inr q) = let y : a ≡ Delivered q.0 q.1.0 = q.1.1 in let z : ◌≡◌ {A = ℕ} 0 1 = cc in absurd (let h : ⊥ = omega arith in h)

step5-never : (X : Type 0) (m : Machine) (slots : List Slot) (store ledger : List ℕ) (gone : Emptied) (s : ℕ) (f : Fragment) (n : ℕ)
    → (step5 m slots store ledger gone s f).answer ≡ Refused n → X
step5-never X m slots store ledger gone s f n e = elim (either (all_held_lem (filled (slot_at slots s) f))) [
  | inl t ↦ clash X n _ e (inr (_, (_, ap (λ (a : After). a.answer) (step5-delivered m slots store ledger s f t gone))))
  | inr t ↦ clash X n _ e (inl (ap (λ (a : After). a.answer) (step5-kept m slots store ledger s f t gone)))
]

-- ---- each verdict as a plan

step5-same : (m : Machine) (slots slots' : List Slot) (store ledger : List ℕ) (gone : Emptied) (s : ℕ) (f : Fragment)
    → step5 (with_slots m slots m.memory) slots' store ledger gone s f ≡ step5 m slots' store ledger gone s f
unfolding step5
step5-same m slots slots' store ledger gone s f = refl

module _ (w n : List ℕ) (sender : ℕ) (v : code.Verdict) where
  by-verdict : (x : code.Verdict) (p : Plan) (w1 n1 : List ℕ) → v ≡ x → Plans w n sender x p w1 n1 → Plans w n sender v p w1 n1
  by-verdict x p w1 n1 e P = subst (λ (y : code.Verdict). Plans w n sender y p w1 n1) (sym e) P

  pub planned-refuse : (k : Refusal) → v ≡ Refuse k → Plans w n sender v (plan.Refuse k) w n
  planned-refuse k e = by-verdict (Refuse k) (plan.Refuse k) w n e (record { does = λ store ledger d. refl; able = λ d q. tt; room = refl; still = (refl, refl) })

  pub planned-again : v ≡ Again → Plans w n sender v plan.Again w n
  planned-again e = by-verdict Again plan.Again w n e (record { does = λ store ledger d. refl; able = λ d q. tt; room = refl; still = (refl, refl) })

  pub planned-deliver : (h : Header) → v ≡ Deliver h → Plans w n sender v (plan.Deliver h) w n
  planned-deliver h e = by-verdict (Deliver h) (plan.Deliver h) w n e (record { does = λ store ledger d. refl; able = λ d q. q; room = refl; still = tt })

  pub planned-join : (s : ℕ) (h : Header) → v ≡ Join s h → Plans w n sender v (plan.Hold h (record { at = s; emptied = Nobody })) w n
  planned-join s h e = by-verdict (Join s h) (plan.Hold h (record { at = s; emptied = Nobody })) w n e
      (record { does = λ store ledger d. refl; able = λ d q. q; room = refl; still = tt })

  pub planned-begin : (h : Header) (t : Seat) (w1 n1 : List ℕ) → v ≡ Begin h → Begins w n sender h t w1 n1 → Plans w n sender v (plan.Hold h t) w1 n1
  planned-begin h t w1 n1 e B = by-verdict (Begin h) (plan.Hold h t) w1 n1 e (record {
    does = does;
    able = λ d q. (ready-after w n w1 n1 _ (B.shows d) q.0, q.1, B.inside);
    room = ap (λ (m : Machine). m.slot_size_lem) (B.shows []).machine;
    still = tt;
  })
    where
      free : List Slot
      free = (seat (slots_of w n)).slots

      does : (store ledger d : List ℕ) → settled (view w1 n1) store ledger sender d (plan.Hold h t) ≡ enacted (view w n) store ledger sender d (verdict_told (Begin h))
      does store ledger d =
          let f : Fragment = fragment_in d h in
          let new : Slot = opening free (key_of sender h.sequence) f in
          ap (λ (m : Machine). step5 m m.slots store ledger t.emptied t.at f) (B.shows d).machine
          ∙ step5-same (view w n) _ _ store ledger t.emptied t.at f
          ∙ (λ i. step5 (view w n) (set free (B.place i) new) store ledger (B.emptied i) (B.place i) f)

-- ---- each plan carried out

module _ (w n : List ℕ) (sender : ℕ) (d : List ℕ) (p : Plan) where
  by-plan : (x : Plan) (o : Outcome) (w1 n1 : List ℕ) → p ≡ x → Settles w n sender x d o w1 n1 → Settles w n sender p d o w1 n1
  by-plan x o w1 n1 e S = subst (λ (y : Plan). Settles w n sender y d o w1 n1) (sym e) S

  pub settled-refuse : (k : Refusal) (o : Outcome) → p ≡ plan.Refuse k → o ≡ stayed (given.Refused k) → Settles w n sender p d o w n
  unfolding stay
  settled-refuse k o e eo = by-plan (plan.Refuse k) o w n e (subst (λ (x : Outcome). Settles w n sender (plan.Refuse k) d x w n) (sym eo) (record {
    leaves = λ store ledger. record { answer = refl; emptied = refl; name = refl; machine = refl; store = refl; ledger = refl };
    still = (refl, refl);
  }))

  pub settled-again : (o : Outcome) → p ≡ plan.Again → o ≡ stayed given.Repeat → Settles w n sender p d o w n
  unfolding stay
  settled-again o e eo = by-plan plan.Again o w n e (subst (λ (x : Outcome). Settles w n sender plan.Again d x w n) (sym eo) (record {
    leaves = λ store ledger. record { answer = refl; emptied = refl; name = refl; machine = refl; store = refl; ledger = refl };
    still = (refl, refl);
  }))

  pub settled-deliver : (h : Header) (o : Outcome) (w1 : List ℕ) → p ≡ plan.Deliver h → SmallDone w sender d h o w1 → Settles w n sender p d o w1 n
  settled-deliver h o w1 e S = by-plan (plan.Deliver h) o w1 n e (record {
    leaves = λ store ledger. record {
      answer = ap (λ (x : Outcome). answer_told x.answer) S.outcome;
      emptied = ap (λ (x : Outcome). x.emptied) S.outcome;
      name = ap (λ (x : Outcome). x.name) S.outcome;
      machine = S.remembers.machine n;
      store = refl;
      ledger = refl;
    };
    still = tt;
  })

  pub settled-hold : (t : Seat) (h : Header) (o : Outcome) (w1 n1 : List ℕ) → p ≡ plan.Hold h t → Puts (w ⇒ w1) (n ⇒ n1) t.at t.emptied h d o
      → Settles w n sender p d o w1 n1
  settled-hold t h o w1 n1 e P = by-plan (plan.Hold h t) o w1 n1 e (record { leaves = P; still = tt })

-- what is known of a plan is enough to store its fragment
able_storable : (w n d : List ℕ) (p : Plan) → Able w n d p → Storable (get_or w room_word 0) d p
able_storable w n d (plan.Refuse k) a = tt
able_storable w n d plan.Again a = tt
able_storable w n d (plan.Deliver h) a = tt
able_storable w n d (plan.Hold h t) a = (a.2, a.0.room, a.1)

-- ---- the whole call

-- what is answered and left, in the values of document 01
pub told_is : (sender : ℕ) (d : List ℕ) (a : After) (r : Outcome) (l : Lent) → Leaves a r l → told d l.store r ≡ heard (from sender d) a
told_is sender d a r l L = λ i. record { answer = reply d (L.store i) (L.answer i); emptied = emptied_key (L.emptied i) }

enact-is : (m : Machine) (store ledger : List ℕ) (sender : ℕ) (d : List ℕ) (h : Header) (v : Verdict)
    → act m store ledger (key_of sender h.sequence) (verdict_of d (with_header h v)) ≡ enacted m store ledger sender d (with_header h v)
unfolding act
enact-is m store ledger sender d h (refuse k) = refl
enact-is m store ledger sender d h again = refl
enact-is m store ledger sender d h (deliver nm k) = refl
enact-is m store ledger sender d h (join s f) = refl
enact-is m store ledger sender d h (begin f) = refl

its-sequence : (d : List ℕ) (h : Header) → sequence_of (says d (read.Good h)) ≡ h.sequence
its-sequence d h = go h.small
  where
    go : (b : Bool) → sequence_of (pick b (spoken.small h.sequence (part_of d h.name) (part_of d h.payload)) (spoken.fragment (fragment_in d h))) ≡ h.sequence
    go true = refl
    go false = refl

module _ (w n store ledger : List ℕ) (sender : ℕ) (d : List ℕ) where
  not-ready : ready w n (length store) (length ledger) ≡ false → received (lent w n store ledger) sender d ≡ stay (view w n) store ledger (Refused 9)
  unfolding received
  not-ready e = go (shaped w n) refl
    where
      go : (t : Bool) → shaped w n ≡ t → pick t (step (view w n) store ledger sender d) (stay (view w n) store ledger (Refused 9)) ≡ stay (view w n) store ledger (Refused 9)
      go true s = step-unsound (view w n) store ledger sender d (rw s at e)
      go false s = refl

  is-ready : ready w n (length store) (length ledger) ≡ true
      → received (lent w n store ledger) sender d ≡ receive (view w n) store ledger sender (says d (read_datagram_lem (get_or w room_word 0) max_fragments d))
  unfolding received said
  is-ready e = rw (ready-shaped w n (length store) (length ledger) e) (step-sound (view w n) store ledger sender d (ready-sound w n (length store) (length ledger) e))

  by-header : (h : Header) → receive (view w n) store ledger sender (says d (read.Good h))
      ≡ enacted (view w n) store ledger sender d (with_header h (decide (view w n) store ledger sender (says d (read.Good h))))
  unfolding receive
  by-header h =
      (λ i. act (view w n) store ledger (key_of sender (its-sequence d h i)) (sym (said-back (view w n) store ledger sender d h) i))
      ∙ enact-is (view w n) store ledger sender d h (decide (view w n) store ledger sender (says d (read.Good h)))

  pub received_is : received (lent w n store ledger) sender d ≡ enacted (view w n) store ledger sender d (decided w n store ledger sender d)
  received_is = elim (either (ready w n (length store) (length ledger))) [
    | inr e ↦ not-ready e ∙ ap (enacted (view w n) store ledger sender d) (sym (unready w n store ledger sender d e))
    | inl e ↦ is-ready e ∙ by_read_lem e (read_datagram_lem (get_or w room_word 0) max_fragments d) refl
  ]
    where
      by_read_lem : ready w n (length store) (length ledger) ≡ true → (x : Read) → read_datagram_lem (get_or w room_word 0) max_fragments d ≡ x
          → receive (view w n) store ledger sender (says d (read_datagram_lem (get_or w room_word 0) max_fragments d))
          ≡ enacted (view w n) store ledger sender d (decided w n store ledger sender d)
      by_read_lem e (read.Refused k) r =
          ap (λ (x : Read). receive (view w n) store ledger sender (says d x)) r ∙ receive-refused (view w n) store ledger sender k
          ∙ ap (enacted (view w n) store ledger sender d) (sym (decided-refused w n store ledger sender d e k r))
      by_read_lem e (read.Good h) r =
          ap (λ (x : Read). receive (view w n) store ledger sender (says d x)) r ∙ by-header h
          ∙ ap (enacted (view w n) store ledger sender d) (sym (decided-good w n store ledger sender d e h r))

  pub verdict-possible : (v : code.Verdict) → verdict_told v ≡ decided w n store ledger sender d → Possible w n d (verdict_told v)
  verdict-possible v ev = subst (Possible w n d) (sym ev) (possible w n store ledger sender d)

  pub plan-able : (v : code.Verdict) (p : Plan) (w1 n1 : List ℕ) → verdict_told v ≡ decided w n store ledger sender d → Plans w n sender v p w1 n1 → Able w1 n1 d p
  plan-able v p w1 n1 ev P = P.able d (verdict-possible v ev)

  pub plan_storable : (room : ℕ) (v : code.Verdict) (p : Plan) (w1 n1 : List ℕ) → room ≡ get_or w room_word 0 → verdict_told v ≡ decided w n store ledger sender d
      → Plans w n sender v p w1 n1 → Storable room d p
  plan_storable room v p w1 n1 ec ev P = subst (λ (C : ℕ). Storable C d p) (P.room ∙ sym ec) (able_storable w1 n1 d p (plan-able v p w1 n1 ev P))

  -- a refusal leaves everything as it is
  quiet : (p : Plan) (m : Machine) (C k : ℕ) (w1 n1 w2 n2 store1 ledger1 : List ℕ) → Still p w n w1 n1 → Still p w1 n1 w2 n2
      → store1 ≡ store_after C d store p → ledger1 ≡ ledger_after d ledger p → (settled m store ledger sender d p).answer ≡ Refused k
      → lent w2 n2 store1 ledger1 ≡ lent w n store ledger
  quiet (plan.Refuse j) m C k w1 n1 w2 n2 store1 ledger1 s t es el q = λ i. lent ((t.0 ∙ s.0) i) ((t.1 ∙ s.1) i) (es i) (el i)
  quiet plan.Again m C k w1 n1 w2 n2 store1 ledger1 s t es el q = λ i. lent ((t.0 ∙ s.0) i) ((t.1 ∙ s.1) i) (es i) (el i)
  quiet (plan.Deliver h) m C k w1 n1 w2 n2 store1 ledger1 s t es el q = clash _ k _ q (inr (_, (_, refl)))
  quiet (plan.Hold h t) m C k w1 n1 w2 n2 store1 ledger1 s u es el q = step5-never _ m m.slots store ledger t.emptied t.at (fragment_in d h) k q

  pub receives : (room : ℕ) (v : code.Verdict) (p : Plan) (o : Outcome) (w1 n1 w2 n2 store1 ledger1 : List ℕ) → room ≡ get_or w room_word 0
      → verdict_told v ≡ decided w n store ledger sender d → Plans w n sender v p w1 n1 → Settles w1 n1 sender p d o w2 n2
      → store1 ≡ store_after room d store p → ledger1 ≡ ledger_after d ledger p
      → length w2 ≡ length w → length n2 ≡ length n → Receives (lent w n store ledger) sender d o (lent w2 n2 store1 ledger1)
  receives room v p o w1 n1 w2 n2 store1 ledger1 ec ev P S es el lw ln =
      let L = S.leaves store ledger in
      let a : settled (view w1 n1) store ledger sender d p ≡ received (lent w n store ledger) sender d =
      P.does store ledger d ∙ ap (enacted (view w n) store ledger sender d) ev ∙ sym received_is in
      let st : store1 ≡ store_after (get_or w1 room_word 0) d store p = es ∙ ap (λ (C : ℕ). store_after C d store p) (ec ∙ sym P.room) in
      let all : Leaves (received (lent w n store ledger) sender d) o (lent w2 n2 store1 ledger1) = subst (λ (x : After). Leaves x o (lent w2 n2 store1 ledger1)) a
      (record { answer = L.answer; emptied = L.emptied; name = L.name; machine = L.machine; store = st ∙ L.store; ledger = el ∙ L.ledger }) in
      record {
        leaves = all;
        tells = told_is sender d _ o (lent w2 n2 store1 ledger1) all;
        words = lw;
        bytes = ln;
        still = λ k q. quiet p (view w1 n1) room k w1 n1 w2 n2 store1 ledger1 P.still S.still es el (sym L.answer ∙ q);
      }
