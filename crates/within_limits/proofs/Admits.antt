-- Calls within a log's limits beside calls without: where the limits admit what the receiver accepts, both leave the same, or both refuse. Assumes nothing.
use Rattle.wire.proofs.Basics.{◌∙◌, sym, ◌≡◌, ap, refl, subst, ℕ, ◌≤◌, ◌+◌, min, List, true, false, Bool, ◌||◌, inl, inr, ◌⊎◌, length, drop, eqb, ltb, leb, le-ltb, ltb-false, arith}
use Rattle.wire.specs.Choice.{pick}
use Rattle.wire.proofs.Choices.{either, or_l, or_r, pick_all}
use Rattle.datagram.specs.Limits.{max_fragments, max_datagram}
use Rattle.datagram.specs.Name.{name_length_lem}
use Rattle.datagram.specs.Read.{magic_in, small_magic, fragment_magic, size_in, number_in, count_in, place, part_of, good_form, fragment_header, formed, zero_to, read_small_lem, read_fragment_lem, read_datagram_lem}
use Rattle.datagram.specs.Said.{Fragment, Said, refused, small, fragment, fragment_in, says, said}
use Rattle.std.proofs.Common.{Option as Maybe, Some, None}
use Rattle.datagram.specs.declared.Place.{Place}
use Rattle.datagram.specs.declared.Header.{Header}
use Rattle.datagram.specs.Read.{Read}
use Rattle.datagram.specs.Read.{Good, Refused}
use Rattle.datagram.proofs.Larger.{passed}
use Rattle.steps.specs.Receive as answer
use Rattle.steps.specs.Receive.{Machine, After, stay, sound, decide, act, receive, step}
use Rattle.steps.proofs.Branches.{step-unsound}
use Rattle.steps.proofs.Numbers.{said-number, refusal-number}
use Rattle.flight_log.specs.declared.reader.Limits.{Limits}
use Rattle.within_limits.specs.Within.{read_within_lem, step_within}
use Rattle.within_limits.proofs.Readers.{within-good}
use Rattle.within_limits.proofs.Withins.{step-good, step-nine, step-refused}

clash : {X : Type 0} {k : ℕ} {h : Header} → Refused k ≡ Good h → X
clash e = absurd (let z : ◌≡◌ {A = ℕ} 0 1 = cc in let y : ⊥ = omega arith in y)

-- ---- the reader

module _ (d : List ℕ) where
  -- a header that is read as a fragment's has the P and the n that the datagram names
  abbrev OfFragment : Read → Type 0
  OfFragment r = (h : Header) → r ≡ Good h → (h.small ≡ false) × (h.size ≡ size_in d) × (h.count ≡ count_in d)

  formed-names : (name : Place) (at : ℕ) → OfFragment (formed d name at)
  unfolding formed
  formed-names name at = pick_all OfFragment (good_form (fragment_header d name at))
      (λ e h q.
      let z : fragment_header d name at ≡ h = cc in
      (sym (ap (λ (x : Header). x.small) z), sym (ap (λ (x : Header). x.size) z), sym (ap (λ (x : Header). x.count) z)))
      (λ e h q. clash q)

  zero-names : (r : Maybe ℕ) → OfFragment (zero_to d r)
  zero-names None h q = clash q
  zero-names (Some c) h q = formed-names (place 20 c) (21 + c) h q

  body-names : OfFragment (pick (eqb (number_in d) 0) (zero_to d (name_length_lem (drop 20 d))) (formed d (place 20 0) 20))
  body-names = pick_all OfFragment (eqb (number_in d) 0) (λ e. zero-names (name_length_lem (drop 20 d))) (λ e. formed-names (place 20 0) 20)

  -- within p and n, if it is a fragment's
  abbrev Bounds : ℕ → ℕ → Header → Type 0
  Bounds p n h = h.small ≡ false → (h.size ≤ p) × (h.count ≤ n)

  module _ (C N p n : ℕ) (h : Header) (w : Bounds p n h) where
    fragment-smaller : read_fragment_lem C N d ≡ Good h → read_fragment_lem (min C p) (min N n) d ≡ Good h
    unfolding read_fragment_lem
    fragment-smaller e =
        let c = count_in d in
        let k = number_in d in
        let five = passed (eqb c 0 || (ltb N c || leb c k)) 5 _ h e in
        let six = passed (ltb C (size_in d)) 6 _ h five.1 in
        let some = or_l (eqb c 0) (ltb N c || leb c k) five.0 in
        let rest = or_r (eqb c 0) (ltb N c || leb c k) five.0 in
        let its = body-names h six.1 in
        let by = w its.0 in
        let size : h.size ≡ size_in d = its.1 in
        let count : h.count ≡ c = its.2 in
        let few : c ≤ min N n = omega (arith, ltb-false N c (or_l (ltb N c) (leb c k) rest), by.1, count) in
        let short : size_in d ≤ min C p = omega (arith, ltb-false C (size_in d) six.0, by.0, size) in
        rw (some, le-ltb (min N n) c few, or_r (ltb N c) (leb c k) rest, le-ltb (min C p) (size_in d) short) six.1

    smaller : read_datagram_lem C N d ≡ Good h → read_datagram_lem (min C p) (min N n) d ≡ Good h
    unfolding read_datagram_lem
    smaller = go (ltb max_datagram (length d)) (ltb (length d) 8) (eqb (magic_in d) small_magic) (eqb (magic_in d) fragment_magic) (ltb (length d) 20)
      where
        go : (a b c f g : Bool)
            → pick a (Refused 3) (pick b (Refused 1) (pick c (read_small_lem d) (pick f (pick g (Refused 1) (read_fragment_lem C N d)) (Refused 2)))) ≡ Good h
            → pick a (Refused 3) (pick b (Refused 1) (pick c (read_small_lem d) (pick f (pick g (Refused 1) (read_fragment_lem (min C p) (min N n) d)) (Refused 2)))) ≡ Good h
        go true b c f g e = e
        go false true c f g e = e
        go false false true f g e = e
        go false false false false g e = e
        go false false false true true e = e
        go false false false true false e = fragment-smaller e

-- ---- what a log's limits admit

-- whatever the receiver accepts of it, they let through: so of all that it refuses
abbrev pub Admitted : Limits → ℕ → List ℕ → Type 0
Admitted l C d = (h : Header) → read_datagram_lem C max_fragments d ≡ Good h → read_within_lem l C d ≡ Good h

module _ (l : Limits) (C : ℕ) (d : List ℕ) where
  by_said : (r : Said) → said C max_fragments d ≡ r → ((h : Header) → says d (Good h) ≡ r → Bounds d l.payload l.fragments h) → Admitted l C d
  unfolding said
  by_said r e w h q = smaller d C max_fragments l.payload l.fragments h (w h (sym (ap (says d) q) ∙ e)) q

  pub refused_admitted : (n : ℕ) → said C max_fragments d ≡ refused n → Admitted l C d
  refused_admitted n e = by_said (refused n) e (λ h q. go h h.small q)
    where
      go : (h : Header) (b : Bool) → pick b (small h.sequence (part_of d h.name) (part_of d h.payload)) (fragment (fragment_in d h)) ≡ refused n → Bounds d l.payload l.fragments h
      go h true q = absurd (let z : ◌≡◌ {A = ℕ} 0 1 = cc in let y : ⊥ = omega arith in y)
      go h false q = absurd (let z : ◌≡◌ {A = ℕ} 0 1 = cc in let y : ⊥ = omega arith in y)

  -- a small message, whatever the limits
  pub small_admitted : (s : ℕ) (name payload : List ℕ) → said C max_fragments d ≡ small s name payload → Admitted l C d
  small_admitted s name payload e = by_said (small s name payload) e (λ h q f. go h q f)
    where
      go : (h : Header) → pick h.small (small h.sequence (part_of d h.name) (part_of d h.payload)) (fragment (fragment_in d h)) ≡ small s name payload → h.small ≡ false
          → (h.size ≤ l.payload) × (h.count ≤ l.fragments)
      go h q f = let g : fragment (fragment_in d h) ≡ small s name payload = rw f at q in absurd (let z : ◌≡◌ {A = ℕ} 0 1 = cc in let y : ⊥ = omega arith in y)

  -- a fragment whose P and n are within them
  pub fragment_admitted : (f : Fragment) → said C max_fragments d ≡ fragment f → f.size ≤ l.payload → f.count ≤ l.fragments → Admitted l C d
  fragment_admitted f e p n = by_said (fragment f) e (λ h q s.
      let g : fragment (fragment_in d h) ≡ fragment f = rw s at q in
      let i : f ≡ fragment_in d h = cc in
      (subst (λ (x : Fragment). x.size ≤ l.payload) i p, subst (λ (x : Fragment). x.count ≤ l.fragments) i n))

-- ---- the step list

module _ (l : Limits) (m : Machine) (store ledger : List ℕ) (sender : ℕ) (d : List ℕ) where
  -- refused without the limits and within them: nothing is altered, whatever the numbers
  pub record BothRefuse : Type 0 where
    pub number : ℕ
    pub number-within : ℕ
    pub without : step m store ledger sender d ≡ stay m store ledger (answer.Refused number)
    pub within : step_within l m store ledger sender d ≡ stay m store ledger (answer.Refused number-within)

  -- refused for form by the receiver's own limits
  own-refusal : (k : ℕ) → sound m (length store) (length ledger) ≡ true → read_datagram_lem m.slot_size_lem max_fragments d ≡ Refused k
      → step m store ledger sender d ≡ stay m store ledger (answer.Refused k)
  unfolding step said receive act decide
  own-refusal k s e = rw (s, e) refl

  -- WHERE THE LIMITS ADMIT IT, the call is the call without them, or both refuse
  pub step_admitted : Admitted l m.slot_size_lem d → (step_within l m store ledger sender d ≡ step m store ledger sender d) ⊎ BothRefuse
  step_admitted a = go (read_datagram_lem m.slot_size_lem max_fragments d) refl (read_within_lem l m.slot_size_lem d) refl
    where
      go : (r : Read) → read_datagram_lem m.slot_size_lem max_fragments d ≡ r → (s : Read) → read_within_lem l m.slot_size_lem d ≡ s
          → (step_within l m store ledger sender d ≡ step m store ledger sender d) ⊎ BothRefuse
      go (Good h) p s q = inl (step-good l m store ledger sender d h (a h p))
      go (Refused j) p (Good h) q = clash (sym p ∙ within-good l m.slot_size_lem d h q)
      go (Refused j) p (Refused k) q = elim (either (sound m (length store) (length ledger))) [
        | inl t ↦ inr (record { number = j; number-within = k; without = own-refusal j t p; within = step-refused l m store ledger sender d k t q })
        | inr t ↦ inl (step-nine l m store ledger sender d t)
      ]

  -- WHAT THE READER REFUSES WITHIN THE LIMITS is refused, by its number or by 9, and nothing is altered
  pub record Refuses : Type 0 where
    pub number : ℕ
    pub is : step_within l m store ledger sender d ≡ stay m store ledger (answer.Refused number)

  pub within-refused : (k : ℕ) → read_within_lem l m.slot_size_lem d ≡ Refused k → Refuses
  within-refused k q = elim (either (sound m (length store) (length ledger))) [
    | inl t ↦ record { number = k; is = step-refused l m store ledger sender d k t q }
    | inr t ↦ record { number = 9; is = step-nine l m store ledger sender d t ∙ step-unsound m store ledger sender d t }
  ]

  -- NO REFUSAL BUT 1 TO 9
  pub within-number : (n : ℕ) → (step_within l m store ledger sender d).answer ≡ answer.Refused n → (1 ≤ n) × (n ≤ 9)
  unfolding said stay
  within-number n e = go (read_within_lem l m.slot_size_lem d) refl
    where
      as_ever : step_within l m store ledger sender d ≡ step m store ledger sender d → (1 ≤ n) × (n ≤ 9)
      as_ever q = refusal-number m store ledger sender d n (sym (ap (λ (a : After). a.answer) q) ∙ e)

      go : (r : Read) → read_within_lem l m.slot_size_lem d ≡ r → (1 ≤ n) × (n ≤ 9)
      go (Good h) q = as_ever (step-good l m store ledger sender d h q)
      go (Refused k) q = elim (either (sound m (length store) (length ledger))) [
        | inl t ↦
            let z : k ≡ n = cc (sym (ap (λ (a : After). a.answer) (step-refused l m store ledger sender d k t q)) ∙ e) in
            let b : (1 ≤ k) × (k ≤ 7) = said-number d (min m.slot_size_lem l.payload) (min max_fragments l.fragments) k (ap (says d) q) in
            let x : 1 ≤ k = b.0 in
            let y : k ≤ 7 = b.1 in
            (omega arith, omega arith)
        | inr t ↦ as_ever (step-nine l m store ledger sender d t)
      ]
