-- What a C host reads of a call is the outcome of the call of the code. Assumes nothing.
use Rattle.wire.proofs.Basics.{◌∙◌, sym, ◌≡◌, ap, refl, subst, ℕ, ◌≤◌, ◌+◌, List, ◌++◌, false, Bool, ◌&&◌, length, get_or, take, length-append, eqb, ltb, ne_eqb, ltb-false, arith}
use Rattle.wire.specs.Choice.{pick}
use Rattle.wire.specs.Overlay.{overlay}
use Rattle.wire.proofs.Choices.{or_l, or_r}
use Rattle.wire.proofs.Overlays.{overlay-at}
use Rattle.datagram.specs.Limits.{max_name, max_fragments}
use Rattle.datagram.specs.Read.{sequence_in}
use Rattle.datagram.specs.Said.{said}
use Rattle.steps.specs.declared.PayloadAt.TheVariants.{InDatagram, InStore}
use Rattle.steps.specs.Receive.{Answer}
use Rattle.steps.specs.Receive.{Refused, Kept, Repeat, Delivered}
use Rattle.steps.specs.declared.Emptied.{Emptied}
use Rattle.steps.specs.declared.Emptied.TheVariants.{Nobody, Was}
use Rattle.steps.specs.Memory.{key_of}
use Rattle.steps.specs.Receive.{sequence_of}
use Rattle.steps.specs.Answers.{answer_told, refused_by, reply, emptied_key}
use Rattle.steps.specs.Runs.{Arrival, Heard, key_in}
use Rattle.steps.specs.Reach.{is_accepted}
use Rattle.receiver.specs.Calls.{told}
use Rattle.receiver.specs.declared.Outcome.{Outcome}
use Rattle.arrival.specs.Demand.{name_in, handed_by}
use Rattle.arrival.specs.Runs.{hands_over}
use Rattle.host_state.specs.Lengths.{outcome_count}
use Rattle.host_receiver.specs.Outcomes.{answer_numbers_lem, later_numbers_lem, outcome_numbers, answer_code, unless_refused, Tells}
use Rattle.host_receiver.proofs.Numbers.{answer-four}
use Rattle.host_laws.specs.Told.{Returned, lacks, numbers, name_told, outcome_told, emptied_told, heard_told, accepted_in, accepted_told, hands_told}
use Rattle.host_laws.proofs.Speaks.{Speaks}

-- ---- the numbers of an answer that is no refusal tell it

abbrev Plain : Answer → Type 0
Plain (Refused n) = ⊥
Plain Kept = Unit {0}
Plain Repeat = Unit {0}
Plain (Delivered p n) = Unit {0}

module _ (d store : List ℕ) (q : ℕ) where
  record Back (a : Answer) (g : Emptied) : Type 0 where
    outcome : outcome_told d store (answer_numbers_lem a ++ later_numbers_lem g q) ≡ reply d store a
    emptied : emptied_told (answer_numbers_lem a ++ later_numbers_lem g q) ≡ emptied_key g
    sequence : get_or (answer_numbers_lem a ++ later_numbers_lem g q) 7 0 ≡ q
    accepted : accepted_in (answer_numbers_lem a ++ later_numbers_lem g q) ≡ is_accepted a

  back : (a : Answer) (g : Emptied) → Plain a → Back a g
  back (Refused n) g z = absurd z
  back Kept Nobody z = record { outcome = refl; emptied = refl; sequence = refl; accepted = refl }
  back Kept (Was k) z = record { outcome = refl; emptied = refl; sequence = refl; accepted = refl }
  back Repeat Nobody z = record { outcome = refl; emptied = refl; sequence = refl; accepted = refl }
  back Repeat (Was k) z = record { outcome = refl; emptied = refl; sequence = refl; accepted = refl }
  back (Delivered (InDatagram at) n) Nobody z = record { outcome = refl; emptied = refl; sequence = refl; accepted = refl }
  back (Delivered (InDatagram at) n) (Was k) z = record { outcome = refl; emptied = refl; sequence = refl; accepted = refl }
  back (Delivered (InStore at) n) Nobody z = record { outcome = refl; emptied = refl; sequence = refl; accepted = refl }
  back (Delivered (InStore at) n) (Was k) z = record { outcome = refl; emptied = refl; sequence = refl; accepted = refl }

later-four : (g : Emptied) (q : ℕ) → length (later_numbers_lem g q) ≡ 4
later-four Nobody q = refl
later-four (Was k) q = refl

eight : (a : Answer) (g : Emptied) (q : ℕ) → length (answer_numbers_lem a ++ later_numbers_lem g q) ≡ outcome_count
eight a g q = length-append (answer_numbers_lem a) (later_numbers_lem g q) ∙ (λ i. answer-four a i + later-four g q i)

-- what was written first stands first
first : (x y : List ℕ) (n : ℕ) → length y ≡ n → n ≤ length x → take n (overlay x 0 y) ≡ y
first x y n e h = ap (λ (k : ℕ). take k (overlay x 0 y)) (sym e) ∙ overlay-at x 0 y (omega (arith, e))

plain-writes : (a : Answer) → Plain a → (x y : List ℕ) → unless_refused a x y ≡ y
plain-writes (Refused n) z x y = absurd z
plain-writes Kept z x y = refl
plain-writes Repeat z x y = refl
plain-writes (Delivered p n) z x y = refl

plain_code : (a : Answer) → Plain a → answer_code a ≡ 0
plain_code (Refused n) z = absurd z
plain_code Kept z = refl
plain_code Repeat z = refl
plain_code (Delivered p n) z = refl

-- ---- what is read of a call

module _ (x : Arrival) (store : List ℕ) (C : ℕ) (o : Outcome) (c : Returned) (room : lacks c ≡ false)
    (t : Tells (sequence_in x.datagram) o c.told c.name c.answer) (s : Speaks C x.datagram o) where
  abbrev d : List ℕ
  d = x.datagram

  abbrev q : ℕ
  q = sequence_in x.datagram

  numbers-are : Plain (answer_told o.answer) → numbers c ≡ outcome_numbers q o
  numbers-are z =
      ap (take outcome_count) (t.numbers ∙ plain-writes (answer_told o.answer) z c.told.before (overlay c.told.before 0 (outcome_numbers q o)))
      ∙ first c.told.before (outcome_numbers q o) outcome_count (eight (answer_told o.answer) o.emptied q)
      (ltb-false (length c.told.before) outcome_count (or_l (ltb (length c.told.before) outcome_count) (ltb (length c.name.before) max_name) room))

  name-is : Plain (answer_told o.answer) → name_told c ≡ name_in o.name
  name-is z =
      ap name_in (ap (take max_name) (t.bytes ∙ plain-writes (answer_told o.answer) z c.name.before (overlay c.name.before 0 o.name))
      ∙ first c.name.before o.name max_name s.long
      (ltb-false (length c.name.before) max_name (or_r (ltb (length c.told.before) outcome_count) (ltb (length c.name.before) max_name) room)))

  plain-heard : Plain (answer_told o.answer) → heard_told d store c ≡ told d store o
  plain-heard z =
      let e : c.answer ≡ 0 = t.gave ∙ plain_code (answer_told o.answer) z in
      let b : Back d store q (answer_told o.answer) o.emptied = back d store q (answer_told o.answer) o.emptied z in
      (λ i. pick (eqb (e i) 0) (record { answer = outcome_told d store (numbers-are z i); emptied = emptied_told (numbers-are z i) }) (record { answer = refused_by c.answer; emptied = emptied_key Nobody }))
      ∙ (λ i. record { answer = b.outcome i; emptied = b.emptied i })

  not-zero : (n : ℕ) → answer_told o.answer ≡ Refused n → eqb c.answer 0 ≡ false
  not-zero n e =
      let a : c.answer ≡ n = t.gave ∙ ap answer_code e in
      let h : 1 ≤ n = s.numbered n e in
      ne_eqb c.answer 0 (λ z. omega arith)

  refused-heard : (n : ℕ) → answer_told o.answer ≡ Refused n → heard_told d store c ≡ told d store o
  refused-heard n e =
      let a : c.answer ≡ n = t.gave ∙ ap answer_code e in
      ap (λ (b : Bool). pick b (record { answer = outcome_told d store (numbers c); emptied = emptied_told (numbers c) }) (record { answer = refused_by c.answer; emptied = emptied_key Nobody })) (not-zero n e)
      ∙ (λ i. record { answer = (ap refused_by a ∙ sym (ap (reply d store) e)) i; emptied = sym (s.empties-none n e) i })

  -- THE ANSWER AND THE EMPTIED KEY
  pub heard-is : heard_told d store c ≡ told d store o
  heard-is = go (answer_told o.answer) refl
    where
      go : (a : Answer) → answer_told o.answer ≡ a → heard_told d store c ≡ told d store o
      go (Refused n) e = refused-heard n e
      go Kept e = plain-heard (subst Plain (sym e) tt)
      go Repeat e = plain-heard (subst Plain (sym e) tt)
      go (Delivered p n) e = plain-heard (subst Plain (sym e) tt)

  -- WHETHER IT IS ACCEPTED
  pub accepted-is : accepted_told c ≡ is_accepted (answer_told o.answer)
  accepted-is = go (answer_told o.answer) refl
    where
      by : Plain (answer_told o.answer) → accepted_told c ≡ is_accepted (answer_told o.answer)
      by z = (λ i. eqb ((t.gave ∙ plain_code (answer_told o.answer) z) i) 0 && accepted_in (numbers-are z i)) ∙ (back d store q (answer_told o.answer) o.emptied z).accepted

      go : (a : Answer) → answer_told o.answer ≡ a → accepted_told c ≡ is_accepted (answer_told o.answer)
      go (Refused n) e = ap (λ (b : Bool). b && accepted_in (numbers c)) (not-zero n e) ∙ sym (ap is_accepted e)
      go Kept e = by (subst Plain (sym e) tt)
      go Repeat e = by (subst Plain (sym e) tt)
      go (Delivered p n) e = by (subst Plain (sym e) tt)

  -- WHAT IS HANDED OVER, with its key and its name
  pub hands-are : hands_told x c store ≡ hands_over C x o store
  hands-are = ap (λ (h : Heard). handed_by (key_of x.sender (get_or (numbers c) 7 0)) (name_told c) h.answer) heard-is ∙ go (answer_told o.answer) refl
    where
      go : (a : Answer) → answer_told o.answer ≡ a
          → handed_by (key_of x.sender (get_or (numbers c) 7 0)) (name_told c) (reply d store (answer_told o.answer)) ≡ handed_by (key_in C x) (name_in o.name) (reply d store (answer_told o.answer))
      go (Refused n) e = rw e refl
      go Kept e = rw e refl
      go Repeat e = rw e refl
      go (Delivered p n) e =
          let z : Plain (answer_told o.answer) = subst Plain (sym e) tt in
          let k : get_or (numbers c) 7 0 ≡ sequence_of (said C max_fragments d) =
          ap (λ (y : List ℕ). get_or y 7 0) (numbers-are z) ∙ ((back d store q (answer_told o.answer) o.emptied z).sequence ∙ sym (s.sequence p n e)) in
          λ i. handed_by (key_of x.sender (k i)) (name-is z i) (reply d store (answer_told o.answer))
