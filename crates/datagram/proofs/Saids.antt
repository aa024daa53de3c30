-- Laws of what a datagram says in document 01's values. The crates above cite these and not the reader's text. Assumes nothing.
use Rattle.wire.proofs.Basics.{◌∙◌, sym, ◌≡◌, ap, refl, subst, ℕ, ◌≤◌, ◌+◌, ◌<◌, List, [], true, false, Bool, ◌&&◌, ◌≢◌, length, drop, take, length-drop, take_all, eqb, leb, eq-eqb, ne_eqb, eqb-true}
use Rattle.wire.proofs.Basics.{leb-true, arith}
use Rattle.wire.specs.Choice.{pick}
use Rattle.wire.proofs.Choices.{and_l, and_r}
use Rattle.datagram.specs.Limits.{max_datagram}
use Rattle.names.specs.Name.{good_name_lem}
use Rattle.forms.specs.Form.{good_start_lem}
use Rattle.datagram.specs.Read.{Read, Good, Refused, good_form, read_datagram_lem, part_of}
use Rattle.datagram.specs.Said.{Fragment, refused, small, fragment, fragment_in, says, said, Reads}
use Rattle.datagram.specs.declared.Header.{Header}
use Rattle.datagram.proofs.Places.{Inside, SmallForm, FragmentForm, KindForm, accepted-good, part_length}

-- what a fragment that is read keeps to
pub record Formed (max_size_lem max_count_lem : ℕ) (f : Fragment) : Type 0 where
  pub few : f.count ≤ max_count_lem
  pub below : f.number < f.count
  pub fits : f.size ≤ max_size_lem
  pub first : f.number ≡ 0 → f.offset ≡ 0
  pub some' : f.number ≢ 0 → 1 ≤ length f.bytes
  pub inside : f.offset + length f.bytes ≤ f.size
  pub last : f.number + 1 ≡ f.count → f.offset + length f.bytes ≡ f.size
  pub named : f.number ≡ 0 → good_name_lem f.name ≡ true
  pub nameless : f.number ≢ 0 → f.name ≡ []
  pub short : length f.bytes ≤ max_datagram

-- what a small message that is read keeps to
pub record SmallRead (d name payload : List ℕ) : Type 0 where
  pub named : good_name_lem name ≡ true
  pub stands : drop (9 + length name) d ≡ payload
  -- 8 bytes, the name, a zero byte and the payload are all of it
  pub ends : 9 + length name + length payload ≡ length d
  pub short : length d ≤ max_datagram

not-fragment : {q : ℕ} {a b : List ℕ} {f : Fragment} → small q a b ≡ fragment f → ⊥
not-fragment e = let z : ◌≡◌ {A = ℕ} 0 1 = cc in omega arith

not-small : {q : ℕ} {a b : List ℕ} {f : Fragment} → fragment f ≡ small q a b → ⊥
not-small e = not-fragment (sym e)

refused-fragment : {n : ℕ} {f : Fragment} → refused n ≡ fragment f → ⊥
refused-fragment e = let z : ◌≡◌ {A = ℕ} 0 1 = cc in omega arith

refused-small : {n q : ℕ} {a b : List ℕ} → refused n ≡ small q a b → ⊥
refused-small e = let z : ◌≡◌ {A = ℕ} 0 1 = cc in omega arith

module _ (C N : ℕ) (d : List ℕ) (h : Header) (i : Inside d h) (k : FragmentForm C N d h) where
  bytes-length : length (part_of d h.payload) ≡ h.payload.len
  bytes-length = part_length d h.payload (omega (arith, i.payload_in_lem))

  start : good_start_lem h.number h.offset h.payload.len ≡ true
  unfolding good_form
  start = and_l (good_start_lem h.number h.offset h.payload.len) _ k.form

  rest_of : (leb (h.offset + h.payload.len) h.size && pick (eqb (h.number + 1) h.count) (eqb (h.offset + h.payload.len) h.size) true) ≡ true
  unfolding good_form
  rest_of = and_r (good_start_lem h.number h.offset h.payload.len) _ k.form

  last-of : pick (eqb (h.number + 1) h.count) (eqb (h.offset + h.payload.len) h.size) true ≡ true
  last-of = and_r (leb (h.offset + h.payload.len) h.size) _ rest_of

  formed_in : Formed C N (fragment_in d h)
  formed_in = record {
    few = k.few;
    below = k.below;
    fits = k.fits;
    first = λ z. eqb-true h.offset 0 (rw (eq-eqb h.number 0 z) at start);
    some' = λ z. rw bytes-length (leb-true 1 h.payload.len (rw (ne_eqb h.number 0 z) at start));
    inside = rw bytes-length (leb-true (h.offset + h.payload.len) h.size (and_l (leb (h.offset + h.payload.len) h.size) _ rest_of));
    last = λ z. rw bytes-length (eqb-true (h.offset + h.payload.len) h.size (rw (eq-eqb (h.number + 1) h.count z) at last-of));
    named = k.named;
    nameless = λ z. ap (λ (n : ℕ). take n (drop h.name.at d)) (k.nameless z);
    short = rw bytes-length (omega (arith, i.short, i.payload_in_lem));
  }

module _ (C N : ℕ) (d : List ℕ) where
  pub fragment-formed : (f : Fragment) → said C N d ≡ fragment f → Formed C N f
  unfolding said
  fragment-formed f = go (read_datagram_lem C N d) refl
    where
      by : (h : Header) (b : Bool) → h.small ≡ b → Inside d h × KindForm C N d h
          → pick b (small h.sequence (part_of d h.name) (part_of d h.payload)) (fragment (fragment_in d h)) ≡ fragment f → Formed C N f
      by h true p a e = absurd (not-fragment e)
      by h false p a e =
          let same : fragment_in d h ≡ f = cc in
          let k : FragmentForm C N d h = subst (λ (b : Bool). pick b (SmallForm d h) (FragmentForm C N d h)) p a.1 in
          subst (Formed C N) same (formed_in C N d h a.0 k)

      go : (r : Read) → read_datagram_lem C N d ≡ r → says d r ≡ fragment f → Formed C N f
      go (Refused n) p e = absurd (refused-fragment e)
      go (Good h) p e = by h h.small refl (accepted-good C N d h p) e

  pub small-read : (q : ℕ) (name payload : List ℕ) → said C N d ≡ small q name payload → SmallRead d name payload
  unfolding said
  small-read q name payload = go (read_datagram_lem C N d) refl
    where
      by : (h : Header) (b : Bool) → h.small ≡ b → Inside d h × KindForm C N d h
          → pick b (small h.sequence (part_of d h.name) (part_of d h.payload)) (fragment (fragment_in d h)) ≡ small q name payload → SmallRead d name payload
      by h false p a e = absurd (not-small e)
      by h true p a e =
          let i = a.0 in
          let k : SmallForm d h = subst (λ (b : Bool). pick b (SmallForm d h) (FragmentForm C N d h)) p a.1 in
          let n : part_of d h.name ≡ name = cc in
          let w : part_of d h.payload ≡ payload = cc in
          let l : length name ≡ h.name.len = ap length (sym n) ∙ part_length d h.name i.name_in_lem in
          let at : 9 + length name ≡ h.payload.at = omega (arith, k.place) in
          let all : take h.payload.len (drop h.payload.at d) ≡ drop h.payload.at d =
          take_all h.payload.len (drop h.payload.at d) (rw length-drop (omega (arith, i.payload_in_lem))) in
          let q : length payload ≡ h.payload.len = ap length (sym w) ∙ part_length d h.payload (omega (arith, i.payload_in_lem)) in
          record {
            named = subst (λ (x : List ℕ). good_name_lem x ≡ true) n k.named;
            stands = ap (λ (x : ℕ). drop x d) at ∙ sym all ∙ w;
            ends = omega (arith, i.payload_in_lem, at);
            short = i.short;
          }

      go : (r : Read) → read_datagram_lem C N d ≡ r → says d r ≡ small q name payload → SmallRead d name payload
      go (Refused n) p e = absurd (refused-small e)
      go (Good h) p e = by h h.small refl (accepted-good C N d h p) e

-- ---- the answer in the paper's values

-- the contract of `read_datagram`, from the answer alone
pub read-says : {C N : ℕ} {d : List ℕ} {r : Read} → r ≡ read_datagram_lem C N d → Reads C N d r
unfolding said
read-says {C} {N} {d} e = record { answer = e; told = ap (says d) e }
