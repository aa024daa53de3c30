-- What is known of a datagram that the reader accepts: its header keeps document 01's rules, and its name and payload lie inside it. Assumes nothing.
use Rattle.wire.proofs.Basics.{◌≡◌, refl, subst, ℕ, ◌≤◌, ◌+◌, ◌<◌, List, true, ◌||◌, ◌≢◌, length, drop, length-drop, length-take-le, eqb, ltb, leb, eqb-true, ltb-false, eqb-false, leb-false, arith}
use Rattle.std.proofs.Common.{Option, Some, None}
use Rattle.wire.specs.Choice.{pick}
use Rattle.wire.proofs.Choices.{pick_all, or_l, or_r}
use Rattle.datagram.specs.Limits.{max_datagram}
use Rattle.names.specs.Name.{good_name_lem}
use Rattle.datagram.specs.Name.{name_length_lem}
use Rattle.datagram.specs.Read.{Read, Good, Refused, magic_in, size_in, number_in, count_in, small_magic, fragment_magic, place, fragment_header, good_form, formed, small_to, zero_to, read_small_lem, read_fragment_lem, read_datagram_lem, part_of}
use Rattle.datagram.specs.declared.Place.{Place}
use Rattle.datagram.specs.declared.Header.{Header}
use Rattle.datagram.proofs.Names.{name-found}

-- the name and the payload lie inside, and the payload ends the datagram
pub record Inside (d : List ℕ) (h : Header) : Type 0 where
  pub short : length d ≤ max_datagram
  pub name_in_lem : h.name.at + h.name.len ≤ length d
  pub payload_in_lem : h.payload.at + h.payload.len ≡ length d

pub record SmallForm (d : List ℕ) (h : Header) : Type 0 where
  pub named : good_name_lem (part_of d h.name) ≡ true
  pub place : h.payload.at ≡ 9 + h.name.len

pub record FragmentForm (max_size_lem max_count_lem : ℕ) (d : List ℕ) (h : Header) : Type 0 where
  pub few : h.count ≤ max_count_lem
  pub below : h.number < h.count
  pub fits : h.size ≤ max_size_lem
  pub form : good_form h ≡ true
  pub named : h.number ≡ 0 → good_name_lem (part_of d h.name) ≡ true
  pub nameless : h.number ≢ 0 → h.name.len ≡ 0

abbrev pub KindForm : ℕ → ℕ → List ℕ → Header → Type 0
KindForm C N d h = pick h.small (SmallForm d h) (FragmentForm C N d h)

abbrev pub Accepted : ℕ → ℕ → List ℕ → Read → Type 0
Accepted C N d (Good h) = Inside d h × KindForm C N d h
Accepted C N d (Refused n) = Unit {0}

module _ (C N : ℕ) (d : List ℕ) (short : length d ≤ max_datagram) where
  abbrev P : Read → Type 0
  P = Accepted C N d

  found_in_lem : (at c : ℕ) → name_length_lem (drop at d) ≡ Some c → at + c < length d
  found_in_lem at c e = omega (arith, (name-found (drop at d) c e).inside, length-drop at d)

  small_in : (o : Option ℕ) → name_length_lem (drop 8 d) ≡ o → P (small_to d o)
  small_in None e = tt
  small_in (Some c) e = (
    record {
      short = short;
      name_in_lem = omega (arith, found_in_lem 8 c e);
      payload_in_lem = omega (arith, found_in_lem 8 c e);
    },
    record { named = (name-found (drop 8 d) c e).good; place = refl },
  )

  -- past refusals 5 and 6
  module _ (few' : count_in d ≤ N) (below' : number_in d < count_in d) (fits' : size_in d ≤ C) where
    formed_in : (name : Place) (at : ℕ) → name.at + name.len ≤ length d → at ≤ length d
        → (number_in d ≡ 0 → good_name_lem (part_of d name) ≡ true) → (number_in d ≢ 0 → name.len ≡ 0) → P (formed d name at)
    unfolding formed
    formed_in name at h k g z =
        pick_all P (good_form (fragment_header d name at))
        (λ w. (record { short = short; name_in_lem = h; payload_in_lem = omega arith }, record { few = few'; below = below'; fits = fits'; form = w; named = g; nameless = z }))
        (λ _. tt)

    zero_in : number_in d ≡ 0 → (o : Option ℕ) → name_length_lem (drop 20 d) ≡ o → P (zero_to d o)
    zero_in z None e = tt
    zero_in z (Some c) e =
        formed_in (place 20 c) (21 + c) (omega (arith, found_in_lem 20 c e)) (omega (arith, found_in_lem 20 c e)) (λ _. (name-found (drop 20 d) c e).good) (λ n. absurd (n z))

  fragment_in_lem : 20 ≤ length d → P (read_fragment_lem C N d)
  unfolding read_fragment_lem
  fragment_in_lem h =
      pick_all P (eqb (count_in d) 0 || (ltb N (count_in d) || leb (count_in d) (number_in d))) (λ _. tt) λ five.
      pick_all P (ltb C (size_in d)) (λ _. tt) λ six.
      let more = or_r (eqb (count_in d) 0) _ five in
      let few' : count_in d ≤ N = ltb-false N (count_in d) (or_l (ltb N (count_in d)) _ more) in
      let below' : number_in d < count_in d = leb-false (count_in d) (number_in d) (or_r (ltb N (count_in d)) _ more) in
      let fits' : size_in d ≤ C = ltb-false C (size_in d) six in
      pick_all P (eqb (number_in d) 0)
      (λ z. zero_in few' below' fits' (eqb-true (number_in d) 0 z) (name_length_lem (drop 20 d)) refl)
      (λ z. formed_in few' below' fits' (place 20 0) 20 (omega arith) h (λ n. absurd (eqb-false (number_in d) 0 z n)) (λ _. refl))

pub accepted : (C N : ℕ) (d : List ℕ) → Accepted C N d (read_datagram_lem C N d)
unfolding read_datagram_lem read_small_lem
accepted C N d =
    pick_all (Accepted C N d) (ltb max_datagram (length d)) (λ _. tt) λ p.
    pick_all (Accepted C N d) (ltb (length d) 8) (λ _. tt) λ _.
    pick_all (Accepted C N d) (eqb (magic_in d) small_magic) (λ _. small_in C N d (ltb-false max_datagram (length d) p) (name_length_lem (drop 8 d)) refl) λ _.
    pick_all (Accepted C N d) (eqb (magic_in d) fragment_magic)
    (λ _. pick_all (Accepted C N d) (ltb (length d) 20) (λ _. tt) λ q. fragment_in_lem C N d (ltb-false max_datagram (length d) p) (ltb-false (length d) 20 q))
    (λ _. tt)

pub accepted-good : (C N : ℕ) (d : List ℕ) (h : Header) → read_datagram_lem C N d ≡ Good h → Inside d h × KindForm C N d h
accepted-good C N d h e = subst (Accepted C N d) e (accepted C N d)

-- so its parts are as long as the header says
pub part_length : (d : List ℕ) (p : Place) → p.at + p.len ≤ length d → length (part_of d p) ≡ p.len
part_length d p h = length-take-le p.len (drop p.at d) (rw length-drop (omega arith))
