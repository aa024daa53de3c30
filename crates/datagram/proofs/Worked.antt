-- The worked cases, computed in one statement; and refusal 3 exactly for datagrams over 65,535 bytes. Assumes nothing.
use Rattle.wire.proofs.Basics.{◌≡◌, refl, ℕ, ◌≤◌, ◌+◌, ◌<◌, List, map, true, false, Bool, ◌||◌, ◌≢◌, length, drop, eqb, ltb, leb, le-ltb, lt-ltb, dec_le, arith}
use Rattle.std.proofs.Common.{Option, Some, None}
use Rattle.wire.specs.Bytes.{be, bytes}
use Rattle.wire.specs.Choice.{pick}
use Rattle.wire.proofs.Choices.{pick_all}
use Rattle.datagram.specs.Limits.{max_payload, max_fragments}
use Rattle.names.specs.Name.{good_name_lem}
use Rattle.datagram.specs.Name.{until_zero_lem, name_length_lem}
use Rattle.datagram.specs.Read.{Read, Good, Refused, magic_in, size_in, number_in, count_in, small_magic, fragment_magic, place, fragment_header, good_form, formed, small_to, zero_to, read_small_lem, read_fragment_lem, read_datagram_lem, part_of}
use Rattle.datagram.specs.Said.{refused, small, fragment, fragment_in, says, said}
use Rattle.datagram.specs.Worked.{Case, cases}
use Rattle.datagram.specs.declared.Place.{Place}

pub worked-cases : map (λ (c : Case). said max_payload max_fragments c.datagram) cases ≡ map (λ (c : Case). c.told) cases
unfolding said read_datagram_lem read_small_lem read_fragment_lem formed good_form name_length_lem good_name_lem until_zero_lem be bytes
worked-cases = refl

-- ---- refusal 3

abbrev Not3 : Read → Type 0
Not3 (Good h) = Unit {0}
Not3 (Refused n) = n ≢ 3

module _ (d : List ℕ) where
  small_not3 : (o : Option ℕ) → Not3 (small_to d o)
  small_not3 None = λ e. omega arith
  small_not3 (Some c) = tt

  formed_not3 : (name : Place) (at : ℕ) → Not3 (formed d name at)
  unfolding formed
  formed_not3 name at = pick_all Not3 (good_form (fragment_header d name at)) (λ _. tt) (λ _ e. omega arith)

  zero_not3 : (o : Option ℕ) → Not3 (zero_to d o)
  zero_not3 None = λ e. omega arith
  zero_not3 (Some c) = formed_not3 (place 20 c) (21 + c)

  module _ (C N : ℕ) where
    fragment_not3 : Not3 (read_fragment_lem C N d)
    unfolding read_fragment_lem
    fragment_not3 =
        pick_all Not3 (eqb (count_in d) 0 || (ltb N (count_in d) || leb (count_in d) (number_in d))) (λ _ e. omega arith) λ _.
        pick_all Not3 (ltb C (size_in d)) (λ _ e. omega arith) λ _.
        pick_all Not3 (eqb (number_in d) 0) (λ _. zero_not3 (name_length_lem (drop 20 d))) (λ _. formed_not3 (place 20 0) 20)

    read_not3 : length d ≤ 65_535 → Not3 (read_datagram_lem C N d)
    unfolding read_datagram_lem read_small_lem
    read_not3 h =
        rw (le-ltb 65_535 (length d) h)
        (pick_all Not3 (ltb (length d) 8) (λ _ e. omega arith) λ _.
        pick_all Not3 (eqb (magic_in d) small_magic) (λ _. small_not3 (name_length_lem (drop 8 d))) λ _.
        pick_all Not3 (eqb (magic_in d) fragment_magic)
        (λ _. pick_all Not3 (ltb (length d) 20) (λ _ e. omega arith) (λ _. fragment_not3))
        (λ _ e. omega arith))

    no_3 : (r : Read) → Not3 r → says d r ≡ refused 3 → ⊥
    no_3 (Refused n) w e = w (cc)
    no_3 (Good h) w e = go h.small e
      where
        go : (b : Bool) → pick b (small h.sequence (part_of d h.name) (part_of d h.payload)) (fragment (fragment_in d h)) ≡ refused 3 → ⊥
        go true e = let z : ◌≡◌ {A = ℕ} 0 1 = cc in omega arith
        go false e = let z : ◌≡◌ {A = ℕ} 0 1 = cc in omega arith

    -- given exactly for a datagram over 65,535 bytes
    pub three-given : 65_535 < length d → said C N d ≡ refused 3
    unfolding said read_datagram_lem
    three-given h = rw (lt-ltb 65_535 (length d) h)

    pub three-only : said C N d ≡ refused 3 → 65_535 < length d
    unfolding said
    three-only e = elim (dec_le (length d) 65_535) [ yes h ↦ absurd (no_3 (read_datagram_lem C N d) (read_not3 h) e) | no h ↦ omega arith ]
