-- What the datagram reader accepts within smaller limits it accepts within larger ones, and says the same. Assumes nothing.
use Rattle.wire.proofs.Basics.{◌≡◌, refl, ℕ, ◌≤◌, List, true, false, Bool, ◌||◌, length, eqb, ltb, leb, le-ltb, ltb-false, arith}
use Rattle.wire.specs.Choice.{pick}
use Rattle.wire.proofs.Choices.{or_l, or_r}
use Rattle.datagram.specs.Limits.{max_datagram}
use Rattle.datagram.specs.Read.{Read, Good, Refused, magic_in, small_magic, fragment_magic, size_in, number_in, count_in, read_small_lem, read_fragment_lem, read_datagram_lem}
use Rattle.datagram.specs.declared.Header.{Header}

-- what is accepted was not refused first
pub passed : (t : Bool) (k : ℕ) (r : Read) (h : Header) → pick t (Refused k) r ≡ Good h → (t ≡ false) × (r ≡ Good h)
passed true k r h e = absurd (let z : ◌≡◌ {A = ℕ} 0 1 = cc in omega arith)
passed false k r h e = (refl, e)

module _ (d : List ℕ) (a b C N : ℕ) (size : a ≤ C) (count : b ≤ N) (h : Header) where
  fragment-larger : read_fragment_lem a b d ≡ Good h → read_fragment_lem C N d ≡ Good h
  unfolding read_fragment_lem
  fragment-larger e =
      let n = count_in d in
      let k = number_in d in
      let five = passed (eqb n 0 || (ltb b n || leb n k)) 5 _ h e in
      let six = passed (ltb a (size_in d)) 6 _ h five.1 in
      let some = or_l (eqb n 0) (ltb b n || leb n k) five.0 in
      let rest = or_r (eqb n 0) (ltb b n || leb n k) five.0 in
      let few : n ≤ N = omega (arith, ltb-false b n (or_l (ltb b n) (leb n k) rest)) in
      let short : size_in d ≤ C = omega (arith, ltb-false a (size_in d) six.0) in
      rw (some, le-ltb N n few, or_r (ltb b n) (leb n k) rest, le-ltb C (size_in d) short) six.1

  pub larger : read_datagram_lem a b d ≡ Good h → read_datagram_lem C N d ≡ Good h
  unfolding read_datagram_lem
  larger = go (ltb max_datagram (length d)) (ltb (length d) 8) (eqb (magic_in d) small_magic) (eqb (magic_in d) fragment_magic) (ltb (length d) 20)
    where
      go : (long short small fragment cut : Bool)
          → pick long (Refused 3) (pick short (Refused 1) (pick small (read_small_lem d) (pick fragment (pick cut (Refused 1) (read_fragment_lem a b d)) (Refused 2)))) ≡ Good h
          → pick long (Refused 3) (pick short (Refused 1) (pick small (read_small_lem d) (pick fragment (pick cut (Refused 1) (read_fragment_lem C N d)) (Refused 2)))) ≡ Good h
      go true short small fragment cut e = e
      go false true small fragment cut e = e
      go false false true fragment cut e = e
      go false false false false cut e = e
      go false false false true true e = e
      go false false false true false e = fragment-larger e
