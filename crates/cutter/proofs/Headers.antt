-- What the datagram reader finds in bytes with a given header. Assumes nothing.
use Rattle.wire.proofs.Basics.{◌∙◌, ◌≡◌, ap, refl, ℕ, ◌≤◌, ◌+◌, ◌<◌, ◌-◌, ◌^◌, List, [], ◌++◌, append_assoc, true, false, length, drop, length-append, drop_at, eq-eqb, le-ltb, ne_eqb, lt-leb, arith}
use Rattle.wire.specs.Bytes.{be, bytes}
use Rattle.wire.proofs.Numbers.{be-bytes, length-bytes}
use Rattle.datagram.specs.Limits.{max_datagram}
use Rattle.wire.specs.Choice.{pick}
use Rattle.datagram.specs.Name.{name_length_lem}
use Rattle.datagram.specs.Read.{Good, Refused, num, place, fragment_magic, good_form, fragment_header, formed, read_fragment_lem, read_datagram_lem}
use Rattle.std.proofs.Common.{Some}
use Rattle.datagram.specs.declared.Place.{Place}
use Rattle.datagram.specs.declared.Header.{Header}
use Rattle.cutter.specs.Cut.{head_bytes}

-- a number that was written after n bytes is read there
pub num-at : (d s t : List ℕ) (k v n : ℕ) → d ≡ s ++ (bytes k v ++ t) → length s ≡ n → v < 256 ^ k → num k n d ≡ v
num-at d s t k v n e l h = ap (λ (x : List ℕ). be k (drop n x)) e ∙ ap (be k) (drop_at s (bytes k v ++ t) n l) ∙ be-bytes k v h t

-- d has the header of a fragment
pub record Headed (d : List ℕ) (q size offset number count : ℕ) : Type 0 where
  pub magic : num 4 0 d ≡ fragment_magic
  pub sequence' : num 4 4 d ≡ q
  pub size' : num 4 8 d ≡ size
  pub offset' : num 4 12 d ≡ offset
  pub number' : num 2 16 d ≡ number
  pub count' : num 2 18 d ≡ count

pub headed : (q p o k n : ℕ) (r : List ℕ) → q < 2 ^ 32 → p < 2 ^ 32 → o < 2 ^ 32 → k < 2 ^ 16 → n < 2 ^ 16 → Headed (head_bytes q p o k n ++ r) q p o k n
unfolding head_bytes
headed q p o k n r hq hp ho hk hn =
    let d : List ℕ = head_bytes q p o k n ++ r in
    let M : List ℕ = bytes 4 fragment_magic in
    record {
      magic = num-at d [] (bytes 4 q ++ (bytes 4 p ++ (bytes 4 o ++ (bytes 2 k ++ (bytes 2 n ++ r))))) 4 fragment_magic 0 (simp append_assoc) refl (omega arith);
      sequence' = num-at d M (bytes 4 p ++ (bytes 4 o ++ (bytes 2 k ++ (bytes 2 n ++ r)))) 4 q 4 (simp append_assoc) (simp length-bytes) hq;
      size' = num-at d (M ++ bytes 4 q) (bytes 4 o ++ (bytes 2 k ++ (bytes 2 n ++ r))) 4 p 8 (simp append_assoc) (simp (length-append, length-bytes)) hp;
      offset' = num-at d (M ++ bytes 4 q ++ bytes 4 p) (bytes 2 k ++ (bytes 2 n ++ r)) 4 o 12 (simp append_assoc) (simp (length-append, length-bytes)) ho;
      number' = num-at d (M ++ bytes 4 q ++ bytes 4 p ++ bytes 4 o) (bytes 2 n ++ r) 2 k 16 (simp append_assoc) (simp (length-append, length-bytes)) hk;
      count' = num-at d (M ++ bytes 4 q ++ bytes 4 p ++ bytes 4 o ++ bytes 2 k) r 2 n 18 (simp append_assoc) (simp (length-append, length-bytes)) hn;
    }

-- a fragment of good form is read
module _ (C N : ℕ) (d : List ℕ) (q p o k n : ℕ) (h : Headed d q p o k n)
    (long : 20 ≤ length d) (short : length d ≤ max_datagram) (few : n ≤ N) (below : k < n) (fits : p ≤ C) where
  abbrev its : Place → ℕ → ℕ → Header
  its name at len = record { small = false; sequence = q; size = p; offset = o; number = k; count = n; name = name; payload = place at len }

  formed-is : (name : Place) (at len : ℕ) → length d - at ≡ len → good_form (its name at len) ≡ true → formed d name at ≡ Good (its name at len)
  unfolding formed
  formed-is name at len e g =
      let w : fragment_header d name at ≡ its name at len =
      λ i. record { small = false; sequence = h.sequence' i; size = h.size' i; offset = h.offset' i; number = h.number' i; count = h.count' i; name = name; payload = record { at = at; len = e i } } in
      ap (λ (x : Header). pick (good_form x) (Good x) (Refused 7)) w ∙ rw g

  go_on : read_datagram_lem C N d ≡ read_fragment_lem C N d
  unfolding read_datagram_lem
  go_on = rw (le-ltb max_datagram (length d) short, le-ltb (length d) 8 (omega arith), h.magic, le-ltb (length d) 20 long)

  pub read_first : (c len : ℕ) → k ≡ 0 → name_length_lem (drop 20 d) ≡ Some c → length d - (21 + c) ≡ len
      → good_form (its (place 20 c) (21 + c) len) ≡ true → read_datagram_lem C N d ≡ Good (its (place 20 c) (21 + c) len)
  unfolding read_fragment_lem
  read_first c len z e l g =
      go_on
      ∙ rw (h.count', h.number', h.size', ne_eqb n 0 (omega arith), le-ltb N n few, lt-leb n k below, le-ltb C p fits, eq-eqb k 0 z, e)
      (formed-is (place 20 c) (21 + c) len l g)

  pub read-later : (len : ℕ) → (k ≡ 0 → ⊥) → length d - 20 ≡ len
      → good_form (its (place 20 0) 20 len) ≡ true → read_datagram_lem C N d ≡ Good (its (place 20 0) 20 len)
  unfolding read_fragment_lem
  read-later len z l g =
      go_on
      ∙ rw (h.count', h.number', h.size', ne_eqb n 0 (omega arith), le-ltb N n few, lt-leb n k below, le-ltb C p fits, ne_eqb k 0 z)
      (formed-is (place 20 0) 20 len l g)
