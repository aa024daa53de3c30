-- Each cut datagram reads back as what it was cut from, and the fragments of a message are lawfully cut. Assumes nothing.
use Rattle.wire.proofs.Basics.{◌∙◌, sym, ◌≡◌, ap, refl, ℕ, ◌≤◌, ◌+◌, ◌<◌, ◌-◌, List, [], ◌∷◌, ◌++◌, append_assoc, true, false, Bool, length, drop, take, length-append, drop_at, take-length}
use Rattle.wire.proofs.Basics.{take-append_seam, eqb, leb, eq-eqb, le-ltb, ne_eqb, le-leb, leb-true, ℕ_discrete, arith}
use Rattle.wire.specs.Bytes.{bytes}
use Rattle.wire.specs.Choice.{pick}
use Rattle.wire.proofs.Choices.{and-of}
use Rattle.wire.proofs.Numbers.{length-bytes}
use Rattle.datagram.specs.Limits.{max_datagram}
use Rattle.datagram.specs.Name.{name_length_lem}
use Rattle.forms.specs.Form.{good_start_lem}
use Rattle.datagram.specs.Read.{Good, num, small_magic, good_form, read_small_lem, read_datagram_lem, part_of}
use Rattle.datagram.specs.Said.{small, fragment, says, said}
use Rattle.datagram.specs.Lawful.{LawfullyCut}
use Rattle.std.proofs.Common.{Some}
use Rattle.datagram.proofs.Names.{name-read}
use Rattle.cutter.specs.Cut.{Sized, is_small, carries, begins_at_lem, count_of, piece_of, head_bytes, small_bytes, fragment_bytes, datagram_of}
use Rattle.cutter.specs.Trip.{Cuttable, cut_fragment, cut_said}
use Rattle.cutter.specs.Inside.{small_header, cut_header}
use Rattle.cutter.proofs.Written.{length-head, fragment-first, fragment-later}
use Rattle.cutter.proofs.Counts.{begins-next, begins-below, count-some, piece-length, piece-full, piece-last}
use Rattle.cutter.proofs.Headers.{num-at, Headed, headed, read_first, read-later}

-- a part that was put together is found again
middle : (s t u : List ℕ) (n : ℕ) → length s ≡ n → take (length t) (drop n (s ++ (t ++ u))) ≡ t
middle s t u n e = ap (take (length t)) (drop_at s (t ++ u) n e) ∙ take-append_seam t u

ending : (s t : List ℕ) (n : ℕ) → length s ≡ n → take (length t) (drop n (s ++ t)) ≡ t
ending s t n e = ap (take (length t)) (drop_at s t n e) ∙ take-length t

-- a front, a name, a zero byte and a payload: the two parts
module _ (front name payload : List ℕ) (n : ℕ) (e : length front ≡ n) where
  abbrev whole : List ℕ
  whole = front ++ (name ++ 0 ∷ payload)

  pub whole_length : length whole ≡ 1 + n + length name + length payload
  whole_length = length-append front (name ++ 0 ∷ payload) ∙ rw (e, length-append) (omega arith)

  pub whole-named : name_length_lem (drop n whole) ≡ name_length_lem (name ++ 0 ∷ payload)
  whole-named = ap name_length_lem (drop_at front (name ++ 0 ∷ payload) n e)

  pub whole-name : take (length name) (drop n whole) ≡ name
  whole-name = middle front name (0 ∷ payload) n e

  pub whole-payload : (at : ℕ) → at ≡ 1 + n + length name → take (length payload) (drop at whole) ≡ payload
  whole-payload at a =
      let s : whole ≡ (front ++ (name ++ 0 ∷ [])) ++ payload = simp append_assoc in
      let l : length (front ++ (name ++ 0 ∷ [])) ≡ at = length-append front (name ++ 0 ∷ []) ∙ rw (e, length-append) (omega arith) in
      ap (λ (d : List ℕ). take (length payload) (drop at d)) s ∙ ending (front ++ (name ++ 0 ∷ [])) payload at l

carries-some : (c m k : ℕ) → Sized c m → 0 < carries c m k
carries-some c m k s = go (eqb k 0)
  where
    go : (b : Bool) → 0 < pick b (m - (21 + c)) (m - 20)
    go true = omega (arith, s.name, s.least)
    go false = omega (arith, s.least)

-- ---- fragments

module _ (C N q : ℕ) (name payload : List ℕ) (m : ℕ) (w : Cuttable C N q name payload m) (large : is_small (length name) (length payload) m ≡ false) where
  abbrev c : ℕ
  c = length name

  abbrev p : ℕ
  p = length payload

  abbrev n : ℕ
  n = count_of c p m

  abbrev piece : ℕ → List ℕ
  piece k = piece_of name payload m k

  abbrev head : ℕ → List ℕ
  head k = head_bytes q p (begins_at_lem c m k) k n

  head-length : (k : ℕ) → length (head k) ≡ 20
  head-length k = length-head q p (begins_at_lem c m k) k n

  module _ (k : ℕ) (h : k < n) where
    below : begins_at_lem c m k < p
    below = begins-below c p m w.sized large k h

    start-good : good_start_lem k (begins_at_lem c m k) (length (piece k)) ≡ true
    start-good = elim (ℕ_discrete k 0) [
      | yes e ↦ rw (eq-eqb k 0 e)
      | no e ↦
          let d : 1 ≤ length (piece k) = omega (arith, piece-length name payload m k, below, carries-some c m k w.sized) in
          rw (ne_eqb k 0 e) (le-leb 1 (length (piece k)) d)
    ]

    inside : leb (begins_at_lem c m k + length (piece k)) p ≡ true
    inside = le-leb (begins_at_lem c m k + length (piece k)) p (omega (arith, piece-length name payload m k, below))

    ends : pick (eqb (k + 1) n) (eqb (begins_at_lem c m k + length (piece k)) p) true ≡ true
    ends = elim (ℕ_discrete (k + 1) n) [
      | yes e ↦ rw (eq-eqb (k + 1) n e) (eq-eqb (begins_at_lem c m k + length (piece k)) p (piece-last name payload m w.sized large k e))
      | no e ↦ rw (ne_eqb (k + 1) n e)
    ]

    form-good : good_form (cut_header q name payload m k) ≡ true
    unfolding good_form
    form-good = and-of _ _ start-good (and-of _ _ inside ends)

    header : (r : List ℕ) → Headed (head k ++ r) q p (begins_at_lem c m k) k n
    header r = headed q p (begins_at_lem c m k) k n r w.sequence w.numbered (omega (arith, w.numbered, below)) (omega (arith, w.counted)) w.counted

    is-fragment : datagram_of q name payload m k ≡ fragment_bytes q name payload m k n
    unfolding datagram_of
    is-fragment = rw large

    -- ---- fragment 0, with its name, and any other

    module _ (z : k ≡ 0) where
      first-is : datagram_of q name payload m k ≡ whole (head k) name (piece k) 20 (head-length k)
      unfolding bytes
      first-is = is-fragment ∙ fragment-first q name payload m n k z ∙ simp append_assoc

      first-carries : carries c m k ≡ m - (21 + c)
      first-carries = rw (eq-eqb k 0 z)

      first_reads : read_datagram_lem C N (datagram_of q name payload m k) ≡ Good (cut_header q name payload m k)
      unfolding good_form
      first_reads =
          let d : List ℕ = whole (head k) name (piece k) 20 (head-length k) in
          let l = whole_length (head k) name (piece k) 20 (head-length k) in
          let s : length d ≤ max_datagram = omega (arith, first-carries, piece-length name payload m k, w.sized.least, w.sized.most, w.sized.name) in
          let e : name_length_lem (drop 20 d) ≡ Some c = whole-named (head k) name (piece k) 20 (head-length k) ∙ name-read name (piece k) w.named in
          let a : c ≡ pick (eqb k 0) c 0 = rw (eq-eqb k 0 z) in
          let b : 21 + c ≡ pick (eqb k 0) (21 + c) 20 = rw (eq-eqb k 0 z) in
          ap (read_datagram_lem C N) first-is
          ∙ read_first C N d q p (begins_at_lem c m k) k n (header (name ++ 0 ∷ piece k)) (omega arith) s w.few h w.limited c (length (piece k)) z e (omega arith) form-good
          ∙ λ i. Good (record { small = false; sequence = q; size = p; offset = begins_at_lem c m k; number = k; count = n; name = record { at = 20; len = a i }; payload = record { at = b i; len = length (piece k) } })

      first-name : take (pick (eqb k 0) c 0) (drop 20 (datagram_of q name payload m k)) ≡ pick (eqb k 0) name []
      first-name = rw (eq-eqb k 0 z) (ap (λ (d : List ℕ). take c (drop 20 d)) first-is ∙ whole-name (head k) name (piece k) 20 (head-length k))

      first-bytes : take (length (piece k)) (drop (pick (eqb k 0) (21 + c) 20) (datagram_of q name payload m k)) ≡ piece k
      first-bytes = rw (eq-eqb k 0 z) (ap (λ (d : List ℕ). take (length (piece k)) (drop (21 + c) d)) first-is ∙ whole-payload (head k) name (piece k) 20 (head-length k) (21 + c) refl)

    module _ (z : k ≡ 0 → ⊥) where
      later-is : datagram_of q name payload m k ≡ head k ++ piece k
      later-is = is-fragment ∙ fragment-later q name payload m n k z

      later-carries : carries c m k ≡ m - 20
      later-carries = rw (ne_eqb k 0 z)

      later-reads : read_datagram_lem C N (datagram_of q name payload m k) ≡ Good (cut_header q name payload m k)
      unfolding good_form
      later-reads =
          let d : List ℕ = head k ++ piece k in
          let l : length d ≡ 20 + length (piece k) = length-append (head k) (piece k) ∙ ap (λ (x : ℕ). x + length (piece k)) (head-length k) in
          let s : length d ≤ max_datagram = omega (arith, later-carries, piece-length name payload m k, w.sized.least, w.sized.most) in
          let a : 0 ≡ pick (eqb k 0) c 0 = rw (ne_eqb k 0 z) in
          let b : 20 ≡ pick (eqb k 0) (21 + c) 20 = rw (ne_eqb k 0 z) in
          ap (read_datagram_lem C N) later-is
          ∙ read-later C N d q p (begins_at_lem c m k) k n (header (piece k)) (omega arith) s w.few h w.limited (length (piece k)) z (omega arith) form-good
          ∙ λ i. Good (record { small = false; sequence = q; size = p; offset = begins_at_lem c m k; number = k; count = n; name = record { at = 20; len = a i }; payload = record { at = b i; len = length (piece k) } })

      later-name : take (pick (eqb k 0) c 0) (drop 20 (datagram_of q name payload m k)) ≡ pick (eqb k 0) name []
      later-name = rw (ne_eqb k 0 z)

      later-bytes : take (length (piece k)) (drop (pick (eqb k 0) (21 + c) 20) (datagram_of q name payload m k)) ≡ piece k
      later-bytes = rw (ne_eqb k 0 z) (ap (λ (d : List ℕ). take (length (piece k)) (drop 20 d)) later-is ∙ ending (head k) (piece k) 20 (head-length k))

    -- each fragment reads back, as places and as what stands there
    pub fragment-reads : read_datagram_lem C N (datagram_of q name payload m k) ≡ Good (cut_header q name payload m k)
    fragment-reads = elim (ℕ_discrete k 0) [ yes z ↦ first_reads z | no z ↦ later-reads z ]

    pub fragment-said : said C N (datagram_of q name payload m k) ≡ fragment (cut_fragment q name payload m k)
    unfolding said
    fragment-said =
        let d : List ℕ = datagram_of q name payload m k in
        let a : part_of d (cut_header q name payload m k).name ≡ pick (eqb k 0) name [] = elim (ℕ_discrete k 0) [ yes z ↦ first-name z | no z ↦ later-name z ] in
        let b : part_of d (cut_header q name payload m k).payload ≡ piece k = elim (ℕ_discrete k 0) [ yes z ↦ first-bytes z | no z ↦ later-bytes z ] in
        ap (says d) fragment-reads
        ∙ λ i. fragment (record { sequence = q; size = p; offset = begins_at_lem c m k; number = k; count = n; name = a i; bytes = b i })

  -- the fragments of a message are lawfully cut
  pub lawfully-cut : LawfullyCut C N n (datagram_of q name payload m)
  lawfully-cut = record {
    at_least_one = count-some c p m w.sized large;
    sequence = q;
    size = p;
    piece = cut_fragment q name payload m;
    good = fragment-said;
    numbers = λ k h. refl;
    sequences = λ k h. refl;
    sizes = λ k h. refl;
    counts = λ k h. refl;
    follows = λ k h. begins-next c m k ∙ ap (λ (x : ℕ). begins_at_lem c m k + x) (sym (piece-full name payload m w.sized large k h));
  }

-- ---- small datagrams

module _ (C N q : ℕ) (name payload : List ℕ) (m : ℕ) (w : Cuttable C N q name payload m) (is-small : is_small (length name) (length payload) m ≡ true) (k : ℕ) where
  abbrev front : List ℕ
  front = bytes 4 small_magic ++ bytes 4 q

  front_length : length front ≡ 8
  front_length = simp (length-append, length-bytes)

  small_is : datagram_of q name payload m k ≡ whole front name payload 8 front_length
  unfolding datagram_of small_bytes bytes
  small_is = rw is-small (simp append_assoc)

  -- a small datagram reads back, as places and as what stands there
  pub small-reads : read_datagram_lem C N (datagram_of q name payload m k) ≡ Good (small_header q name payload)
  unfolding read_datagram_lem read_small_lem
  small-reads =
      let d : List ℕ = whole front name payload 8 front_length in
      let l = whole_length front name payload 8 front_length in
      let t : 9 + length name + length payload ≤ m = leb-true (9 + length name + length payload) m is-small in
      let s : length d ≤ max_datagram = omega (arith, w.sized.most) in
      let g : 8 ≤ length d = omega arith in
      let a : num 4 0 d ≡ small_magic = num-at d [] (bytes 4 q ++ (name ++ 0 ∷ payload)) 4 small_magic 0 (simp append_assoc) refl (omega arith) in
      let b : num 4 4 d ≡ q = num-at d (bytes 4 small_magic) (name ++ 0 ∷ payload) 4 q 4 (simp append_assoc) (simp length-bytes) w.sequence in
      let e : name_length_lem (drop 8 d) ≡ Some (length name) = whole-named front name payload 8 front_length ∙ name-read name payload w.named in
      let f : length d - (9 + length name) ≡ length payload = omega arith in
      ap (read_datagram_lem C N) small_is
      ∙ rw (le-ltb max_datagram (length d) s, le-ltb (length d) 8 g, a, e, b, f)

  pub small-said : said C N (datagram_of q name payload m k) ≡ small q name payload
  unfolding said
  small-said =
      let a : take (length name) (drop 8 (datagram_of q name payload m k)) ≡ name = ap (λ (d : List ℕ). take (length name) (drop 8 d)) small_is ∙ whole-name front name payload 8 front_length in
      let b : take (length payload) (drop (9 + length name) (datagram_of q name payload m k)) ≡ payload =
      ap (λ (d : List ℕ). take (length payload) (drop (9 + length name) d)) small_is ∙ whole-payload front name payload 8 front_length (9 + length name) refl in
      ap (says (datagram_of q name payload m k)) small-reads
      ∙ λ i. small q (a i) (b i)

-- Every datagram of a message says what it was cut from.
pub cut-said : (C N q : ℕ) (name payload : List ℕ) (m : ℕ) → Cuttable C N q name payload m → (k : ℕ) → k < count_of (length name) (length payload) m
    → said C N (datagram_of q name payload m k) ≡ cut_said q name payload m k
cut-said C N q name payload m w k h = go (is_small (length name) (length payload) m) refl
  where
    go : (b : Bool) → is_small (length name) (length payload) m ≡ b
        → said C N (datagram_of q name payload m k) ≡ pick b (small q name payload) (fragment (cut_fragment q name payload m k))
    go true e = small-said C N q name payload m w e k
    go false e = fragment-said C N q name payload m w e k h
