-- A message that is lawfully cut: its fragments lie side by side and make up its payload.
use Rattle.wire.proofs.Basics.{◌∙◌, sym, ◌≡◌, ap, refl, subst, ℕ, ◌≤◌, ◌+◌, ◌<◌, suc, zero, List, [], ◌++◌, length, drop, get_or, take, length-append, length-drop, length-take-le, get_or-drop, get_or-take}
use Rattle.wire.proofs.Basics.{take-add, take-length, ext_get_or, not-suc-le-zero, le_refl, ℕ_discrete, add-one, arith}
use Rattle.datagram.specs.Limits.{max_payload, max_fragments}
use Rattle.datagram.specs.Said.{Fragment, Said, refused, small, fragment, said}
use Rattle.datagram.specs.Lawful.{LawfullyCut}
use Rattle.datagram.proofs.Saids.{Formed, fragment-formed}
use Rattle.cutter.specs.Trip.{joined}
use Rattle.arrival.specs.Demand.{Message, parts, datagram, InFragments, SentCut}
use Rattle.arrival.proofs.Within.{fragment-within}

abbrev no_fragment : Fragment
no_fragment = record { sequence = 0; size = 0; offset = 0; number = 0; count = 0; name = []; bytes = [] }

abbrev pub fragment_said : Said → Fragment
fragment_said (refused n) = no_fragment
fragment_said (small q name payload) = no_fragment
fragment_said (fragment f) = f

-- fragment k of m, as a receiver with slots of C bytes reads it
abbrev pub piece : ℕ → Message → ℕ → Fragment
piece C m k = fragment_said (said C max_fragments (datagram m k))

pub record Cut (C : ℕ) (m : Message) : Type 0 where
  pub some-parts : 0 < parts m
  pub reads : (k : ℕ) → k < parts m → said C max_fragments (datagram m k) ≡ fragment (piece C m k)
  pub formed : (k : ℕ) → k < parts m → Formed C max_fragments (piece C m k)
  pub its-number : (k : ℕ) → k < parts m → (piece C m k).number ≡ k
  pub its-sequence : (k : ℕ) → k < parts m → (piece C m k).sequence ≡ m.sequence
  pub its-size : (k : ℕ) → k < parts m → (piece C m k).size ≡ length m.payload
  pub its-count : (k : ℕ) → k < parts m → (piece C m k).count ≡ parts m
  pub its-name : (piece C m 0).name ≡ m.name
  pub begins : (k : ℕ) → k < parts m → length (joined (λ j. (piece C m j).bytes) k) ≡ (piece C m k).offset
  pub whole : joined (λ j. (piece C m j).bytes) (parts m) ≡ m.payload

-- ---- fragments one after another

joined_same : (a b : ℕ → List ℕ) (n : ℕ) → ((k : ℕ) → k < n → a k ≡ b k) → joined a n ≡ joined b n
unfolding joined
joined_same a b zero h = refl
joined_same a b (suc n) h = rw (joined_same a b n (λ k l. h k (omega arith)), h n (le_refl (suc n)))

joined_length : (a : ℕ → List ℕ) (n : ℕ) → length (joined a (suc n)) ≡ length (joined a n) + length (a n)
unfolding joined
joined_length a n = length-append (joined a n) (a n)

module _ (n : ℕ) (fr : ℕ → Fragment) (at-start : (fr 0).offset ≡ 0)
    (follows : (k : ℕ) → k + 1 < n → (fr (k + 1)).offset ≡ (fr k).offset + length (fr k).bytes) where
  -- each begins where those before it end
  begin-at : (k : ℕ) → k < n → length (joined (λ j. (fr j).bytes) k) ≡ (fr k).offset
  unfolding joined
  begin-at zero h = sym at-start
  begin-at (suc k) h =
      joined_length (λ j. (fr j).bytes) k
      ∙ ap (λ (x : ℕ). x + length (fr k).bytes) (begin-at k (omega arith))
      ∙ sym (rw add-one at (follows k (omega arith)))

-- ---- lawful cutting gives it

module _ (C : ℕ) (m : Message) (l : InFragments m) (no-larger : l.cut.size ≤ C) where
  abbrev cut : LawfullyCut max_payload max_fragments (parts m) (datagram m)
  cut = l.cut

  fr-size : (k : ℕ) → k < parts m → (cut.piece k).size ≤ C
  fr-size k h = subst (λ (x : ℕ). x ≤ C) (sym (cut.sizes k h)) no-larger

  said_here : (k : ℕ) → k < parts m → said C max_fragments (datagram m k) ≡ fragment (cut.piece k)
  said_here k h = fragment-within C max_payload max_fragments (datagram m k) (cut.piece k) (cut.good k h) (fr-size k h)

  piece_is : (k : ℕ) → k < parts m → piece C m k ≡ cut.piece k
  piece_is k h = ap fragment_said (said_here k h)

  fr-formed : (k : ℕ) → k < parts m → Formed C max_fragments (cut.piece k)
  fr-formed k h = fragment-formed C max_fragments (datagram m k) (cut.piece k) (said_here k h)

  fr-begins : (k : ℕ) → k < parts m → length (joined (λ j. (cut.piece j).bytes) k) ≡ (cut.piece k).offset
  fr-begins = begin-at (parts m) cut.piece ((fr-formed 0 l.cut.at_least_one).first (cut.numbers 0 l.cut.at_least_one)) cut.follows

  -- P is the payload's length
  whole-size : cut.size ≡ length m.payload
  whole-size = go (parts m) refl
    where
      go : (n : ℕ) → n ≡ parts m → cut.size ≡ length m.payload
      go zero e = absurd (let z : ⊥ = omega (arith, l.cut.at_least_one) in z)
      go (suc k) e =
          let h : k < parts m = omega arith in
          sym (cut.sizes k h)
          ∙ sym ((fr-formed k h).last (ap (λ (x : ℕ). x + 1) (cut.numbers k h) ∙ add-one k ∙ e ∙ sym (cut.counts k h)))
          ∙ ap (λ (x : ℕ). x + length (cut.piece k).bytes) (sym (fr-begins k h))
          ∙ sym (joined_length (λ j. (cut.piece j).bytes) k)
          ∙ ap (λ (x : ℕ). length (joined (λ j. (cut.piece j).bytes) x)) e
          ∙ ap length l.its-payload

  bytes-are : (k : ℕ) → k < parts m → (piece C m k).bytes ≡ (cut.piece k).bytes
  bytes-are k h = ap (λ (f : Fragment). f.bytes) (piece_is k h)

  pub cut-within : Cut C m
  cut-within = record {
    some-parts = l.cut.at_least_one;
    reads = λ k h. said_here k h ∙ ap fragment (sym (piece_is k h));
    formed = λ k h. subst (Formed C max_fragments) (sym (piece_is k h)) (fr-formed k h);
    its-number = λ k h. ap (λ (f : Fragment). f.number) (piece_is k h) ∙ cut.numbers k h;
    its-sequence = λ k h. ap (λ (f : Fragment). f.sequence) (piece_is k h) ∙ cut.sequences k h ∙ l.its-sequence;
    its-size = λ k h. ap (λ (f : Fragment). f.size) (piece_is k h) ∙ cut.sizes k h ∙ whole-size;
    its-count = λ k h. ap (λ (f : Fragment). f.count) (piece_is k h) ∙ cut.counts k h;
    its-name = ap (λ (f : Fragment). f.name) (piece_is 0 l.cut.at_least_one) ∙ l.its-name;
    begins = λ k h.
        ap length (joined_same (λ j. (piece C m j).bytes) (λ j. (cut.piece j).bytes) k (λ j b. bytes-are j (omega arith)))
        ∙ fr-begins k h ∙ ap (λ (f : Fragment). f.offset) (sym (piece_is k h));
    whole = joined_same (λ j. (piece C m j).bytes) (λ j. (cut.piece j).bytes) (parts m) bytes-are ∙ l.its-payload;
  }

pub cut_of : (C : ℕ) (m : Message) → SentCut C m → Cut C m
cut_of C m s = cut-within C m s.lawful s.no-larger

-- ---- its laws

module _ {C : ℕ} {m : Message} (c : Cut C m) where
  abbrev bytes : ℕ → List ℕ
  bytes k = (piece C m k).bytes

  -- a fragment ends where the next begins
  pub piece-next : (k : ℕ) → suc k < parts m → (piece C m k).offset + length (piece C m k).bytes ≡ (piece C m (suc k)).offset
  piece-next k h = ap (λ (x : ℕ). x + length (bytes k)) (sym (c.begins k (omega arith))) ∙ sym (joined_length bytes k) ∙ c.begins (suc k) h

  -- an earlier one ends before a later begins
  pub piece-before : (j k : ℕ) → j < k → k < parts m → (piece C m j).offset + length (piece C m j).bytes ≤ (piece C m k).offset
  piece-before j zero h b = absurd (not-suc-le-zero h)
  piece-before j (suc k) h b = elim (ℕ_discrete j k) [
    | yes q ↦ rw q (omega (arith, piece-next k b))
    | no q ↦ omega (arith, piece-next k b, piece-before j k (omega arith) (omega arith))
  ]

  pub piece-end : (k : ℕ) → k < parts m → (piece C m k).offset + length (piece C m k).bytes ≤ length m.payload
  piece-end k h = subst (λ (x : ℕ). (piece C m k).offset + length (piece C m k).bytes ≤ x) (c.its-size k h) (c.formed k h).inside

  pub payload-fits : length m.payload ≤ C
  payload-fits = subst (λ (x : ℕ). x ≤ C) (c.its-size 0 c.some-parts) (c.formed 0 c.some-parts).fits

  pub few-parts : parts m ≤ max_fragments
  few-parts = subst (λ (x : ℕ). x ≤ max_fragments) (c.its-count 0 c.some-parts) (c.formed 0 c.some-parts).few

  -- bytes that agree with every fragment are the payload
  module _ (l : List ℕ) (long : length l ≡ length m.payload)
      (agree : (k x : ℕ) → k < parts m → x < length (piece C m k).bytes → get_or l ((piece C m k).offset + x) 0 ≡ get_or (piece C m k).bytes x 0) where
    part-is : (k : ℕ) → k < parts m → take (length (bytes k)) (drop (piece C m k).offset l) ≡ bytes k
    part-is k h =
        let o : ℕ = (piece C m k).offset in
        let n : length (take (length (bytes k)) (drop o l)) ≡ length (bytes k) =
        length-take-le (length (bytes k)) (drop o l) (omega (arith, length-drop o l, piece-end k h)) in
        ext_get_or 0 (take (length (bytes k)) (drop o l)) (bytes k) n (λ x b.
        get_or-take (length (bytes k)) (drop o l) x 0 (omega arith) ∙ get_or-drop o l x 0 ∙ agree k x h (omega arith))

    front-is : (k : ℕ) → k ≤ parts m → take (length (joined bytes k)) l ≡ joined bytes k
    unfolding joined
    front-is zero h = refl
    front-is (suc k) h =
        ap (λ (x : ℕ). take x l) (joined_length bytes k)
        ∙ take-add (length (joined bytes k)) (length (bytes k)) l
        ∙ ap (λ (x : List ℕ). x ++ take (length (bytes k)) (drop (length (joined bytes k)) l)) (front-is k (omega arith))
        ∙ ap (λ (x : ℕ). joined bytes k ++ take (length (bytes k)) (drop x l)) (c.begins k h)
        ∙ ap (λ (x : List ℕ). joined bytes k ++ x) (part-is k h)

    pub payload-of : l ≡ m.payload
    payload-of =
        sym (take-length l)
        ∙ ap (λ (x : ℕ). take x l) (long ∙ ap length (sym c.whole))
        ∙ front-is (parts m) (le_refl (parts m))
        ∙ c.whole
