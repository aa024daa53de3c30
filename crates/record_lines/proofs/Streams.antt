-- The records of an input: which one comes first, and that bytes which come later change nothing of it. Assumes nothing.
use Rattle.wire.proofs.Basics.{◌∙◌, sym, ◌≡◌, ap, refl, ℕ, ◌≤◌, ◌+◌, ◌<◌, suc, zero, min, List, [], ◌∷◌, ◌++◌, true, false, Bool, inl, inr, length, drop, length-append, length-drop, slice}
use Rattle.wire.proofs.Basics.{drop-append-le, leb, le-leb, lt-leb, leb-true, arith}
use native.Mathlib.Decide.{dec_lt}
use lib.Seq.{take-append-le}
use Rattle.wire.specs.Choice.{pick}
use Rattle.wire.proofs.Choices.{and_l, and_r, either, never}
use Rattle.stream.specs.declared.Kind.{Kind}
use Rattle.stream.specs.Records.{head_of, body_length_lem, is_whole, holds}
use Rattle.stream.proofs.Slices.{slice-append}
use Rattle.stream.proofs.Taking.{body-front, whole-true, whole-none, some-head}
use Rattle.record_lines.specs.Streams.{first_of, after_first, Stream, ended, cut, also, if_whole, read_by, up_to, records_in}

-- ---- a whole record

pub record Sized (kind : Kind) (b : List ℕ) : Type 0 where
  pub head : head_of kind ≤ length b
  pub body : head_of kind + body_length_lem kind b ≤ length b

pub sized : (kind : Kind) (b : List ℕ) → is_whole kind b ≡ true → Sized kind b
unfolding is_whole
sized kind b h =
    let one : Bool = leb (head_of kind) (length b) in
    let two : Bool = leb (head_of kind + body_length_lem kind b) (length b) in
    record { head = leb-true (head_of kind) (length b) (and_l one two h); body = leb-true (head_of kind + body_length_lem kind b) (length b) (and_r one two h) }

module _ (kind : Kind) (b more : List ℕ) (h : is_whole kind b ≡ true) where
  same_body : body_length_lem kind (b ++ more) ≡ body_length_lem kind b
  same_body = body-front kind b more (sized kind b h).head

  whole-more : is_whole kind (b ++ more) ≡ true
  whole-more =
      let z = sized kind b h in
      let l = length-append b more in
      let e = same_body in
      whole-true kind (b ++ more) (omega (arith, z.head)) (omega (arith, z.body))

  first_more : (n : ℕ) → first_of kind n (b ++ more) ≡ first_of kind n b
  first_more n =
      let z = sized kind b h in
      let size : ℕ → ℕ = λ (k : ℕ). min k (holds kind n) in
      let low : head_of kind + size (body_length_lem kind b) ≤ length b = omega (arith, z.body) in
      λ j.
      record {
        head = take-append-le (head_of kind) b more z.head j;
        body =
            (ap (λ (k : ℕ). slice (head_of kind) (head_of kind + size k) (b ++ more)) same_body
            ∙ slice-append b more (head_of kind) (head_of kind + size (body_length_lem kind b)) low) j;
      }

  after_more : after_first kind (b ++ more) ≡ after_first kind b ++ more
  after_more =
      ap (λ (k : ℕ). drop (head_of kind + k) (b ++ more)) same_body
      ∙ drop-append-le (head_of kind + body_length_lem kind b) b more (sized kind b h).body

-- ---- as many turns as there are bytes are enough

module _ (kind : Kind) (n : ℕ) where
  whole-turn : (rest : List ℕ → Stream) (b : List ℕ) → is_whole kind b ≡ true → if_whole (is_whole kind b) rest kind n b ≡ also (first_of kind n b) (rest (after_first kind b))
  whole-turn rest b h = ap (λ (t : Bool). if_whole t rest kind n b) h

  cut-turn : (rest : List ℕ → Stream) (b : List ℕ) → is_whole kind b ≡ false → if_whole (is_whole kind b) rest kind n b ≡ cut
  cut-turn rest b h = ap (λ (t : Bool). if_whole t rest kind n b) h

  -- what follows a record is shorter
  shorter : (b : List ℕ) → is_whole kind b ≡ true → length (after_first kind b) < length b
  shorter b h =
      let z = sized kind b h in
      omega (arith, length-drop (head_of kind + body_length_lem kind b) b, (some-head kind).0, z.head)

  enough : (j k : ℕ) (b : List ℕ) → length b ≤ j → length b ≤ k → read_by j kind n b ≡ read_by k kind n b
  unfolding read_by
  enough zero zero b p q = refl
  enough zero (suc k) [] p q = refl
  enough zero (suc k) (x ∷ b) p q = absurd (let z : ⊥ = omega arith in z)
  enough (suc j) zero [] p q = refl
  enough (suc j) zero (x ∷ b) p q = absurd (let z : ⊥ = omega arith in z)
  enough (suc j) (suc k) [] p q = refl
  enough (suc j) (suc k) (x ∷ b) p q = elim (either (is_whole kind (x ∷ b))) [
    | inl h ↦
        let s = shorter (x ∷ b) h in
        whole-turn (read_by j kind n) (x ∷ b) h
        ∙ ap (also (first_of kind n (x ∷ b))) (enough j k (after_first kind (x ∷ b)) (omega arith) (omega arith))
        ∙ sym (whole-turn (read_by k kind n) (x ∷ b) h)
    | inr h ↦ cut-turn (read_by j kind n) (x ∷ b) h ∙ sym (cut-turn (read_by k kind n) (x ∷ b) h)
  ]

  reads-one : (b : List ℕ) → is_whole kind b ≡ true → read_by (length b) kind n b ≡ also (first_of kind n b) (read_by (length (after_first kind b)) kind n (after_first kind b))
  unfolding read_by
  reads-one [] h = never h (whole-none kind)
  reads-one (x ∷ b) h =
      let s = shorter (x ∷ b) h in
      whole-turn (read_by (length b) kind n) (x ∷ b) h
      ∙ ap (also (first_of kind n (x ∷ b))) (enough (length b) (length (after_first kind (x ∷ b))) (after_first kind (x ∷ b)) (omega arith) (omega arith))

  reads-cut : (b : List ℕ) → 0 < length b → is_whole kind b ≡ false → read_by (length b) kind n b ≡ cut
  unfolding read_by
  reads-cut [] z h = absurd (let w : ⊥ = omega arith in w)
  reads-cut (x ∷ b) z h = cut-turn (read_by (length b) kind n) (x ∷ b) h

-- ---- the records of an input

none_left : (s : Stream) → up_to s 0 ≡ cut
none_left ended = refl
none_left cut = refl
none_left (also x s) = refl

narrow : (kind : Kind) (n m : ℕ) (b : List ℕ) → n ≤ head_of kind + 1 → records_in m kind n b ≡ cut
unfolding records_in
narrow kind n m b r = ap (λ (t : Bool). pick t cut (up_to (read_by (length b) kind n b) m)) (le-leb n (head_of kind + 1) r)

module _ (kind : Kind) (n : ℕ) where
  module _ (room : head_of kind + 1 < n) where
    roomy : (m : ℕ) (b : List ℕ) → records_in m kind n b ≡ up_to (read_by (length b) kind n b) m
    unfolding records_in
    roomy m b = ap (λ (t : Bool). pick t cut (up_to (read_by (length b) kind n b) m)) (lt-leb n (head_of kind + 1) room)

    pub records-none : (m : ℕ) → records_in (suc m) kind n [] ≡ ended
    unfolding read_by
    records-none m = roomy (suc m) []

    records-one : (m : ℕ) (b : List ℕ) → is_whole kind b ≡ true → records_in (suc m) kind n b ≡ also (first_of kind n b) (records_in m kind n (after_first kind b))
    records-one m b h =
        roomy (suc m) b
        ∙ ap (λ (s : Stream). up_to s (suc m)) (reads-one kind n b h)
        ∙ ap (also (first_of kind n b)) (sym (roomy m (after_first kind b)))

    -- a whole record comes first, whatever comes later
    pub records-more : (m : ℕ) (b more : List ℕ) → is_whole kind b ≡ true
        → records_in (suc m) kind n (b ++ more) ≡ also (first_of kind n b) (records_in m kind n (after_first kind b ++ more))
    records-more m b more h =
        records-one m (b ++ more) (whole-more kind b more h)
        ∙ (λ j. also (first_more kind b more h n j) (records_in m kind n (after_more kind b more h j)))

  pub records-cut : (m : ℕ) (b : List ℕ) → (head_of kind + 1 < n → 0 < length b) → (head_of kind + 1 < n → is_whole kind b ≡ false) → records_in m kind n b ≡ cut
  records-cut m b some none = elim (dec_lt (head_of kind + 1) n) [
    | yes room ↦ roomy room m b ∙ ap (λ (s : Stream). up_to s m) (reads-cut kind n b (some room) (none room))
    | no r ↦ narrow kind n m b (omega arith)
  ]

  pub records-over : (b : List ℕ) → records_in 0 kind n b ≡ cut
  unfolding records_in
  records-over b = elim (leb n (head_of kind + 1)) as (λ (t : Bool). pick t cut (up_to (read_by (length b) kind n b) 0) ≡ cut) [
    | true ↦ refl
    | false ↦ none_left (read_by (length b) kind n b)
  ]
