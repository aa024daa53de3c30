-- Records that are laid one after another are the records of their bytes: no more, no fewer, each as it was. Assumes nothing.
use Rattle.wire.proofs.Basics.{◌∙◌, ◌≡◌, ap, ℕ, ◌≤◌, ◌+◌, ◌<◌, suc, zero, min, List, [], ◌∷◌, ◌++◌, true, length, drop, length-append, drop_of_length-le, take_all, drop_at, slice, take_at, arith}
use Rattle.stream.specs.declared.Kind.{Kind}
use Rattle.stream.specs.Records.{head_of, body_length_lem, is_whole, holds}
use Rattle.stream.proofs.Taking.{body-front, whole-true}
use Rattle.record_lines.specs.Streams.{Rec, first_of, after_first, Stream, ended, also, records_in}
use Rattle.record_lines.proofs.Streams.{records-none, records-more}

-- a record whose head tells the length of its body, which a buffer of n bytes holds
pub record Good (kind : Kind) (n : ℕ) (x : Rec) : Type 0 where
  pub head : length x.head ≡ head_of kind
  pub body : body_length_lem kind x.head ≡ length x.body
  pub held : length x.body ≤ holds kind n

abbrev pub AllGood : Kind → ℕ → List Rec → Type 0
AllGood kind n [] = Unit
AllGood kind n (x ∷ xs) = Good kind n x × AllGood kind n xs

-- their bytes, one after another, and the stream that they are
abbrev pub laid : List Rec → List ℕ
laid [] = []
laid (x ∷ xs) = (x.head ++ x.body) ++ laid xs

abbrev pub stream_of : List Rec → Stream
stream_of [] = ended
stream_of (x ∷ xs) = also x (stream_of xs)

module _ (kind : Kind) (n : ℕ) (x : Rec) (g : Good kind n x) where
  abbrev b : List ℕ
  b = x.head ++ x.body

  long : length b ≡ head_of kind + length x.body
  long = length-append x.head x.body ∙ ap (λ (k : ℕ). k + length x.body) g.head

  told : body_length_lem kind b ≡ length x.body
  told = body-front kind x.head x.body (omega (arith, g.head)) ∙ g.body

  whole : is_whole kind b ≡ true
  whole = whole-true kind b (omega (arith, long)) (omega (arith, long, told))

  first : first_of kind n b ≡ x
  first =
      let size : min (body_length_lem kind b) (holds kind n) ≡ length x.body = omega (arith, told, g.held) in
      λ j.
      record {
        head = take_at x.head x.body (head_of kind) g.head j;
        body =
            (ap (λ (k : ℕ). slice (head_of kind) (head_of kind + k) b) size
            ∙ ap (drop (head_of kind)) (take_all (head_of kind + length x.body) b (omega (arith, long)))
            ∙ drop_at x.head x.body (head_of kind) g.head) j;
      }

  after : after_first kind b ≡ []
  after = drop_of_length-le b (let z : length b ≤ head_of kind + body_length_lem kind b = omega (arith, long, told) in z)

pub records-back : (kind : Kind) (n m : ℕ) → head_of kind + 1 < n → (xs : List Rec) → AllGood kind n xs → length xs < m → records_in m kind n (laid xs) ≡ stream_of xs
records-back kind n zero room xs a h = absurd (let z : ⊥ = omega arith in z)
records-back kind n (suc m) room [] a h = records-none kind n room m
records-back kind n (suc m) room (x ∷ xs) a h =
    records-more kind n room m (x.head ++ x.body) (laid xs) (whole kind n x a.0)
    ∙ (λ j. also (first kind n x a.0 j) (records_in m kind n (after kind n x a.0 j ++ laid xs)))
    ∙ ap (also x) (records-back kind n m room xs a.1 (omega arith))
