-- INSIDE: what only private contracts use. Definitions only; no promise of a public function rests on them.
use Rattle.std.specs.Prelude.{◌≡◌, List, ◌++◌, ℕ, ◌+◌, ◌≤◌, ◌<◌, min, ◌-◌, length, take, drop, Option, Some, None}
use Rattle.std.proofs.Math.Seq.{slice}
use Rattle.stream.specs.declared.Input.{Input}
use Rattle.stream.specs.Records.{Next, Record, Cut, head_of, body_length_lem, unread}
use Rattle.stream.specs.declared.Kind.{Kind}

-- the same unread bytes, within a buffer of n
pub record Within (i : Input) (n : ℕ) (r : Input) : Type 0 where
  pub at : r.at ≡ min i.at r.end
  pub end : r.end ≡ min i.end n

-- the unread bytes, and after them what came; with room for `want` and one more
pub record Ready (before : List ℕ) (i : Input) (want : ℕ) (after : List ℕ) (r : Input) : Type 0 where
  pub order : r.at ≤ r.end
  pub within : r.end ≤ length after
  pub room : r.at + want < length after
  pub same_length : length after ≡ length before
  pub came : List ℕ
  pub joined : slice r.at r.end after ≡ slice i.at i.end before ++ came

-- the head of a record with a body of so many bytes is unread, in a buffer that holds one byte more
pub record Headed (kind : Kind) (b : List ℕ) (i : Input) (body : ℕ) : Type 0 where
  pub order : i.at ≤ i.end
  pub within : i.end ≤ length b
  pub room : head_of kind + 1 < length b
  pub head : head_of kind ≤ i.end - i.at
  pub is : body ≡ body_length_lem kind (unread b i)

-- the bytes from at up to end stand at the front
pub record Fronted (before : List ℕ) (at end : ℕ) (after : List ℕ) (r : ℕ) : Type 0 where
  pub count : r ≡ end - at
  pub same_length : length after ≡ length before
  pub front : take r after ≡ slice at end before

-- bytes came after a place, up to r; those before it stay
pub record Grown (before : List ℕ) (at : ℕ) (after : List ℕ) (r : ℕ) : Type 0 where
  pub from : at ≤ r
  pub within : r ≤ length after
  pub same_length : length after ≡ length before
  pub kept : take at after ≡ take at before

-- `rest` bytes after a place are gone, or the input has fewer
pub record Gone (before : List ℕ) (place end rest : ℕ) (after : List ℕ) (left : Input) : Type 0 where
  pub same_length : length after ≡ length before
  pub kept : take place after ≡ take place before
  pub came : List ℕ
  pub enough : rest ≤ length (slice place end before ++ came)
  pub now-unread : slice left.at left.end after ≡ drop rest (slice place end before ++ came)

pub record Lacking (before : List ℕ) (place end rest : ℕ) : Type 0 where
  pub came : List ℕ
  pub fewer : length (slice place end before ++ came) < rest

abbrev pub Dropped : List ℕ → ℕ → ℕ → ℕ → List ℕ → Option Input → Type 0
Dropped before place end rest after (Some left) = Gone before place end rest after left
Dropped before place end rest after None = Lacking before place end rest

-- the answer then
abbrev pub after_skip_lem : ℕ → ℕ → Option Input → Next
after_skip_lem at len (Some left) = Record at len left
after_skip_lem at len None = Cut
