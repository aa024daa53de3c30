-- What a walk along a list gives: what it makes and what is left, or the number of a refusal. The reader walks bytes and makes
-- numbers, the writer walks numbers and makes bytes. Definitions only.
use Rattle.std.specs.Prelude.{List, [], ◌∷◌, ◌++◌, ℕ, zero, suc}

pub data Run (A B : Type 0) : Type 0 where
  got : List B → List A → Run A B
  refused : ℕ → Run A B

-- a count or a type on the way: the number itself, what is made of it, and what is left
pub data Tag (A B : Type 0) : Type 0 where
  tag : ℕ → List B → List A → Tag A B
  bad : ℕ → Tag A B

module _ {A B : Type 0} where
  -- ys before what is got
  unfoldable pub prepend : List B → Run A B → Run A B
  prepend ys (got zs r) = got (ys ++ zs) r
  prepend ys (refused n) = refused n

  -- one after the other: k goes on where the first left off
  unfoldable pub and_then : Run A B → (List A → Run A B) → Run A B
  and_then (got ys r) k = prepend ys (k r)
  and_then (refused n) k = refused n

  -- k goes on by the number
  unfoldable pub after : Tag A B → (ℕ → List A → Run A B) → Run A B
  after (tag n ys r) k = prepend ys (k n r)
  after (bad n) k = refused n

  -- f, n times
  unfoldable pub repeat : ℕ → (List A → Run A B) → List A → Run A B
  repeat zero f l = got [] l
  repeat (suc n) f l = and_then (f l) (repeat n f)

  -- nothing may be left
  unfoldable pub whole : Run A B → Run A B
  whole (got ys []) = got ys []
  whole (got ys (x ∷ r)) = refused 28
  whole (refused n) = refused n
