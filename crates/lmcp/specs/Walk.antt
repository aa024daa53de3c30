-- The walk of an object, once for both directions: an object is its type (0 for null), then its fields; a variable array is its
-- count, then its elements; a fixed one only its elements. Definitions only.
use Rattle.std.specs.Prelude.{Bool, true, false, List, [], ◌∷◌, ℕ, zero, suc, eqb}
use Rattle.wire.specs.Choice.{pick}
use Rattle.lmcp.specs.declared.Row.{Row}
use Rattle.lmcp.specs.Limits.{deepest}
use Rattle.lmcp.specs.Run.{Run, got, refused, Tag, tag, bad, and_then, after, repeat}
use Rattle.lmcp.specs.Table.{object_kind, Table, fields_of}

-- a direction: how it takes a value of a kind in so many bytes, a count in so many bytes, and the head of an object of a
-- declared type where objects may still nest so deep
pub record Way (A B : Type 0) : Type 0 where
  pub value : ℕ → ℕ → List A → Run A B
  pub count : ℕ → List A → Tag A B
  pub head : ℕ → ℕ → List A → Tag A B

-- fields, where obj walks an object of a declared type
module _ {A B : Type 0} (W : Way A B) (obj : ℕ → List A → Run A B) where
  unfoldable pub item : Row → List A → Run A B
  item f l = pick (eqb f.kind object_kind) (obj f.arg l) (W.value f.kind f.arg l)

  unfoldable pub field : Row → List A → Run A B
  field f l = pick (eqb f.count 0) (repeat f.fixed (item f) l) (after (W.count f.count l) (λ n. repeat n (item f)))

  unfoldable pub fields : List Row → List A → Run A B
  fields [] l = got [] l
  fields (f ∷ fs) l = and_then (field f l) (fields fs)

-- no object at all
abbrev pub is_null : {A B : Type 0} → Tag A B → Bool
is_null (tag zero ys r) = true
is_null (tag (suc n) ys r) = false
is_null (bad n) = false

module _ {A B : Type 0} (W : Way A B) (T : Table) where
  -- an object of the declared type t (0: any), where objects may still nest d deep; with none left only null passes the head
  unfoldable pub object : ℕ → ℕ → List A → Run A B
  object zero t l = after (W.head zero t l) (λ n. got [])
  object (suc d) t l = after (W.head (suc d) t l) (λ n. fields W (object d) (fields_of T n))

  -- a root may not be null
  unfoldable pub root : List A → Run A B
  root l = pick (is_null (W.head deepest 0 l)) (refused 23) (object deepest 0 l)
