-- What holds of the pieces that a walk makes and of the numbers by which it refuses holds of the walk of a whole root. Assumes nothing.
use Rattle.wire.proofs.Basics.{ℕ, suc, zero, List, [], ◌∷◌, ◌++◌, eqb}
use Rattle.wire.proofs.Choices.{pick_all}
use Rattle.lmcp.specs.declared.Row.{Row}
use Rattle.lmcp.specs.Limits.{deepest}
use Rattle.lmcp.specs.Run.{Run, got, refused, Tag, tag, bad, prepend, and_then, after, repeat}
use Rattle.lmcp.specs.Table.{object_kind, Table, fields_of}
use Rattle.lmcp.specs.Walk.{Way, item, field, fields, is_null, object, root}

-- Q of what is made, N of the number of a refusal
module _ {A B : Type 0} (Q : List B → Type 0) (N : ℕ → Type 0) where
  abbrev pub Fine : Run A B → Type 0
  Fine (got ys r) = Q ys
  Fine (refused n) = N n

  abbrev pub FineTag : Tag A B → Type 0
  FineTag (tag n ys r) = Q ys
  FineTag (bad n) = N n

  pub record Pieces (W : Way A B) : Type 0 where
    pub none : Q []
    pub both : (a b : List B) → Q a → Q b → Q (a ++ b)
    pub null-root : N 23
    pub values : (k w : ℕ) (l : List A) → Fine (W.value k w l)
    pub counts : (w : ℕ) (l : List A) → FineTag (W.count w l)
    pub heads : (d t : ℕ) (l : List A) → FineTag (W.head d t l)

  module _ (W : Way A B) (pieces : Pieces W) where
    fine-prepend : (ys : List B) (X : Run A B) → Q ys → Fine X → Fine (prepend ys X)
    unfolding prepend
    fine-prepend ys (got zs r) p q = pieces.both ys zs p q
    fine-prepend ys (refused n) p q = q

    fine-then : (X : Run A B) (k : List A → Run A B) → Fine X → ((l : List A) → Fine (k l)) → Fine (and_then X k)
    unfolding and_then
    fine-then (got ys r) k p q = fine-prepend ys (k r) p (q r)
    fine-then (refused n) k p q = p

    fine-after : (X : Tag A B) (k : ℕ → List A → Run A B) → FineTag X → ((n : ℕ) (l : List A) → Fine (k n l)) → Fine (after X k)
    unfolding after
    fine-after (tag n ys r) k p q = fine-prepend ys (k n r) p (q n r)
    fine-after (bad n) k p q = p

    fine-repeat : (n : ℕ) (f : List A → Run A B) → ((l : List A) → Fine (f l)) → (l : List A) → Fine (repeat n f l)
    unfolding repeat
    fine-repeat zero f p l = pieces.none
    fine-repeat (suc n) f p l = fine-then (f l) (repeat n f) (p l) (fine-repeat n f p)

    module _ (obj : ℕ → List A → Run A B) (objs : (t : ℕ) (l : List A) → Fine (obj t l)) where
      fine-item : (f : Row) (l : List A) → Fine (item W obj f l)
      unfolding item
      fine-item f l = pick_all Fine (eqb f.kind object_kind) (λ e. objs f.arg l) (λ e. pieces.values f.kind f.arg l)

      fine-field : (f : Row) (l : List A) → Fine (field W obj f l)
      unfolding field
      fine-field f l =
          pick_all Fine (eqb f.count 0) (λ e. fine-repeat f.fixed (item W obj f) (fine-item f) l)
          (λ e. fine-after (W.count f.count l) (λ n. repeat n (item W obj f)) (pieces.counts f.count l) (λ n. fine-repeat n (item W obj f) (fine-item f)))

      fine-fields : (fs : List Row) (l : List A) → Fine (fields W obj fs l)
      unfolding fields
      fine-fields [] l = pieces.none
      fine-fields (f ∷ fs) l = fine-then (field W obj f l) (fields W obj fs) (fine-field f l) (fine-fields fs)

    fine-object : (T : Table) (d t : ℕ) (l : List A) → Fine (object W T d t l)
    unfolding object
    fine-object T zero t l = fine-after (W.head zero t l) (λ n. got []) (pieces.heads zero t l) (λ n m. pieces.none)
    fine-object T (suc d) t l =
        fine-after (W.head (suc d) t l) (λ n. fields W (object W T d) (fields_of T n)) (pieces.heads (suc d) t l)
        (λ n. fine-fields (object W T d) (fine-object T d) (fields_of T n))

    pub fine-root : (T : Table) (l : List A) → Fine (root W T l)
    unfolding root
    fine-root T l = pick_all Fine (is_null (W.head deepest 0 l)) (λ e. pieces.null-root) (λ e. fine-object T deepest 0 l)
