-- A count is no promise of work: every element takes at least one byte, so an array holds no more elements than bytes are left, whatever its count
-- says, and a walk ends at the first refusal. Assumes nothing.
use Rattle.wire.proofs.Basics.{◌≡◌, subst, ℕ, ◌≤◌, ◌+◌, suc, zero, List, [], ◌∷◌, length, drop, length-drop, eqb, ltb, ℤ, ltb-false, eqb-false, arith}
use Rattle.wire.specs.Bytes.{be}
use Rattle.wire.proofs.Choices.{pick_all}
use Rattle.lmcp.specs.declared.Row.{Row}
use Rattle.lmcp.specs.Run.{got, refused, Tag, tag, bad, prepend, and_then, after, repeat}
use Rattle.lmcp.specs.Table.{object_kind, Table, RowFits, RowsFit, fields_of, rows_of}
use Rattle.lmcp.specs.Value.{fault}
use Rattle.lmcp.specs.Read.{Read, reading, judged, read_value, read_count, known, read_header, read_head}
use Rattle.lmcp.specs.Walk.{item, field, fields, object}
use Rattle.lmcp.proofs.Tables.{fields_fit}

-- of the bytes l at least k are taken
abbrev Takes : ℕ → List ℕ → Read → Type 0
Takes k l (got zs r) = k + length r ≤ length l
Takes k l (refused n) = Unit {0}

abbrev TakesTag : ℕ → List ℕ → Tag ℕ ℤ → Type 0
TakesTag k l (tag n zs r) = k + length r ≤ length l
TakesTag k l (bad n) = Unit {0}

takes-prepend : (k : ℕ) (l : List ℕ) (ys : List ℤ) (X : Read) → Takes k l X → Takes k l (prepend ys X)
unfolding prepend
takes-prepend k l ys (got zs r) h = h
takes-prepend k l ys (refused n) h = tt

takes-less : (k j : ℕ) (l m : List ℕ) (X : Read) → k + length m ≤ length l → Takes j m X → Takes (k + j) l X
takes-less k j l m (got zs r) h g = omega arith
takes-less k j l m (refused n) h g = tt

takes-then : (k j : ℕ) (l : List ℕ) (X : Read) (f : List ℕ → Read) → Takes k l X → ((m : List ℕ) → Takes j m (f m)) → Takes (k + j) l (and_then X f)
unfolding and_then
takes-then k j l (got ys m) f h g = takes-prepend (k + j) l ys (f m) (takes-less k j l m (f m) h (g m))
takes-then k j l (refused n) f h g = tt

takes-after : (k : ℕ) (l : List ℕ) (X : Tag ℕ ℤ) (f : ℕ → List ℕ → Read) → TakesTag k l X → ((n : ℕ) (m : List ℕ) → Takes 0 m (f n m)) → Takes k l (after X f)
unfolding after
takes-after k l (tag n ys m) f h g = takes-prepend k l ys (f n m) (subst (λ (j : ℕ). Takes j l (f n m)) (omega arith) (takes-less k 0 l m (f n m) h (g n m)))
takes-after k l (bad n) f h g = tt

-- n elements, of which each takes a byte, take n bytes
takes-repeat : (f : List ℕ → Read) → ((m : List ℕ) → Takes 1 m (f m)) → (n : ℕ) (l : List ℕ) → Takes n l (repeat n f l)
unfolding repeat
takes-repeat f h zero l = omega arith
takes-repeat f h (suc n) l =
    let e : 1 + n ≡ suc n = omega arith in
    subst (λ (k : ℕ). Takes k l (and_then (f l) (repeat n f))) e (takes-then 1 n l (f l) (repeat n f) (h l) (takes-repeat f h n))

takes_any : (k : ℕ) (l : List ℕ) (X : Read) → Takes k l X → Takes 0 l X
takes_any k l (got zs r) h = omega arith
takes_any k l (refused n) h = tt

-- ---- leaves: a value of at least a byte, a count, the existence byte of a head

value-takes : (k w : ℕ) → 1 ≤ w → (b : List ℕ) → Takes 1 b (read_value k w b)
unfolding read_value judged
value-takes k w h b =
    pick_all (Takes 1 b) (ltb (length b) w) (λ e. tt)
    (λ e. pick_all (Takes 1 b) (eqb (fault k (be w b)) 0) (λ q. rw length-drop (omega (arith, ltb-false (length b) w e))) (λ q. tt))

count-takes : (w : ℕ) (b : List ℕ) → TakesTag 0 b (read_count w b)
unfolding read_count
count-takes w b = pick_all (TakesTag 0 b) (ltb (length b) w) (λ e. tt) (λ e. rw length-drop (omega arith))

head-takes : (T : Table) (d t : ℕ) (b : List ℕ) → TakesTag 1 b (read_head T d t b)
unfolding read_head read_header
head-takes T d t b =
    pick_all (TakesTag 1 b) (ltb (length b) 1) (λ e. tt)
    (λ e. pick_all (TakesTag 1 b) (ltb 1 (be 1 b)) (λ q. tt)
    (λ q. pick_all (TakesTag 1 b) (eqb (be 1 b) 0) (λ q. rw length-drop (omega (arith, ltb-false (length b) 1 e)))
    (λ q. pick_all (TakesTag 1 b) (eqb d 0) (λ q. tt)
    (λ q. pick_all (TakesTag 1 b) (ltb (length (drop 1 b)) 14) (λ q. tt)
    (λ q. pick_all (TakesTag 1 b) (known T t (drop 1 b)) (λ q. simp length-drop (omega (arith, ltb-false (length b) 1 e))) (λ q. tt))))))

-- ---- elements, fields, objects

module _ (T : Table) (obj : ℕ → List ℕ → Read) (objs : (t : ℕ) (l : List ℕ) → Takes 1 l (obj t l)) where
  item-takes : (f : Row) → RowFits f → (l : List ℕ) → Takes 1 l (item (reading T) obj f l)
  unfolding item
  item-takes f s l =
      pick_all (Takes 1 l) (eqb f.kind object_kind) (λ e. objs f.arg l) (λ e. value-takes f.kind f.arg (s.arg-least (eqb-false f.kind object_kind e)) l)

  field-takes : (f : Row) → RowFits f → (l : List ℕ) → Takes 0 l (field (reading T) obj f l)
  unfolding field
  field-takes f s l =
      pick_all (Takes 0 l) (eqb f.count 0)
      (λ e. takes_any f.fixed l (repeat f.fixed (item (reading T) obj f) l) (takes-repeat (item (reading T) obj f) (item-takes f s) f.fixed l))
      (λ e. takes-after 0 l (read_count f.count l) (λ n. repeat n (item (reading T) obj f)) (count-takes f.count l)
      (λ n m. takes_any n m (repeat n (item (reading T) obj f) m) (takes-repeat (item (reading T) obj f) (item-takes f s) n m)))

  fields-takes : (fs : List Row) → RowsFit fs → (l : List ℕ) → Takes 0 l (fields (reading T) obj fs l)
  unfolding fields
  fields-takes [] s l = omega arith
  fields-takes (f ∷ fs) s l = takes-then 0 0 l (field (reading T) obj f l) (fields (reading T) obj fs) (field-takes f s.0 l) (fields-takes fs s.1)

module _ (T : Table) (rows : RowsFit (rows_of T)) where
  object-takes : (d t : ℕ) (l : List ℕ) → Takes 1 l (object (reading T) T d t l)
  unfolding object
  object-takes zero t l = takes-after 1 l (read_head T zero t l) (λ n. got []) (head-takes T zero t l) (λ n m. omega arith)
  object-takes (suc d) t l =
      takes-after 1 l (read_head T (suc d) t l) (λ n. fields (reading T) (object (reading T) T d) (fields_of T n)) (head-takes T (suc d) t l)
      (λ n. fields-takes T (object (reading T) T d) (object-takes d) (fields_of T n) (fields_fit T rows n))

  -- n elements of a field that are read take at least n bytes
  pub few-elements : (d : ℕ) (f : Row) → RowFits f → (n : ℕ) (l : List ℕ) {zs : List ℤ} {r : List ℕ}
      → repeat n (item (reading T) (object (reading T) T d) f) l ≡ got zs r → n + length r ≤ length l
  few-elements d f s n l e = subst (Takes n l) e (takes-repeat (item (reading T) (object (reading T) T d) f) (item-takes T (object (reading T) T d) (object-takes d) f s) n l)
