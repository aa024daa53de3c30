-- A number takes a byte at least: of what is read, numbers and bytes left are together no more than the bytes. Assumes nothing.
use Rattle.wire.proofs.Basics.{◌≡◌, subst, ℕ, ◌≤◌, ◌+◌, suc, zero, List, [], ◌∷◌, length, drop, length-append, length-drop, eqb, ltb, ℤ, ltb-false, eqb-false, arith}
use Rattle.wire.specs.Bytes.{be}
use Rattle.wire.proofs.Choices.{pick_all}
use Rattle.lmcp.specs.declared.Row.{Row}
use Rattle.lmcp.specs.Run.{got, refused, Tag, tag, bad, prepend, and_then, after, repeat}
use Rattle.lmcp.specs.Table.{object_kind, Table, RowFits, RowsFit, fields_of, rows_of, pitsurv}
use Rattle.lmcp.specs.Value.{fault}
use Rattle.lmcp.specs.Read.{Read, reading, judged, read_value, read_count, known, read_header, read_head}
use Rattle.lmcp.specs.Walk.{item, field, fields, object}
use Rattle.lmcp.proofs.Tables.{fields_fit}
use Rattle.lmcp.proofs.Pitsurv.{rows_fit}
use Rattle.lmcp_check.specs.InsideSteps.{read_object}

abbrev Counts : List ℕ → Read → Type 0
Counts l (got zs r) = length zs + length r ≤ length l
Counts l (refused n) = Unit {0}

abbrev CountsTag : List ℕ → Tag ℕ ℤ → Type 0
CountsTag l (tag n zs r) = length zs + length r ≤ length l
CountsTag l (bad n) = Unit {0}

counts-prepend : (l m : List ℕ) (ys : List ℤ) (X : Read) → length ys + length m ≤ length l → Counts m X → Counts l (prepend ys X)
unfolding prepend
counts-prepend l m ys (got zs r) h g = rw length-append (omega arith)
counts-prepend l m ys (refused n) h g = tt

counts-then : (l : List ℕ) (X : Read) (f : List ℕ → Read) → Counts l X → ((m : List ℕ) → Counts m (f m)) → Counts l (and_then X f)
unfolding and_then
counts-then l (got ys m) f h g = counts-prepend l m ys (f m) h (g m)
counts-then l (refused n) f h g = tt

counts-after : (l : List ℕ) (X : Tag ℕ ℤ) (f : ℕ → List ℕ → Read) → CountsTag l X → ((n : ℕ) (m : List ℕ) → Counts m (f n m)) → Counts l (after X f)
unfolding after
counts-after l (tag n ys m) f h g = counts-prepend l m ys (f n m) h (g n m)
counts-after l (bad n) f h g = tt

counts-repeat : (f : List ℕ → Read) → ((m : List ℕ) → Counts m (f m)) → (n : ℕ) (l : List ℕ) → Counts l (repeat n f l)
unfolding repeat
counts-repeat f h zero l = omega arith
counts-repeat f h (suc n) l = counts-then l (f l) (repeat n f) (h l) (counts-repeat f h n)

value-counts : (k w : ℕ) → 1 ≤ w → (b : List ℕ) → Counts b (read_value k w b)
unfolding read_value judged
value-counts k w h b =
    pick_all (Counts b) (ltb (length b) w) (λ e. tt)
    (λ e. pick_all (Counts b) (eqb (fault k (be w b)) 0) (λ q. rw length-drop (omega (arith, ltb-false (length b) w e))) (λ q. tt))

count-counts : (w : ℕ) → 1 ≤ w → (b : List ℕ) → CountsTag b (read_count w b)
unfolding read_count
count-counts w h b = pick_all (CountsTag b) (ltb (length b) w) (λ e. tt) (λ e. rw length-drop (omega (arith, ltb-false (length b) w e)))

head-counts : (T : Table) (d t : ℕ) (b : List ℕ) → CountsTag b (read_head T d t b)
unfolding read_head read_header
head-counts T d t b =
    pick_all (CountsTag b) (ltb (length b) 1) (λ e. tt)
    (λ e. pick_all (CountsTag b) (ltb 1 (be 1 b)) (λ q. tt)
    (λ q. pick_all (CountsTag b) (eqb (be 1 b) 0) (λ q. rw length-drop (omega (arith, ltb-false (length b) 1 e)))
    (λ q. pick_all (CountsTag b) (eqb d 0) (λ q. tt)
    (λ q. pick_all (CountsTag b) (ltb (length (drop 1 b)) 14) (λ q. tt)
    (λ q. pick_all (CountsTag b) (known T t (drop 1 b)) (λ q. simp length-drop (omega (arith, ltb-false (length b) 1 e))) (λ q. tt))))))

module _ (T : Table) (obj : ℕ → List ℕ → Read) (objs : (t : ℕ) (l : List ℕ) → Counts l (obj t l)) where
  item-counts : (f : Row) → RowFits f → (l : List ℕ) → Counts l (item (reading T) obj f l)
  unfolding item
  item-counts f s l =
      pick_all (Counts l) (eqb f.kind object_kind) (λ e. objs f.arg l) (λ e. value-counts f.kind f.arg (s.arg-least (eqb-false f.kind object_kind e)) l)

  field-counts : (f : Row) → RowFits f → (l : List ℕ) → Counts l (field (reading T) obj f l)
  unfolding field
  field-counts f s l =
      pick_all (Counts l) (eqb f.count 0) (λ e. counts-repeat (item (reading T) obj f) (item-counts f s) f.fixed l)
      (λ e. let k = eqb-false f.count 0 e in counts-after l (read_count f.count l) (λ n. repeat n (item (reading T) obj f)) (count-counts f.count (omega (arith, k)) l) (λ n m. counts-repeat (item (reading T) obj f) (item-counts f s) n m))

  fields-counts : (fs : List Row) → RowsFit fs → (l : List ℕ) → Counts l (fields (reading T) obj fs l)
  unfolding fields
  fields-counts [] s l = omega arith
  fields-counts (f ∷ fs) s l = counts-then l (field (reading T) obj f l) (fields (reading T) obj fs) (field-counts f s.0 l) (fields-counts fs s.1)

module _ (T : Table) (rows : RowsFit (rows_of T)) where
  object-counts : (d t : ℕ) (l : List ℕ) → Counts l (object (reading T) T d t l)
  unfolding object
  object-counts zero t l = counts-after l (read_head T zero t l) (λ n. got []) (head-counts T zero t l) (λ n m. omega arith)
  object-counts (suc d) t l =
      counts-after l (read_head T (suc d) t l) (λ n. fields (reading T) (object (reading T) T d) (fields_of T n)) (head-counts T (suc d) t l)
      (λ n. fields-counts T (object (reading T) T d) (object-counts d) (fields_of T n) (fields_fit T rows n))

-- an object makes no more numbers than it has bytes
pub few-numbers : (v d t : ℕ) (l : List ℕ) {zs : List ℤ} {r : List ℕ} → read_object v d t l ≡ got zs r → length zs + length r ≤ length l
few-numbers v d t l e = subst (Counts l) e (object-counts (pitsurv v) (rows_fit v) d t l)
