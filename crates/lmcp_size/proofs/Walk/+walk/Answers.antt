use Rattle.wire.proofs.Basics.{◌∙◌, sym, ◌≡◌, ap, refl, ℕ, ◌<◌, ◌-◌, List, [], length, drop, get_or, slice, arith, rules}
use Rattle.std.proofs.lemmas.Result.{err_from_is_err_and}
use Rattle.lmcp.specs.declared.Row.{Row}
use Rattle.lmcp.specs.Run.{after, repeat}
use Rattle.lmcp.specs.Table.{nothing, pitsurv, rows_of}
use Rattle.lmcp.specs.Packed.{packed_of}
use Rattle.lmcp.specs.InsidePacked.{cell}
use Rattle.lmcp.specs.Write.{writing, write_value, write_count}
use Rattle.lmcp.specs.InsideEnds.{went, Few15}
use Rattle.lmcp.proofs.WalkPlaces.{same-run, begins, marked-then, marked-end, marked-stops, repeat-all, inside, object-is, inside-null, inside-fields, items-turn, items-stop, items-end, fields-turn, fields-stop, fields-done, mark-stop, mark_on}
use Rattle.lmcp.proofs.Heads.{write-some}
use Rattle.lmcp.proofs.Rows.{Bounds, row_of, few-rows, bounds}
use Rattle.lmcp.proofs.RowWays.{Here, one-object, many-values, one_value, many_objects, chars, stops}
use Rattle.lmcp_size.specs.declared.Walk.{Walk}
use Rattle.lmcp_size.specs.InsideSteps.{write_object, write_fields}
use Rattle.lmcp_size.specs.InsideWeighs.{Ranges}
use Rattle.lmcp_size.proofs.Rows.{widths, few}
use Rattle.lmcp_size.proofs.Walk.+walk.Goals as goal

-- ---- what the table's bytes say

-- the rows of a type
rows-in : (w : Walk) (t : ℕ) → t < 8 → Bounds w.packed.version t (cell w.packed.rows 20 t) (cell w.packed.rows 21 t)
rows-in w t h = bounds w.packed.version t (cell w.packed.rows 20 t) (cell w.packed.rows 21 t) h w.packed.rows w.packed.packed refl refl

module _ (w : Walk) (i : ℕ) (h : i < length (rows_of (pitsurv w.packed.version))) where
  byte : (k : ℕ) → cell w.packed.rows i k ≡ cell (packed_of w.packed.version) i k
  byte k = ap (λ (y : List (List ℕ)). cell y i k) w.packed.packed

  -- three bytes of a row
  abbrev here : Here w.packed.version i
  here =
      record {
        inside = h;
        code = cell w.packed.rows i 7;
        count = cell w.packed.rows i 0;
        arg = cell w.packed.rows i 3;
        code_is = byte 7;
        count-is = byte 0;
        arg_is = byte 3;
      }

  -- its kind
  row-kind : cell w.packed.rows i 2 ≡ (get_or (rows_of (pitsurv w.packed.version)) i nothing).kind
  row-kind = byte 2 ∙ (row_of w.packed.version i h).kind-is

  -- the ranges of its values
  row-widths : (cell w.packed.rows i 7 ≡ 6 → ⊥) → Ranges (cell w.packed.rows i 2) (cell w.packed.rows i 3)
  row-widths k = let r = widths here k in record { wide = r.wide; less = λ s. r.less (λ z. s (row-kind ∙ z)) }

-- ---- fields

pub check_fields-loop-i-init : goal.check_fields-loop-i-init
check_fields-loop-i-init t c =
    let a = c.args in
    let w = a.self.now in
    let v = w.packed.version in
    let b = rows-in w a.t c.requires.1 in
    begins (write_fields v a.deep (slice (cell w.packed.rows 20 a.t) (cell w.packed.rows 21 a.t) (rows_of (pitsurv v)))) a.from.p a.from.q []
    (ap (λ (fs : List Row). write_fields v a.deep fs (drop a.from.p w.list.now)) b.are) c.requires.0.place c.requires.0.inside

pub check_fields-check_row-requires : goal.check_fields-check_row-requires
check_fields-check_row-requires t c =
    let a = c.args in
    let x = c.loop-i in
    let v = a.self.now.packed.version in
    let b = rows-in a.self.now a.t c.requires.1 in
    let i : x.i < length (rows_of (pitsurv v)) = omega (arith, c.loop-i-test.true, b.inside) in
    (search rules, (record { place = x.invariant.fewer; inside = x.invariant.within }, (omega (arith, i, few-rows v), i)))

pub check_fields-returns-in_err-spot : goal.check_fields-returns-in_err-spot
check_fields-returns-in_err-spot t c =
    let a = c.args in
    let w = a.self.now in
    let v = w.packed.version in
    let x = c.loop-i in
    let p = err_from_is_err_and c.from_residual.result c.from_residual.ensures.1 in
    rw (p.1, p.2)
    (fields-stop Few15 (writing (pitsurv v)) (write_object v a.deep) (rows_of (pitsurv v)) x.i (cell w.packed.rows 21 a.t) x.invariant c.loop-i-test.true (rows-in w a.t c.requires.1).inside
    c.check_row.result [] c.check_row.ensures _ c.in_err-spot.was)

pub check_fields-loop-i-preserved : goal.check_fields-loop-i-preserved
check_fields-loop-i-preserved t c =
    let a = c.args in
    let w = a.self.now in
    let v = w.packed.version in
    let x = c.loop-i in
    fields-turn Few15 (writing (pitsurv v)) (write_object v a.deep) (rows_of (pitsurv v)) x.i (cell w.packed.rows 21 a.t) x.invariant c.loop-i-test.true (rows-in w a.t c.requires.1).inside
    c.check_row.result [] c.check_row.ensures _ c.in_ok-spot.was

pub check_fields-returns : goal.check_fields-returns
check_fields-returns t c =
    let a = c.args in
    let w = a.self.now in
    let v = w.packed.version in
    let x = c.loop-i in
    let b = rows-in w a.t c.requires.1 in
    fields-done Few15 (writing (pitsurv v)) (write_object v a.deep) (rows_of (pitsurv v)) x.i (cell w.packed.rows 21 a.t) x.invariant c.loop-i-test.false (c.loop-i.auto.i-end b.rise)

-- ---- an object

pub check_object-returns-in_err-t : goal.check_object-returns-in_err-t
check_object-returns-in_err-t t c =
    let a = c.args in
    let w = a.self.now in
    let T = pitsurv w.packed.version in
    let p = err_from_is_err_and c.from_residual.result c.from_residual.ensures.1 in
    rw (p.1, p.2)
    (object-is (writing T) T a.deep a.declared (drop a.from.p w.list.now)
    ∙ marked-stops _ (inside (writing T) T a.deep) (mark-stop Few15 w.list.now [] a.from.q c.head_of.result [] c.head_of.ensures _ c.in_err-t.was))

pub check_object-returns-then-t-eq0 : goal.check_object-returns-then-t-eq0
check_object-returns-then-t-eq0 t c =
    let a = c.args in
    let l = a.self.now.list.now in
    let T = pitsurv a.self.now.packed.version in
    let h = mark_on Few15 l [] a.from.q c.head_of.result [] c.head_of.ensures _ _ c.in_ok-t.was in
    let p = c.in_ok-t.next.p in
    let q = c.in_ok-t.next.q in
    same-run Few15 l [] a.from.q (went p q) [] (object-is (writing T) T a.deep a.declared (drop a.from.p l))
    (marked-end h (inside (writing T) T a.deep) (ap (λ (m : ℕ). inside (writing T) T a.deep m (drop p l)) c.if-t-eq0.true ∙ inside-null (writing T) T a.deep (drop p l) refl))

pub check_object-overflow_sub-deep : goal.check_object-overflow_sub-deep
check_object-overflow_sub-deep t c =
    let a = c.args in
    let l = a.self.now.list.now in
    let h = mark_on Few15 l [] a.from.q c.head_of.result [] c.head_of.ensures _ _ c.in_ok-t.was in
    (write-some (pitsurv a.self.now.packed.version) a.deep a.declared _ c.if-t-eq0.false (drop a.from.p l) h.whole).deep

pub check_object-check_fields-requires : goal.check_object-check_fields-requires
check_object-check_fields-requires t c =
    let a = c.args in
    let l = a.self.now.list.now in
    let h = mark_on Few15 l [] a.from.q c.head_of.result [] c.head_of.ensures _ _ c.in_ok-t.was in
    let y = write-some (pitsurv a.self.now.packed.version) a.deep a.declared _ c.if-t-eq0.false (drop a.from.p l) h.whole in
    (omega (arith, y.deep), (record { place = h.fewer; inside = h.within }, y.within))

pub check_object-returns : goal.check_object-returns
check_object-returns t c =
    let a = c.args in
    let l = a.self.now.list.now in
    let T = pitsurv a.self.now.packed.version in
    let h = mark_on Few15 l [] a.from.q c.head_of.result [] c.head_of.ensures _ _ c.in_ok-t.was in
    let y = write-some T a.deep a.declared _ c.if-t-eq0.false (drop a.from.p l) h.whole in
    let p = c.in_ok-t.next.p in
    let q = c.in_ok-t.next.q in
    let r = c.check_fields.result in
    same-run Few15 l [] a.from.q r [] (object-is (writing T) T a.deep a.declared (drop a.from.p l))
    (marked-then h (inside (writing T) T a.deep) r [] (same-run Few15 l [] q r [] (inside-fields (writing T) T a.deep c.in_ok-t.t (drop p l) y.deep) c.check_fields.ensures))

-- ---- objects

pub check_objects-loop-init : goal.check_objects-loop-init
check_objects-loop-init t c =
    let a = c.args in
    let f = write_object a.self.now.packed.version a.deep a.declared in
    begins (repeat (a.n - 0) f) a.from.p a.from.q [] (repeat-all f (drop a.from.p a.self.now.list.now) a.n) c.requires.place c.requires.inside

pub check_objects-check_object-requires : goal.check_objects-check_object-requires
check_objects-check_object-requires t c =
    let x = c.loop in
    (search rules, record { place = x.invariant.fewer; inside = x.invariant.within })

pub check_objects-returns-in_err-spot : goal.check_objects-returns-in_err-spot
check_objects-returns-in_err-spot t c =
    let a = c.args in
    let x = c.loop in
    let p = err_from_is_err_and c.from_residual.result c.from_residual.ensures.1 in
    rw (p.1, p.2)
    (items-stop Few15 (write_object a.self.now.packed.version a.deep a.declared) a.n x.counter x.invariant c.loop-test.true c.check_object.result [] c.check_object.ensures _ c.in_err-spot.was)

pub check_objects-loop-preserved : goal.check_objects-loop-preserved
check_objects-loop-preserved t c =
    let a = c.args in
    let x = c.loop in
    items-turn Few15 (write_object a.self.now.packed.version a.deep a.declared) a.n x.counter x.invariant c.loop-test.true c.check_object.result [] c.check_object.ensures _ c.in_ok-spot.was

pub check_objects-returns : goal.check_objects-returns
check_objects-returns t c =
    let a = c.args in
    let x = c.loop in
    items-end Few15 (write_object a.self.now.packed.version a.deep a.declared) a.n x.counter x.invariant c.loop-test.false

-- ---- a row

pub check_row-returns-then-code-eq-OBJECT_CODE : goal.check_row-returns-then-code-eq-OBJECT_CODE
check_row-returns-then-code-eq-OBJECT_CODE t c =
    let a = c.args in
    let H = here a.self.now a.i c.requires.1.1 in
    let l = a.self.now.list.now in
    same-run Few15 l [] a.from.q c.check_object.result [] (one-object H writing a.deep c.if-w-eq0.true c.if-code-eq-OBJECT_CODE.true (drop a.from.p l)) c.check_object.ensures

pub check_row-check_value-requires : goal.check_row-check_value-requires
check_row-check_value-requires t c =
    (c.requires.0, row-widths c.args.self.now c.args.i c.requires.1.1 c.if-code-eq-OBJECT_CODE.false)

pub check_row-returns-then-n-eq1 : goal.check_row-returns-then-n-eq1
check_row-returns-then-n-eq1 t c =
    let a = c.args in
    let w = a.self.now in
    let H = here w a.i c.requires.1.1 in
    let l = w.list.now in
    same-run Few15 l [] a.from.q c.check_value.result []
    (one_value H writing a.deep c.if-w-eq0.true c.if-code-eq-OBJECT_CODE.false (cell w.packed.rows a.i 1) (byte w a.i c.requires.1.1 1) c.if-n-eq1.true (drop a.from.p l)
    ∙ ap (λ (k : ℕ). write_value k H.arg (drop a.from.p l)) (sym (row-kind w a.i c.requires.1.1))) c.check_value.ensures

pub check_row-check_values-requires : goal.check_row-check_values-requires
check_row-check_values-requires t c =
    (c.requires.0, row-widths c.args.self.now c.args.i c.requires.1.1 c.if-code-eq-OBJECT_CODE.false)

pub check_row-returns-then-w-eq0 : goal.check_row-returns-then-w-eq0
check_row-returns-then-w-eq0 t c =
    let a = c.args in
    let w = a.self.now in
    let H = here w a.i c.requires.1.1 in
    let l = w.list.now in
    let n = cell w.packed.rows a.i 1 in
    same-run Few15 l [] a.from.q c.check_values.result []
    (many-values H writing a.deep c.if-w-eq0.true c.if-code-eq-OBJECT_CODE.false n (byte w a.i c.requires.1.1 1) (drop a.from.p l)
    ∙ ap (λ (k : ℕ). repeat n (write_value k H.arg) (drop a.from.p l)) (sym (row-kind w a.i c.requires.1.1))) c.check_values.ensures

pub check_row-count_of-requires : goal.check_row-count_of-requires
check_row-count_of-requires t c =
    (c.requires.0, few (here c.args.self.now c.args.i c.requires.1.1) c.if-w-eq0.false)

pub check_row-returns-in_err-n : goal.check_row-returns-in_err-n
check_row-returns-in_err-n t c =
    let a = c.args in
    let l = a.self.now.list.now in
    let p = err_from_is_err_and c.from_residual.result c.from_residual.ensures.1 in
    rw (p.1, p.2)
    (stops (here a.self.now a.i c.requires.1.1) writing a.deep c.if-w-eq0.false _ (drop a.from.p l) (mark-stop Few15 l [] a.from.q c.count_of.result [] c.count_of.ensures _ c.in_err-n.was))

pub check_row-check_objects-requires : goal.check_row-check_objects-requires
check_row-check_objects-requires t c =
    let a = c.args in
    let h = mark_on Few15 a.self.now.list.now [] a.from.q c.count_of.result [] c.count_of.ensures _ _ c.in_ok-n.was in
    (search rules, record { place = h.fewer; inside = h.within })

pub check_row-returns-then-code-eq-OBJECT_CODE-2 : goal.check_row-returns-then-code-eq-OBJECT_CODE-2
check_row-returns-then-code-eq-OBJECT_CODE-2 t c =
    let a = c.args in
    let H = here a.self.now a.i c.requires.1.1 in
    let l = a.self.now.list.now in
    let h = mark_on Few15 l [] a.from.q c.count_of.result [] c.count_of.ensures _ _ c.in_ok-n.was in
    let r = c.check_objects.result in
    same-run Few15 l [] a.from.q r [] (many_objects H writing a.deep c.if-w-eq0.false c.if-code-eq-OBJECT_CODE-2.true (drop a.from.p l))
    (marked-then h (λ n. repeat n (write_object a.self.now.packed.version a.deep H.arg)) r [] c.check_objects.ensures)

pub check_row-check_values-requires-2 : goal.check_row-check_values-requires-2
check_row-check_values-requires-2 t c =
    let a = c.args in
    let h = mark_on Few15 a.self.now.list.now [] a.from.q c.count_of.result [] c.count_of.ensures _ _ c.in_ok-n.was in
    (record { place = h.fewer; inside = h.within }, row-widths a.self.now a.i c.requires.1.1 c.if-code-eq-OBJECT_CODE-2.false)

pub check_row-returns : goal.check_row-returns
check_row-returns t c =
    let a = c.args in
    let w = a.self.now in
    let H = here w a.i c.requires.1.1 in
    let l = w.list.now in
    let h = mark_on Few15 l [] a.from.q c.count_of.result [] c.count_of.ensures _ _ c.in_ok-n.was in
    let r = c.check_values-2.result in
    same-run Few15 l [] a.from.q r []
    (chars H writing a.deep c.if-w-eq0.false c.if-code-eq-OBJECT_CODE-2.false (drop a.from.p l)
    ∙ ap (λ (k : ℕ). after (write_count H.count (drop a.from.p l)) (λ n. repeat n (write_value k H.arg))) (sym (row-kind w a.i c.requires.1.1)))
    (marked-then h (λ n. repeat n (write_value (cell w.packed.rows a.i 2) H.arg)) r [] c.check_values-2.ensures)
