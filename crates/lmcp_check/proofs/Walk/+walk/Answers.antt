use Rattle.wire.proofs.Basics.{◌∙◌, sym, ◌≡◌, ap, refl, ℕ, ◌≤◌, ◌+◌, ◌<◌, ◌-◌, List, length, drop, get_or, slice, arith, rules}
use Rattle.std.proofs.Common.{Ok}
use Rattle.std.proofs.lemmas.Result.{err_from_is_err_and}
use Rattle.lmcp.specs.declared.Row.{Row}
use Rattle.lmcp.specs.Run.{repeat}
use Rattle.lmcp.specs.Table.{pitsurv, rows_of, starts_of}
use Rattle.lmcp.specs.Packed.{packed_of}
use Rattle.lmcp.specs.InsidePacked.{cell}
use Rattle.lmcp.proofs.WalkPlaces.{repeat-all}
use Rattle.lmcp.proofs.Rows.{Bounds, few-rows, bounds}
use Rattle.lmcp_check.specs.declared.Walk.{Walk}
use Rattle.lmcp_check.specs.InsideSteps.{read_object, read_fields}
use Rattle.lmcp_check.proofs.CheckTurns.{begins, items-turn, items-stop, items-end}
use Rattle.lmcp_check.proofs.Steps.{step_run, step-object, step_cut, step-chars, step_objects, fields-turn, fields-stop, fields-done, step-inside, object-null, object-stops, object-some, object-fields}
use Rattle.lmcp_check.proofs.Nulls.{null-inside, null_checks}
use Rattle.lmcp_check.proofs.Walk.+walk.Goals as goal

-- the rows of a type, in the table's bytes
rows-in : (w : Walk) (t : ℕ) → t < 8 → Bounds w.packed.version t (cell w.packed.rows 20 t) (cell w.packed.rows 21 t)
rows-in w t h = bounds w.packed.version t (cell w.packed.rows 20 t) (cell w.packed.rows 21 t) h w.packed.rows w.packed.packed refl refl

-- how many rows a step takes
rows-taken : (w : Walk) (i : ℕ) → cell w.packed.rows i 5 ≡ cell (packed_of w.packed.version) i 5
rows-taken w i = ap (λ (l : List (List ℕ)). cell l i 5) w.packed.packed

-- one step's rows lie within those of the type
step-in : (w : Walk) (t i : ℕ) → (h : t < 8) → i < cell w.packed.rows 21 t → get_or (starts_of (pitsurv w.packed.version)) t 0 ≤ i
    → (1 ≤ cell w.packed.rows i 5) × (i + cell w.packed.rows i 5 ≤ cell w.packed.rows 21 t)
step-in w t i h more from =
    let b = rows-in w t h in
    step-inside w.packed.version t i (cell w.packed.rows 21 t) (cell w.packed.rows i 5) h b.last b.inside from more (rows-taken w i)

pub check_fields-loop-i-init : goal.check_fields-loop-i-init
check_fields-loop-i-init t c =
    let a = c.args in
    let w = a.self.now in
    let v = w.packed.version in
    let b = rows-in w a.t c.requires.1 in (
      b.rise,
      (
        omega (arith, b.first),
        begins (read_fields v a.deep (slice (cell w.packed.rows 20 a.t) (cell w.packed.rows 21 a.t) (rows_of (pitsurv v)))) a.at
            (ap (λ (fs : List Row). read_fields v a.deep fs (drop a.at w.s.now)) b.are) c.requires.0,
      ),
    )

pub check_fields-check_row-requires : goal.check_fields-check_row-requires
check_fields-check_row-requires t c =
    let a = c.args in
    let x = c.loop-i in
    let v = a.self.now.packed.version in
    let b = rows-in a.self.now a.t c.requires.1 in
    let i : x.i < length (rows_of (pitsurv v)) = omega (arith, c.loop-i-test.true, b.inside) in
    (search rules, (x.invariant.1.1.within, (omega (arith, i, few-rows v), i)))

pub check_fields-returns-in_err-p : goal.check_fields-returns-in_err-p
check_fields-returns-in_err-p t c =
    let a = c.args in
    let w = a.self.now in
    let x = c.loop-i in
    let m = step-in w a.t x.i c.requires.1 c.loop-i-test.true x.invariant.1.0 in
    let p = err_from_is_err_and c.from_residual.result c.from_residual.ensures.1 in
    rw (p.1, p.2)
    (fields-stop w.packed.version a.deep x.i (cell w.packed.rows 21 a.t) w.s.now _ x.p x.invariant.1.1 (cell w.packed.rows x.i 5) (rows-taken w x.i) m.1 c.check_row.result c.check_row.ensures _ c.in_err-p.was)

pub check_fields-bounds-self-i : goal.check_fields-bounds-self-i
check_fields-bounds-self-i t c =
    let b = rows-in c.args.self.now c.args.t c.requires.1 in
    omega (arith, c.loop-i-test.true, b.inside, few-rows c.args.self.now.packed.version)

pub check_fields-loop-i-smaller : goal.check_fields-loop-i-smaller
check_fields-loop-i-smaller t c =
    let m = step-in c.args.self.now c.args.t c.loop-i.i c.requires.1 c.loop-i-test.true c.loop-i.invariant.1.0 in
    omega (arith, m.0, m.1, c.loop-i-test.true)

pub check_fields-loop-i-preserved : goal.check_fields-loop-i-preserved
check_fields-loop-i-preserved t c =
    let a = c.args in
    let w = a.self.now in
    let x = c.loop-i in
    let m = step-in w a.t x.i c.requires.1 c.loop-i-test.true x.invariant.1.0 in (
      m.1,
      (
        omega (arith, x.invariant.1.0),
        fields-turn w.packed.version a.deep x.i (cell w.packed.rows 21 a.t) w.s.now _ x.p x.invariant.1.1 (cell w.packed.rows x.i 5) (rows-taken w x.i) m.1 c.check_row.result c.check_row.ensures _ c.in_ok-p.was,
      ),
    )

pub check_fields-returns : goal.check_fields-returns
check_fields-returns t c =
    let a = c.args in
    let w = a.self.now in
    let x = c.loop-i in
    fields-done w.packed.version a.deep x.i (cell w.packed.rows 21 a.t) w.s.now _ x.p x.invariant.1.1 c.loop-i-test.false x.invariant.0

pub check_object-returns-in_err-head : goal.check_object-returns-in_err-head
check_object-returns-in_err-head t c =
    let a = c.args in
    let w = a.self.now in
    let p = err_from_is_err_and c.from_residual.result c.from_residual.ensures.1 in
    rw (p.1, p.2) (object-stops w.packed.version a.deep a.declared w.s.now a.at c.head_of.result c.head_of.ensures _ c.in_err-head.was)

pub check_object-returns-in_default : goal.check_object-returns-in_default
check_object-returns-in_default t c =
    let a = c.args in
    let w = a.self.now in
    object-null w.packed.version a.deep a.declared w.s.now a.at c.head_of.result c.head_of.ensures (c.in_ok-head.was ∙ ap Ok c.in_default.is)

pub check_object-overflow_sub-deep : goal.check_object-overflow_sub-deep
check_object-overflow_sub-deep t c =
    let a = c.args in
    let w = a.self.now in
    (object-some w.packed.version a.deep a.declared w.s.now a.at c.head_of.result c.head_of.ensures c.in-Some.t (c.in_ok-head.was ∙ ap Ok c.in-Some.is)).0

pub check_object-check_fields-requires : goal.check_object-check_fields-requires
check_object-check_fields-requires t c =
    let a = c.args in
    let w = a.self.now in
    let y = object-some w.packed.version a.deep a.declared w.s.now a.at c.head_of.result c.head_of.ensures c.in-Some.t (c.in_ok-head.was ∙ ap Ok c.in-Some.is) in
    (omega (arith, y.0), (y.1.1, y.1.0))

pub check_object-returns : goal.check_object-returns
check_object-returns t c =
    let a = c.args in
    let w = a.self.now in
    object-fields w.packed.version a.deep a.declared w.s.now a.at c.head_of.result c.head_of.ensures c.in-Some.t (c.in_ok-head.was ∙ ap Ok c.in-Some.is) c.check_fields.result c.check_fields.ensures

pub check_objects-loop-init : goal.check_objects-loop-init
check_objects-loop-init t c =
    let a = c.args in
    let f = read_object a.self.now.packed.version a.deep a.declared in
    begins (repeat (a.n - 0) f) a.at (repeat-all f (drop a.at a.self.now.s.now) a.n) c.requires

pub check_objects-loop-preserved-then-null_at : goal.check_objects-loop-preserved-then-null_at
check_objects-loop-preserved-then-null_at t c =
    let x = c.loop in
    let a = c.args in
    let w = a.self.now in
    let z = null-inside w.s.now x.p (sym c.null_at.ensures ∙ c.if-null_at.true) in
    items-turn (read_object w.packed.version a.deep a.declared) a.n x.counter x.invariant c.loop-test.true (Ok (x.p + 1)) (null_checks w.packed.version a.deep a.declared w.s.now x.p z.0 z.1) (x.p + 1) refl

pub check_objects-returns-in_err-p : goal.check_objects-returns-in_err-p
check_objects-returns-in_err-p t c =
    let x = c.loop in
    let a = c.args in
    let p = err_from_is_err_and c.from_residual.result c.from_residual.ensures.1 in
    rw (p.1, p.2) (items-stop (read_object a.self.now.packed.version a.deep a.declared) a.n x.counter x.invariant c.loop-test.true c.check_object.result c.check_object.ensures _ c.in_err-p.was)

pub check_objects-loop-preserved : goal.check_objects-loop-preserved
check_objects-loop-preserved t c =
    let x = c.loop in
    let a = c.args in
    items-turn (read_object a.self.now.packed.version a.deep a.declared) a.n x.counter x.invariant c.loop-test.true c.check_object.result c.check_object.ensures _ c.in_ok-p.was

pub check_objects-returns : goal.check_objects-returns
check_objects-returns t c =
    let x = c.loop in
    let a = c.args in
    items-end (read_object a.self.now.packed.version a.deep a.declared) a.n x.counter x.invariant c.loop-test.false

pub check_row-returns-then-bytes-ne0 : goal.check_row-returns-then-bytes-ne0
check_row-returns-then-bytes-ne0 t c =
    let a = c.args in
    let w = a.self.now in
    step_run w.packed.version a.deep a.i c.requires.1.1 w.s.now a.at c.requires.0 w.packed.rows w.packed.packed _ _ c.check_run.result refl c.if-bytes-ne0.true refl c.check_run.ensures

pub check_row-returns-then-w-eq0 : goal.check_row-returns-then-w-eq0
check_row-returns-then-w-eq0 t c =
    let a = c.args in
    let w = a.self.now in
    step-object w.packed.version a.deep a.i c.requires.1.1 w.s.now a.at c.requires.0 w.packed.rows w.packed.packed _ _ refl c.if-bytes-ne0.false refl c.if-w-eq0.true _ c.check_object.result refl c.check_object.ensures

pub check_row-returns-then-self-at : goal.check_row-returns-then-self-at
check_row-returns-then-self-at t c =
    let a = c.args in
    let w = a.self.now in
    step_cut w.packed.version a.deep a.i c.requires.1.1 w.s.now a.at c.requires.0 w.packed.rows w.packed.packed _ _ refl c.if-bytes-ne0.false refl c.if-w-eq0.false c.if-self-at.true

pub check_row-returns-then-row-eq-CHAR_KIND : goal.check_row-returns-then-row-eq-CHAR_KIND
check_row-returns-then-row-eq-CHAR_KIND t c =
    let a = c.args in
    let w = a.self.now in
    step-chars w.packed.version a.deep a.i c.requires.1.1 w.s.now a.at c.requires.0 w.packed.rows w.packed.packed _ _ refl c.if-bytes-ne0.false
    refl c.if-w-eq0.false c.if-self-at.false c.number-n.result c.number-n.ensures c.check_chars.result _ refl c.if-row-eq-CHAR_KIND.true c.check_chars.ensures

pub check_row-returns : goal.check_row-returns
check_row-returns t c =
    let a = c.args in
    let w = a.self.now in
    step_objects w.packed.version a.deep a.i c.requires.1.1 w.s.now a.at c.requires.0 w.packed.rows w.packed.packed _ _ refl c.if-bytes-ne0.false
    refl c.if-w-eq0.false c.if-self-at.false c.number-n.result c.number-n.ensures c.check_objects.result _ _ refl c.if-row-eq-CHAR_KIND.false refl c.check_objects.ensures
