use Rattle.wire.proofs.Basics.{◌∙◌, sym, ◌≡◌, ap, refl, ℕ, ◌≤◌, ◌+◌, ◌<◌, ◌-◌, List, length, drop, get_or, sets, slice, ℤ, pos, arith, rules}
use lib.Signed.{mag}
use Rattle.wire.specs.Signed.{unsigned}
use Rattle.wire.proofs.Overlays.{overlay-sets}
use Rattle.lmcp.specs.declared.Row.{Row}
use Rattle.lmcp.specs.InsideEnds.{went}
use Rattle.lmcp.specs.Run.{and_then, repeat}
use Rattle.lmcp.specs.Table.{pitsurv, rows_of}
use Rattle.lmcp.specs.Packed.{packed_of}
use Rattle.lmcp.specs.InsidePacked.{cell}
use Rattle.lmcp.specs.Write.{Write, writing, header}
use Rattle.lmcp.proofs.WalkPlaces.{begins, repeat-all, repeat-more, fields-more, items-turn, items-end, fields-turn, fields-done}
use Rattle.lmcp.proofs.Sizes.{through}
use Rattle.lmcp_size.specs.InsideSteps.{write_object, write_row, write_fields}
use Rattle.lmcp_size.specs.InsideWeighs.{one}
use Rattle.lmcp_size.proofs.Rows.{widths, few}
use Rattle.lmcp.specs.InsideAhead.{Few0, Ahead}
use Rattle.lmcp_writer.specs.declared.Walk.{Walk}
use Rattle.lmcp_writer.proofs.NumberBytes.{laid-number, zero-byte}
use Rattle.lmcp.proofs.Rows.{Bounds, few-rows, bounds}
use Rattle.lmcp.proofs.Aheads.{ahead_as, ahead_in, ahead-first, ahead-next}
use Rattle.lmcp_writer.proofs.Puts.{Placed, object-ahead, object-laid, values-room, values-laid, single-room, single-laid}
use Rattle.lmcp_writer.proofs.Puts.{count-inside, count_room, objects-ahead, objects-laid, chars-room, chars-laid}
use Rattle.lmcp_writer.proofs.Puts.{Object, first-inside, null-room, null-laid, some-deep, some-typed, some-ahead, some-laid}
use Rattle.lmcp_writer.proofs.Walk.+walk.Goals as goal
use Rattle.lmcp_writer.proofs.Walk.+walk.Goals.{put_object-After-size_of-n, put_objects-After-size_of, put_objects-In-loop, put_row-After-size_of-count}

-- ---- what the table's bytes say

-- the rows of a type
rows-in : (w : Walk) (t : ℕ) → t < 8 → Bounds w.packed.version t (cell w.packed.rows 20 t) (cell w.packed.rows 21 t)
rows-in w t h = bounds w.packed.version t (cell w.packed.rows 20 t) (cell w.packed.rows 21 t) h w.packed.rows w.packed.packed refl refl

byte : (w : Walk) (i k : ℕ) → cell w.packed.rows i k ≡ cell (packed_of w.packed.version) i k
byte w i k = ap (λ (y : List (List ℕ)). cell y i k) w.packed.packed

-- a row at a place, with what is ahead
abbrev placed : (w : Walk) (d i p q room : ℕ) → i < length (rows_of (pitsurv w.packed.version)) → p ≤ length w.list.now → Ahead (write_row w.packed.version d i (drop p w.list.now)) q room
    → Placed w.packed.version d i w.list.now p q room
placed w d i p q room h l a =
    record {
      row = record {
        inside = h;
        code = cell w.packed.rows i 7;
        count = cell w.packed.rows i 0;
        arg = cell w.packed.rows i 3;
        code_is = byte w i 7;
        count-is = byte w i 0;
        arg_is = byte w i 3;
      };
      within = l;
      ahead = a;
    }

-- ---- fields

pub put_fields-loop-i-init : goal.put_fields-loop-i-init
put_fields-loop-i-init t c =
    let a = c.args in
    let w = a.self.now in
    let v = w.packed.version in
    let b = rows-in w a.t c.requires.1.0 in
    let e = ap (λ (fs : List Row). write_fields v a.deep fs (drop a.from.p w.list.now)) b.are in
    (refl, (begins {Few = Few0} (write_fields v a.deep (slice (cell w.packed.rows 20 a.t) (cell w.packed.rows 21 a.t) (rows_of (pitsurv v)))) a.from.p a.from.q a.out.now e tt c.requires.0, ahead_as e c.requires.1.1))

pub put_fields-put_row-spot-requires : goal.put_fields-put_row-spot-requires
put_fields-put_row-spot-requires t c =
    let a = c.args in
    let w = a.self.now in
    let v = w.packed.version in
    let x = c.loop-i in
    let b = rows-in w a.t c.requires.1.0 in
    let i : x.i < length (rows_of (pitsurv v)) = omega (arith, c.loop-i-test.true, b.inside) in
    let m = ahead_as (fields-more (writing (pitsurv v)) (write_object v a.deep) (rows_of (pitsurv v)) x.i (cell w.packed.rows 21 a.t) (drop x.spot.p w.list.now) c.loop-i-test.true b.inside) x.invariant.1.1 in
    (omega (arith), (x.invariant.1.0.within, ((omega (arith, i, few-rows v), i), ahead_in (sym x.invariant.0) (ahead-first _ _ m))))

pub put_fields-loop-i-preserved : goal.put_fields-loop-i-preserved
put_fields-loop-i-preserved t c =
    let a = c.args in
    let w = a.self.now in
    let v = w.packed.version in
    let x = c.loop-i in
    let W = writing (pitsurv v) in
    let obj = write_object v a.deep in
    let rows = rows_of (pitsurv v) in
    let end = cell w.packed.rows 21 a.t in
    let b = rows-in w a.t c.requires.1.0 in
    let r = c.put_row-spot.result in
    let m = ahead_as (fields-more W obj rows x.i end (drop x.spot.p w.list.now) c.loop-i-test.true b.inside) x.invariant.1.1 in (
      c.put_row-spot.auto.out ∙ x.invariant.0,
      (
        fields-turn Few0 W obj rows x.i end x.invariant.1.0 c.loop-i-test.true b.inside (went r.p r.q) c.put_row-spot.new.out c.put_row-spot.ensures (record { p = r.p; q = r.q }) refl,
        ahead-next _ _ m c.put_row-spot.ensures,
      ),
    )

pub put_fields-returns : goal.put_fields-returns
put_fields-returns t c =
    let a = c.args in
    let w = a.self.now in
    let v = w.packed.version in
    let x = c.loop-i in
    let b = rows-in w a.t c.requires.1.0 in
    fields-done Few0 (writing (pitsurv v)) (write_object v a.deep) (rows_of (pitsurv v)) x.i (cell w.packed.rows 21 a.t) x.invariant.1.0 c.loop-i-test.false (x.auto.i-end b.rise)

-- ---- an object

object-here : (w : Walk) (d t p q room : ℕ) → p ≤ length w.list.now → Ahead (write_object w.packed.version d t (drop p w.list.now)) q room → Object w.packed.version d t w.list.now p q room
object-here w d t p q room l a = record { within = l; ahead = a }

-- its type
object-number : (t : ℕ) (c : put_object-After-size_of-n t) → c.size_of-n.result ≡ mag (get_or c.args.self.now.list.now c.args.from.p (pos 0))
object-number t c =
    let a = c.args in
    let z : ℤ = get_or a.self.now.list.now a.from.p (pos 0) in
    c.size_of-n.ensures ∙ ap mag (through z (record { sfits = search rules }))

pub put_object-bounds-self-from : goal.put_object-bounds-self-from
put_object-bounds-self-from t c =
    let a = c.args in first-inside (object-here a.self.now a.deep a.declared a.from.p a.from.q (length a.out.now) c.requires.0 c.requires.1)

pub put_object-put_number-requires : goal.put_object-put_number-requires
put_object-put_number-requires t c =
    let s = (goal.at.put_object-put_number-requires t c).After-size_of-n in
    let a = c.args in
    (null-room (object-here a.self.now a.deep a.declared a.from.p a.from.q (length a.out.now) c.requires.0 c.requires.1) _ (object-number t s) c.if-n-eq0.true, one)

pub put_object-returns-then-n-eq0 : goal.put_object-returns-then-n-eq0
put_object-returns-then-n-eq0 t c =
    let s = (goal.at.put_object-returns-then-n-eq0 t c).After-size_of-n in
    let a = c.args in
    let laid = laid-number a.out.now c.put_number.new.out a.from.q 1 0 0 c.put_number.ensures refl in
    null-laid (object-here a.self.now a.deep a.declared a.from.p a.from.q (length a.out.now) c.requires.0 c.requires.1) _ (object-number t s) c.if-n-eq0.true c.put_number.new.out
    (laid ∙ ap (sets a.out.now a.from.q) zero-byte)

pub put_object-put_header-requires : goal.put_object-put_header-requires
put_object-put_header-requires t c =
    let s = (goal.at.put_object-put_header-requires t c).After-size_of-n in
    let a = c.args in
    (some-ahead (object-here a.self.now a.deep a.declared a.from.p a.from.q (length a.out.now) c.requires.0 c.requires.1) _ (object-number t s) c.if-n-eq0.false).0

pub put_object-overflow_sub-deep : goal.put_object-overflow_sub-deep
put_object-overflow_sub-deep t c =
    let s = (goal.at.put_object-overflow_sub-deep t c).After-size_of-n in
    let a = c.args in
    some-deep (object-here a.self.now a.deep a.declared a.from.p a.from.q (length a.out.now) c.requires.0 c.requires.1) _ (object-number t s) c.if-n-eq0.false

pub put_object-put_fields-requires : goal.put_object-put_fields-requires
put_object-put_fields-requires t c =
    let s = (goal.at.put_object-put_fields-requires t c).After-size_of-n in
    let a = c.args in
    let H = object-here a.self.now a.deep a.declared a.from.p a.from.q (length a.out.now) c.requires.0 c.requires.1 in
    let ns = object-number t s in
    let z = c.if-n-eq0.false in
    let l = first-inside H in
    let deep = some-deep H _ ns z in
    (omega (arith, deep), (omega (arith, l), (some-typed H _ ns z, ahead_in (sym c.put_header.auto.out) (some-ahead H _ ns z).1)))

pub put_object-returns : goal.put_object-returns
put_object-returns t c =
    let s = (goal.at.put_object-returns t c).After-size_of-n in
    let a = c.args in
    let laid = c.put_header.ensures ∙ overlay-sets a.out.now a.from.q (header (pitsurv a.self.now.packed.version) c.size_of-n.result) in
    some-laid (object-here a.self.now a.deep a.declared a.from.p a.from.q (length a.out.now) c.requires.0 c.requires.1) _ (object-number t s) c.if-n-eq0.false laid _ _ _ c.put_fields.ensures

-- ---- objects

abbrev turn-reads : (t : ℕ) → put_objects-In-loop t → List ℤ → Write
turn-reads t c = let a = c.args in write_object a.self.now.packed.version a.deep a.declared

turn-ahead : (t : ℕ) (c : put_objects-In-loop t) → Ahead (and_then (turn-reads t c (drop c.loop.spot.p c.args.self.now.list.now)) (repeat (c.args.n - (c.loop.counter + 1)) (turn-reads t c))) c.loop.spot.q (length c.args.out.now)
turn-ahead t c =
    let a = c.args in
    let x = c.loop in
    ahead_as (repeat-more (turn-reads t c) (drop x.spot.p a.self.now.list.now) a.n x.counter c.loop-test.true) x.invariant.1.1

turn-object : (t : ℕ) (c : put_objects-In-loop t) → Object c.args.self.now.packed.version c.args.deep c.args.declared c.args.self.now.list.now c.loop.spot.p c.loop.spot.q (length c.args.out.now)
turn-object t c = record { within = c.loop.invariant.1.0.within; ahead = ahead-first _ _ (turn-ahead t c) }

turn-number : (t : ℕ) (c : put_objects-After-size_of t) → c.size_of.result ≡ mag (get_or c.args.self.now.list.now c.loop.spot.p (pos 0))
turn-number t c =
    let z : ℤ = get_or c.args.self.now.list.now c.loop.spot.p (pos 0) in
    c.size_of.ensures ∙ ap mag (through z (record { sfits = search rules }))

pub put_objects-loop-init : goal.put_objects-loop-init
put_objects-loop-init t c =
    let a = c.args in
    let f = write_object a.self.now.packed.version a.deep a.declared in
    let e = repeat-all f (drop a.from.p a.self.now.list.now) a.n in
    (refl, (begins {Few = Few0} (repeat (a.n - 0) f) a.from.p a.from.q a.out.now e tt c.requires.0, ahead_as e c.requires.1))

pub put_objects-bounds-list-spot : goal.put_objects-bounds-list-spot
put_objects-bounds-list-spot t c = first-inside (turn-object t (goal.at.put_objects-bounds-list-spot t c).In-loop)

pub put_objects-put_number-requires : goal.put_objects-put_number-requires
put_objects-put_number-requires t c =
    let s = (goal.at.put_objects-put_number-requires t c).After-size_of in
    let test = (goal.at.put_objects-put_number-requires t c).In-loop in
    let l = null-room (turn-object t test) c.size_of.result (turn-number t s) c.if-size_of-eq0.true in
    (omega (arith, l, c.loop.invariant.0), one)

pub put_objects-loop-preserved-then-size_of-eq0 : goal.put_objects-loop-preserved-then-size_of-eq0
put_objects-loop-preserved-then-size_of-eq0 t c =
    let s = (goal.at.put_objects-loop-preserved-then-size_of-eq0 t c).After-size_of in
    let test = (goal.at.put_objects-loop-preserved-then-size_of-eq0 t c).In-loop in
    let a = c.args in
    let x = c.loop in
    let g = null-laid (turn-object t test) c.size_of.result (turn-number t s) c.if-size_of-eq0.true c.put_number.new.out
    (laid-number x.out c.put_number.new.out x.spot.q 1 0 0 c.put_number.ensures refl ∙ ap (sets x.out x.spot.q) zero-byte) in (
      c.put_number.auto.out ∙ x.invariant.0,
      (
        items-turn Few0 (turn-reads t test) a.n x.counter x.invariant.1.0 c.loop-test.true (went (x.spot.p + 1) (x.spot.q + 1)) _ g (record { p = x.spot.p + 1; q = x.spot.q + 1 }) refl,
        ahead-next _ _ (turn-ahead t test) g,
      ),
    )

pub put_objects-put_object-spot-requires : goal.put_objects-put_object-spot-requires
put_objects-put_object-spot-requires t c =
    let test = (goal.at.put_objects-put_object-spot-requires t c).In-loop in
    let x = c.loop in
    (omega (arith), (x.invariant.1.0.within, ahead_in (sym x.invariant.0) (ahead-first _ _ (turn-ahead t test))))

pub put_objects-loop-preserved : goal.put_objects-loop-preserved
put_objects-loop-preserved t c =
    let test = (goal.at.put_objects-loop-preserved t c).In-loop in
    let a = c.args in
    let x = c.loop in
    let r = c.put_object-spot.result in
    let out = c.put_object-spot.new.out in (
      c.put_object-spot.auto.out ∙ x.invariant.0,
      (
        items-turn Few0 (turn-reads t test) a.n x.counter x.invariant.1.0 c.loop-test.true (went r.p r.q) out c.put_object-spot.ensures (record { p = r.p; q = r.q }) refl,
        ahead-next _ _ (turn-ahead t test) c.put_object-spot.ensures,
      ),
    )

pub put_objects-returns : goal.put_objects-returns
put_objects-returns t c =
    let a = c.args in
    let x = c.loop in
    items-end Few0 (write_object a.self.now.packed.version a.deep a.declared) a.n x.counter x.invariant.1.0 c.loop-test.false

-- ---- a row

row_count : (t : ℕ) (c : put_row-After-size_of-count t) → c.size_of-count.result ≡ mag (get_or c.args.self.now.list.now c.args.from.p (pos 0))
row_count t c =
    let z : ℤ = get_or c.args.self.now.list.now c.args.from.p (pos 0) in
    c.size_of-count.ensures ∙ ap mag (through z (record { sfits = search rules }))

pub put_row-put_object-requires : goal.put_row-put_object-requires
put_row-put_object-requires t c =
    let a = c.args in
    let H = placed a.self.now a.deep a.i a.from.p a.from.q (length a.out.now) c.requires.1.0.1 c.requires.0 c.requires.1.1 in
    (omega (arith), (c.requires.0, object-ahead H c.if-w-eq0.true c.if-code-eq-OBJECT_CODE.true))

pub put_row-returns-then-code-eq-OBJECT_CODE : goal.put_row-returns-then-code-eq-OBJECT_CODE
put_row-returns-then-code-eq-OBJECT_CODE t c =
    let a = c.args in
    let H = placed a.self.now a.deep a.i a.from.p a.from.q (length a.out.now) c.requires.1.0.1 c.requires.0 c.requires.1.1 in
    object-laid H c.if-w-eq0.true c.if-code-eq-OBJECT_CODE.true _ _ _ c.put_object.ensures

pub put_row-bounds-self-from : goal.put_row-bounds-self-from
put_row-bounds-self-from t c =
    let a = c.args in
    let H = placed a.self.now a.deep a.i a.from.p a.from.q (length a.out.now) c.requires.1.0.1 c.requires.0 c.requires.1.1 in
    omega (arith, (single-room H c.if-w-eq0.true c.if-code-eq-OBJECT_CODE.false _ (byte a.self.now a.i 1) c.if-n-eq1.true).0)

pub put_row-put_number-requires : goal.put_row-put_number-requires
put_row-put_number-requires t c =
    let a = c.args in
    let H = placed a.self.now a.deep a.i a.from.p a.from.q (length a.out.now) c.requires.1.0.1 c.requires.0 c.requires.1.1 in
    ((single-room H c.if-w-eq0.true c.if-code-eq-OBJECT_CODE.false _ (byte a.self.now a.i 1) c.if-n-eq1.true).1, (widths H.row c.if-code-eq-OBJECT_CODE.false).wide)

pub put_row-returns-then-n-eq1 : goal.put_row-returns-then-n-eq1
put_row-returns-then-n-eq1 t c =
    let a = c.args in
    let w = a.self.now in
    let H = placed w a.deep a.i a.from.p a.from.q (length a.out.now) c.requires.1.0.1 c.requires.0 c.requires.1.1 in
    let v : ℤ = get_or w.list.now a.from.p (pos 0) in
    let u = c.bits_of.result in
    let laid = laid-number a.out.now c.put_number.new.out a.from.q (cell w.packed.rows a.i 3) u (unsigned 64 v) c.put_number.ensures (c.bits_of.ensures ∙ ap (unsigned 64) (through v (record { sfits = search rules }))) in
    single-laid H c.if-w-eq0.true c.if-code-eq-OBJECT_CODE.false _ (byte w a.i 1) c.if-n-eq1.true c.put_number.new.out laid

pub put_row-put_values-requires : goal.put_row-put_values-requires
put_row-put_values-requires t c =
    let a = c.args in
    let H = placed a.self.now a.deep a.i a.from.p a.from.q (length a.out.now) c.requires.1.0.1 c.requires.0 c.requires.1.1 in
    (values-room H c.if-w-eq0.true c.if-code-eq-OBJECT_CODE.false _ (byte a.self.now a.i 1), (widths H.row c.if-code-eq-OBJECT_CODE.false).wide)

pub put_row-overflow_mul-result : goal.put_row-overflow_mul-result
put_row-overflow_mul-result t c =
    let a = c.args in
    let H = placed a.self.now a.deep a.i a.from.p a.from.q (length a.out.now) c.requires.1.0.1 c.requires.0 c.requires.1.1 in
    let l = (values-room H c.if-w-eq0.true c.if-code-eq-OBJECT_CODE.false _ (byte a.self.now a.i 1)).1 in record { fits = omega (arith, l, c.requires.1.1.small) }

pub put_row-returns-then-w-eq0 : goal.put_row-returns-then-w-eq0
put_row-returns-then-w-eq0 t c =
    let a = c.args in
    let H = placed a.self.now a.deep a.i a.from.p a.from.q (length a.out.now) c.requires.1.0.1 c.requires.0 c.requires.1.1 in
    values-laid H c.if-w-eq0.true c.if-code-eq-OBJECT_CODE.false _ (byte a.self.now a.i 1) _ c.put_values.ensures

pub put_row-bounds-self-from-2 : goal.put_row-bounds-self-from-2
put_row-bounds-self-from-2 t c =
    let a = c.args in
    count-inside (placed a.self.now a.deep a.i a.from.p a.from.q (length a.out.now) c.requires.1.0.1 c.requires.0 c.requires.1.1) c.if-w-eq0.false

pub put_row-put_number-requires-2 : goal.put_row-put_number-requires-2
put_row-put_number-requires-2 t c =
    let a = c.args in
    let H = placed a.self.now a.deep a.i a.from.p a.from.q (length a.out.now) c.requires.1.0.1 c.requires.0 c.requires.1.1 in
    (count_room H c.if-w-eq0.false, (few H.row c.if-w-eq0.false).0)

pub put_row-put_objects-requires : goal.put_row-put_objects-requires
put_row-put_objects-requires t c =
    let s = (goal.at.put_row-put_objects-requires t c).After-size_of-count in
    let a = c.args in
    let H = placed a.self.now a.deep a.i a.from.p a.from.q (length a.out.now) c.requires.1.0.1 c.requires.0 c.requires.1.1 in
    let l = count-inside H c.if-w-eq0.false in
    (omega (arith), (omega (arith, l), ahead_in (sym c.put_number-2.auto.out) (objects-ahead H c.if-w-eq0.false _ (row_count t s) c.if-code-eq-OBJECT_CODE-2.true)))

pub put_row-returns-then-code-eq-OBJECT_CODE-2 : goal.put_row-returns-then-code-eq-OBJECT_CODE-2
put_row-returns-then-code-eq-OBJECT_CODE-2 t c =
    let s = (goal.at.put_row-returns-then-code-eq-OBJECT_CODE-2 t c).After-size_of-count in
    let a = c.args in
    let H = placed a.self.now a.deep a.i a.from.p a.from.q (length a.out.now) c.requires.1.0.1 c.requires.0 c.requires.1.1 in
    let n = c.size_of-count.result in
    let laid = laid-number a.out.now c.put_number-2.new.out a.from.q (cell a.self.now.packed.rows a.i 0) n n c.put_number-2.ensures refl in
    objects-laid H c.if-w-eq0.false n (row_count t s) c.if-code-eq-OBJECT_CODE-2.true laid _ _ _ c.put_objects.ensures

pub put_row-put_values-requires-2 : goal.put_row-put_values-requires-2
put_row-put_values-requires-2 t c =
    let s = (goal.at.put_row-put_values-requires-2 t c).After-size_of-count in
    let a = c.args in
    let H = placed a.self.now a.deep a.i a.from.p a.from.q (length a.out.now) c.requires.1.0.1 c.requires.0 c.requires.1.1 in
    let r = chars-room H c.if-w-eq0.false _ (row_count t s) c.if-code-eq-OBJECT_CODE-2.false in
    ((r.0, omega (arith, r.1, c.put_number-2.auto.out)), (widths H.row c.if-code-eq-OBJECT_CODE-2.false).wide)

pub put_row-overflow_mul-result-2 : goal.put_row-overflow_mul-result-2
put_row-overflow_mul-result-2 t c =
    let s = (goal.at.put_row-overflow_mul-result-2 t c).After-size_of-count in
    let a = c.args in
    let H = placed a.self.now a.deep a.i a.from.p a.from.q (length a.out.now) c.requires.1.0.1 c.requires.0 c.requires.1.1 in
    let l = (chars-room H c.if-w-eq0.false _ (row_count t s) c.if-code-eq-OBJECT_CODE-2.false).1 in record { fits = omega (arith, l, c.requires.1.1.small) }

pub put_row-overflow_add-result-3 : goal.put_row-overflow_add-result-3
put_row-overflow_add-result-3 t c =
    let s = (goal.at.put_row-overflow_add-result-3 t c).After-size_of-count in
    let a = c.args in
    let H = placed a.self.now a.deep a.i a.from.p a.from.q (length a.out.now) c.requires.1.0.1 c.requires.0 c.requires.1.1 in
    let l = (chars-room H c.if-w-eq0.false _ (row_count t s) c.if-code-eq-OBJECT_CODE-2.false).1 in record { fits = omega (arith, l, c.requires.1.1.small) }

pub put_row-returns : goal.put_row-returns
put_row-returns t c =
    let s = (goal.at.put_row-returns t c).After-size_of-count in
    let a = c.args in
    let H = placed a.self.now a.deep a.i a.from.p a.from.q (length a.out.now) c.requires.1.0.1 c.requires.0 c.requires.1.1 in
    let n = c.size_of-count.result in
    let laid = laid-number a.out.now c.put_number-2.new.out a.from.q (cell a.self.now.packed.rows a.i 0) n n c.put_number-2.ensures refl in
    chars-laid H c.if-w-eq0.false n (row_count t s) c.if-code-eq-OBJECT_CODE-2.false laid _ c.put_values-2.ensures
