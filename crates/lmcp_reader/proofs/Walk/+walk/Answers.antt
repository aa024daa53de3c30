use Rattle.wire.proofs.Basics.{◌∙◌, ◌≡◌, ap, refl, ℕ, ◌≤◌, ◌+◌, ◌<◌, ◌-◌, List, length, drop, get_or, set, slice, ℤ, arith}
use Rattle.wire.specs.Bytes.{be}
use Rattle.lmcp.specs.declared.Row.{Row}
use Rattle.lmcp.specs.InsideEnds.{went}
use Rattle.lmcp.specs.Run.{and_then, repeat}
use Rattle.lmcp.specs.Table.{pitsurv, rows_of}
use Rattle.lmcp.specs.Packed.{packed_of}
use Rattle.lmcp.specs.InsidePacked.{cell}
use Rattle.lmcp.specs.Read.{reading}
use Rattle.lmcp.proofs.WalkPlaces.{begins, repeat-all, repeat-more, fields-more, items-turn, items-end, fields-turn, fields-done}
use Rattle.lmcp.proofs.Widths.{be-one}
use Rattle.lmcp.proofs.Rows.{Bounds, few-rows, bounds}
use Rattle.lmcp.proofs.Aheads.{ahead_as, ahead-first, ahead-next}
use Rattle.lmcp_check.specs.InsideSteps.{read_object, read_row, read_fields}
use Rattle.lmcp_check.proofs.ReadCases.{number_is}
use Rattle.lmcp.specs.InsideAhead.{Few0}
use Rattle.lmcp_reader.specs.declared.Walk.{Walk}
use Rattle.lmcp_reader.specs.InsidePuts.{Ahead}
use Rattle.lmcp_reader.proofs.NumberBits.{through, plain-small}
use Rattle.lmcp_reader.proofs.Arrays.{width_is}
use Rattle.lmcp_reader.proofs.Puts.{Placed, object-ahead, object-laid, values-room, values-laid, single-room, single-laid}
use Rattle.lmcp_reader.proofs.Puts.{few, count-inside, objects-ahead, objects-laid, chars-room, chars-laid}
use Rattle.lmcp_reader.proofs.Puts.{Object, first-inside, null-laid, some-inside, some-deep, some-typed, some-ahead, some-laid}
use Rattle.lmcp_reader.proofs.Walk.+walk.Goals as goal
use Rattle.lmcp_reader.proofs.Walk.+walk.Goals.{put_objects-In-loop}

-- ---- what the table's bytes say

-- the rows of a type
rows-in : (w : Walk) (t : ℕ) → t < 8 → Bounds w.packed.version t (cell w.packed.rows 20 t) (cell w.packed.rows 21 t)
rows-in w t h = bounds w.packed.version t (cell w.packed.rows 20 t) (cell w.packed.rows 21 t) h w.packed.rows w.packed.packed refl refl

byte : (w : Walk) (i k : ℕ) → cell w.packed.rows i k ≡ cell (packed_of w.packed.version) i k
byte w i k = ap (λ (y : List (List ℕ)). cell y i k) w.packed.packed

-- a row at a place, with what is ahead
abbrev placed : (w : Walk) (d i p q : ℕ) → i < length (rows_of (pitsurv w.packed.version)) → p ≤ length w.s.now → Ahead (read_row w.packed.version d i (drop p w.s.now)) q → Placed w.packed.version d i w.s.now p q
placed w d i p q h l a =
    record {
      row = record {
        inside = h;
        code = cell w.packed.rows i 7;
        count = cell w.packed.rows i 0;
        arg = cell w.packed.rows i 3;
        code_is = byte w i 7;
        count-is = byte w i 0;
        arg_is = byte w i 3;
      };
      within = l;
      ahead = a;
    }

-- ---- fields

pub put_fields-loop-i-init : goal.put_fields-loop-i-init
put_fields-loop-i-init t c =
    let a = c.args in
    let w = a.self.now in
    let v = w.packed.version in
    let b = rows-in w a.t c.requires.1.0 in
    let e = ap (λ (fs : List Row). read_fields v a.deep fs (drop a.from.p w.s.now)) b.are in
    (refl, (begins {Few = Few0} (read_fields v a.deep (slice (cell w.packed.rows 20 a.t) (cell w.packed.rows 21 a.t) (rows_of (pitsurv v)))) a.from.p a.from.q a.list.now e tt c.requires.0, ahead_as e c.requires.1.1))

pub put_fields-put_row-spot-requires : goal.put_fields-put_row-spot-requires
put_fields-put_row-spot-requires t c =
    let a = c.args in
    let w = a.self.now in
    let v = w.packed.version in
    let x = c.loop-i in
    let b = rows-in w a.t c.requires.1.0 in
    let i : x.i < length (rows_of (pitsurv v)) = omega (arith, c.loop-i-test.true, b.inside) in
    let m = ahead_as (fields-more (reading (pitsurv v)) (read_object v a.deep) (rows_of (pitsurv v)) x.i (cell w.packed.rows 21 a.t) (drop x.spot.p w.s.now) c.loop-i-test.true b.inside) x.invariant.1.1 in
    (omega (arith), (x.invariant.1.0.within, ((omega (arith, i, few-rows v), i), ahead-first _ _ m)))

pub put_fields-loop-i-preserved : goal.put_fields-loop-i-preserved
put_fields-loop-i-preserved t c =
    let a = c.args in
    let w = a.self.now in
    let v = w.packed.version in
    let x = c.loop-i in
    let W = reading (pitsurv v) in
    let obj = read_object v a.deep in
    let rows = rows_of (pitsurv v) in
    let end = cell w.packed.rows 21 a.t in
    let b = rows-in w a.t c.requires.1.0 in
    let r = c.put_row-spot.result in
    let m = ahead_as (fields-more W obj rows x.i end (drop x.spot.p w.s.now) c.loop-i-test.true b.inside) x.invariant.1.1 in (
      c.put_row-spot.auto.list ∙ x.invariant.0,
      (
        fields-turn Few0 W obj rows x.i end x.invariant.1.0 c.loop-i-test.true b.inside (went r.p r.q) c.put_row-spot.new.list c.put_row-spot.ensures (record { p = r.p; q = r.q }) refl,
        ahead-next _ _ m c.put_row-spot.ensures,
      ),
    )

pub put_fields-returns : goal.put_fields-returns
put_fields-returns t c =
    let a = c.args in
    let w = a.self.now in
    let v = w.packed.version in
    let x = c.loop-i in
    let b = rows-in w a.t c.requires.1.0 in
    fields-done Few0 (reading (pitsurv v)) (read_object v a.deep) (rows_of (pitsurv v)) x.i (cell w.packed.rows 21 a.t) x.invariant.1.0 c.loop-i-test.false (x.auto.i-end b.rise)

-- ---- an object

object-here : (w : Walk) (d t p q : ℕ) → p ≤ length w.s.now → Ahead (read_object w.packed.version d t (drop p w.s.now)) q → Object w.packed.version d t w.s.now p q
object-here w d t p q l a = record { within = l; ahead = a }

-- its first byte
first : (w : Walk) (p : ℕ) → get_or w.s.now p 0 ≡ be 1 (drop p w.s.now)
first w p = be-one w.s.now p (get_or w.s.now p 0) refl

pub put_object-bounds-self-from : goal.put_object-bounds-self-from
put_object-bounds-self-from t c = let a = c.args in first-inside (object-here a.self.now a.deep a.declared a.from.p a.from.q c.requires.0 c.requires.1)

pub put_object-returns-then-exists-eq0 : goal.put_object-returns-then-exists-eq0
put_object-returns-then-exists-eq0 t c =
    let a = c.args in
    null-laid (object-here a.self.now a.deep a.declared a.from.p a.from.q c.requires.0 c.requires.1) _ (first a.self.now a.from.p) c.if-exists-eq0.true _ c.put.ensures

pub put_object-four-t-requires : goal.put_object-four-t-requires
put_object-four-t-requires t c =
    let a = c.args in
    let k = some-inside (object-here a.self.now a.deep a.declared a.from.p a.from.q c.requires.0 c.requires.1) _ (first a.self.now a.from.p) c.if-exists-eq0.false in
    omega (arith, k)

pub put_object-overflow_sub-deep : goal.put_object-overflow_sub-deep
put_object-overflow_sub-deep t c =
    let a = c.args in
    some-deep (object-here a.self.now a.deep a.declared a.from.p a.from.q c.requires.0 c.requires.1) _ (first a.self.now a.from.p) c.if-exists-eq0.false

pub put_object-put_fields-requires : goal.put_object-put_fields-requires
put_object-put_fields-requires t c =
    let a = c.args in
    let z = c.if-exists-eq0.false in
    let H = object-here a.self.now a.deep a.declared a.from.p a.from.q c.requires.0 c.requires.1 in
    let e = first a.self.now a.from.p in
    let deep = some-deep H _ e z in
    (omega (arith, deep), (some-inside H _ e z, (some-typed H _ e z c.four-t.result c.four-t.ensures, (some-ahead H _ e z c.four-t.result c.four-t.ensures).1)))

pub put_object-returns : goal.put_object-returns
put_object-returns t c =
    let a = c.args in
    let H = object-here a.self.now a.deep a.declared a.from.p a.from.q c.requires.0 c.requires.1 in
    some-laid H _ (first a.self.now a.from.p) c.if-exists-eq0.false c.four-t.result c.four-t.ensures
    (c.put-2.ensures ∙ ap (λ (z : ℤ). set a.list.now a.from.q z) (through (record { sfits = c.from.type_inv }) c.from.ensures)) _ _ _ c.put_fields.ensures

-- ---- objects

abbrev turn-ahead : (t : ℕ) (c : put_objects-In-loop t) → Ahead (and_then (read_object c.args.self.now.packed.version c.args.deep c.args.declared (drop c.loop.spot.p c.args.self.now.s.now))
    (repeat (c.args.n - (c.loop.counter + 1)) (read_object c.args.self.now.packed.version c.args.deep c.args.declared))) c.loop.spot.q
turn-ahead t c =
    let a = c.args in
    let x = c.loop in
    ahead_as (repeat-more (read_object a.self.now.packed.version a.deep a.declared) (drop x.spot.p a.self.now.s.now) a.n x.counter c.loop-test.true) x.invariant.1.1

abbrev turn-object : (t : ℕ) (c : put_objects-In-loop t) → Object c.args.self.now.packed.version c.args.deep c.args.declared c.args.self.now.s.now c.loop.spot.p c.loop.spot.q
turn-object t c = record { within = c.loop.invariant.1.0.within; ahead = ahead-first _ _ (turn-ahead t c) }

pub put_objects-loop-init : goal.put_objects-loop-init
put_objects-loop-init t c =
    let a = c.args in
    let f = read_object a.self.now.packed.version a.deep a.declared in
    let e = repeat-all f (drop a.from.p a.self.now.s.now) a.n in
    (refl, (begins {Few = Few0} (repeat (a.n - 0) f) a.from.p a.from.q a.list.now e tt c.requires.0, ahead_as e c.requires.1))

pub put_objects-bounds-s-spot : goal.put_objects-bounds-s-spot
put_objects-bounds-s-spot t c = first-inside (turn-object t (goal.at.put_objects-bounds-s-spot t c).In-loop)

pub put_objects-loop-preserved-then-s-spot-eq0 : goal.put_objects-loop-preserved-then-s-spot-eq0
put_objects-loop-preserved-then-s-spot-eq0 t c =
    let test = (goal.at.put_objects-loop-preserved-then-s-spot-eq0 t c).In-loop in
    let a = c.args in
    let x = c.loop in
    let f = read_object a.self.now.packed.version a.deep a.declared in
    let g = null-laid (turn-object t test) _ (first a.self.now x.spot.p) c.if-s-spot-eq0.true _ c.put.ensures in
    (c.put.auto.list ∙ x.invariant.0, (items-turn Few0 f a.n x.counter x.invariant.1.0 c.loop-test.true (went (x.spot.p + 1) (x.spot.q + 1)) _ g (record { p = x.spot.p + 1; q = x.spot.q + 1 }) refl, ahead-next _ _ (turn-ahead t test) g))

pub put_objects-put_object-spot-requires : goal.put_objects-put_object-spot-requires
put_objects-put_object-spot-requires t c =
    let test = (goal.at.put_objects-put_object-spot-requires t c).In-loop in
    (omega (arith), (c.loop.invariant.1.0.within, ahead-first _ _ (turn-ahead t test)))

pub put_objects-loop-preserved : goal.put_objects-loop-preserved
put_objects-loop-preserved t c =
    let test = (goal.at.put_objects-loop-preserved t c).In-loop in
    let a = c.args in
    let x = c.loop in
    let f = read_object a.self.now.packed.version a.deep a.declared in
    let r = c.put_object-spot.result in
    let out = c.put_object-spot.new.list in (
      c.put_object-spot.auto.list ∙ x.invariant.0,
      (
        items-turn Few0 f a.n x.counter x.invariant.1.0 c.loop-test.true (went r.p r.q) out c.put_object-spot.ensures (record { p = r.p; q = r.q }) refl,
        ahead-next _ _ (turn-ahead t test) c.put_object-spot.ensures,
      ),
    )

pub put_objects-returns : goal.put_objects-returns
put_objects-returns t c =
    let a = c.args in
    let x = c.loop in
    items-end Few0 (read_object a.self.now.packed.version a.deep a.declared) a.n x.counter x.invariant.1.0 c.loop-test.false

-- ---- a row

pub put_row-put_object-requires : goal.put_row-put_object-requires
put_row-put_object-requires t c =
    let a = c.args in
    let H = placed a.self.now a.deep a.i a.from.p a.from.q c.requires.1.0.1 c.requires.0 c.requires.1.1 in
    (omega (arith), (c.requires.0, object-ahead H c.if-w-eq0.true c.if-code-eq-OBJECT_CODE.true))

pub put_row-returns-then-code-eq-OBJECT_CODE : goal.put_row-returns-then-code-eq-OBJECT_CODE
put_row-returns-then-code-eq-OBJECT_CODE t c =
    let a = c.args in
    let H = placed a.self.now a.deep a.i a.from.p a.from.q c.requires.1.0.1 c.requires.0 c.requires.1.1 in
    object-laid H c.if-w-eq0.true c.if-code-eq-OBJECT_CODE.true _ _ _ c.put_object.ensures

pub put_row-value_of-requires : goal.put_row-value_of-requires
put_row-value_of-requires t c =
    let a = c.args in
    let H = placed a.self.now a.deep a.i a.from.p a.from.q c.requires.1.0.1 c.requires.0 c.requires.1.1 in
    omega (arith, (single-room H c.if-code-eq-OBJECT_CODE.false c.if-w-eq0.true _ (byte a.self.now a.i 1) c.if-n-eq1.true).0, width_is H.row c.if-code-eq-OBJECT_CODE.false)

pub put_row-returns-then-n-eq1 : goal.put_row-returns-then-n-eq1
put_row-returns-then-n-eq1 t c =
    let a = c.args in
    let H = placed a.self.now a.deep a.i a.from.p a.from.q c.requires.1.0.1 c.requires.0 c.requires.1.1 in
    let v = c.value_of in
    single-laid H c.if-code-eq-OBJECT_CODE.false c.if-w-eq0.true _ (byte a.self.now a.i 1) c.if-n-eq1.true _
    (c.put.ensures ∙ ap (λ (y : ℤ). set a.list.now a.from.q y) (through (record { sfits = v.type_inv }) v.ensures))

pub put_row-put_bytes_as_numbers-requires : goal.put_row-put_bytes_as_numbers-requires
put_row-put_bytes_as_numbers-requires t c =
    let a = c.args in
    let H = placed a.self.now a.deep a.i a.from.p a.from.q c.requires.1.0.1 c.requires.0 c.requires.1.1 in
    (values-room H c.if-code-eq-OBJECT_CODE.false c.if-w-eq0.true _ (byte a.self.now a.i 1) c.if-n-eq1.false, a.self.now.short)

pub put_row-returns-then-w-eq0 : goal.put_row-returns-then-w-eq0
put_row-returns-then-w-eq0 t c =
    let a = c.args in
    let H = placed a.self.now a.deep a.i a.from.p a.from.q c.requires.1.0.1 c.requires.0 c.requires.1.1 in
    values-laid H c.if-code-eq-OBJECT_CODE.false c.if-w-eq0.true _ (byte a.self.now a.i 1) c.if-n-eq1.false _ c.put_bytes_as_numbers.ensures

pub put_row-plain_of-requires : goal.put_row-plain_of-requires
put_row-plain_of-requires t c =
    let a = c.args in
    let H = placed a.self.now a.deep a.i a.from.p a.from.q c.requires.1.0.1 c.requires.0 c.requires.1.1 in
    let w = few H c.if-w-eq0.false in
    plain-small H.row.count c.number-count.result w (number_is a.self.now.s.now a.from.p H.row.count c.number-count.result (omega (arith, w)) c.number-count.ensures).1

pub put_row-put_objects-requires : goal.put_row-put_objects-requires
put_row-put_objects-requires t c =
    let a = c.args in
    let H = placed a.self.now a.deep a.i a.from.p a.from.q c.requires.1.0.1 c.requires.0 c.requires.1.1 in
    (omega (arith), (count-inside H c.if-w-eq0.false, objects-ahead H c.if-w-eq0.false _ c.number-count.ensures c.if-code-eq-OBJECT_CODE-2.true))

pub put_row-returns-then-code-eq-OBJECT_CODE-2 : goal.put_row-returns-then-code-eq-OBJECT_CODE-2
put_row-returns-then-code-eq-OBJECT_CODE-2 t c =
    let a = c.args in
    let H = placed a.self.now a.deep a.i a.from.p a.from.q c.requires.1.0.1 c.requires.0 c.requires.1.1 in
    let v = c.plain_of in
    objects-laid H c.if-w-eq0.false _ c.number-count.ensures c.if-code-eq-OBJECT_CODE-2.true
    (c.put-2.ensures ∙ ap (λ (z : ℤ). set a.list.now a.from.q z) (through (record { sfits = v.type_inv }) v.ensures)) _ _ _ c.put_objects.ensures

pub put_row-put_bytes_as_numbers-requires-2 : goal.put_row-put_bytes_as_numbers-requires-2
put_row-put_bytes_as_numbers-requires-2 t c =
    let a = c.args in
    let H = placed a.self.now a.deep a.i a.from.p a.from.q c.requires.1.0.1 c.requires.0 c.requires.1.1 in
    (chars-room H c.if-w-eq0.false _ c.number-count.ensures c.if-code-eq-OBJECT_CODE-2.false, a.self.now.short)

pub put_row-returns : goal.put_row-returns
put_row-returns t c =
    let a = c.args in
    let H = placed a.self.now a.deep a.i a.from.p a.from.q c.requires.1.0.1 c.requires.0 c.requires.1.1 in
    let v = c.plain_of in
    chars-laid H c.if-w-eq0.false _ c.number-count.ensures c.if-code-eq-OBJECT_CODE-2.false
    (c.put-2.ensures ∙ ap (λ (z : ℤ). set a.list.now a.from.q z) (through (record { sfits = v.type_inv }) v.ensures)) _ c.put_bytes_as_numbers-2.ensures
