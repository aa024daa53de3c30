use Rattle.wire.proofs.Basics.{◌∙◌, sym, ◌≡◌, ap, refl, ℕ, ◌+◌, List, length, drop, take, length-drop, length-take, take-append-drop, take-add, take-length, arith}
use Rattle.wire.specs.Overlay.{overlay}
use Rattle.output.proofs.Sending.{pours-none, pours-then, pours-is, pours-at, pours-turn, pours_stuck, not_none}
use Rattle.output.proofs.pour.Goals as goal

pub loop-i-init : goal.loop-i-init
loop-i-init c = let a = c.args in (omega arith, refl, pours-none a.out.now a.at)

pub returns-then-k-eq0 : goal.returns-then-k-eq0
returns-then-k-eq0 c =
    let b = c.args.bytes.now in
    let i : ℕ = c.loop-i.i in
    pours-is
    (pours_stuck (drop i b) c.clear-from.ensures (omega (arith, c.if-k-eq0.true, c.least-k.ensures, c.room.ensures, c.loop-i-test.true)) (omega (arith, length-drop i b, c.loop-i-test.true)) c.loop-i.invariant.2)
    (take-append-drop i b)

pub overflow_add-next : goal.overflow_add-next
overflow_add-next c =
    record { fits = omega (arith, not_none c.least-k.result c.if-k-eq0.false, c.least-k.ensures, c.room.ensures, c.loop-i.invariant.1) }

pub loop-i-smaller : goal.loop-i-smaller
loop-i-smaller c =
    omega (arith, not_none c.least-k.result c.if-k-eq0.false, c.least-k.ensures, c.loop-i-test.true)

pub loop-i-preserved : goal.loop-i-preserved
loop-i-preserved c =
    let b = c.args.bytes.now in
    let i : ℕ = c.loop-i.i in
    let n : ℕ = c.least-k.result in
    let from : ℕ = c.clear-from.result in
    let s : List ℕ = take n (drop i b) in
    let size : length s ≡ n = omega (arith, length-take n (drop i b), length-drop i b, c.least-k.ensures) in
    let put = c.put_bytes.ensures ∙ ap (overlay c.loop-i.out from) c.part.ensures in
    let turn = pours-turn c.loop-i.out _ s c.loop-i.next from c.clear-from.ensures (omega (arith, size, not_none n c.if-k-eq0.false)) (omega (arith, size, c.least-k.ensures, c.room.ensures)) put in (
      omega (arith, c.least-k.ensures),
      c.put_bytes.auto.out ∙ c.loop-i.invariant.1,
      pours-at (pours-is (pours-then c.loop-i.invariant.2 turn) (sym (take-add i n b))) (ap (λ (m : ℕ). from + m) size),
    )

pub returns : goal.returns
returns c =
    let b = c.args.bytes.now in
    let e : c.loop-i.i ≡ length b = omega (arith, c.loop-i-test.false, c.loop-i.invariant.0) in
    pours-is c.loop-i.invariant.2 (ap (λ (k : ℕ). take k b) e ∙ take-length b)
