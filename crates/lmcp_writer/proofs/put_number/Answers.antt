-- `lmcp_writer::put_number` meets its contract: each width goes its way.
use Rattle.wire.proofs.Basics.{◌∙◌, sym, ◌≡◌, ap, ℕ, ◌%◌, [], ◌∷◌, length, arith}
use Rattle.wire.specs.Bytes.{bytes}
use Rattle.wire.specs.Overlay.{overlay}
use Rattle.wire.proofs.Overlays.{overlay-sets}
use Rattle.lmcp_size.proofs.WriteCases.{wide-last}
use Rattle.lmcp_writer.proofs.Widths.{eight-laid}
use Rattle.lmcp_writer.proofs.put_number.Goals as goal
use Rattle.lmcp_writer.proofs.put_number.Goals.{Else-w-eq1}

-- none of the others

last : (c : Else-w-eq1) → c.args.w ≡ 8
last c = wide-last c.requires.1 c.if-w-eq4.false c.if-w-eq2.false c.if-w-eq1.false

pub put_four-requires : goal.put_four-requires
put_four-requires c = omega (arith, c.if-w-eq4.true, c.requires.0)

pub returns-then-w-eq4 : goal.returns-then-w-eq4
returns-then-w-eq4 c =
    let a = c.args in
    c.put_four.ensures ∙ ap (λ (w : ℕ). overlay a.out.now a.to (bytes w a.v)) (sym c.if-w-eq4.true)

pub put_two-requires : goal.put_two-requires
put_two-requires c = omega (arith, c.if-w-eq2.true, c.requires.0)

pub returns-then-w-eq2 : goal.returns-then-w-eq2
returns-then-w-eq2 c =
    let a = c.args in
    c.put_two.ensures ∙ ap (λ (w : ℕ). overlay a.out.now a.to (bytes w a.v)) (sym c.if-w-eq2.true)

pub bounds-out-to : goal.bounds-out-to
bounds-out-to c = omega (arith, c.if-w-eq1.true, c.requires.0)

pub returns-then-w-eq1 : goal.returns-then-w-eq1
unfolding bytes
returns-then-w-eq1 c =
    let a = c.args in
    sym (overlay-sets a.out.now a.to (a.v % 256 ∷ [])) ∙ ap (λ (w : ℕ). overlay a.out.now a.to (bytes w a.v)) (sym c.if-w-eq1.true)

pub put_four-requires-2 : goal.put_four-requires-2
put_four-requires-2 c = let i = (goal.at.put_four-requires-2 c).Else-w-eq1 in omega (arith, last i, c.requires.0)

pub overflow_add-to : goal.overflow_add-to
overflow_add-to c = let i = (goal.at.overflow_add-to c).Else-w-eq1 in record { fits = omega (arith, last i, c.requires.0, c.well_formed.0.1) }

pub put_four-requires-3 : goal.put_four-requires-3
put_four-requires-3 c =
    let i = (goal.at.put_four-requires-3 c).Else-w-eq1 in
    let n : length c.put_four-2.new.out ≡ length c.args.out.now = c.put_four-2.auto.out in
    omega (arith, n, last i, c.requires.0)

pub returns : goal.returns
returns c =
    let i = (goal.at.returns c).Else-w-eq1 in
    let a = c.args in
    eight-laid a.out.now c.put_four-2.new.out c.put_four-3.new.out a.to a.v c.put_four-2.ensures c.put_four-3.ensures
    ∙ ap (λ (w : ℕ). overlay a.out.now a.to (bytes w a.v)) (sym (last i))
