-- `lmcp_size::check_value` meets its contract.
use Rattle.wire.proofs.Basics.{rules, ◌∙◌, sym, ◌≡◌, ap, ℕ, ◌+◌, ◌*◌, true, false, drop, get_or, ℤ, pos, arith}
use Rattle.wire.specs.Bytes.{bytes}
use Rattle.wire.specs.Signed.{unsigned}
use Rattle.wire.proofs.Numbers.{length-bytes}
use Rattle.refusals.specs.Numbers.{number_of}
use Rattle.lmcp.specs.Value.{fits}
use Rattle.lmcp.proofs.Sizes.{through}
use Rattle.lmcp_size.proofs.WriteCases.{wide-some, at-end, here, value-end, value-good, value-bad}
use Rattle.lmcp_size.proofs.Weighs.{weighed}
use Rattle.lmcp_size.proofs.check_value.Goals as goal

pub returns-then-from-list : goal.returns-then-from-list
returns-then-from-list c =
    let a = c.args in
    value-end a.kind a.w (drop a.from.p a.list.now) (at-end a.list.now a.from.p c.if-from-list.true)

pub overflow_add-result-then-fits_in : goal.overflow_add-result-then-fits_in
overflow_add-result-then-fits_in c = record { fits = omega (arith, c.requires.0.place, (wide-some c.requires.1.wide).1, c.requires.0.inside, c.well_formed.0.1) }

pub returns-then-fits_in : goal.returns-then-fits_in
returns-then-fits_in c =
    let a = c.args in
    let z : ℤ = get_or a.list.now a.from.p (pos 0) in
    let same = through z (record { sfits = search rules }) in
    let e = here a.list.now a.from.p (omega (arith, c.if-from-list.false, c.requires.0.inside)) in
    let f : fits a.kind a.w z ≡ true = sym (c.fits_in.ensures ∙ ap (fits a.kind a.w) same) ∙ c.if-fits_in.true in
    let v = unsigned (8 * a.w) z in
    weighed (a.from.p + 1) (a.from.q + a.w) (omega (arith, c.requires.0.place, (wide-some c.requires.1.wide).1)) (omega (arith, c.if-from-list.false, c.requires.0.inside)) (bytes a.w v)
    (value-good a.kind a.w (drop a.from.p a.list.now) (drop (a.from.p + 1) a.list.now) z e f) (ap (λ (n : ℕ). a.from.q + n) (sym (length-bytes a.w v)))

pub returns : goal.returns
returns c =
    let a = c.args in
    let z : ℤ = get_or a.list.now a.from.p (pos 0) in
    let same = through z (record { sfits = search rules }) in
    let e = here a.list.now a.from.p (omega (arith, c.if-from-list.false, c.requires.0.inside)) in
    let f : fits a.kind a.w z ≡ false = sym (c.fits_in.ensures ∙ ap (fits a.kind a.w) same) ∙ c.if-fits_in.false in
    value-bad a.kind a.w (drop a.from.p a.list.now) (drop (a.from.p + 1) a.list.now) z e f (number_of c.denial_of.result) c.denial_of.ensures
