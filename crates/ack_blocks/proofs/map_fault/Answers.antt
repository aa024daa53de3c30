-- A bitmap: its bits, its last number, its padding. Assumes nothing.
use Rattle.ack_blocks.specs.InsideWalk.{judged}
use Rattle.ack_blocks.proofs.BlockCases.{padding-is, step_is, step-some, map-none, map-over, map-good, map-padded}
use Rattle.wire.proofs.Basics.{◌∙◌, sym, ◌≡◌, ap, ◌≤◌, ◌+◌, ◌<◌, ◌-◌, ◌*◌, drop, arith}
use Rattle.ack_blocks.specs.Limits.{largest}
use Rattle.ack_blocks.specs.Read.{first_in, bits_in, map_bytes_lem}
use Rattle.ack_blocks.proofs.map_fault.Goals as goal

pub returns-then-bits-eq0 : goal.returns-then-bits-eq0
returns-then-bits-eq0 c =
    let a = c.args in
    let s = drop a.at a.b.now in
    ap judged (sym (map-none s (sym c.bits_at-bits.ensures.0 ∙ c.if-bits-eq0.true)))

pub returns-then-field-bits : goal.returns-then-field-bits
returns-then-field-bits c =
    let a = c.args in
    let s = drop a.at a.b.now in
    let k = c.bits_at-bits.ensures.0 in
    ap judged (sym (map-over s (λ h. c.if-bits-eq0.false (k ∙ h)) (omega (arith, k, c.field.ensures.0))))

pub nonzero_rem-field : goal.nonzero_rem-field
nonzero_rem-field c = let few : 8 * c.map_bytes-m.result - c.bits_at-bits.result < 64 = omega arith in step-some _ few

pub returns-then-field-step-eq0 : goal.returns-then-field-step-eq0
returns-then-field-step-eq0 c =
    let a = c.args in
    let s = drop a.at a.b.now in
    let k = c.bits_at-bits.ensures.0 in
    let m = c.map_bytes-m.ensures.0 ∙ ap map_bytes_lem k in
    let u = 8 * c.map_bytes-m.result - c.bits_at-bits.result in
    let few : u < 64 = omega arith in
    let p = padding-is s _ _ _ _ c.field-2.ensures.0 m k (step_is u few) in
    let fits : first_in s + bits_in s - 1 ≤ largest = omega (arith, c.bits_at-bits.ensures.0, c.field.ensures.0) in
    let some : bits_in s ≡ 0 → ⊥ = λ h. c.if-bits-eq0.false (k ∙ h) in
    ap judged (sym (map-good s some fits (sym p ∙ c.if-field-step-eq0.true)))

pub returns : goal.returns
returns c =
    let a = c.args in
    let s = drop a.at a.b.now in
    let k = c.bits_at-bits.ensures.0 in
    let m = c.map_bytes-m.ensures.0 ∙ ap map_bytes_lem k in
    let u = 8 * c.map_bytes-m.result - c.bits_at-bits.result in
    let few : u < 64 = omega arith in
    let p = padding-is s _ _ _ _ c.field-2.ensures.0 m k (step_is u few) in
    let fits : first_in s + bits_in s - 1 ≤ largest = omega (arith, c.bits_at-bits.ensures.0, c.field.ensures.0) in
    let some : bits_in s ≡ 0 → ⊥ = λ h. c.if-bits-eq0.false (k ∙ h) in
    ap judged (sym (map-padded s some fits (λ h. c.if-field-step-eq0.false (p ∙ h))))
