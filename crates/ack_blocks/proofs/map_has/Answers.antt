-- The bit of a number, by its place. Assumes nothing.
use Rattle.wire.proofs.Basics.{◌∙◌, sym, ap, ℕ, ◌<◌, ◌-◌, ◌^◌, ◌%◌, ◌/◌, drop, eqb, arith}
use Rattle.ack_blocks.specs.Read.{bits_in, map_in}
use Rattle.ack_blocks.proofs.BlockCases.{map-before, map-past, map-bit, map-byte}
use Rattle.ack_blocks.proofs.map_has.Goals as goal

pub returns-then-n-first : goal.returns-then-n-first
returns-then-n-first c =
    let a = c.args in
    let s = drop a.at a.b.now in
    sym (map-before a.first (bits_in s) (map_in s) a.n c.if-n-first.true)

pub returns-then-bits_at-i : goal.returns-then-bits_at-i
returns-then-bits_at-i c =
    let a = c.args in
    let s = drop a.at a.b.now in
    sym (map-past a.first (bits_in s) (map_in s) a.n c.if-n-first.false (omega (arith, c.bits_at.ensures.0)))

pub returns : goal.returns
returns c =
    let a = c.args in
    let s = drop a.at a.b.now in
    let i = a.n - a.first in
    let below : i < bits_in s = omega (arith, c.bits_at.ensures.0) in
    let byte = c.field-byte.ensures.0 ∙ map-byte s (i / 8) (omega arith) in
    sym (map-bit a.first (bits_in s) (map_in s) a.n c.if-n-first.false below ∙ ap (λ (x : ℕ). eqb (x / 2 ^ (7 - i % 8) % 2) 1) (sym byte))
