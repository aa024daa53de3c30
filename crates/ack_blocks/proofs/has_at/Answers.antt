-- Whether a block acknowledges a number. Assumes nothing.
use Rattle.wire.proofs.Basics.{◌∙◌, sym, ◌≡◌, ap, ℕ, drop, eqb, arith}
use Rattle.ack_blocks.specs.Blocks.{Block, has, between, in_map}
use Rattle.ack_blocks.specs.Read.{kind_in, bits_in, map_in}
use Rattle.ack_blocks.specs.Kinds.{byte_of}
use Rattle.ack_blocks.proofs.BlockCases.{block-single, block_run, block-map}
use Rattle.ack_blocks.proofs.has_at.Goals as goal

pub returns-in-Single : goal.returns-in-Single
returns-in-Single c =
    let a = c.args in
    let s = drop a.at a.b.now in
    ap (λ (x : ℕ). eqb a.n x) c.field-first.ensures.0 ∙ ap (λ (k : Block). has k a.n) (sym (block-single s (sym c.requires.1 ∙ ap byte_of c.in-Single.is)))

pub returns-in-Run : goal.returns-in-Run
returns-in-Run c =
    let a = c.args in
    let s = drop a.at a.b.now in
    c.is_between.ensures
    ∙ (λ i. between (c.field-first.ensures.0 i) (c.field.ensures.0 i) a.n)
    ∙ ap (λ (k : Block). has k a.n) (sym (block_run s (sym c.requires.1 ∙ ap byte_of c.in-Run.is)))

pub returns-in-Bitmap : goal.returns-in-Bitmap
returns-in-Bitmap c =
    let a = c.args in
    let s = drop a.at a.b.now in
    let k : kind_in s ≡ 2 = sym c.requires.1 ∙ ap byte_of c.in-Bitmap.is in
    let e = block-map s (λ h. omega (arith, k, h)) (λ h. omega (arith, k, h)) in
    c.map_has.ensures
    ∙ ap (λ (x : ℕ). in_map x (bits_in s) (map_in s) a.n) c.field-first.ensures.0
    ∙ ap (λ (k : Block). has k a.n) (sym e)
