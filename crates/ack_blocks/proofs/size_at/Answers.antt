-- The bytes of a block. Assumes nothing.
use Rattle.wire.proofs.Basics.{◌∙◌, sym, ◌≡◌, ap, ℕ, ◌+◌, drop, arith}
use Rattle.ack_blocks.specs.Read.{kind_in, bits_in, map_bytes_lem}
use Rattle.ack_blocks.specs.Kinds.{byte_of}
use Rattle.ack_blocks.proofs.BlockCases.{size-single, size-run, size-map}
use Rattle.ack_blocks.proofs.size_at.Goals as goal

pub returns-in-Single : goal.returns-in-Single
returns-in-Single c =
    let s = drop c.args.at c.args.b.now in
    (sym (size-single s (sym c.requires.1 ∙ ap byte_of c.in-Single.is)), (omega arith, omega arith))

pub returns-in-Run : goal.returns-in-Run
returns-in-Run c =
    let s = drop c.args.at c.args.b.now in
    (sym (size-run s (sym c.requires.1 ∙ ap byte_of c.in-Run.is)), (omega arith, omega arith))

pub returns-in-Bitmap : goal.returns-in-Bitmap
returns-in-Bitmap c =
    let s = drop c.args.at c.args.b.now in
    let k : kind_in s ≡ 2 = sym c.requires.1 ∙ ap byte_of c.in-Bitmap.is in
    let m : c.map_bytes.result ≡ map_bytes_lem (bits_in s) = c.map_bytes.ensures.0 ∙ ap map_bytes_lem c.bits_at.ensures.0 in
    let e = size-map s (λ h. omega (arith, k, h)) (λ h. omega (arith, k, h)) in
    (ap (λ (n : ℕ). 11 + n) m ∙ sym e, (omega arith, omega arith))
