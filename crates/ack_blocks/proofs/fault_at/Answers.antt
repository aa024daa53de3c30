-- What is wrong with a block of a known kind, refusals 70, 72, 73, 74 in that order. Assumes nothing.
use Rattle.wire.proofs.Basics.{◌∙◌, sym, ◌≡◌, ap, ◌≤◌, length, drop, length-drop, arith}
use Rattle.ack_blocks.specs.InsideWalk.{judged}
use Rattle.ack_blocks.specs.Read.{kind_in, size_in}
use Rattle.ack_blocks.specs.Kinds.{byte_of}
use Rattle.ack_blocks.proofs.BlockCases.{byte-known, fault-cut, fault-run, fault-map, fault-none}
use Rattle.ack_blocks.proofs.fault_at.Goals as goal

pub returns-then-b-at : goal.returns-then-b-at
returns-then-b-at c =
    let a = c.args in
    let s = drop a.at a.b.now in
    ap judged (sym (fault-cut s (byte-known s a.kind c.requires.1) (omega (arith, c.size_at.ensures.0, length-drop a.at a.b.now))))

pub returns-in-Single : goal.returns-in-Single
returns-in-Single c =
    let a = c.args in
    let s = drop a.at a.b.now in
    let k : kind_in s ≡ 0 = sym c.requires.1 ∙ ap byte_of c.in-Single.is in
    let whole : size_in s ≤ length s = omega (arith, c.size_at.ensures.0, length-drop a.at a.b.now) in
    ap judged (sym (fault-none s (byte-known s a.kind c.requires.1) whole (λ h. omega (arith, k, h)) (λ h. omega (arith, k, h))))

pub returns-in-Run : goal.returns-in-Run
returns-in-Run c =
    let a = c.args in
    let s = drop a.at a.b.now in
    let whole : size_in s ≤ length s = omega (arith, c.size_at.ensures.0, length-drop a.at a.b.now) in
    c.run_fault.ensures ∙ ap judged (sym (fault-run s (byte-known s a.kind c.requires.1) whole (sym c.requires.1 ∙ ap byte_of c.in-Run.is)))

pub returns-in-Bitmap : goal.returns-in-Bitmap
returns-in-Bitmap c =
    let a = c.args in
    let s = drop a.at a.b.now in
    let k : kind_in s ≡ 2 = sym c.requires.1 ∙ ap byte_of c.in-Bitmap.is in
    let whole : size_in s ≤ length s = omega (arith, c.size_at.ensures.0, length-drop a.at a.b.now) in
    c.map_fault.ensures ∙ ap judged (sym (fault-map s (byte-known s a.kind c.requires.1) whole (λ h. omega (arith, k, h)) k))
