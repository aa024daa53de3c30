-- The head of a record stands before its body. Assumes nothing.
use Rattle.wire.proofs.Basics.{◌∙◌, ◌≡◌, ℕ, ◌+◌, ◌-◌, min, List, drop, take, slice, arith}
use Rattle.stream.specs.Records.{head_of}
use Rattle.stream.proofs.Slices.{take-drop}
use Rattle.stream.proofs.head.Goals as goal

before : (b : List ℕ) (at h a k : ℕ) → a ≡ at - h → k ≡ min h at → take k (drop a b) ≡ slice (at - h) at b
before b at h a k p q =
    take-drop a k b ∙ (λ i. drop (p i) (take ((let e : a + k ≡ at = omega arith in e) i) b))

pub returns : goal.returns
returns c =
    let a = c.args in
    let e = c.head_of-n.ensures in
    c.part.ensures
    ∙ before a.buf.now a.at (head_of a.kind) c.saturating_sub.result c.min.result (omega (arith, c.saturating_sub.ensures, e)) (omega (arith, c.min.ensures, e))
