use Rattle.wire.proofs.Basics.{◌∙◌, ◌≡◌, ap, ℕ, List, ◌+◌, ◌-◌, ◌%◌, ◌<◌, take, drop, length-drop, length-take-le, get_or, get_or-take, get_or-drop, arith}
use Rattle.steps.specs.Limits.{keys_each}
use Rattle.memory.specs.Words.{sequences_at}
use Rattle.memory.proofs.Loops.{seen_more, key-nowhere}
use Rattle.memory.proofs.may_have.Goals as goal

row : (w : List ℕ) (a b k : ℕ) → k < b - a → get_or (take (b - a) (drop a w)) k 0 ≡ get_or w (a + k) 0
row w a b k h = get_or-take (b - a) (drop a w) k 0 h ∙ get_or-drop a w k 0

pub loop-key-preserved : goal.loop-key-preserved
loop-key-preserved c =
    let a = c.args in
    let l = c.loop-key in
    seen_more (λ k. get_or a.memory.now (sequences_at a.i + k) 0) l.key-index a.sequence _ _ l.seen (c.low_of.ensures ∙ ap (λ x. x % 4294967296) (row a.memory.now (sequences_at a.i) (sequences_at a.i + keys_each) l.key-index (omega (arith, c.loop-key-test.true)))) c.low_of-low.ensures l.invariant

pub returns : goal.returns
returns c =
    let l = c.loop-key in
    let a = c.args in
    λ e. key-nowhere a.memory.now a.i a.sequence (λ j h. l.invariant e j (omega (arith, length-take-le {A = ℕ}, length-drop {A = ℕ}, c.loop-key-test.false)))
