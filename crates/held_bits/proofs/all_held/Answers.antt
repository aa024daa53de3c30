-- `held_bits::all_held` meets its contract. Assumes nothing.
use Rattle.wire.proofs.Basics.{◌∙◌, sym, ◌/◌}
use Rattle.held_bits.proofs.Bits.{held-last, words_full}
use Rattle.held_bits.proofs.all_held.Goals as goal

pub returns-then-low_set : goal.returns-then-low_set
returns-then-low_set c =
    let a = c.args in
    let last = rw c.word.ensures at (sym c.low_set.ensures ∙ c.if-low_set.true) in
    words_full a.held.now (λ i. (c.type_inv.held i).fits) (a.n / 64) _ c.all_full.ensures.yes c.all_full.ensures.no ∙ sym (rw last at (held-last a.held.now a.n))

pub returns-else-low_set : goal.returns-else-low_set
returns-else-low_set c =
    let a = c.args in
    let missed = rw c.word.ensures at (sym c.low_set.ensures ∙ c.if-low_set.false) in
    c.if-low_set.false ∙ sym (rw missed at (held-last a.held.now a.n))
