-- `slots::lowest_free` meets its contract. Assumes nothing.
use Rattle.std.proofs.Common.{◌≡◌, true, false, rules, tests}
use Rattle.std.proofs.lemmas.Iterator.{first_from_Range}
use Rattle.steps.specs.Limits.{slot_count}
use Rattle.slots.specs.Words.{free_in}
use Rattle.slots.proofs.Loops.{find-first}
use Rattle.slots.proofs.lowest_free.Goals as goal

pub returns : goal.returns
returns c =
    let w = c.args.state.now in
    find-first (free_in w) slot_count _
    (first_from_Range _ _ _ _ (λ i. free_in w i ≡ true) (λ i. free_in w i ≡ false) c.find.ensures.ran
    (λ x q k. search (rules, tests)) (λ x q k. search (rules, tests)))
