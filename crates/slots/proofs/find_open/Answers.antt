-- `slots::find_open` meets its contract. Assumes nothing.
use Rattle.std.proofs.Common.{◌≡◌, true, false, rules, tests}
use Rattle.std.proofs.lemmas.Iterator.{first_from_Range}
use Rattle.steps.specs.Limits.{slot_count}
use Rattle.slots.specs.Words.{key_in}
use Rattle.slots.proofs.Loops.{find-first}
use Rattle.slots.proofs.find_open.Goals as goal

pub returns : goal.returns
returns c =
    let a = c.args in
    find-first (key_in a.state.now a.sender a.sequence) slot_count _
    (first_from_Range _ _ _ _ (λ i. key_in a.state.now a.sender a.sequence i ≡ true) (λ i. key_in a.state.now a.sender a.sequence i ≡ false) c.find.ensures.ran
    (λ x q k. search (rules, tests)) (λ x q k. search (rules, tests)))
