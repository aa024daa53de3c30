-- `memory::free_place` meets its contract. Assumes nothing.
use Rattle.std.proofs.Common.{◌≡◌, true, false, rules, tests}
use Rattle.std.proofs.lemmas.Iterator.{first_from_Range}
use Rattle.steps.specs.Memory.{vacant}
use Rattle.memory.specs.Words.{place_in}
use Rattle.memory.proofs.Loops.{found}
use Rattle.memory.proofs.free_place.Goals as goal

pub returns : goal.returns
returns c =
    let w = c.args.memory.now in
    found vacant w _
    (first_from_Range _ _ _ _ (λ i. vacant (place_in w i) ≡ true) (λ i. vacant (place_in w i) ≡ false) c.find.ensures.ran
    (λ x q k. search (rules, tests)) (λ x q k. search (rules, tests)))
