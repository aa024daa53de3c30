-- `memory::own_place` meets its contract. Assumes nothing.
use Rattle.std.proofs.Common.{◌≡◌, true, false, rules, tests}
use Rattle.std.proofs.lemmas.Iterator.{first_from_Range}
use Rattle.steps.specs.Memory.{is_of}
use Rattle.memory.specs.Words.{place_in}
use Rattle.memory.proofs.Loops.{found}
use Rattle.memory.proofs.own_place.Goals as goal

pub returns-clause-first : goal.returns-clause-first
returns-clause-first c =
    let a = c.args in
    found (is_of a.sender) a.memory.now _
    (first_from_Range _ _ _ _ (λ i. is_of a.sender (place_in a.memory.now i) ≡ true) (λ i. is_of a.sender (place_in a.memory.now i) ≡ false) c.find.ensures.ran
    (λ x q k. search (rules, tests)) (λ x q k. search (rules, tests)))
