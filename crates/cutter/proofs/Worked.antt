-- The worked cases, computed in one statement. Assumes nothing.
use Rattle.wire.proofs.Basics.{◌≡◌, refl, map}
use Rattle.names.specs.Name.{good_name_lem}
use Rattle.cutter.specs.Cut.{count_of, length_of, plan_of, cut_answer}
use Rattle.cutter.specs.Worked.{Case, cases}

pub worked-cases : map (λ (c : Case). c.asked) cases ≡ map (λ (c : Case). c.answered) cases
unfolding cut_answer plan_of count_of length_of good_name_lem
worked-cases = refl
