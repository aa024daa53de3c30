-- `memory_places::each_in_order` meets its contract. Assumes nothing.
use Rattle.std.proofs.Common.{◌∙◌, sym, refl, rules, tests}
use Rattle.std.proofs.lemmas.Iterator.{YieldsList-from_range}
use Rattle.std.proofs.lemmas.Iterator.Search.{all_from_yields_List}
use Rattle.steps.specs.Limits.{senders_most}
use Rattle.steps.proofs.Ranges.{all-range}
use Rattle.memory_places.proofs.Places.{few_at, ok-is}
use Rattle.memory_places.proofs.each_in_order.Goals as goal

pub returns : goal.returns
returns c =
    let w = c.args.memory.now in
    all_from_yields_List (few_at w) _ _ _ c.all.ensures.ran (YieldsList-from_range 0 senders_most senders_most refl refl) (λ x b q k. search (rules, tests))
    ∙ all-range (few_at w) senders_most ∙ sym (ok-is w)
