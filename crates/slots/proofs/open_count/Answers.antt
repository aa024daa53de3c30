-- `slots::open_count` meets its contract. Assumes nothing.
use Rattle.std.proofs.Common.{◌∙◌, refl, rules, tests}
use Rattle.std.proofs.lemmas.Iterator.{YieldsList-from_range}
use Rattle.std.proofs.lemmas.Iterator.Consumers.{count_from_yields_List, YieldsList-at, YieldsList-from_filter}
use Rattle.steps.specs.Limits.{slot_count}
use Rattle.steps.proofs.Ranges.{count-range}
use Rattle.slots.specs.Words.{busy_in}
use Rattle.slots.proofs.open_count.Goals as goal

pub returns : goal.returns
returns c =
    let p = busy_in c.args.state.now in
    count_from_yields_List c.filter.result _ c.count.ensures.ran
    (YieldsList-from_filter _ p (YieldsList-at c.filter.ensures.source (YieldsList-from_range 0 slot_count slot_count refl refl)) c.filter.ensures.closure (λ x b q k. search (rules, tests)))
    ∙ count-range p slot_count
