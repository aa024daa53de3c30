-- `slots::all_sound` meets its contract. Assumes nothing.
use Rattle.std.proofs.Common.{◌∙◌, refl, rules, tests}
use Rattle.std.proofs.lemmas.Iterator.{YieldsList-from_range}
use Rattle.std.proofs.lemmas.Iterator.Search.{all_from_yields_List}
use Rattle.steps.specs.Limits.{slot_count}
use Rattle.steps.proofs.Ranges.{all-range}
use Rattle.slots.specs.Words.{sound_in}
use Rattle.slots.proofs.all_sound.Goals as goal

pub returns : goal.returns
returns c =
    let p = sound_in c.args.state.now c.args.room in
    all_from_yields_List p _ _ _ c.all.ensures.ran (YieldsList-from_range 0 slot_count slot_count refl refl) (λ x b q k. search (rules, tests))
    ∙ all-range p slot_count
