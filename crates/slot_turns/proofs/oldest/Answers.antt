-- `slot_turns::oldest` meets its contract. Assumes nothing.
use Rattle.wire.proofs.Basics.{◌∙◌, ap}
use Rattle.steps.specs.Limits.{slot_count}
use Rattle.ranks.specs.declared.Ranked.{Ranked}
use Rattle.ranks.specs.Ranks.{lowest_ranked_lem}
use Rattle.slot_turns.proofs.oldest.Goals as goal

pub returns : goal.returns
returns c =
    let lowest-ranked = c.lowest_ranked in
    let args = c.args in
    let turns = c.turns in
    lowest-ranked.ensures ∙ ap (λ (p : Ranked). lowest_ranked_lem args.state.now p slot_count) turns.ensures
