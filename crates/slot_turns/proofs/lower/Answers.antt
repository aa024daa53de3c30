-- `slot_turns::lower` meets its contract. Assumes nothing.
use Rattle.wire.proofs.Basics.{◌∙◌, sym, ap}
use Rattle.steps.specs.Limits.{slot_count}
use Rattle.ranks.specs.declared.Ranked.{Ranked}
use Rattle.ranks.specs.Ranks.{ranks_lowered}
use Rattle.slots.specs.Words.{turns}
use Rattle.slot_turns.proofs.TurnsStay.{lowered-still}
use Rattle.slot_turns.proofs.lower.Goals as goal

pub returns-then-none_above : goal.returns-then-none_above
returns-then-none_above c =
    let a = c.args in
    sym (lowered-still a.state.now turns a.t slot_count (c.none_above.ensures c.if-none_above.true))

pub returns : goal.returns
returns c =
    let a = c.args in
    c.lower_ranks.ensures ∙ ap (λ (p : Ranked). ranks_lowered a.state.now p a.t slot_count) c.turns.ensures
