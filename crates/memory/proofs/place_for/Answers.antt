-- `memory::place_for` meets its contract. Assumes nothing.
use Rattle.wire.proofs.Basics.{◌∙◌, sym, ap}
use Rattle.steps.specs.Limits.{senders_most}
use Rattle.steps.specs.InsideSearch.{option_of}
use Rattle.ranks.specs.Ranks.{lowest_ranked_lem}
use Rattle.ranks.specs.declared.Ranked.{Ranked}
use Rattle.memory.proofs.Views.{for-own, for-free, for-other}
use Rattle.memory.proofs.place_for.Goals as goal

pub returns-in-Some : goal.returns-in-Some
returns-in-Some c =
    let a = c.args in
    for-own a.memory.now a.sender _ (sym c.own_place.ensures.first ∙ ap option_of c.in-Some.is)

pub returns-in-Some-free_place : goal.returns-in-Some-free_place
returns-in-Some-free_place c =
    let a = c.args in
    for-free a.memory.now a.sender _ (sym c.own_place.ensures.first ∙ ap option_of c.in_default.is) (sym c.free_place.ensures ∙ ap option_of c.in-Some-free_place.is)

pub returns : goal.returns
returns c =
    let a = c.args in
    for-other a.memory.now a.sender _ (sym c.own_place.ensures.first ∙ ap option_of c.in_default.is) (sym c.free_place.ensures ∙ ap option_of c.in_default-free_place.is)
    (c.lowest_ranked.ensures ∙ ap (λ (p : Ranked). lowest_ranked_lem a.memory.now p senders_most) c.turns.ensures)
