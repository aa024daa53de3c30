-- `memory::is_remembered` meets its contract. Assumes nothing.
use Rattle.wire.proofs.Basics.{◌∙◌, sym, ap}
use Rattle.steps.specs.InsideSearch.{option_of}
use Rattle.memory.proofs.Views.{known-there, known-nowhere}
use Rattle.memory.proofs.is_remembered.Goals as goal

pub returns-in_default : goal.returns-in_default
returns-in_default c =
    let a = c.args in
    known-nowhere a.memory.now a.sender a.sequence (sym c.own_place.ensures.first ∙ ap option_of c.in_default.is)

pub returns-then-not-may_have : goal.returns-then-not-may_have
returns-then-not-may_have c =
    let a = c.args in
    known-there a.memory.now a.sender a.sequence _ _ (sym c.own_place.ensures.first ∙ ap option_of c.in-Some.is) (sym (c.may_have.ensures c.if-not-may_have.true))

pub returns : goal.returns
returns c =
    let a = c.args in
    known-there a.memory.now a.sender a.sequence _ _ (sym c.own_place.ensures.first ∙ ap option_of c.in-Some.is) c.has_key.ensures
