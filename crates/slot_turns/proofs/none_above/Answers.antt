-- `slot_turns::none_above` meets its contract. Assumes nothing.
use Rattle.std.proofs.Common.{◌∙◌, sym, refl, ℕ, leb, rules, tests}
use Rattle.std.proofs.lemmas.Iterator.{YieldsList-from_range}
use Rattle.std.proofs.lemmas.Iterator.Search.{all_from_yields_List}
use Rattle.wire.proofs.Basics.{leb-true}
use Rattle.steps.specs.Limits.{slot_count}
use Rattle.steps.proofs.Ranges.{all-range}
use Rattle.steps.proofs.Tables.{all-at}
use Rattle.slots.specs.Words.{turn_word, at}
use Rattle.slot_turns.proofs.none_above.Goals as goal

pub returns : goal.returns
returns c =
    let a = c.args in
    let p = λ (i : ℕ). leb (at a.state.now i turn_word) a.t in
    let e = all_from_yields_List p _ _ _ c.all.ensures.ran (YieldsList-from_range 0 slot_count slot_count refl refl) (λ x b q k. search (rules, tests)) ∙ all-range p slot_count in
    λ t i h. leb-true _ _ (all-at slot_count p (sym e ∙ t) i h)
