-- `verdict::by_key` meets its contract. Assumes nothing.
use Rattle.wire.proofs.Basics.{◌∙◌, sym, ap}
use Rattle.steps.specs.Limits.{slot_count}
use Rattle.steps.specs.InsideSearch.{option_of}
use Rattle.slots.specs.Words.{key_in}
use Rattle.receiver_state.specs.View.{view}
use Rattle.receiver_state.proofs.Firsts.{first-within}
use Rattle.receiver_state.proofs.Remembers.{remembered-is}
use Rattle.receiver_state.proofs.StepListCases.{decide-again, decide-small, decide-begin, decide-open}
use Rattle.verdict.specs.Decided.{with_header}
use Rattle.verdict.proofs.Decides.{open_is, small-verdict}
use Rattle.verdict.proofs.by_key.Goals as goal

pub returns-then-is_remembered : goal.returns-then-is_remembered
returns-then-is_remembered c =
    let if1 = c.if-is_remembered in
    let args = c.args in
    let known = sym (remembered-is args.state.now c.requires.0.shape.words args.sender _ args.h.sequence c.as_word-sequence.ensures c.requires.0.known _ c.is_remembered.ensures) in
    ap (with_header args.h) (sym (decide-again (view args.state.now args.names.now) args.store.now args.ledger.now args.sender args.d.now args.h (known ∙ if1.true)))

pub returns-then-h : goal.returns-then-h
returns-then-h c =
    let at_small = c.at_small in
    let args = c.args in
    let known = sym (remembered-is args.state.now c.requires.0.shape.words args.sender _ args.h.sequence c.as_word-sequence.ensures c.requires.0.known _ c.is_remembered.ensures) in
    let found = open_is args.state.now args.names.now args.sender _ args.h.sequence c.as_word-sequence.ensures _ c.find_open-found.ensures in
    at_small.ensures ∙ small-verdict args.d.now args.h c.find_open-found.result
    ∙ ap (with_header args.h) (sym (decide-small (view args.state.now args.names.now) args.store.now args.ledger.now args.sender args.d.now args.h (known ∙ c.if-is_remembered.false) c.if-h.true _ found))

pub returns-in_default : goal.returns-in_default
returns-in_default c =
    let args = c.args in
    let known = sym (remembered-is args.state.now c.requires.0.shape.words args.sender _ args.h.sequence c.as_word-sequence.ensures c.requires.0.known _ c.is_remembered.ensures) in
    let found = open_is args.state.now args.names.now args.sender _ args.h.sequence c.as_word-sequence.ensures _ c.find_open-found.ensures in
    ap (with_header args.h) (sym (decide-begin (view args.state.now args.names.now) args.store.now args.ledger.now args.sender args.d.now args.h (known ∙ c.if-is_remembered.false) c.if-h.false (found ∙ ap option_of c.in_default.is)))

pub at_open-requires : goal.at_open-requires
at_open-requires c =
    let args = c.args in
    let inside = first-within (key_in args.state.now args.sender c.as_word-sequence.result) slot_count _ (sym c.find_open-found.ensures ∙ c.in-Some.is) in
    (inside, c.requires.0, c.requires.1, c.requires.2, c.if-h.false)

pub returns : goal.returns
returns c =
    let at_open = c.at_open in
    let args = c.args in
    let known = sym (remembered-is args.state.now c.requires.0.shape.words args.sender _ args.h.sequence c.as_word-sequence.ensures c.requires.0.known _ c.is_remembered.ensures) in
    let at = open_is args.state.now args.names.now args.sender _ args.h.sequence c.as_word-sequence.ensures _ c.find_open-found.ensures in
    at_open.ensures ∙ ap (with_header args.h) (sym (decide-open (view args.state.now args.names.now) args.store.now args.ledger.now args.sender args.d.now args.h _ (known ∙ c.if-is_remembered.false) c.if-h.false (at ∙ ap option_of c.in-Some.is)))
