-- `verdict::at_open` meets its contract. Assumes nothing.
use Rattle.wire.proofs.Basics.{◌∙◌, sym, ap, refl, ◌+◌, ◌*◌}
use Rattle.datagram.specs.Limits.{max_fragments}
use Rattle.slots.specs.Words.{block_at, held_word}
use Rattle.steps.proofs.Branches.{step3-other, step3-again, step3_differs, step3-join, step3-clash}
use Rattle.receiver_state.proofs.StepListCases.{held-lent, held-asked, other-size, other-count, same-both, agree-all}
use Rattle.verdict.specs.Decided.{with_header}
use Rattle.verdict.proofs.at_open.Goals as goal

pub returns-then-word_of-as_word : goal.returns-then-word_of-as_word
returns-then-word_of-as_word c =
    let if1 = c.if-word_of-as_word in
    let args = c.args in
    ap (with_header args.h) (sym (step3-other _ _ _ _ _ _ (other-size args.state.now args.names.now args.s c.requires.0 args.d.now args.h (λ q. if1.true (c.word_of.ensures ∙ q ∙ sym c.as_word.ensures)))))

pub returns-then-word_of-as_word-2 : goal.returns-then-word_of-as_word-2
returns-then-word_of-as_word-2 c =
    let if2 = c.if-word_of-as_word-2 in
    let args = c.args in
    ap (with_header args.h) (sym (step3-other _ _ _ _ _ _ (other-count args.state.now args.names.now args.s c.requires.0 args.d.now args.h (λ q. if2.true (c.word_of-2.ensures ∙ q ∙ sym c.as_word-2.ensures)))))

pub same_fragment-requires : goal.same_fragment-requires
same_fragment-requires c =
    let pre = c.requires in
    (pre.0, pre.1, pre.2)

pub returns-then-same_fragment : goal.returns-then-same_fragment
returns-then-same_fragment c =
    let if4 = c.if-same_fragment in
    let args = c.args in
    let both = same-both args.state.now args.names.now args.s c.requires.0 args.d.now args.h (sym c.word_of.ensures ∙ c.if-word_of-as_word.false ∙ c.as_word.ensures) (sym c.word_of-2.ensures ∙ c.if-word_of-as_word-2.false ∙ c.as_word-2.ensures) in
    let held = held-asked args.state.now args.names.now args.s c.requires.0 _ args.h.number (block_at args.s + held_word) _ _ refl refl c.as_size.ensures.0 c.is_held.ensures in
    ap (with_header args.h) (sym (step3-again _ _ _ _ _ _ both (held ∙ c.if-is_held.true) (sym c.same_fragment.ensures ∙ if4.true)))

pub returns-then-is_held : goal.returns-then-is_held
returns-then-is_held c =
    let if4 = c.if-same_fragment in
    let args = c.args in
    let both = same-both args.state.now args.names.now args.s c.requires.0 args.d.now args.h (sym c.word_of.ensures ∙ c.if-word_of-as_word.false ∙ c.as_word.ensures) (sym c.word_of-2.ensures ∙ c.if-word_of-as_word-2.false ∙ c.as_word-2.ensures) in
    let held = held-asked args.state.now args.names.now args.s c.requires.0 _ args.h.number (block_at args.s + held_word) _ _ refl refl c.as_size.ensures.0 c.is_held.ensures in
    ap (with_header args.h) (sym (step3_differs _ _ _ _ _ _ both (held ∙ c.if-is_held.true) (sym c.same_fragment.ensures ∙ if4.false)))

pub returns-then-fits_all : goal.returns-then-fits_all
returns-then-fits_all c =
    let if5 = c.if-fits_all in
    let args = c.args in
    let both = same-both args.state.now args.names.now args.s c.requires.0 args.d.now args.h (sym c.word_of.ensures ∙ c.if-word_of-as_word.false ∙ c.as_word.ensures) (sym c.word_of-2.ensures ∙ c.if-word_of-as_word-2.false ∙ c.as_word-2.ensures) in
    let held = held-asked args.state.now args.names.now args.s c.requires.0 _ args.h.number (block_at args.s + held_word) _ _ refl refl c.as_size.ensures.0 c.is_held.ensures in
    let lent = held-lent args.state.now args.names.now args.s c.requires.0 (block_at args.s + held_word) _ refl refl in
    let all = agree-all args.state.now args.names.now args.s c.requires.0 args.d.now args.h args.ledger.now _ (2 * max_fragments * args.s) _ args.h.payload.len
    lent c.requires.3 (c.requires.2.few c.requires.4) (sym c.word_of-2.ensures ∙ c.if-word_of-as_word-2.false ∙ c.as_word-2.ensures) refl refl (sym c.requires.2.long) in
    ap (with_header args.h) (sym (step3-join _ _ _ _ _ _ both (held ∙ c.if-is_held.false) (sym all ∙ sym c.fits_all.ensures ∙ if5.true)))

pub returns : goal.returns
returns c =
    let if5 = c.if-fits_all in
    let args = c.args in
    let both = same-both args.state.now args.names.now args.s c.requires.0 args.d.now args.h (sym c.word_of.ensures ∙ c.if-word_of-as_word.false ∙ c.as_word.ensures) (sym c.word_of-2.ensures ∙ c.if-word_of-as_word-2.false ∙ c.as_word-2.ensures) in
    let held = held-asked args.state.now args.names.now args.s c.requires.0 _ args.h.number (block_at args.s + held_word) _ _ refl refl c.as_size.ensures.0 c.is_held.ensures in
    let lent = held-lent args.state.now args.names.now args.s c.requires.0 (block_at args.s + held_word) _ refl refl in
    let all = agree-all args.state.now args.names.now args.s c.requires.0 args.d.now args.h args.ledger.now _ (2 * max_fragments * args.s) _ args.h.payload.len
    lent c.requires.3 (c.requires.2.few c.requires.4) (sym c.word_of-2.ensures ∙ c.if-word_of-as_word-2.false ∙ c.as_word-2.ensures) refl refl (sym c.requires.2.long) in
    ap (with_header args.h) (sym (step3-clash _ _ _ _ _ _ both (held ∙ c.if-is_held.false) (sym all ∙ sym c.fits_all.ensures ∙ if5.false)))
