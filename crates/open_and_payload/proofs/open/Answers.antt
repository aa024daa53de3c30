-- `open_and_payload::open` meets its contract. Assumes nothing.
use Rattle.wire.proofs.Basics.{rules}
use Rattle.open_and_payload.proofs.Opening.{words-opens, names-opens, opens}
use Rattle.open_and_payload.proofs.open.Goals as goal

pub returns-then-state-ne-STATE_WORDS : goal.returns-then-state-ne-STATE_WORDS
returns-then-state-ne-STATE_WORDS c =
    let args = c.args in
    let if1 = c.if-state-ne-STATE_WORDS in
    words-opens args.state.now args.names.now _ if1.true

pub returns-then-names-ne-NAME_BYTES : goal.returns-then-names-ne-NAME_BYTES
returns-then-names-ne-NAME_BYTES c =
    let args = c.args in
    let if2 = c.if-names-ne-NAME_BYTES in
    names-opens args.state.now args.names.now _ if2.true

pub returns : goal.returns
returns c =
    let args = c.args in
    opens args.state.now args.names.now c.if-state-ne-STATE_WORDS.false c.if-names-ne-NAME_BYTES.false _ c.slot_size.result _ _ _ _ c.slot_size.ensures
    (c.fill.ensures.after (λ y e. search rules)) c.put_word.ensures c.put_word-2.ensures (c.fill-2.ensures.after (λ y e. search rules))
