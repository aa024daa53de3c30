-- `receiver::forget` meets its contract. Assumes nothing.
use Rattle.wire.proofs.Basics.{◌∙◌, sym, refl}
use Rattle.receiver_state.proofs.Remembers.{in-order-is, drops}
use Rattle.receiver.proofs.Forgetting.{words-forgets, names-forgets, memory-forgets, known-after, forgets}
use Rattle.receiver.proofs.forget.Goals as goal

pub returns-then-state-ne-STATE_WORDS : goal.returns-then-state-ne-STATE_WORDS
returns-then-state-ne-STATE_WORDS c =
    let args = c.args in
    let if1 = c.if-state-ne-STATE_WORDS in
    words-forgets args.state.now args.names.now args.sender if1.true

pub returns-then-names-ne-NAME_BYTES : goal.returns-then-names-ne-NAME_BYTES
returns-then-names-ne-NAME_BYTES c =
    let args = c.args in
    let if2 = c.if-names-ne-NAME_BYTES in
    names-forgets args.state.now args.names.now args.sender if2.true

pub returns-then-not-in_order : goal.returns-then-not-in_order
returns-then-not-in_order c =
    let if3 = c.if-not-in_order in
    let args = c.args in
    let known = sym (in-order-is args.state.now c.if-state-ne-STATE_WORDS.false _ c.in_order.ensures) in
    memory-forgets args.state.now args.names.now args.sender c.if-state-ne-STATE_WORDS.false c.if-names-ne-NAME_BYTES.false (known ∙ if3.true)

pub release_all-requires : goal.release_all-requires
release_all-requires c =
    record { words = c.if-state-ne-STATE_WORDS.false; bytes = c.if-names-ne-NAME_BYTES.false }

pub returns : goal.returns
returns c =
    let args = c.args in
    let known = sym (in-order-is args.state.now c.if-state-ne-STATE_WORDS.false _ c.in_order.ensures) in
    let ok = known ∙ c.if-not-in_order.false in
    let free = c.release_all.ensures in
    let still = known-after args.state.now args.names.now _ _ args.sender ok free in
    let D = drops _ free.shape.words args.sender c.forget.new.memory _ still c.forget.ensures refl in
    forgets args.state.now args.names.now c.if-state-ne-STATE_WORDS.false c.if-names-ne-NAME_BYTES.false args.sender _ _ _ ok free D
