-- `receiver_state::is_ready` meets its contract. Assumes nothing.
use Rattle.wire.proofs.Basics.{◌∙◌, sym, false, eq-eqb, ne_eqb}
use Rattle.receiver_state.proofs.Bridge.{tests-are}
use Rattle.receiver_state.proofs.Remembers.{in-order-is}
use Rattle.receiver_state.proofs.is_ready.Goals as goal

pub returns-then-state-ne-STATE_WORDS : goal.returns-then-state-ne-STATE_WORDS
returns-then-state-ne-STATE_WORDS c =
    let args = c.args in
    let if1 = c.if-state-ne-STATE_WORDS in
    tests-are args.state.now args.names.now args.store args.ledger false (simp (ne_eqb _ _ if1.true))

pub returns-then-names-ne-NAME_BYTES : goal.returns-then-names-ne-NAME_BYTES
returns-then-names-ne-NAME_BYTES c =
    let if2 = c.if-names-ne-NAME_BYTES in
    let args = c.args in
    tests-are args.state.now args.names.now args.store args.ledger false (simp (eq-eqb _ _ c.if-state-ne-STATE_WORDS.false, ne_eqb _ _ if2.true))

pub returns-then-store-state : goal.returns-then-store-state
returns-then-store-state c =
    let if3 = c.if-store-state in
    let args = c.args in
    tests-are args.state.now args.names.now args.store args.ledger false (simp (eq-eqb _ _ c.if-state-ne-STATE_WORDS.false, eq-eqb _ _ c.if-names-ne-NAME_BYTES.false, ne_eqb _ _ if3.true))

pub returns-then-ledger-ne-LEDGER : goal.returns-then-ledger-ne-LEDGER
returns-then-ledger-ne-LEDGER c =
    let if4 = c.if-ledger-ne-LEDGER in
    let args = c.args in
    tests-are args.state.now args.names.now args.store args.ledger false (simp (eq-eqb _ _ c.if-state-ne-STATE_WORDS.false, eq-eqb _ _ c.if-names-ne-NAME_BYTES.false, eq-eqb _ _ c.if-store-state.false, ne_eqb _ _ if4.true))

pub returns-then-room-slot_size : goal.returns-then-room-slot_size
returns-then-room-slot_size c =
    let if5 = c.if-room-slot_size in
    let args = c.args in
    tests-are args.state.now args.names.now args.store args.ledger false (simp (eq-eqb _ _ c.if-state-ne-STATE_WORDS.false, eq-eqb _ _ c.if-names-ne-NAME_BYTES.false, eq-eqb _ _ c.if-store-state.false, eq-eqb _ _ c.if-ledger-ne-LEDGER.false, ne_eqb _ _ (λ e. if5.true (e ∙ sym c.slot_size.ensures))))

pub returns-then-not-all_sound : goal.returns-then-not-all_sound
returns-then-not-all_sound c =
    let if6 = c.if-not-all_sound in
    let args = c.args in
    let t = sym c.all_sound.ensures ∙ if6.true in
    tests-are args.state.now args.names.now args.store args.ledger false
    (rw (eq-eqb _ _ c.if-state-ne-STATE_WORDS.false, eq-eqb _ _ c.if-names-ne-NAME_BYTES.false, eq-eqb _ _ c.if-store-state.false, eq-eqb _ _ c.if-ledger-ne-LEDGER.false, eq-eqb _ _ (c.if-room-slot_size.false ∙ c.slot_size.ensures), t))

pub returns : goal.returns
returns c =
    let in_order = c.in_order in
    let args = c.args in
    let t = sym c.all_sound.ensures ∙ c.if-not-all_sound.false in
    let m = in-order-is args.state.now c.if-state-ne-STATE_WORDS.false _ in_order.ensures in
    tests-are args.state.now args.names.now args.store args.ledger _
    (rw (eq-eqb _ _ c.if-state-ne-STATE_WORDS.false, eq-eqb _ _ c.if-names-ne-NAME_BYTES.false, eq-eqb _ _ c.if-store-state.false, eq-eqb _ _ c.if-ledger-ne-LEDGER.false, eq-eqb _ _ (c.if-room-slot_size.false ∙ c.slot_size.ensures), t) (sym m))
