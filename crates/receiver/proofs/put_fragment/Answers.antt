-- `receiver::put_fragment` meets its contract. Assumes nothing.
use Rattle.wire.proofs.Basics.{◌∙◌, sym, ◌+◌, ◌*◌, arith}
use Rattle.wire.specs.Overlay.{overlay}
use Rattle.receiver_state.proofs.Moves.{place-small}
use Rattle.receiver.proofs.Ends.{ledger-written}
use Rattle.receiver.proofs.put_fragment.Goals as goal

pub overflow_mul-at : goal.overflow_mul-at
overflow_mul-at c =
    let args = c.args in
    omega (arith, place-small args.s args.room c.requires.0 c.requires.1)

pub overflow_add-at : goal.overflow_add-at
overflow_add-at c =
    let as-size2 = c.as_size in
    let args = c.args in
    omega (arith, as-size2.ensures.1, place-small args.s args.room c.requires.0 c.requires.1)

pub returns : goal.returns
returns c =
    let args = c.args in
    let bytes = c.put_bytes.ensures ∙ (λ i. overlay args.store.now (args.s * args.room + c.as_size.ensures.0 i) (c.part_at.ensures i)) in
    let numbers = ledger-written args.ledger.now _ _ args.s c.as_size-k.result args.h.number args.h.offset args.h.payload.len _ c.as_size-k.ensures.0 (sym c.requires.2.long)
    c.put_word.ensures c.put_word-2.ensures in
    (bytes, numbers)
