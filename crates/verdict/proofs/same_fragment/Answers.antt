-- `verdict::same_fragment` meets its contract. Assumes nothing.
use Rattle.wire.proofs.Basics.{◌∙◌, sym, ◌≡◌, ap, ◌+◌, ◌*◌, true, length, drop, get_or, take, eqb, eq-eqb, ne_eqb, arith}
use Rattle.wire.specs.Choice.{pick}
use Rattle.wire.specs.Same.{same}
use Rattle.datagram.specs.Limits.{max_name}
use Rattle.datagram.specs.Read.{part_of}
use Rattle.datagram.specs.Said.{fragment_in}
use Rattle.steps.specs.Slots.{padded}
use Rattle.receiver_state.specs.View.{room_word, name_in}
use Rattle.receiver_state.proofs.Moves.{name-filled, name-long, place-small}
use Rattle.receiver_state.proofs.StepListCases.{offset-is, length-is, same-offset, same-long, same_bytes, same_name}
use Rattle.verdict.proofs.same_fragment.Goals as goal

pub returns-then-entry-offset : goal.returns-then-entry-offset
returns-then-entry-offset c =
    let if1 = c.if-entry-offset in
    let args = c.args in
    let o = offset-is args.ledger.now args.s _ args.h.number c.as_size-k.ensures.0 _ c.entry.ensures.0 in
    sym (same-offset args.state.now args.names.now args.s c.requires.0 (get_or args.state.now room_word 0) args.store.now args.ledger.now (fragment_in args.d.now args.h) (λ q. if1.true (o ∙ q ∙ sym c.as_size-offset.ensures.0)))

pub returns-then-entry-bytes : goal.returns-then-entry-bytes
returns-then-entry-bytes c =
    let if2 = c.if-entry-bytes in
    let args = c.args in
    let l = length-is args.ledger.now args.s _ args.h.number c.as_size-k.ensures.0 _ c.entry-2.ensures.0 in
    let o = sym (offset-is args.ledger.now args.s _ args.h.number c.as_size-k.ensures.0 _ c.entry.ensures.0) ∙ c.if-entry-offset.false ∙ c.as_size-offset.ensures.0 in
    sym (same-long args.state.now args.names.now args.s c.requires.0 (get_or args.state.now room_word 0) args.store.now args.ledger.now (fragment_in args.d.now args.h) o (λ q. if2.true (l ∙ q ∙ sym (ap length c.part_at-bytes.ensures))))

pub overflow_mul-s : goal.overflow_mul-s
overflow_mul-s c =
    let word = c.word-room in
    let args = c.args in
    omega (arith, word.ensures, place-small args.s word.result c.requires.0 (rw word.ensures c.requires.1.room))

pub overflow_add-s : goal.overflow_add-s
overflow_add-s c =
    let word = c.word-room in
    let args = c.args in
    omega (arith, word.ensures, c.as_size-offset.ensures.1, place-small args.s word.result c.requires.0 (rw word.ensures c.requires.1.room))

pub returns-then-not-same_at : goal.returns-then-not-same_at
returns-then-not-same_at c =
    let if3 = c.if-not-same_at in
    let args = c.args in
    let s = args.s in
    let o = sym (offset-is args.ledger.now args.s _ args.h.number c.as_size-k.ensures.0 _ c.entry.ensures.0) ∙ c.if-entry-offset.false ∙ c.as_size-offset.ensures.0 in
    let l = sym (length-is args.ledger.now args.s _ args.h.number c.as_size-k.ensures.0 _ c.entry-2.ensures.0) ∙ c.if-entry-bytes.false ∙ ap length c.part_at-bytes.ensures in
    let b = sym (c.same_at.ensures ∙ (λ i. same (take (length (c.part_at-bytes.ensures i)) (drop (args.s * c.word-room.ensures i + c.as_size-offset.ensures.0 i) args.store.now)) (c.part_at-bytes.ensures i)))
    ∙ if3.true in
    sym (same_bytes args.state.now args.names.now args.s c.requires.0 (get_or args.state.now room_word 0) args.store.now args.ledger.now (fragment_in args.d.now args.h) o l b)

pub returns-then-k-ne0 : goal.returns-then-k-ne0
returns-then-k-ne0 c =
    let if4 = c.if-k-ne0 in
    let args = c.args in
    let k : args.h.number ≡ 0 → ⊥ = λ q. if4.true (c.as_size-k.ensures.0 ∙ q) in
    let o = sym (offset-is args.ledger.now args.s _ args.h.number c.as_size-k.ensures.0 _ c.entry.ensures.0) ∙ c.if-entry-offset.false ∙ c.as_size-offset.ensures.0 in
    let l = sym (length-is args.ledger.now args.s _ args.h.number c.as_size-k.ensures.0 _ c.entry-2.ensures.0) ∙ c.if-entry-bytes.false ∙ ap length c.part_at-bytes.ensures in
    let b = sym (c.same_at.ensures ∙ (λ i. same (take (length (c.part_at-bytes.ensures i)) (drop (args.s * c.word-room.ensures i + c.as_size-offset.ensures.0 i) args.store.now)) (c.part_at-bytes.ensures i)))
    ∙ c.if-not-same_at.false in
    sym (same_name args.state.now args.names.now args.s c.requires.0 (get_or args.state.now room_word 0) args.store.now args.ledger.now (fragment_in args.d.now args.h) o l b ∙ rw (ne_eqb _ _ k))

pub returns : goal.returns
returns c =
    let same-at2 = c.same_at-2 in
    let args = c.args in
    let k : args.h.number ≡ 0 = sym c.as_size-k.ensures.0 ∙ c.if-k-ne0.false in
    let o = sym (offset-is args.ledger.now args.s _ args.h.number c.as_size-k.ensures.0 _ c.entry.ensures.0) ∙ c.if-entry-offset.false ∙ c.as_size-offset.ensures.0 in
    let l = sym (length-is args.ledger.now args.s _ args.h.number c.as_size-k.ensures.0 _ c.entry-2.ensures.0) ∙ c.if-entry-bytes.false ∙ ap length c.part_at-bytes.ensures in
    let b = sym (c.same_at.ensures ∙ (λ i. same (take (length (c.part_at-bytes.ensures i)) (drop (args.s * c.word-room.ensures i + c.as_size-offset.ensures.0 i) args.store.now)) (c.part_at-bytes.ensures i)))
    ∙ c.if-not-same_at.false in
    let short = c.requires.2.short in
    let nm = name-filled args.d.now args.h.name short _ _ c.part_at.ensures c.zero_filled-name.ensures in
    let t = name-long args.d.now args.h.name short _ _ c.part_at.ensures c.zero_filled-name.ensures in
    let own = same (name_in args.names.now args.s) (padded (part_of args.d.now args.h.name)) in
    let z : pick (eqb args.h.number 0) own true ≡ own = rw (eq-eqb _ _ k) in
    same-at2.ensures ∙ (λ i. same (take (t i) (drop (max_name * args.s) args.names.now)) (nm i))
    ∙ sym (same_name args.state.now args.names.now args.s c.requires.0 (get_or args.state.now room_word 0) args.store.now args.ledger.now (fragment_in args.d.now args.h) o l b ∙ z)
