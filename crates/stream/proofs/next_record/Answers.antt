-- The next record of the input. Assumes nothing.
use Rattle.wire.proofs.Basics.{◌∙◌, ◌≡◌, ap, ℕ, ◌≤◌, ◌+◌, ◌-◌, List, drop, take, slice, arith}
use Rattle.stream.specs.Records.{body_length_lem, told}
use Rattle.stream.proofs.Slices.{take-drop}
use Rattle.stream.proofs.Taking.{some-head, lacks-room, lacks-a-head, ends, gives-before}
use Rattle.stream.proofs.next_record.Goals as goal

-- the part that the length is read from is what is unread

taken : (b : List ℕ) (at end : ℕ) → at ≤ end → take (end - at) (drop at b) ≡ slice at end b
taken b at end h = take-drop at (end - at) b ∙ ap (λ (k : ℕ). slice at k b) (let e : at + (end - at) ≡ end = omega arith in e)

pub overflow_add-head : goal.overflow_add-head
overflow_add-head c = record { fits = omega (arith, c.head_of-head.ensures, (some-head c.args.kind).1) }

pub returns-then-buf-head : goal.returns-then-buf-head
returns-then-buf-head c =
    let a = c.args in
    lacks-room a.kind a.buf.now a.input (rw c.head_of-head.ensures at c.if-buf-head.true)

pub returns-then-at-end : goal.returns-then-at-end
returns-then-at-end c =
    let a = c.args in
    ends a.kind c.within-inside.ensures c.ready-one.ensures (omega (arith, c.head_of-head.ensures, c.if-buf-head.false)) c.if-at-end.true

pub returns-then-end-at : goal.returns-then-end-at
returns-then-end-at c =
    let a = c.args in
    lacks-a-head a.kind c.within-inside.ensures c.ready-one.ensures (omega (arith, c.if-at-end.false, c.ready-one.ensures.order)) (rw c.head_of-head.ensures at c.if-end-at.true)

pub take_body-requires : goal.take_body-requires
take_body-requires c =
    let a = c.args in
    record {
      order = c.ready-one.ensures.order;
      within = c.ready-one.ensures.within;
      room = omega (arith, c.head_of-head.ensures, c.if-buf-head.false, c.ready-one.ensures.same_length);
      head = omega (arith, c.head_of-head.ensures, c.if-end-at.false);
      is = c.body_length-body.ensures ∙ ap (body_length_lem a.kind) (taken c.ready-one.new.buf c.ready-one.result.at c.ready-one.result.end c.ready-one.ensures.order);
    }

pub returns : goal.returns
returns c =
    let a = c.args in
    gives-before a.kind c.within-inside.ensures c.ready-one.ensures c.take_body.new.buf (told c.take_body.result) c.take_body.ensures
