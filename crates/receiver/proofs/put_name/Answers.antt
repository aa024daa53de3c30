-- `receiver::put_name` meets its contract. Assumes nothing.
use Rattle.wire.proofs.Basics.{◌∙◌, eq-eqb, ne_eqb}
use Rattle.receiver_state.proofs.Moves.{name-filled}
use Rattle.receiver.proofs.put_name.Goals as goal

pub returns-then-h-ne0 : goal.returns-then-h-ne0
returns-then-h-ne0 c =
    let if1 = c.if-h-ne0 in
    rw (ne_eqb _ _ if1.true)

pub returns : goal.returns
returns c =
    let args = c.args in
    let e = name-filled args.d.now args.h.name c.requires.1.short _ _ c.part_at.ensures c.zero_filled-name.ensures in
    rw (eq-eqb _ _ c.if-h-ne0.false) (c.put_bytes.ensures ∙ rw e)
