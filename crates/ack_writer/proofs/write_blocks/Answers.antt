-- The blocks at the start of the output, or a refusal, which writes nothing. Assumes nothing.
use Rattle.wire.proofs.Basics.{refl, ℕ, length-replicate, sym}
use Rattle.std.proofs.lemmas.Result.{err_from_is_err_and}
use Rattle.ack_blocks.specs.Limits.{max_blocks}
use Rattle.ack_writer.proofs.ListTurns.{front_of, front-size, leaves, puts}
use Rattle.ack_writer.proofs.write_blocks.Goals as goal

pub slice_bounds-lay-end : goal.slice_bounds-lay-end
slice_bounds-lay-end c = sym (length-replicate {A = ℕ} max_blocks 0)

pub returns-in_err-n : goal.returns-in_err-n
returns-in_err-n c =
    let a = c.args in
    let p = err_from_is_err_and c.from_residual.result c.from_residual.ensures.1 in
    rw (p.1, p.2) (leaves a.list.now _ _ a.out.now _ c.in_err-n.ensures)

pub slice_bounds-blocks-end : goal.slice_bounds-blocks-end
slice_bounds-blocks-end c =
    let a = c.args in
    (front_of a.list.now _ _ _ _ _ c.in_ok-n.ensures refl (length-replicate {A = ℕ} max_blocks 0)).0

pub slice_bounds-put_bytes-end : goal.slice_bounds-put_bytes-end
slice_bounds-put_bytes-end c = front-size _ _ (front_of c.args.list.now _ _ _ _ _ c.in_ok-n.ensures refl (length-replicate {A = ℕ} max_blocks 0)).0

pub returns : goal.returns
returns c =
    let a = c.args in
    puts a.list.now _ _ a.out.now _ _ c.in_ok-n.ensures (length-replicate {A = ℕ} max_blocks 0) c.put_bytes.ensures
