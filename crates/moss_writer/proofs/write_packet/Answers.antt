-- A packet at the start of the output, or a refusal, which writes nothing. Assumes nothing.
use Rattle.wire.proofs.Basics.{◌∙◌, sym, ap, ℕ, arith}
use Rattle.moss.specs.Packet.{Given}
use Rattle.std.proofs.lemmas.Result.{err_from_is_err_and}
use Rattle.moss_writer.specs.Write.{packet_bytes, output_of}
use Rattle.moss_writer.proofs.Plans.{written_makes}
use Rattle.moss_writer.proofs.write_packet.Goals as goal

pub returns-in_err-n : goal.returns-in_err-n
returns-in_err-n c =
    let a = c.args in
    let b = packet_bytes a.session a.sequence a.kind a.blocks.now in
    let p = err_from_is_err_and c.from_residual.result c.from_residual.ensures.1 in
    let e = c.in_err-n.ensures in
    rw (p.1, p.2) (record { answer = e; output = ap (λ (g : Given ℕ). output_of g a.out.now 0 b) e })

pub put_packet-requires : goal.put_packet-requires
put_packet-requires c =
    let a = c.args in
    omega (arith, (written_makes a.kind a.blocks.now _ _ (sym c.in_ok-n.ensures)).fits)

pub returns : goal.returns
returns c =
    let a = c.args in
    let b = packet_bytes a.session a.sequence a.kind a.blocks.now in
    record {
      answer = c.in_ok-n.ensures;
      output = c.put_packet.ensures ∙ ap (λ (g : Given ℕ). output_of g a.out.now 0 b) c.in_ok-n.ensures;
    }
