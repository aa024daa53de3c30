-- `lmcp_writer::put_message` meets its contract: "LMCP", the root's length, the root and the checksum, one after the other.
use Rattle.wire.proofs.Basics.{sym, refl, subst, ℕ, ◌-◌, arith}
use Rattle.lmcp.specs.InsideAhead.{Ahead, Lays}
use Rattle.lmcp_size.specs.InsideSteps.{write_object}
use Rattle.lmcp_size.specs.InsideWeighs.{four}
use Rattle.lmcp_writer.proofs.Answers.{all_laid}
use Rattle.lmcp.proofs.Aheads.{ahead_more}
use Rattle.lmcp_writer.proofs.put_message.Goals as goal

pub put_number-requires : goal.put_number-requires
put_number-requires c =
    (omega (arith, c.put_bytes.auto.out, c.requires.0, c.requires.1.0), four)

pub put_object-requires : goal.put_object-requires
put_object-requires c =
    let h = subst (λ (v : ℕ). Ahead (write_object v 16 0 c.args.list.now) 8 c.args.end) (sym c.of.ensures) c.requires.1.1 in
    (omega arith, ahead_more (omega (arith, c.put_number.auto.out, c.put_bytes.auto.out, c.requires.0)) (omega (arith, c.put_number.auto.out, c.put_bytes.auto.out, c.well_formed.1.0)) h)

pub put_checksum-requires : goal.put_checksum-requires
put_checksum-requires c =
    omega (arith, c.put_object.auto.out, c.put_number.auto.out, c.put_bytes.auto.out, c.requires.0)

pub returns : goal.returns
returns c =
    let a = c.args in
    all_laid a.version a.list.now a.calculate a.end a.out.now (omega (arith, c.requires.0))
    c.put_bytes.new.out c.put_number.new.out c.put_object.new.out c.put_checksum.new.out (a.end - 8) refl c.put_object.result.p c.put_object.result.q
    c.put_bytes.ensures c.put_number.ensures
    (subst (λ (v : ℕ). Lays a.list.now c.put_number.new.out 8 (write_object v 16 0 a.list.now) c.put_object.result.p c.put_object.result.q c.put_object.new.out) c.of.ensures c.put_object.ensures) c.put_checksum.ensures
