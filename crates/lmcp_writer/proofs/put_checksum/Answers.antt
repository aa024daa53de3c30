-- `lmcp_writer::put_checksum` meets its contract.
use Rattle.wire.proofs.Basics.{◌∙◌, sym, ap, ℕ, Bool, take, length-take-le, arith, rules}
use Rattle.wire.specs.Bytes.{bytes}
use Rattle.wire.specs.Choice.{pick}
use Rattle.wire.specs.Overlay.{overlay}
use Rattle.lmcp.specs.Message.{checksum_of}
use Rattle.lmcp_size.specs.InsideWeighs.{four}
use Rattle.lmcp_writer.proofs.put_checksum.Goals as goal

pub slice_bounds-checksum-end-then-calculate : goal.slice_bounds-checksum-end-then-calculate
slice_bounds-checksum-end-then-calculate c =
    let a = c.args in
    sym (length-take-le a.end a.out.now (omega (arith, c.requires)))

pub put_number-requires : goal.put_number-requires
put_number-requires c = (search rules, four)

pub returns-then-calculate : goal.returns-then-calculate
returns-then-calculate c =
    let a = c.args in
    let s = checksum_of (take a.end a.out.now) in
    c.put_number.ensures ∙ ap (λ (n : ℕ). overlay a.out.now a.end (bytes 4 n)) (c.checksum-sum.ensures ∙ sym (ap (λ (t : Bool). pick t s 0) c.if-calculate.true))

pub put_number-requires-2 : goal.put_number-requires-2
put_number-requires-2 c = (search rules, four)

pub returns : goal.returns
returns c =
    let a = c.args in
    let s = checksum_of (take a.end a.out.now) in
    c.put_number-2.ensures ∙ ap (λ (n : ℕ). overlay a.out.now a.end (bytes 4 n)) (sym (ap (λ (t : Bool). pick t s 0) c.if-calculate.false))
