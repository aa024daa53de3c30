-- `lmcp_reader::value_of` meets its contract.
use Rattle.wire.proofs.Basics.{◌∙◌, sym, ap, refl, ℕ, drop, get_or, pos}
use Rattle.lmcp_reader.proofs.NumberBits.{through}
use Rattle.lmcp_reader.specs.InsidePuts.{coded}
use Rattle.lmcp.proofs.Widths.{be-one}
use Rattle.lmcp_reader.proofs.value_of.Goals as goal

pub returns-then-code-eq-BYTE_CODE : goal.returns-then-code-eq-BYTE_CODE
returns-then-code-eq-BYTE_CODE c =
    let a = c.args in
    through (record { sfits = c.from.type_inv }) c.from.ensures ∙ ap pos (be-one a.s.now a.p (get_or a.s.now a.p 0) refl) ∙ sym (ap (λ (k : ℕ). coded k (drop a.p a.s.now)) c.if-code-eq-BYTE_CODE.true)
