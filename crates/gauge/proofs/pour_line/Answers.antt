-- A line: its number, then what is said of the packet. Assumes nothing.
use Rattle.wire.proofs.Basics.{◌∙◌, sym, ap, ℕ, [], ◌∷◌}
use Rattle.differences.specs.Noted.{notes}
use Rattle.moss.specs.Packet.{packet_of}
use Rattle.moss.specs.Answers as answers
use Rattle.moss.specs.Answers.{reads}
use Rattle.output.proofs.Adding.{adds_then, adds_is}
use Rattle.gauge.proofs.Texts.{line_refused, line-good}
use Rattle.gauge.proofs.pour_line.Goals as goal

pub returns-in_default : goal.returns-in_default
returns-in_default c =
    let a = c.args in
    adds_is (adds_then (adds_then c.pour_decimal.ensures c.pour_noted.ensures) c.pour.ensures)
    (line_refused a.n (packet_of a.p.now) (notes a.answer) _ (sym c.read_packet.ensures ∙ ap reads c.in_default.is))

pub returns : goal.returns
returns c =
    let a = c.args in
    let kind = adds_is c.pour-2.ensures (ap (λ (k : ℕ). 32 ∷ k ∷ []) c.from.ensures) in
    adds_is (adds_then (adds_then (adds_then (adds_then c.pour_decimal.ensures kind) c.pour_noted-2.ensures) c.pour_messages.ensures) c.pour-3.ensures)
    (line-good a.n a.p.now (notes a.answer) (answers.said c.in-Ok.header) c.in-Ok.ensures)
