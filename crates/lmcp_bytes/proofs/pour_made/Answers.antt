-- What was made as text, by its cases. Assumes nothing.
use Rattle.wire.proofs.Basics.{◌∙◌, sym, ap, ℕ, List, [], ◌∷◌, ◌++◌}
use Rattle.text.specs.Text.{hex}
use Rattle.output.proofs.Adding.{adds_then, adds_is}
use Rattle.lmcp.specs.Made.{made_told}
use Rattle.lmcp_bytes.specs.Lines.{refused_text}
use Rattle.lmcp_bytes.specs.Inside.{made_text}
use Rattle.lmcp_bytes.proofs.pour_made.Goals as goal

pub returns-in-Ok : goal.returns-in-Ok
returns-in-Ok c =
    adds_is (adds_then (adds_then c.pour.ensures c.pour_hex.ensures) c.pour-in-Ok.ensures)
    (ap (λ (x : List ℕ). (32 ∷ 98 ∷ 121 ∷ 116 ∷ 101 ∷ 115 ∷ 32 ∷ []) ++ hex x ++ 10 ∷ []) c.part.ensures
    ∙ sym (ap (λ m. made_text c.args.bytes.now (made_told m)) c.in-Ok.is))

pub returns-in-Err : goal.returns-in-Err
returns-in-Err c =
    adds_is c.pour_counted_line.ensures
    (ap refused_text (c.from.ensures ∙ c.number.ensures) ∙ sym (ap (λ m. made_text c.args.bytes.now (made_told m)) c.in-Err.is))
