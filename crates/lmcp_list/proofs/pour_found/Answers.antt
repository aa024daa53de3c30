-- What was found as text, by its cases. Assumes nothing.
use Rattle.wire.proofs.Basics.{◌∙◌, sym, ap, ◌++◌, List, ℕ}
use Rattle.wire.specs.Text.{ascii}
use Rattle.text.specs.Text.{decimal}
use Rattle.output.proofs.Adding.{adds_then, adds_is}
use Rattle.lmcp.specs.Found.{found_told}
use Rattle.lmcp_list.specs.Inside.{found_text}
use Rattle.lmcp_list.proofs.Spaced.{spaced-least}
use Rattle.lmcp_list.proofs.pour_found.Goals as goal

pub returns-in-Ok : goal.returns-in-Ok
returns-in-Ok c =
    adds_is (adds_then c.pour.ensures c.pour_numbers.ensures)
    (ap (λ (t : List ℕ). ascii " list" ++ t) (spaced-least c.args.list.now c.in-Ok.n c.min.result c.min.ensures) ∙ sym (ap (λ f. found_text c.args.list.now (found_told f)) c.in-Ok.is))

pub returns-in-Err : goal.returns-in-Err
returns-in-Err c =
    adds_is c.pour_counted.ensures
    (ap (λ (k : ℕ). ascii " refused " ++ decimal k) (c.from.ensures ∙ c.number.ensures) ∙ sym (ap (λ f. found_text c.args.list.now (found_told f)) c.in-Err.is))
