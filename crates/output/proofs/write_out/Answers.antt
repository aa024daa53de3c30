-- What is answered where nothing stands before the place, and where the output is closed. Assumes nothing.

use Rattle.output.proofs.write_out.Goals as goal

pub returns : goal.returns
returns c = record { nothing = λ e. absurd (c.if-at-eq0.false e); shut = λ e. absurd (c.if-at-eq-CLOSED.false e) }
