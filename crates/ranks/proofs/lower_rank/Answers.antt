-- `ranks::lower_rank` meets its contract. Assumes nothing.
use Rattle.wire.proofs.Basics.{eq-eqb, le-ltb, ne_eqb, lt-ltb}
use Rattle.ranks.proofs.lower_rank.Goals as goal

pub returns-then-mark-eq0 : goal.returns-then-mark-eq0
returns-then-mark-eq0 c =
    let if1 = c.if-mark-eq0 in
    simp (eq-eqb _ _ if1.true)

pub returns-then-t-x : goal.returns-then-t-x
returns-then-t-x c =
    let if1 = c.if-mark-eq0 in
    let if2 = c.if-t-x in
    simp (ne_eqb _ _ if1.false, lt-ltb _ _ if2.true)

pub returns-else-t-x : goal.returns-else-t-x
returns-else-t-x c =
    let if1 = c.if-mark-eq0 in
    let if2 = c.if-t-x in
    simp (ne_eqb _ _ if1.false, le-ltb _ _ if2.false)
