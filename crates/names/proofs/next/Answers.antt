-- `names::next` meets its contract. Assumes nothing.
use Rattle.wire.proofs.Basics.{◌∙◌, sym, eq-eqb, ne_eqb}
use Rattle.names.proofs.next.Goals as goal

pub returns-then-s-eq0 : goal.returns-then-s-eq0
returns-then-s-eq0 c = rw (eq-eqb _ _ c.if-s-eq0.true) c.first.ensures

pub returns-then-within : goal.returns-then-within
returns-then-within c =
    rw (ne_eqb _ _ c.if-s-eq0.false, sym c.within.ensures ∙ c.if-within.true) c.tails.ensures

pub returns : goal.returns
returns c =
    rw (ne_eqb _ _ c.if-s-eq0.false, sym c.within.ensures ∙ c.if-within.false)
