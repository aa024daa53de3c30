-- `forms::good_fragment` meets its contract. Assumes nothing.
use Rattle.wire.proofs.Basics.{◌∙◌, sym, eq-eqb, ne_eqb, le-leb, lt-leb}
use Rattle.forms.proofs.good_fragment.Goals as goal

pub returns-then-not-good_start : goal.returns-then-not-good_start
returns-then-not-good_start c = rw (sym c.good_start.ensures ∙ c.if-not-good_start.true)

pub returns-then-size-end : goal.returns-then-size-end
returns-then-size-end c =
    rw (sym c.good_start.ensures ∙ c.if-not-good_start.false, lt-leb _ _ c.if-size-end.true)

pub returns-then-number-count : goal.returns-then-number-count
returns-then-number-count c =
    rw (sym c.good_start.ensures ∙ c.if-not-good_start.false, le-leb _ _ c.if-size-end.false, eq-eqb _ _ c.if-number-count.true)

pub returns : goal.returns
returns c =
    rw (sym c.good_start.ensures ∙ c.if-not-good_start.false, le-leb _ _ c.if-size-end.false, ne_eqb _ _ c.if-number-count.false)
