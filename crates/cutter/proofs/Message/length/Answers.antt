-- `cutter::Message::length` meets its contract. Assumes nothing.
use Rattle.wire.proofs.Basics.{◌∙◌, sym, eq-eqb, ne_eqb}
use Rattle.cutter.specs.Cut.{length_of}
use Rattle.cutter.proofs.Message.length.Goals as goal

pub returns-then-is_small : goal.returns-then-is_small
unfolding length_of
returns-then-is_small c = rw (sym c.is_small.ensures ∙ c.if-is_small.true)

pub returns-then-k-eq0 : goal.returns-then-k-eq0
unfolding length_of
returns-then-k-eq0 c =
    rw (sym c.is_small.ensures ∙ c.if-is_small.false, c.min-data.ensures, c.saturating_sub.ensures, c.carried.ensures.is, c.begins_at.ensures.is, eq-eqb _ _ c.if-k-eq0.true)

pub returns : goal.returns
unfolding length_of
returns c =
    rw (sym c.is_small.ensures ∙ c.if-is_small.false, c.min-data.ensures, c.saturating_sub.ensures, c.carried.ensures.is, c.begins_at.ensures.is, ne_eqb _ _ c.if-k-eq0.false)
