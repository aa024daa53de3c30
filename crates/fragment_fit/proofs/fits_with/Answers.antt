-- `fragment_fit::fits_with` meets its contract. Assumes nothing.
use Rattle.wire.proofs.Basics.{◌∙◌, sym, refl}
use Rattle.fragment_fit.proofs.fits_with.Goals as goal

pub returns-then-not-is_held : goal.returns-then-not-is_held
returns-then-not-is_held c = rw (sym c.is_held.ensures ∙ c.if-not-is_held.true) refl

pub returns : goal.returns
returns c =
    rw (sym c.is_held.ensures ∙ c.if-not-is_held.false)
    (rw (← c.entry-other.ensures.0, ← c.entry-long.ensures.0, ← c.as_size.ensures.0, ← c.as_size-2.ensures.0, ← c.as_size-3.ensures.0) c.agree.ensures)
