-- The place to go on from. Assumes nothing.
use Rattle.wire.proofs.Basics.{refl}
use Rattle.output.proofs.clear.Goals as goal

pub returns-then-at-out : goal.returns-then-at-out
returns-then-at-out c = record { kept = λ o. refl; front = λ e o. absurd (c.if-at-out.true e) }

pub returns-then-write_out : goal.returns-then-write_out
returns-then-write_out c = record { kept = λ o. absurd (o c.if-at-out.false); front = λ e o. refl }

pub returns : goal.returns
returns c = record { kept = λ o. absurd (o c.if-at-out.false); front = λ e o. absurd (o refl) }
