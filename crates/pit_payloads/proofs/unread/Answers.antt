-- By the refusal. Assumes nothing.
use Rattle.wire.proofs.Basics.{ne_eqb}
use Rattle.refusals.specs.declared.Refusal.TheVariants.{NoRoom}
use Rattle.refusals.proofs.Names.{same_number}
use Rattle.pit_payloads.proofs.unread.Goals as goal

pub returns-in_default : goal.returns-in_default
returns-in_default c = λ had. rw (ne_eqb _ 13 (λ z. c.in_default.not-NoRoom (same_number c.args.e NoRoom z)))
