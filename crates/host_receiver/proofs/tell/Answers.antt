-- `host_receiver::tell` meets its contract. Assumes nothing.
use Rattle.wire.proofs.Basics.{ap, refl}
use Rattle.steps.specs.Answers.{answer_told}
use Rattle.host_receiver.proofs.Numbers.{done-tells}
use Rattle.host_receiver.proofs.tell.Goals as goal

pub returns-in-Kept : goal.returns-in-Kept
returns-in-Kept c = done-tells _ _ _ _ _ _ (ap answer_told c.in-Kept.is) refl (λ l m. refl) c.put_outcome.ensures

pub returns-in-Repeat : goal.returns-in-Repeat
returns-in-Repeat c = done-tells _ _ _ _ _ _ (ap answer_told c.in-Repeat.is) refl (λ l m. refl) c.put_outcome-in-Repeat.ensures

pub returns-in-Delivered : goal.returns-in-Delivered
returns-in-Delivered c = done-tells _ _ _ _ _ _ (ap answer_told c.in-Delivered.is) refl (λ l m. refl) c.put_outcome-in-Delivered.ensures
