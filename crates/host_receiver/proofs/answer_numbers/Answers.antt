-- `host_receiver::answer_numbers` meets its contract. Assumes nothing.
use Rattle.wire.proofs.Basics.{◌∙◌, sym, ap}
use Rattle.steps.specs.Answers.{answer_told}
use Rattle.host_receiver.specs.Outcomes.{answer_numbers_lem}
use Rattle.host_receiver.proofs.answer_numbers.Goals as goal

pub returns-in-Delivered : goal.returns-in-Delivered
returns-in-Delivered c = c.place_numbers.ensures ∙ sym (ap (λ a. answer_numbers_lem (answer_told a)) c.in-Delivered.is)
