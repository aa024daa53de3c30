-- `host_receiver::put_outcome` meets its contract. Assumes nothing.
use Rattle.wire.proofs.Basics.{◌∙◌, ap, refl}
use Rattle.host_receiver.specs.Outcomes.{later_numbers_lem}
use Rattle.host_receiver.proofs.Numbers.{answer-four, two_runs}
use Rattle.host_receiver.proofs.put_outcome.Goals as goal
use Rattle.steps.specs.Answers.{answer_told}

pub returns : goal.returns
returns c =
    let a = c.args in
    let rest = c.later_numbers-second.ensures ∙ ap (later_numbers_lem a.outcome.emptied) c.number-sequence.ensures.value in
    record {
      gave = refl;
      numbers = two_runs _ _ _ _ _ _ _ 4 c.put_words.ensures c.put_words-2.ensures c.answer_numbers-first.ensures rest (answer-four (answer_told a.outcome.answer));
      bytes = c.put_bytes.ensures;
    }
