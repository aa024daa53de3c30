-- A line: its number, the answer, the emptied key. Assumes nothing.
use Rattle.output.proofs.Adding.{adds_then}
use Rattle.replay_lines.proofs.pour_line.Goals as goal

pub returns : goal.returns
returns c = adds_then (adds_then c.pour_decimal.ensures c.pour_answer.ensures) c.pour_emptied.ensures
