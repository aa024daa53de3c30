-- The answer and the watch afterwards. Assumes nothing.
use Rattle.wire.proofs.Basics.{◌∙◌, sym}
use Rattle.differences.specs.Noted.{notes}
use Rattle.watch.proofs.WatchCases.{after-moves, after-stays}
use Rattle.watch.proofs.see.Goals as goal

pub returns-then-does_move : goal.returns-then-does_move
returns-then-does_move c =
    let a = c.args in
    let k = c.ask-answer in
    record {
      answer = k.ensures;
      watch =
          c.move_to-watch.ensures
          ∙ after-moves a.w a.sender a.number (notes k.result) k.ensures (sym c.does_move.ensures ∙ c.if-does_move.true);
    }

pub returns : goal.returns
returns c =
    let a = c.args in
    let k = c.ask-answer in
    record {
      answer = k.ensures;
      watch = after-stays a.w a.sender a.number (notes k.result) k.ensures (sym c.does_move.ensures ∙ c.if-does_move.false);
    }
