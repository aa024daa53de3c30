-- By whether there is room for a gauge, and by whether the watch moves. Assumes nothing.
use Rattle.wire.proofs.Basics.{◌∙◌}
use Rattle.host_gauge.proofs.watching.qm_gauge_see.Goals.{then-does_move, else-does_move}
use Rattle.host_gauge.proofs.Watched.{see-short, see-moved, see-still}
use Rattle.host_gauge.proofs.watching.qm_gauge_see.Goals as goal

pub returns-then-gauge-lt-GAUGE : goal.returns-then-gauge-lt-GAUGE
returns-then-gauge-lt-GAUGE c = rw c.number.ensures (see-short _ _ c.if-gauge-lt-GAUGE.true)

pub returns : goal.returns
returns c =
    let room = c.if-gauge-lt-GAUGE.false in
    elim c.if-does_move.branch [
      | then-does_move w ↦
          see-moved _ _ room c.shown.result c.shown.ensures c.see_packet-heard.result c.see_packet-heard.ensures _ c.does_move.ensures _ c.code.ensures
          w.if-does_move.true _ _ w.gauge_words-numbers.ensures (w.gauge-is ∙ w.put_words.ensures)
      | else-does_move w ↦
          see-still _ _ room c.shown.result c.shown.ensures c.see_packet-heard.result c.see_packet-heard.ensures _ c.does_move.ensures _ c.code.ensures
          w.if-does_move.false _ w.gauge-is
    ]
