-- A word, a number and the end of the line. Assumes nothing.
use Rattle.text.proofs.Puts.{put_then}
use Rattle.text.proofs.put_counted_line.Goals as goal

pub returns : goal.returns
returns c =
    put_then c.put_counted-next.ensures c.put_text.ensures
