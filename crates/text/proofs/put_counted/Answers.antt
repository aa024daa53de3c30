-- A word and a number. Assumes nothing.
use Rattle.text.proofs.Puts.{put_then}
use Rattle.text.proofs.put_counted.Goals as goal

pub returns : goal.returns
returns c =
    put_then c.put_text-next.ensures c.put_decimal.ensures
