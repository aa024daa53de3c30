-- The key of a row. Assumes nothing.

use Rattle.index_look.proofs.is_led.Goals as goal

pub returns : goal.returns
returns c = c.has_key.ensures
