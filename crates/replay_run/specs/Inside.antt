-- INSIDE: what a receiver works in. Definitions only; no promise rests on them.
use Rattle.receiver.specs.Lent.{Lent, lent}
use Rattle.replay_run.specs.declared.Replay.{Replay}

abbrev pub lent_in : Replay → Lent
lent_in r = lent r.state r.names r.store r.ledger
