-- INSIDE: what only private contracts use. Definitions only; no promise of a public function rests on them.
use Rattle.wire.specs.Choice.{pick}
use Rattle.gauge_watch.specs.Heard.{Gauge, silent}

-- a gauge that has heard no session is silent, whatever else it holds
abbrev pub heard : Gauge → Gauge
heard g = pick g.started g silent
