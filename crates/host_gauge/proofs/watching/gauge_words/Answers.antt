-- The words of a gauge. Assumes nothing.
use Rattle.host_gauge.proofs.Watched.{zeros-words}
use Rattle.gauge_watch.specs.Heard.{shows}
use Rattle.host_gauge.specs.Watches.{gauge_words_lem}
use Rattle.wire.proofs.Basics.{◌∙◌, sym, ap}
use Rattle.std.proofs.Common.{Option}
use Rattle.gauge_watch.specs.declared.Session.{Session}
use Rattle.host_gauge.proofs.watching.gauge_words.Goals as goal

pub returns-in_default : goal.returns-in_default
returns-in_default c = zeros-words ∙ ap (λ (s : Option Session). gauge_words_lem (shows s)) (sym c.in_default.is)
