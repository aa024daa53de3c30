-- What the code answers, in the paper's values. Definitions only.
use Rattle.refusals.specs.Numbers.{number_of}
use Rattle.stretch.specs.declared.Stop.{Stop as Why}
use Rattle.stretch.specs.declared.Stop.TheVariants as why
use Rattle.stretch.specs.declared.Stretch.{Stretch as Answer}
use Rattle.stretch.specs.Stop.{Stop, Taken, End, Broken, Refused, Stretch}

abbrev pub stop_told : Why → Stop
stop_told why.Taken = Taken
stop_told why.End = End
stop_told (why.Broken r) = Broken (number_of r)
stop_told (why.Refused r) = Refused (number_of r)

abbrev pub stretch_told : Answer → Stretch
stretch_told x = record { stop = stop_told x.stop; place = x.place; entries = x.entries; totals = x.totals; sizes = x.sizes }
