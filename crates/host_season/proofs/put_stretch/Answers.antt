-- Four groups, each where the one before ends. Assumes nothing.
use Rattle.wire.proofs.Basics.{refl, rules}
use Rattle.stretch.specs.Told.{stop_told}
use Rattle.host_season.proofs.Telling.{put}
use Rattle.host_season.proofs.put_stretch.Goals as goal

pub returns : goal.returns
returns c =
    put c.args.list.now (stop_told c.args.stretch.stop) _ _ _ _
    c.stop_numbers-why.ensures refl
    (search rules) c.put_words.ensures c.put_words-2.ensures c.put_words-3.ensures c.put_words-4.ensures
