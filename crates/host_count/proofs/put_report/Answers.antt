-- Six groups, each where the one before ends. Assumes nothing.
use Rattle.wire.proofs.Basics.{refl, rules}
use Rattle.host_count.proofs.Groups.{laid}
use Rattle.host_count.proofs.put_report.Goals as goal

pub returns : goal.returns
returns c =
    let a = c.args in
    laid
    a.list.now
    _
    a.report.refused
    _
    a.report.tile
    a.report.pits
    a.report.sure
    refl
    (search rules)
    refl
    (search rules)
    (search rules)
    c.put_words.ensures
    c.put_words-2.ensures
    c.put_words-3.ensures
    c.put_words-4.ensures
    c.put_words-5.ensures
    c.put_words-6.ensures
