-- By whether there is room for the numbers. Assumes nothing.
use Rattle.wire.proofs.Basics.{◌≡◌, sym, subst, rules}
use Rattle.wire.specs.Slices.{◌⇒◌}
use Rattle.pit_marks.specs.declared.Sizes.{Sizes}
use Rattle.pit_marks.specs.Told.{sets_in}
use Rattle.host_season.specs.Told.{StretchTold}
use Rattle.receiver.specs.Lent.{lent}
use Rattle.pit_marks.specs.Sets.{Sets, sets_of}
use Rattle.pit_payloads.specs.Looks.{book}
use Rattle.stretch.specs.Stretch.{Desk, desk}
use Rattle.stretch.specs.Told.{stretch_told}
use Rattle.host_season.proofs.Telling.{not-told, told-so}
use Rattle.host_season.proofs.qm_count_on.Goals as goal

pub returns-then-told-lt-STRETCH : goal.returns-then-told-lt-STRETCH
returns-then-told-lt-STRETCH c =
    let a = c.args in
    not-told a.log.now a.place a.most (desk (lent a.state.now a.names.now a.store.now a.ledger.now) (book a.numbers.now (sets_of a.tiles.now a.pits.now a.sure.now)))
    (record { tiles = a.had_tiles; pits = a.had_pits; sure = a.had_sure }) a.told.now c.if-told-lt-STRETCH.true

pub returns : goal.returns
returns c =
    let a = c.args in
    let x = c.count_on-done.new.sets in
    let t : c.tiles-1.given.0 ≡ x.tiles.now = search rules in
    let p : c.pits-1.given.0 ≡ x.pits.now = search rules in
    let s : c.sure-1.given.0 ≡ x.sure.now = search rules in
    let left : Sets → Desk = λ z. desk (lent c.count_on-done.new.state c.count_on-done.new.names c.count_on-done.new.store c.count_on-done.new.ledger) (book c.count_on-done.new.numbers z) in
    let k = desk (lent a.state.now a.names.now a.store.now a.ledger.now) (book a.numbers.now (sets_of a.tiles.now a.pits.now a.sure.now)) in
    let had : Sizes = record { tiles = a.had_tiles; pits = a.had_pits; sure = a.had_sure } in
    subst (λ (z : Sets). StretchTold a.log.now a.place a.most k had (a.told.now ⇒ c.put_stretch.new.list) 0 (left z)) (λ i. sets_of (sym t i) (sym p i) (sym s i))
    (told-so a.log.now a.place a.most k had a.told.now c.if-told-lt-STRETCH.false (stretch_told c.count_on-done.result) (left (sets_in x)) c.count_on-done.ensures.counts _ c.put_stretch.ensures)
