use Rattle.wire.proofs.Basics.{refl, ℕ, ◌≤◌, ◌<◌, ◌%◌, length, get_or, arith}
use Rattle.wire.specs.Choice.{pick}
use Rattle.sorted_set.specs.Halving.{is_there}
use Rattle.count_rules.specs.Keys.{span}
use Rattle.tile_pits.proofs.TileGiven.{sureness-of}
use Rattle.pit_marks.proofs.TileLines.{laid_none, laid_more, laid-all}
use Rattle.tile_pits.proofs.put_pits.Goals as goal

pub loop-i-init : goal.loop-i-init
loop-i-init c =
    let a = c.args in
    let f : ℕ → ℕ = λ j. get_or a.pits.now j 0 % span in
    let g : ℕ → ℕ = λ j. pick (is_there a.sure.now a.had_sure (get_or a.pits.now j 0)) 1 0 in
    record { numbers = laid_none a.number.now (length a.pits.now) f; sureness = laid_none a.certain.now (length a.pits.now) g }

pub loop-i-preserved : goal.loop-i-preserved
loop-i-preserved c =
    let a = c.args in
    let l = c.loop-i in
    let n = length a.pits.now in
    let h : l.i < n = omega arith in
    let f : ℕ → ℕ = λ j. get_or a.pits.now j 0 % span in
    let g : ℕ → ℕ = λ j. pick (is_there a.sure.now a.had_sure (get_or a.pits.now j 0)) 1 0 in
    let s = sureness-of a.sure.now a.had_sure (get_or a.pits.now l.i 0) _ _ _ c.find.ensures c.is_ok.ensures.value c.from.ensures in
    record {
      numbers = laid_more a.number.now n f l.i _ l.number _ h l.invariant.numbers refl c.put_word.ensures;
      sureness = laid_more a.certain.now n g l.i _ l.certain _ h l.invariant.sureness s c.put_word-in-loop-i.ensures;
    }

pub returns : goal.returns
returns c =
    let l = c.loop-i in
    let a = c.args in
    let f : ℕ → ℕ = λ j. get_or a.pits.now j 0 % span in
    let g : ℕ → ℕ = λ j. pick (is_there a.sure.now a.had_sure (get_or a.pits.now j 0)) 1 0 in
    let o : length a.pits.now ≤ l.i = omega arith in
    record { numbers = laid-all a.number.now (length a.pits.now) f l.i l.number o l.invariant.numbers; sureness = laid-all a.certain.now (length a.pits.now) g l.i l.certain o l.invariant.sureness }
