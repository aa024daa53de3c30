use Rattle.wire.proofs.Basics.{◌∙◌, ap, ℕ, ◌≤◌, ◌<◌, get_or, arith}
use Rattle.pit_marks.specs.Lines.{pits_in}
use Rattle.pit_marks.proofs.TileLines.{laid_none, laid_more, laid-all}
use Rattle.pit_marks.proofs.put_lines.Goals as goal

pub loop-i-init : goal.loop-i-init
loop-i-init c =
    let a = c.args in
    let t : ℕ → ℕ = λ j. get_or a.tiles.now j 0 in
    let p : ℕ → ℕ = λ j. pits_in a.pits.now a.had.pits (get_or a.tiles.now j 0) in
    let s : ℕ → ℕ = λ j. pits_in a.sure.now a.had.sure (get_or a.tiles.now j 0) in
    record { tiles = laid_none a.tile.now a.had.tiles t; pits-of = laid_none a.pit.now a.had.tiles p; sure-of = laid_none a.certain.now a.had.tiles s }

pub loop-i-preserved : goal.loop-i-preserved
loop-i-preserved c =
    let a = c.args in
    let i = c.loop-i.i in
    let h : i < a.had.tiles = omega arith in
    let t : ℕ → ℕ = λ j. get_or a.tiles.now j 0 in
    let p : ℕ → ℕ = λ j. pits_in a.pits.now a.had.pits (get_or a.tiles.now j 0) in
    let s : ℕ → ℕ = λ j. pits_in a.sure.now a.had.sure (get_or a.tiles.now j 0) in
    let v = c.loop-i.invariant in
    let e = c.word-t.ensures in
    record {
      tiles = laid_more a.tile.now a.had.tiles t i _ c.loop-i.tile _ h v.tiles e c.put_word.ensures;
      pits-of = laid_more a.pit.now a.had.tiles p i _ c.loop-i.pit _ h v.pits-of (c.pits_of.ensures.many ∙ ap (pits_in a.pits.now a.had.pits) e) c.put_word-in-loop-i.ensures;
      sure-of = laid_more a.certain.now a.had.tiles s i _ c.loop-i.certain _ h v.sure-of (c.pits_of-in-loop-i.ensures.many ∙ ap (pits_in a.sure.now a.had.sure) e) c.put_word-in-loop-i-2.ensures;
    }

pub returns : goal.returns
returns c =
    let l = c.loop-i in
    let a = c.args in
    let t : ℕ → ℕ = λ j. get_or a.tiles.now j 0 in
    let p : ℕ → ℕ = λ j. pits_in a.pits.now a.had.pits (get_or a.tiles.now j 0) in
    let s : ℕ → ℕ = λ j. pits_in a.sure.now a.had.sure (get_or a.tiles.now j 0) in
    let o : a.had.tiles ≤ l.i = omega arith in
    record {
      numbers = laid-all a.tile.now a.had.tiles t l.i l.tile o l.invariant.tiles;
      pits-of = laid-all a.pit.now a.had.tiles p l.i l.pit o l.invariant.pits-of;
      sure-of = laid-all a.certain.now a.had.tiles s l.i l.certain o l.invariant.sure-of;
    }
