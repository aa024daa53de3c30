use Rattle.wire.proofs.Basics.{◌∙◌, ◌≡◌, ap, refl, ℕ, ◌≤◌, suc, get_or, arith}
use Rattle.output.proofs.Adding.{adds_none, adds_then, adds_is, adds_shut}
use Rattle.count_lines.specs.Lines.{tile_line, tile_lines}
use Rattle.count_lines.proofs.OneLineMore.{tile-more}
use Rattle.count_lines.proofs.pour_tiles.Goals as goal

-- the line of what was looked up
line_of : {t t' p p' s s' : ℕ} → t ≡ t' → p ≡ p' → s ≡ s' → tile_line t p s ≡ tile_line t' p' s'
line_of {t} {t'} {p} {p'} {s} {s'} x y z =
    ap (λ (n : ℕ). tile_line n p s) x ∙ ap (λ (n : ℕ). tile_line t' n s) y ∙ ap (λ (n : ℕ). tile_line t' p' n) z

pub loop-i-init : goal.loop-i-init
loop-i-init c = adds_none c.args.out.now

pub returns-then-is_closed : goal.returns-then-is_closed
returns-then-is_closed c =
    let x = c.loop-i in
    let a = c.args in
    let k : suc x.i ≤ a.n = omega arith in
    adds_shut
    (λ j. tile_lines j a.tile.now a.pits.now a.sure.now)
    (λ j. tile_line (get_or a.tile.now j 0) (get_or a.pits.now j 0) (get_or a.sure.now j 0))
    (λ j. refl) {i = suc x.i} (c.if-is_closed.ensures.0 refl) k
    (adds_then x.invariant (adds_is c.pour_tile.ensures (line_of c.word.ensures c.word-in-loop-i.ensures c.word-in-loop-i-2.ensures)))

pub loop-i-preserved : goal.loop-i-preserved
loop-i-preserved c =
    let a = c.args in
    adds_is (adds_then c.loop-i.invariant (adds_is c.pour_tile.ensures (line_of c.word.ensures c.word-in-loop-i.ensures c.word-in-loop-i-2.ensures))) (tile-more c.loop-i.i a.tile.now a.pits.now a.sure.now)

pub returns : goal.returns
returns c =
    let a = c.args in
    let e : c.loop-i.i ≡ a.n = omega arith in
    adds_is c.loop-i.invariant (ap (λ (k : ℕ). tile_lines k a.tile.now a.pits.now a.sure.now) e)
