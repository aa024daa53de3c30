-- Between the place of a tile's first pit and that of the next tile's. Assumes nothing.
use Rattle.wire.proofs.Basics.{◌∙◌, ◌≡◌, ap, ◌≤◌, ◌+◌, ◌-◌, ◌*◌, length, suc, ◌%◌, lt-ltb, le-ltb, arith}
use Rattle.sorted_set.specs.Halving.{rank_in}
use Rattle.sorted_set.proofs.Sets.{rank_most}
use Rattle.count_rules.specs.Keys.{span, pit_key}
use Rattle.pit_marks.specs.Lines.{end_of, pits_in}
use Rattle.pit_marks.proofs.pits_of.Goals.{then-t-lt-SPAN, else-t-lt-SPAN}
use Rattle.pit_marks.proofs.pits_of.Goals as goal

pub returns-clause-within : goal.returns-clause-within
returns-clause-within c =
    let a = c.args in
    let r = rank_most a.pits.now (a.tile % span * span) a.n in
    let e : c.if-t-lt-SPAN.end ≤ length a.pits.now = elim c.if-t-lt-SPAN.branch [
      | then-t-lt-SPAN w ↦ let m = rank_most a.pits.now ((a.tile % span + 1) * span) a.n in omega (arith, w.end-is, w.rank-end.ensures)
      | else-t-lt-SPAN w ↦ omega (arith, w.end-is, w.min-end.ensures)
    ] in
    omega (arith, c.rank-first.ensures, c.saturating_sub.ensures)

pub returns-clause-many : goal.returns-clause-many
unfolding pits_in
returns-clause-many c =
    let a = c.args in
    let t = a.tile % span in
    let k : t * span ≡ pit_key t 0 = omega arith in
    let r = c.rank-first.ensures ∙ ap (rank_in a.pits.now a.n) k in
    let j : (t + 1) * span ≡ pit_key (suc t) 0 = omega arith in
    let e : c.if-t-lt-SPAN.end ≡ end_of a.pits.now a.n t = elim c.if-t-lt-SPAN.branch [
      | then-t-lt-SPAN w ↦ w.end-is ∙ (w.rank-end.ensures ∙ rw (lt-ltb (suc t) span (omega (arith, w.if-t-lt-SPAN.true))) (ap (rank_in a.pits.now a.n) j))
      | else-t-lt-SPAN w ↦ w.end-is ∙ (w.min-end.ensures ∙ rw (le-ltb (suc t) span (omega (arith, w.if-t-lt-SPAN.false))))
    ] in
    c.saturating_sub.ensures ∙ (λ i. e i - r i)
