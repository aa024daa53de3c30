use Rattle.wire.proofs.Basics.{◌∙◌, sym, ◌≡◌, ap, ◌+◌, length, arith}
use Rattle.ranks.proofs.Ranks.{place-next, lowered_none, lowered-more, lowered-length}
use Rattle.ranks.proofs.lower_ranks.Goals as goal

pub loop-i-init : goal.loop-i-init
loop-i-init c =
    let least = c.min-at in
    let args = c.args in
    (least.ensures ∙ (omega arith), lowered_none args.w.now args.p args.t)

pub loop-i-preserved : goal.loop-i-preserved
loop-i-preserved c =
    let args = c.args in
    let loop = c.loop-i in
    let word_of = c.word_of-mark in
    let word-of2 = c.word_of-rank in
    let lower-rank = c.lower_rank in
    let put-word-of = c.put_word_of in
    let next_place = c.next_place-at in
    let more = lowered-more args.w.now args.p args.t loop.w _ loop._i loop.at _ _ _ loop.invariant.1 loop.invariant.0 word_of.ensures word-of2.ensures
    lower-rank.ensures put-word-of.ensures in
    let long = ap length more ∙ lowered-length args.w.now args.p args.t (loop._i + 1)
    ∙ sym (ap length loop.invariant.1 ∙ lowered-length args.w.now args.p args.t loop._i) in
    (place-next args.p loop._i (length loop.w) _ loop.at _ long loop.invariant.0 next_place.ensures, more)

pub shape_of-w : goal.shape_of-w
shape_of-w c =
    let loop = c.loop-i in
    let args = c.args in
    ap length loop.invariant.1 ∙ lowered-length args.w.now args.p args.t loop._i

pub returns : goal.returns
returns c =
    let loop = c.loop-i in
    let args = c.args in
    let e : loop._i ≡ args.n = omega arith in
    rw e at loop.invariant.1
