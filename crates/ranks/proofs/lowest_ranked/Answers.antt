use Rattle.wire.proofs.Basics.{◌∙◌, ◌≡◌, ap, refl, ◌+◌, min, length, get_or, arith}
use Rattle.ranks.specs.Ranks.{place_at}
use Rattle.ranks.proofs.Ranks.{past_get, place-next, lowest-none, lowest-more, low-more}
use Rattle.ranks.proofs.lowest_ranked.Goals as goal

pub loop-i-init : goal.loop-i-init
loop-i-init c =
    let least = c.min-at in
    let args = c.args in
    let word_of = c.word_of-low in
    let start : least.result ≡ min (place_at args.p 0) (length args.w.now) = least.ensures ∙ (omega arith) in
    let low = word_of.ensures ∙ ap (λ k. get_or args.w.now (k + args.p.rank) 0) start ∙ past_get args.w.now (place_at args.p 0) args.p.rank in
    (start, lowest-none args.w.now args.p, low)

pub loop-i-preserved : goal.loop-i-preserved
loop-i-preserved c =
    let args = c.args in
    let loop = c.loop-i in
    let next_place = c.next_place-at in
    let word-of2 = c.word_of-rank in
    let lower_of = c.lower_of-best in
    let lesser = c.min-low in
    let v = args.w.now in
    let p = args.p in
    let inv = loop.invariant in
    let next = place-next p loop.i (length v) (length v) loop.at _ refl inv.0 next_place.ensures in
    let best = lowest-more v p loop.i loop.at loop.best loop.low word-of2.result _ inv.1 inv.0 inv.2 word-of2.ensures lower_of.ensures in
    let low = low-more v p loop.i loop.at loop.best loop.low word-of2.result _ _ inv.0 inv.2 word-of2.ensures lower_of.ensures lesser.ensures in
    (next, best, low)

pub returns : goal.returns
returns c =
    let loop = c.loop-i in
    let args = c.args in
    let e : loop.i ≡ args.n = omega arith in
    rw e at loop.invariant.1
