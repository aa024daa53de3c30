use Rattle.wire.proofs.Basics.{sym, ap, arith, rules}
use Rattle.varint.proofs.Sevens.{at-end, at_tenth-high, at_tenth, at_last, at-more-refused, at-more-zero, at_more, lowest-fits}
use Rattle.std.proofs.lemmas.Result.{err_from_is_err_and}
use Rattle.varint.specs.Seven.{told}
use Rattle.varint.proofs.+read_groups.Goals as goal

pub returns-then-s-at : goal.returns-then-s-at
returns-then-s-at t c =
    let a = c.args in
    sym (at-end a.s.now a.at a.k c.if-s-at.true)

pub returns-then-x-gt1 : goal.returns-then-x-gt1
returns-then-x-gt1 t c =
    let a = c.args in
    sym (at_tenth-high a.s.now a.at c.if-s-at.false _ c.wide-x.ensures.0 a.k c.if-k-eq0.true c.if-x-gt1.true)

pub returns-then-k-eq0 : goal.returns-then-k-eq0
returns-then-k-eq0 t c =
    let a = c.args in
    sym (at_tenth a.s.now a.at c.if-s-at.false _ c.wide-x.ensures.0 a.k c.if-k-eq0.true c.if-x-gt1.false)

pub returns-then-x-lt128 : goal.returns-then-x-lt128
returns-then-x-lt128 t c =
    let a = c.args in
    sym (at_last a.s.now a.at c.if-s-at.false _ c.wide-x.ensures.0 a.k c.if-k-eq0.false c.if-x-lt128.true)

pub returns-then-v-eq0 : goal.returns-then-v-eq0
returns-then-v-eq0 t c =
    let a = c.args in
    sym (at-more-zero a.s.now a.at c.if-s-at.false _ c.wide-x.ensures.0 a.k c.if-k-eq0.false c.if-x-lt128.false _ c.read_groups.ensures _ _ (ap told c.in_ok-v.was) c.if-v-eq0.true)

pub overflow_mul-result : goal.overflow_mul-result
overflow_mul-result t c =
    omega (arith, lowest-fits c.args.s.now c.args.at c.args.k (λ i. search rules) c.requires c.if-k-eq0.false _ c.read_groups.ensures _ _ (ap told c.in_ok-v.was))

pub overflow_add-result-2 : goal.overflow_add-result-2
overflow_add-result-2 t c =
    omega (
      arith,
      c.wide-x.ensures.1,
      lowest-fits c.args.s.now c.args.at c.args.k (λ i. search rules)
          c.requires c.if-k-eq0.false _ c.read_groups.ensures _ _ (ap told c.in_ok-v.was),
    )

pub returns : goal.returns
returns t c =
    let a = c.args in
    sym (at_more a.s.now a.at c.if-s-at.false _ c.wide-x.ensures.0 a.k c.if-k-eq0.false c.if-x-lt128.false _ c.read_groups.ensures _ _ (ap told c.in_ok-v.was) c.if-v-eq0.false)

pub returns-in_err-v : goal.returns-in_err-v
returns-in_err-v t c =
    let a = c.args in
    let p = err_from_is_err_and c.from_residual.result c.from_residual.ensures.1 in
    rw (p.1, p.2) (sym (at-more-refused a.s.now a.at c.if-s-at.false _ c.wide-x.ensures.0 a.k c.if-k-eq0.false c.if-x-lt128.false _ c.read_groups.ensures _ (ap told c.in_err-v.was)))
