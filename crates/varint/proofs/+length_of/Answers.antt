use Rattle.wire.proofs.Basics.{sym, ap, ℕ, ◌-◌, ◌/◌, length, arith}
use Rattle.varint.specs.Seven.{groups}
use Rattle.varint.proofs.Sevens.{groups-last, groups-more, groups-length}
use Rattle.varint.proofs.+length_of.Goals as goal

pub returns-then-k-eq0 : goal.returns-then-k-eq0
unfolding groups
returns-then-k-eq0 t c =
    let a = c.args in
    ap (λ (k : ℕ). length (groups k a.v)) (sym c.if-k-eq0.true)

pub returns-then-v-lt128 : goal.returns-then-v-lt128
returns-then-v-lt128 t c =
    let a = c.args in
    sym (ap length (groups-last a.k a.v c.if-v-lt128.true))

pub overflow_add-result : goal.overflow_add-result
overflow_add-result t c =
    let a = c.args in
    omega (arith, groups-length (a.k - 1) (a.v / 128))

pub returns : goal.returns
returns t c =
    let a = c.args in
    let e = ap length (groups-more a.k a.v (omega arith) c.if-v-lt128.false) in
    omega (arith, e, c.length_of.ensures)
