-- `fragment_fit::agree` meets its contract. Assumes nothing.
use Rattle.wire.proofs.Basics.{sym, ◌+◌, le-ltb, lt-ltb}
use Rattle.fragment_fit.proofs.Aparts.{near, far}
use Rattle.fragment_fit.proofs.agree.Goals as goal

pub returns-then-j-k-2 : goal.returns-then-j-k-2
returns-then-j-k-2 c = let a = c.args in rw (lt-ltb _ _ c.if-j-k.true) (sym (near a.j (a.other + a.size) a.k a.offset c.if-j-k-2.true))

pub returns-else-j-k-2 : goal.returns-else-j-k-2
returns-else-j-k-2 c = let a = c.args in rw (lt-ltb _ _ c.if-j-k.true) (sym (far a.j (a.other + a.size) a.k a.offset c.if-j-k-2.false))

pub returns-then-k-j : goal.returns-then-k-j
returns-then-k-j c = let a = c.args in rw (le-ltb _ _ c.if-j-k.false) (sym (near a.k (a.offset + a.len) a.j a.other c.if-k-j.true))

pub returns-else-k-j : goal.returns-else-k-j
returns-else-k-j c = let a = c.args in rw (le-ltb _ _ c.if-j-k.false) (sym (far a.k (a.offset + a.len) a.j a.other c.if-k-j.false))
