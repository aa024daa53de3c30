-- No second answer satisfies a contract of this crate. `new` and `move_to` say `r ≡ definition inputs`: wire's one_answer is their theorem; that of `ask` is
-- differences' answer-once. Assumes nothing.
use Rattle.wire.proofs.Basics.{◌≡◌, ℕ}
use Rattle.wire.proofs.Once.{one_answer}
use Rattle.watch.specs.declared.Watch.{Watch}
use Rattle.watch.specs.declared.Seen.{Seen}
use Rattle.differences.proofs.Once.{answer-once}
use Rattle.watch.specs.Watching.{Result}

-- `see`
pub see-once : {w : Watch} {sender number : ℕ} (r s : Seen) → Result w sender number r → Result w sender number s → r ≡ s
see-once r s p q =
    let a : r.answer ≡ s.answer = answer-once r.answer s.answer p.answer q.answer in
    let b : r.watch ≡ s.watch = one_answer r.watch s.watch p.watch q.watch in
    λ i. record { answer = a i; watch = b i }
