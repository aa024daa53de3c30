-- `memory::has_key` meets its contract. Assumes nothing.
use Rattle.std.proofs.Common.{◌≡◌, ◌+◌, ℕ, refl, get_or, eqb, min, arith, rules, tests}
use Rattle.std.proofs.lemmas.Iterator.{YieldsList-from_range}
use Rattle.std.proofs.lemmas.Iterator.Search.{any_from_yields_List}
use Rattle.steps.specs.Limits.{keys_each}
use Rattle.steps.proofs.Ranges.{any-range}
use Rattle.memory.specs.Words.{used_at, sequences_at}
use Rattle.memory.proofs.Loops.{key-asked}
use Rattle.memory.proofs.has_key.Goals as goal

pub returns : goal.returns
returns c =
    let a = c.args in
    let n : ℕ = c.min-n.result in
    let e : n ≡ min (get_or a.memory.now (used_at a.i) 0) keys_each = search rules in
    let p = λ (k : ℕ). eqb (get_or a.memory.now (sequences_at a.i + k) 0) a.sequence in
    key-asked a.memory.now a.i a.sequence n e _
    (any-range p n _ (any_from_yields_List p _ _ _ c.any.ensures.ran (YieldsList-from_range 0 n n refl (omega arith)) (λ x b q k. search (rules, tests))))
