-- `memory::forget` meets its contract. Assumes nothing.
use Rattle.wire.proofs.Basics.{◌∙◌, ap, length}
use Rattle.steps.specs.Limits.{senders_most}
use Rattle.memory.specs.Words.{memory_in}
use Rattle.memory_places.proofs.Places.{freed-length, forgotten-memory}
use Rattle.memory.proofs.Views.{stays, left}
use Rattle.memory_places.proofs.forget.Goals as goal

pub returns-then-memory-ne-WORDS : goal.returns-then-memory-ne-WORDS
returns-then-memory-ne-WORDS c = stays c.args.memory.now _ c.if-memory-ne-WORDS.true

pub returns : goal.returns
returns c =
    let a = c.args in
    let e = c.if-memory-ne-WORDS.false in
    let u = c.free_all.ensures in
    left a.memory.now _ _ e (ap memory_in u ∙ forgotten-memory a.memory.now a.sender e) (ap length u ∙ freed-length a.memory.now a.sender senders_most)
