-- `memory::remember` meets its contract. Assumes nothing.
use Rattle.wire.proofs.Basics.{◌∙◌, sym, ap, length}
use Rattle.memory.specs.Words.{memory_in}
use Rattle.memory.specs.InsideParts.{added_in}
use Rattle.memory.proofs.Views.{stays, left, for-inside, settled-length, remembered-memory, remembered-length}
use Rattle.memory.proofs.remember.Goals as goal

pub returns-then-memory-ne-WORDS : goal.returns-then-memory-ne-WORDS
returns-then-memory-ne-WORDS c = stays c.args.memory.now _ c.if-memory-ne-WORDS.true

pub count_of-n-requires : goal.count_of-n-requires
count_of-n-requires c =
    let a = c.args in
    for-inside a.memory.now a.sender _ c.place_for-i.ensures

pub settle-requires : goal.settle-requires
settle-requires c =
    let a = c.args in
    for-inside a.memory.now a.sender _ c.place_for-i.ensures

pub add-requires : goal.add-requires
add-requires c =
    let a = c.args in
    let inside = for-inside a.memory.now a.sender _ c.place_for-i.ensures in
    (inside, ap length c.settle.ensures ∙ settled-length a.memory.now c.if-memory-ne-WORDS.false _ a.sender inside)

pub returns : goal.returns
returns c =
    let a = c.args in
    let w = a.memory.now in
    let s = a.sender in
    let q = a.sequence in
    let e = c.if-memory-ne-WORDS.false in
    let i = c.place_for-i.result in
    let n = c.count_of-n.result in
    let p = c.place_for-i.ensures in
    let u = c.add.ensures ∙ ap (λ v. added_in v i n q) c.settle.ensures in
    left w _ _ e (ap memory_in u ∙ remembered-memory w e s q i n p c.count_of-n.ensures) (ap length u ∙ remembered-length w e s q i n (for-inside w s i p) ∙ sym e)
