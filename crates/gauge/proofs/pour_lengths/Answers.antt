use Rattle.wire.proofs.Basics.{◌∙◌, sym, ap, refl, ℕ, ◌+◌, List, [], ◌∷◌, ◌++◌, append_assoc, append-nil, drop, arith}
use Rattle.moss.specs.Blocks.{messages_in}
use Rattle.text.specs.Text.{decimal}
use Rattle.output.proofs.Adding.{adds_none, adds_then, adds_is}
use Rattle.gauge.specs.Lines.{spaced}
use Rattle.gauge.specs.Inside.{lengths_in}
use Rattle.gauge.proofs.Texts.{block-fits, rest-filled, lengths-next, lengths-end}
use Rattle.gauge.proofs.pour_lengths.Goals as goal

pub loop-block-init : goal.loop-block-init
loop-block-init c = (c.requires, record { text = []; gone = adds_none _; whole = refl })

pub overflow_add-block-in-loop-block : goal.overflow_add-block-in-loop-block
overflow_add-block-in-loop-block c =
    omega (arith, block-fits c.args.p.now c.loop-block.block c.number-m.result c.loop-block-test.true c.loop-block.invariant.0 c.number-m.ensures.value)

pub loop-block-preserved : goal.loop-block-preserved
loop-block-preserved c =
    let a = c.args in
    let b : ℕ = c.loop-block.block in
    let k : ℕ = c.number-m.result in
    let size = c.number-m.ensures.value in
    let inv = c.loop-block.invariant in
    let passed = inv.1 in
    let rest : List ℕ = spaced (lengths_in (messages_in (drop (b + (2 + k)) a.p.now))) in (
      rest-filled a.p.now b k c.loop-block-test.true inv.0 size,
      record {
        text = passed.text ++ (32 ∷ [] ++ decimal k);
        gone = adds_then passed.gone c.pour_counted.ensures;
        whole =
            append_assoc passed.text (32 ∷ decimal k) rest
            ∙ ap (λ (x : List ℕ). passed.text ++ spaced x) (sym (lengths-next a.p.now b k c.loop-block-test.true inv.0 size))
            ∙ passed.whole;
      },
    )

pub returns : goal.returns
returns c =
    let a = c.args in
    let passed = c.loop-block.invariant.1 in
    adds_is passed.gone
    (sym (append-nil passed.text)
    ∙ ap (λ (x : List ℕ). passed.text ++ spaced x) (sym (lengths-end a.p.now c.loop-block.block c.loop-block-test.false))
    ∙ passed.whole)
