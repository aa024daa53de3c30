-- `held_bits::hold_fragment` meets its contract. Assumes nothing.
use Rattle.wire.proofs.Basics.{◌∙◌, ◌%◌, arith}
use Rattle.steps.specs.Held.{hold}
use Rattle.held_bits.proofs.Bits.{above-bits}
use Rattle.held_bits.proofs.hold_fragment.Goals as goal

pub returns : goal.returns
unfolding hold
returns c =
    c.put_word.ensures ∙ rw (c.word-w.ensures, above-bits (c.args.k % 64) (omega arith))
