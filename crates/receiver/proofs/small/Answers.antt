-- `receiver::small` meets its contract. Assumes nothing.
use Rattle.wire.proofs.Basics.{sym}
use Rattle.steps.specs.declared.Emptied.TheVariants.{Nobody}
use Rattle.steps.specs.declared.PayloadAt.TheVariants.{InDatagram}
use Rattle.steps.specs.declared.Answer.TheVariants.{Delivered}
use Rattle.receiver_state.proofs.Moves.{name-filled}
use Rattle.receiver.proofs.small.Goals as goal

pub returns : goal.returns
returns c =
    let args = c.args in
    let nm = name-filled args.d.now args.h.name c.requires.1.short _ _ c.part_at.ensures c.zero_filled-name.ensures in
    record {
      remembers = rw c.as_word.ensures at c.remember_key.ensures;
      outcome = λ i. record { answer = Delivered (InDatagram (c.requires.1.small_at c.requires.2 i)) (sym c.requires.1.long i); emptied = Nobody; name = nm i };
    }
