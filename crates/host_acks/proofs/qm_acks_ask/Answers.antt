-- By whether there is room for the number that tells, and by the answer. Assumes nothing.
use Rattle.wire.proofs.Basics.{◌∙◌, ap, refl, ℕ, set}
use Rattle.host_acks.proofs.Telling.{ask-short, ask-told, one-or-zero}
use Rattle.host_acks.proofs.qm_acks_ask.Goals as goal

pub returns-then-told-lt1 : goal.returns-then-told-lt1
returns-then-told-lt1 c = rw c.number.ensures (ask-short _ _ _ c.if-told-lt1.true)

pub returns-in-Ok : goal.returns-in-Ok
returns-in-Ok c =
    ask-told _ _ _ c.if-told-lt1.false _ c.in-Ok.ensures _ _ refl
    (c.put_word.ensures ∙ ap (λ (x : ℕ). set c.args.told.now 0 x) (c.from.ensures ∙ one-or-zero c.in-Ok.found))

pub returns-in-Err : goal.returns-in-Err
returns-in-Err c = ask-told _ _ _ c.if-told-lt1.false _ c.in-Err.ensures _ _ c.number-in-Err.ensures refl
