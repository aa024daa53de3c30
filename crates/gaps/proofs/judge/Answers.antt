-- What is said of a datagram. Assumes nothing.
use Rattle.wire.proofs.Basics.{◌∙◌, sym, ap}
use Rattle.datagram.specs.Read.{told}
use Rattle.gaps.specs.Lines.{said_of, after_of}
use Rattle.gaps.proofs.judge.Goals as goal

pub returns-in-Ok : goal.returns-in-Ok
returns-in-Ok c =
    let w = c.args.w in
    let e = sym (ap told c.in-Ok.is) ∙ c.read_datagram-read.ensures.answer in
    record { answer = c.see.ensures.answer ∙ ap (said_of w) e; watch = c.see.ensures.watch ∙ ap (after_of w) e }

pub returns-in-Err : goal.returns-in-Err
returns-in-Err c =
    let w = c.args.w in
    let e = sym (ap told c.in-Err.is) ∙ c.read_datagram-read.ensures.answer in
    record { answer = ap (said_of w) e; watch = ap (after_of w) e }
