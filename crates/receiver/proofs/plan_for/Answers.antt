-- `receiver::plan_for` meets its contract. Assumes nothing.
use Rattle.wire.proofs.Basics.{subst}
use Rattle.verdict.specs.declared.Verdict.{Verdict}
use Rattle.verdict.specs.Decided.{verdict_told}
use Rattle.verdict.specs.Inside.{Possible}
use Rattle.receiver.proofs.Settling.{planned-refuse, planned-again, planned-deliver, planned-join, planned-begin}
use Rattle.receiver.proofs.plan_for.Goals as goal

pub begin-requires : goal.begin-requires
begin-requires c =
    let args = c.args in
    (subst (λ (v : Verdict). Possible args.state.now args.names.now c.requires.0 (verdict_told v)) c.in-Begin.is c.requires.1).0.shape

pub returns-in-Refuse : goal.returns-in-Refuse
returns-in-Refuse c =
    let args = c.args in
    planned-refuse args.state.now args.names.now args.sender args.verdict _ c.in-Refuse.is

pub returns-in-Again : goal.returns-in-Again
returns-in-Again c =
    let args = c.args in
    planned-again args.state.now args.names.now args.sender args.verdict c.in-Again.is

pub returns-in-Deliver : goal.returns-in-Deliver
returns-in-Deliver c =
    let args = c.args in
    planned-deliver args.state.now args.names.now args.sender args.verdict _ c.in-Deliver.is

pub returns-in-Join : goal.returns-in-Join
returns-in-Join c =
    let args = c.args in
    planned-join args.state.now args.names.now args.sender args.verdict _ _ c.in-Join.is

pub returns-in-Begin : goal.returns-in-Begin
returns-in-Begin c =
    let args = c.args in
    planned-begin args.state.now args.names.now args.sender args.verdict _ c.begin.result _ _ c.in-Begin.is c.begin.ensures
