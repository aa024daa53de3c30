-- The memory has the receiver's lengths, so the call is the step list's. Assumes nothing.
use Rattle.wire.proofs.Basics.{◌≡◌, length, eq-eqb, rules}
use Rattle.wire.proofs.Choices.{and-of}
use Rattle.receiver_state.specs.View.{state_words_lem, name_bytes_lem}
use Rattle.replay_run.proofs.Heard.{replayed-said, replayed-left}
use Rattle.replay_run.proofs.ReplayTeller.line.Goals as goal

pub returns-clause-text : goal.returns-clause-text
returns-clause-text c =
    let r = c.args.self.now in
    let w : length r.state ≡ state_words_lem = search rules in
    let b : length r.names ≡ name_bytes_lem = search rules in
    replayed-said (and-of _ _ (eq-eqb (length r.state) state_words_lem w) (eq-eqb (length r.names) name_bytes_lem b)) c.hear.ensures

pub returns-clause-next : goal.returns-clause-next
returns-clause-next c =
    let r = c.args.self.now in
    let w : length r.state ≡ state_words_lem = search rules in
    let b : length r.names ≡ name_bytes_lem = search rules in
    replayed-left (and-of _ _ (eq-eqb (length r.state) state_words_lem w) (eq-eqb (length r.names) name_bytes_lem b)) c.hear.ensures
