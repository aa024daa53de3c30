-- `verdict::decide` meets its contract. Assumes nothing.
use Rattle.wire.proofs.Basics.{◌∙◌, sym, ap}
use Rattle.datagram.specs.Limits.{max_fragments}
use Rattle.datagram.specs.Read.{read_datagram_lem, told as said_by}
use Rattle.verdict.proofs.Gates.{ready-is, ready-ledger, told}
use Rattle.verdict.proofs.Decides.{unready, decided-refused, decided-good}
use Rattle.verdict.proofs.decide.Goals as goal

pub returns-then-not-is_ready : goal.returns-then-not-is_ready
returns-then-not-is_ready c =
    let if1 = c.if-not-is_ready in
    let args = c.args in
    sym (unready args.state.now args.names.now args.store.now args.ledger.now args.sender args.d.now (sym c.is_ready.ensures ∙ if1.true))

pub returns-in_default : goal.returns-in_default
returns-in_default c =
    let args = c.args in
    let ok = sym c.is_ready.ensures ∙ c.if-not-is_ready.false in
    let reads = sym (c.read_datagram-read.ensures.answer ∙ ap (λ k. read_datagram_lem k max_fragments args.d.now) c.word-room.ensures) ∙ ap said_by c.unwrap_err.ensures in
    sym (decided-refused args.state.now args.names.now args.store.now args.ledger.now args.sender args.d.now ok _ reads)

pub by_key-requires : goal.by_key-requires
by_key-requires c =
    let args = c.args in
    let ok = sym c.is_ready.ensures ∙ c.if-not-is_ready.false in
    let reads = sym (c.read_datagram-read.ensures.answer ∙ ap (λ k. read_datagram_lem k max_fragments args.d.now) c.word-room.ensures) ∙ ap said_by c.in-Ok.is in
    let w = args.state.now in
    let n = args.names.now in
    (ready-is w n _ _ ok, told _ args.d.now _ reads, ready-ledger w n _ _ ok)

pub returns : goal.returns
returns c =
    let by_key = c.by_key in
    let args = c.args in
    let ok = sym c.is_ready.ensures ∙ c.if-not-is_ready.false in
    let reads = sym (c.read_datagram-read.ensures.answer ∙ ap (λ k. read_datagram_lem k max_fragments args.d.now) c.word-room.ensures) ∙ ap said_by c.in-Ok.is in
    by_key.ensures ∙ sym (decided-good args.state.now args.names.now args.store.now args.ledger.now args.sender args.d.now ok _ reads)
