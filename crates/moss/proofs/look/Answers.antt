-- What a packet says, refusals 50, 51, 52 first. Assumes nothing.
use Rattle.wire.proofs.Basics.{◌∙◌, sym, ap, ℕ, drop}
use Rattle.std.proofs.lemmas.Result.{err_from_is_err_and}
use Rattle.moss.specs.Limits.{head_length}
use Rattle.moss.specs.Packet.{known_kind, carried, held}
use Rattle.moss.specs.InsideWalk.{looked}
use Rattle.moss.proofs.Faults.{known-letter}
use Rattle.moss.proofs.Packets.{packet-short, packet-wrong, packet-long, packet-type, packet-held}
use Rattle.moss.proofs.look.Goals as goal

pub returns-then-p-lt-HEAD : goal.returns-then-p-lt-HEAD
returns-then-p-lt-HEAD c = let a = c.args in ap (looked a.n) (sym (packet-short a.p.now c.if-p-lt-HEAD.true))

pub returns-then-number-p : goal.returns-then-number-p
returns-then-number-p c =
    let a = c.args in
    ap (looked a.n) (sym (packet-wrong a.p.now c.if-p-lt-HEAD.false (λ e. c.if-number-p.true (c.number.ensures.value ∙ e))))

pub returns-then-p-gt-MAX_PACKET : goal.returns-then-p-gt-MAX_PACKET
returns-then-p-gt-MAX_PACKET c =
    let a = c.args in
    ap (looked a.n) (sym (packet-long a.p.now c.if-p-lt-HEAD.false (sym c.number.ensures.value ∙ c.if-number-p.false) c.if-p-gt-MAX_PACKET.true))

pub returns-in_err-kind : goal.returns-in_err-kind
returns-in_err-kind c =
    let a = c.args in
    let p = err_from_is_err_and c.from_residual.result c.from_residual.ensures.1 in
    let e = c.in_err-kind.ensures in
    rw (p.1, p.2, e.0)
    (ap (looked a.n) (sym (packet-type a.p.now c.if-p-lt-HEAD.false (sym c.number.ensures.value ∙ c.if-number-p.false) c.if-p-gt-MAX_PACKET.false e.1)))

pub returns : goal.returns
returns c =
    let a = c.args in
    let k = c.in_ok-kind.kind in
    let e = c.in_ok-kind.ensures in
    c.look_inside.ensures
    ∙ ap (looked a.n)
    (ap (λ (x : ℕ). held a.p.now (carried x (drop head_length a.p.now))) e
    ∙ sym (packet-held a.p.now c.if-p-lt-HEAD.false (sym c.number.ensures.value ∙ c.if-number-p.false) c.if-p-gt-MAX_PACKET.false (ap known_kind (sym e) ∙ known-letter k)))
