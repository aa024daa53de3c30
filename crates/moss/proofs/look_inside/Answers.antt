-- A packet of known type. Assumes nothing.
use Rattle.wire.proofs.Basics.{◌∙◌, sym, drop}
use Rattle.std.proofs.lemmas.Result.{err_from_is_err_and}
use Rattle.moss.specs.Limits.{head_length}
use Rattle.moss.specs.Packet.{session_place, carried}
use Rattle.moss.specs.Answers.{letter_of}
use Rattle.moss.proofs.Looks.{look-broken, look-filled}
use Rattle.moss.proofs.look_inside.Goals as goal

pub returns-in_err-t : goal.returns-in_err-t
returns-in_err-t c =
    let a = c.args in
    let p = err_from_is_err_and c.from_residual.result c.from_residual.ensures.1 in
    rw (p.1, p.2) (look-broken a.n a.p.now (carried (letter_of a.kind) (drop head_length a.p.now)) _ (sym c.in_err-t.ensures))

pub returns : goal.returns
returns c =
    let a = c.args in
    let t = c.in_ok-t.t in
    look-filled a.n a.p.now (carried (letter_of a.kind) (drop head_length a.p.now)) t
    (record { session = session_place; sequence = c.word_at.result; kind = letter_of a.kind; count = t.count })
    (sym c.walk_kind.ensures ∙ c.in_ok-t.was)
    (λ i. record { session = session_place; sequence = c.word_at.ensures i; kind = c.requires i; count = t.count })
