-- A record's line. Assumes nothing.
use Rattle.wire.proofs.Basics.{◌∙◌, sym, ap, refl, ℕ, ◌-◌, ◌++◌, length, drop, length-drop, take_all, arith}
use Rattle.moss.specs.Packet.{Given}
use Rattle.wire.specs.Bytes.{Bytes}
use Rattle.text.specs.Text.{decimal}
use Rattle.output.proofs.Adding.{adds_then, adds_is}
use Rattle.gauge_bytes.specs.Lines.{record_bytes, answer_text}
use Rattle.gauge_bytes.proofs.Records.{answer-short, session-front, line-bytes, line_refused}
use Rattle.gauge_bytes.proofs.one_more.Goals as goal

pub returns-then-b-lt-RECORD_HEAD : goal.returns-then-b-lt-RECORD_HEAD
returns-then-b-lt-RECORD_HEAD c =
    let a = c.args in
    adds_is (adds_then c.pour_decimal.ensures c.pour_refused.ensures)
    (ap (λ (g : Given ℕ). decimal a.n ++ answer_text g (record_bytes a.b.now)) (sym (answer-short a.b.now c.if-b-lt-RECORD_HEAD.true)))

pub returns-in-Ok : goal.returns-in-Ok
returns-in-Ok c =
    let a = c.args in
    let b = a.b.now in
    let all : Bytes b = λ i. omega (arith, c.type_inv.b i) in
    let blocks = take_all (length b - 15) (drop 15 b) (omega (arith, length-drop 15 b)) in
    adds_is (adds_then c.pour_decimal.ensures c.pour_bytes.ensures)
    (line-bytes a.n b a.packet.now _ _ _ _ _ all c.if-b-lt-RECORD_HEAD.false c.requires (c.session_at-session.ensures ∙ session-front b c.if-b-lt-RECORD_HEAD.false) c.word_at-sequence.ensures blocks c.in-Ok.ensures _ refl)

pub returns-in-Err : goal.returns-in-Err
returns-in-Err c =
    let a = c.args in
    let b = a.b.now in
    let all : Bytes b = λ i. omega (arith, c.type_inv.b i) in
    let blocks = take_all (length b - 15) (drop 15 b) (omega (arith, length-drop 15 b)) in
    adds_is (adds_then c.pour_decimal.ensures c.pour_refused-in-Err.ensures)
    (line_refused a.n b a.packet.now _ _ _ _ _ all c.if-b-lt-RECORD_HEAD.false c.requires (c.session_at-session.ensures ∙ session-front b c.if-b-lt-RECORD_HEAD.false) c.word_at-sequence.ensures blocks c.in-Err.ensures _ refl)
