-- The answer and the gauge afterwards. Assumes nothing.
use Rattle.wire.proofs.Basics.{◌∙◌, sym, ◌≡◌, ap, true, false, drop, replicate, arith}
use Rattle.wire.specs.Overlay.{overlay}
use Rattle.differences.specs.Noted.{moves}
use Rattle.moss.specs.Limits.{session_length}
use Rattle.moss.specs.Packet.{packet_of}
use Rattle.moss.specs.Answers.{Header}
use Rattle.moss.specs.Answers as answers
use Rattle.moss.proofs.Parts.{messages-few}
use Rattle.gauge_watch.specs.Heard.{said, asked, after, last_of}
use Rattle.gauge_watch.proofs.Hears.{headed, after-moves, after-stays, session-taken}
use Rattle.gauge_watch.specs.Heard.{noted_of}
use Rattle.gauge_watch.proofs.see_header.Goals as goal

pub last_of-requires : goal.last_of-requires
last_of-requires c =
    let h = headed (packet_of c.args.p.now) (answers.said c.args.header) c.requires in
    omega (arith, messages-few c.args.p.now h.packet h.is, ap (λ (x : Header). x.count) h.header)

pub returns-then-does_move : goal.returns-then-does_move
returns-then-does_move c =
    let a = c.args in
    let g = said a.g in
    let h = headed (packet_of a.p.now) (answers.said a.header) c.requires in
    let session = c.session_at.ensures ∙ ap (λ (x : Header). overlay (replicate session_length 0) 0 (drop x.session a.p.now)) h.header ∙ session-taken a.p.now h.packet h.is in
    let last = c.last_of.ensures ∙ ap (λ (x : Header). last_of x.sequence x.count) h.header in
    let moving : moves (noted_of g h.packet) ≡ true = ap moves (sym (c.ask-answer.ensures ∙ ap (asked g) h.is)) ∙ sym c.does_move.ensures ∙ c.if-does_move.true in
    record {
      answer = c.ask-answer.ensures;
      gauge = (λ i. record { session = session i; last = last i; started = true }) ∙ sym (ap (after g) h.is ∙ after-moves g h.packet moving);
    }

pub returns : goal.returns
returns c =
    let g = said c.args.g in
    let h = headed (packet_of c.args.p.now) (answers.said c.args.header) c.requires in
    let staying : moves (noted_of g h.packet) ≡ false = ap moves (sym (c.ask-answer.ensures ∙ ap (asked g) h.is)) ∙ sym c.does_move.ensures ∙ c.if-does_move.false in
    record { answer = c.ask-answer.ensures; gauge = sym (ap (after g) h.is ∙ after-stays g h.packet staying) }
