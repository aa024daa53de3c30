-- What the watch says of a packet. Assumes nothing.
use Rattle.wire.proofs.Basics.{◌∙◌, sym, ◌≡◌, ap, refl, rules}
use Rattle.std.proofs.Common.{Some, w32}
use mir.ValLaws.{to_z-of_z}
use Rattle.differences.specs.Difference.{difference, told}
use Rattle.moss.specs.Packet.{packet_of}
use Rattle.moss.specs.Answers.{Header}
use Rattle.moss.specs.Answers as answers
use Rattle.gauge_watch.specs.Heard.{Gauge, silent, shows, said, asked}
use Rattle.gauge_watch.proofs.Hears.{headed, noted-silent, noted_other, noted-same, session_compared}
use Rattle.gauge_watch.proofs.ask.Goals as goal

pub returns-in_default : goal.returns-in_default
returns-in_default c =
    let g = said c.args.g in
    let h = headed (packet_of c.args.p.now) (answers.said c.args.header) c.requires in
    let s : g ≡ silent = ap shows c.in_default.is in
    sym (ap (asked g) h.is ∙ noted-silent g h.packet (ap (λ (x : Gauge). x.started) s))

pub returns-then-not-same_at : goal.returns-then-not-same_at
returns-then-not-same_at c =
    let a = c.args in
    let h = headed (packet_of a.p.now) (answers.said a.header) c.requires in
    let s = c.in-Some.session in
    let e = session_compared a.p.now s.name h.packet (answers.said a.header) h.is h.header (search rules) in
    rw c.in-Some.is (sym (ap (asked (shows (Some s))) h.is ∙ noted_other (shows (Some s)) h.packet (sym e ∙ sym c.same_at.ensures ∙ c.if-not-same_at.true)))

pub returns : goal.returns
returns c =
    let d = c.sequence_difference in
    let a = c.args in
    let h = headed (packet_of a.p.now) (answers.said a.header) c.requires in
    let s = c.in-Some.session in
    let e = session_compared a.p.now s.name h.packet (answers.said a.header) h.is h.header (search rules) in
    c.tell.ensures
    ∙ ap (told a.header.sequence) (to_z-of_z w32 d.result (record { sfits = d.type_inv }) ∙ d.ensures)
    ∙ ap (λ (x : Header). told x.sequence (difference x.sequence s.last)) h.header
    ∙ rw c.in-Some.is (sym (ap (asked (shows (Some s))) h.is ∙ noted-same (shows (Some s)) h.packet refl (sym e ∙ sym c.same_at.ensures ∙ c.if-not-same_at.false)))
