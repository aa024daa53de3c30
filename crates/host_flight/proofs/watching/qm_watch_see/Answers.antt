-- `host_flight::watching::qm_watch_see` meets its contract. Assumes nothing.
use Rattle.wire.proofs.Basics.{◌∙◌, drop, take}
use Rattle.watch.specs.Limits.{max_senders}
use Rattle.host_flight.proofs.Watched.{lacks-senders, lacks-lasts, has_room, see-short, see-told}
use Rattle.host_flight.proofs.watching.qm_watch_see.Goals as goal

pub returns-then-senders-lt-WATCH : goal.returns-then-senders-lt-WATCH
returns-then-senders-lt-WATCH c = let s = c.args in rw c.number.ensures (see-short _ _ _ _ (lacks-senders s.senders.now s.lasts.now c.if-senders-lt-WATCH.true))

pub returns-then-lasts-lt-SENDERS : goal.returns-then-lasts-lt-SENDERS
returns-then-lasts-lt-SENDERS c = let s = c.args in rw c.number-then-lasts-lt-SENDERS.ensures (see-short _ _ _ _ (lacks-lasts s.senders.now s.lasts.now c.if-lasts-lt-SENDERS.true))

pub returns : goal.returns
returns c =
    let s = c.args in
    let room = has_room s.senders.now s.lasts.now c.if-senders-lt-WATCH.false c.if-lasts-lt-SENDERS.false in
    see-told s.senders.now s.lasts.now s.sender s.number _ _ _ _ _ _ room
    (c.shown-before.ensures ∙ λ i. record { senders = take max_senders (drop 1 s.senders.now); lasts = take max_senders s.lasts.now; count = c.word.ensures i })
    c.see-seen.ensures c.code.ensures c.put_word.ensures c.put_words.ensures c.put_words-2.ensures
