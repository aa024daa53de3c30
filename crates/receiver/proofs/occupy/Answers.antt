-- `receiver::occupy` meets its contract. Assumes nothing.
use Rattle.datagram.specs.Said.{fragment_in}
use Rattle.receiver_state.proofs.Moves.{occupied}
use Rattle.receiver.proofs.occupy.Goals as goal

pub returns : goal.returns
returns c =
    let args = c.args in
    λ d. rw c.as_word.ensures at
    (occupied args.state.now args.names.now c.requires.1 args.s c.requires.0 (fragment_in d args.h) args.sender c.as_word.result c.as_word-2.result c.as_word-3.result c.open_count.result _ _
    c.as_word-2.ensures c.as_word-3.ensures c.open_count.ensures c.put_words.ensures c.put_bytes.ensures)
