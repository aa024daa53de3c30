-- `host_index::qm_find` meets its contract. Assumes nothing.
use Rattle.host_index.proofs.Telling.{find-short, find-told}
use Rattle.host_index.proofs.qm_find.Goals as goal

pub returns-then-place-lt-PLACE : goal.returns-then-place-lt-PLACE
returns-then-place-lt-PLACE c = rw c.number.ensures (find-short _ _ _ _ _ c.if-place-lt-PLACE.true)

pub returns : goal.returns
returns c =
    find-told _ _ _ _ _ _ c.find-found.result _ _ c.if-place-lt-PLACE.false c.as_word.ensures c.find-found.ensures c.place_numbers-numbers.ensures
    c.put_words.ensures
