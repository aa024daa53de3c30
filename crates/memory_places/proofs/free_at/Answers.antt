-- `memory::free_at` meets its contract. Assumes nothing.
use Rattle.wire.proofs.Basics.{◌∙◌, sym, eq-eqb, ne_eqb}
use Rattle.memory_places.proofs.free_at.Goals as goal

pub returns-then-word-sender : goal.returns-then-word-sender
returns-then-word-sender c = rw (ne_eqb _ _ (λ q. c.if-word-sender.true (c.word.ensures ∙ q)))

pub returns : goal.returns
returns c =
    c.put_word.ensures ∙ rw (eq-eqb _ _ (sym c.word.ensures ∙ c.if-word-sender.false))
