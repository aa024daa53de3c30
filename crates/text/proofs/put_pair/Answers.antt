-- A byte as two digits. Assumes nothing.
use Rattle.wire.proofs.Basics.{◌∙◌, ap, ℕ, [], ◌∷◌}
use Rattle.text.specs.Text.{hex}
use Rattle.text.proofs.Puts.{put_then, put_is}
use Rattle.text.proofs.put_pair.Goals as goal

pub returns : goal.returns
returns c =
    put_is (put_then c.put_one-next.ensures c.put_one.ensures)
    ((λ i. c.letter.ensures i ∷ c.letter-2.ensures i ∷ []) ∙ ap (λ (v : ℕ). hex (v ∷ [])) c.from-v.ensures)
