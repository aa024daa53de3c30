use Rattle.wire.proofs.Basics.{◌∙◌, sym, ap, ℕ, ◌/◌, [], ◌∷◌, ◌++◌}
use Rattle.text.specs.Text.{decimal}
use Rattle.text.proofs.Puts.{put_then, put_is}
use Rattle.text.proofs.Texts.{decimal-low, decimal-high}
use Rattle.text.proofs.+put_decimal.Goals as goal

pub returns-then-n-lt10 : goal.returns-then-n-lt10
returns-then-n-lt10 t c =
    put_is c.put_one.ensures
    (ap (λ (b : ℕ). b ∷ []) c.letter.ensures ∙ sym (decimal-low c.args.n c.if-n-lt10.true))

pub returns : goal.returns
returns t c =
    let n = c.args.n in
    put_is (put_then c.put_decimal-next.ensures c.put_one-2.ensures)
    (ap (λ (b : ℕ). decimal (n / 10) ++ b ∷ []) c.letter-2.ensures ∙ sym (decimal-high n c.if-n-lt10.false))
