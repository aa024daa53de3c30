-- Ten bytes out of two words, and the two other words. Assumes nothing.
use Rattle.wire.proofs.Basics.{◌∙◌, sym, ap, ℕ, ◌^◌, ◌%◌, ◌++◌, eq-eqb, ne_eqb}
use Rattle.wire.specs.Bytes.{bytes}
use Rattle.host_gauge.proofs.Watched.{ten-bytes, not-heard, was-heard}
use Rattle.host_gauge.proofs.watching.shown.Goals as goal

pub returns-then-word-ne1 : goal.returns-then-word-ne1
returns-then-word-ne1 c = sym (not-heard _ (ne_eqb _ _ (λ e. c.if-word-ne1.true (c.word.ensures ∙ e))))

pub returns : goal.returns
returns c =
    let x = c.word-2.ensures in
    let y = c.word-3.ensures in
    let name = ten-bytes _ _ _ _ c.put_number.ensures c.put_number-2.ensures ∙ λ i. bytes 8 (x i) ++ bytes 2 (y i) in
    was-heard _ name (ap (λ (n : ℕ). n % 2 ^ 32) c.word-last.ensures) (eq-eqb _ _ (sym c.word.ensures ∙ c.if-word-ne1.false))
