use Rattle.wire.proofs.Basics.{◌∙◌, sym, ◌≡◌, ap, subst, ℕ, ◌∷◌, ℤ, true, false, pos, nat_abs}
use lib.Signed.{lt_z}
use mir.Syntax.{w64}
use mir.ValLaws.{to_z-of_z}
use Rattle.text.specs.Text.{decimal}
use Rattle.text.proofs.Puts.{put_then, put_is}
use Rattle.text.proofs.Texts.{signed_below, signed_above}
use Rattle.text.proofs.put_signed.Goals as goal

pub returns-then-z-lt0 : goal.returns-then-z-lt0
returns-then-z-lt0 c =
    let same = to_z-of_z w64 c.args.z c.ranges.z in
    put_is (put_then c.put_one-next.ensures c.put_decimal.ensures)
    (ap (λ (n : ℕ). 45 ∷ decimal n) (c.unsigned_abs.ensures.value ∙ ap nat_abs same) ∙ sym (signed_below c.args.z (subst (λ (z : ℤ). lt_z z (pos 0) ≡ true) same c.if-z-lt0.true)))

pub returns : goal.returns
returns c =
    let same = to_z-of_z w64 c.args.z c.ranges.z in
    put_is c.put_decimal-2.ensures
    (ap decimal (c.unsigned_abs-2.ensures.value ∙ ap nat_abs same) ∙ sym (signed_above c.args.z (subst (λ (z : ℤ). lt_z z (pos 0) ≡ false) same c.if-z-lt0.false)))
