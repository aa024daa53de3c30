-- A number of the block at a place. Assumes nothing.
use Rattle.wire.proofs.Basics.{◌∙◌, sym, ◌≡◌, ap, subst, ℕ, ◌+◌, ◌<◌, ◌^◌, min, drop, drop-drop, arith}
use Rattle.wire.specs.Bytes.{be}
use Rattle.ack_blocks.proofs.field.Goals as goal

pub returns : goal.returns
returns c =
    let a = c.args in
    let k = c.number in
    let e : min a.w 8 ≡ a.w = omega arith in (
      k.ensures.value ∙ ap (λ (w : ℕ). be w (drop (a.at + a.from) a.b.now)) e ∙ ap (be a.w) (sym (drop-drop a.from a.at a.b.now)),
      subst (λ (w : ℕ). k.result < 256 ^ w) e k.ensures.fits,
    )
