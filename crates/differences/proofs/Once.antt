-- No second answer satisfies a contract of this crate. All but `tell` say `r ≡ definition inputs`: wire's one_answer is their theorem. Assumes nothing.
use Rattle.wire.proofs.Basics.{◌∙◌, sym, ◌≡◌, ap, refl}
use Rattle.refusals.specs.declared.Refusal.{Refusal}
use Rattle.refusals.specs.Numbers.{number_of}
use Rattle.refusals.proofs.Names.{same_number}
use Rattle.differences.specs.declared.Answer.{Answer}
use Rattle.differences.specs.declared.Answer.TheVariants.{First, Forward, Same, Late, Restarted, Refused}
use Rattle.differences.specs.Noted.{Noted, first, forward, same, late, restarted, refused, notes}

-- the case of the enum that means so; d for a refusal
spoken : Answer → Noted → Answer
spoken d first = First
spoken d (forward missing) = Forward missing
spoken d same = Same
spoken d (late by) = Late by
spoken d (restarted number) = Restarted number
spoken d (refused number) = d

spoken-notes : (r : Answer) → spoken r (notes r) ≡ r
unfolding spoken
spoken-notes First = refl
spoken-notes (Forward missing) = refl
spoken-notes Same = refl
spoken-notes (Late by) = refl
spoken-notes (Restarted number) = refl
spoken-notes (Refused refusal) = refl

one-refusal : (a : Refusal) (s : Answer) → notes s ≡ refused (number_of a) → Refused a ≡ s
one-refusal a First e = cc
one-refusal a (Forward missing) e = cc
one-refusal a Same e = cc
one-refusal a (Late by) e = cc
one-refusal a (Restarted number) e = cc
one-refusal a (Refused b) e = let f : number_of a ≡ number_of b = cc in ap Refused (same_number a b f)

same-notes : (r s : Answer) → notes r ≡ notes s → r ≡ s
unfolding spoken
same-notes First s e = ap (spoken s) e ∙ spoken-notes s
same-notes (Forward missing) s e = ap (spoken s) e ∙ spoken-notes s
same-notes Same s e = ap (spoken s) e ∙ spoken-notes s
same-notes (Late by) s e = ap (spoken s) e ∙ spoken-notes s
same-notes (Restarted number) s e = ap (spoken s) e ∙ spoken-notes s
same-notes (Refused refusal) s e = one-refusal refusal s (sym e)

-- `tell`, and whatever answers so
pub answer-once : {noted : Noted} (r s : Answer) → notes r ≡ noted → notes s ≡ noted → r ≡ s
answer-once r s p q = same-notes r s (p ∙ sym q)
