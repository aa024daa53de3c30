-- NO SECOND ANSWER satisfies the contract of a payload. Assumes nothing.
use Rattle.wire.proofs.Basics.{◌∙◌, sym, ◌≡◌, ap, ℕ, List, Bool, true, false}
use Rattle.std.proofs.Common.{Result, Ok, Err}
use Rattle.refusals.specs.declared.Refusal.{Refusal}
use Rattle.refusals.specs.Numbers.{number_of}
use Rattle.refusals.proofs.Names.{same_number}
use Rattle.pit_marks.specs.declared.Sizes.{Sizes}
use Rattle.pit_payloads.specs.Looked.{Looked, told}
use Rattle.pit_payloads.specs.Looks.{Book, book, Looks}

pub payload-once : {payload : List ℕ} {k : Book} {had : Sizes} {a b : Looked} {m n : Book} → Looks payload k had a m → Looks payload k had b n → (a ≡ b) × (m ≡ n)
payload-once x y = (x.leaves.gave ∙ sym y.leaves.gave, (λ i. book ((x.list_left ∙ sym y.list_left) i) ((x.leaves.sets-left ∙ sym y.leaves.sets-left) i)))

-- what the code answers says one thing
pub told-once : (r s : Result Bool Refusal) (m n : Sizes) → told r m ≡ told s n → r ≡ s
told-once (Ok true) (Ok true) m n e = λ i. Ok true
told-once (Ok false) (Ok false) m n e = λ i. Ok false
told-once (Ok true) (Ok false) m n e = cc
told-once (Ok false) (Ok true) m n e = cc
told-once (Ok true) (Err s) m n e = cc
told-once (Ok false) (Err s) m n e = cc
told-once (Err r) (Ok true) m n e = cc
told-once (Err r) (Ok false) m n e = cc
told-once (Err r) (Err s) m n e = let f : number_of r ≡ number_of s = cc in ap Err (same_number r s f)
