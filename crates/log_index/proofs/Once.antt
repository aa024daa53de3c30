-- No second answer of a lookup. Assumes nothing.
use Rattle.wire.proofs.Basics.{◌∙◌, sym, ◌≡◌, refl, ℕ, List}
use Rattle.std.proofs.Common.{Option, Some, None}
use Rattle.log_index.specs.Words.{says, found_in}

says-once : (r s : Option ℕ) → says r ≡ says s → r ≡ s
says-once (Some p) (Some q) e = cc
says-once (Some p) None e = cc
says-once None (Some q) e = cc
says-once None None e = refl

pub find-once : (w : List ℕ) (n s q : ℕ) (r t : Option ℕ) → says r ≡ found_in w n s q → says t ≡ found_in w n s q → r ≡ t
find-once w n s q r t e f = says-once r t (e ∙ sym f)
