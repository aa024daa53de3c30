-- No second answer: how long a message is says one number, or one refusal. Assumes nothing.
use Rattle.wire.proofs.Basics.{◌∙◌, sym, ◌≡◌, ℕ, true, Bool}
use Rattle.std.proofs.Common.{Result}
use Rattle.refusals.specs.declared.Refusal.{Refusal}
use Rattle.lmcp.specs.Made.{Made, made_told}
use Rattle.lmcp.specs.Write.{Write}
use Rattle.lmcp.proofs.Once.{made-once}
use Rattle.lmcp_size.specs.Size.{SizeOf}

pub size-once : (W : Bool → Write) (r r' : Made) → SizeOf W r → SizeOf W r' → r ≡ r'
size-once W r r' a b = a true ∙ sym (b true)

-- and so does the code
pub sizer-once : (W : Bool → Write) (r s : Result ℕ Refusal) → SizeOf W (made_told r) → SizeOf W (made_told s) → r ≡ s
sizer-once W r s a b = made-once r s (size-once W (made_told r) (made_told s) a b)
