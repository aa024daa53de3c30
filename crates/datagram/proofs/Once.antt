-- No second answer satisfies the reader's contract. Assumes nothing.
use Rattle.wire.proofs.Basics.{◌∙◌, sym, ◌≡◌, ap, ℕ, List}
use Rattle.std.proofs.Common.{Result, Ok, Err}
use Rattle.refusals.specs.declared.Refusal.{Refusal}
use Rattle.refusals.specs.Numbers.{number_of}
use Rattle.refusals.proofs.Names.{same_number}
use Rattle.datagram.specs.declared.Header.{Header}
use Rattle.datagram.specs.Read.{told}
use Rattle.datagram.specs.Said.{Reads}

-- two answers that say the same are one
pub told-once : (r s : Result Header Refusal) → told r ≡ told s → r ≡ s
told-once (Ok h) (Ok k) e = let f : h ≡ k = cc in ap Ok f
told-once (Ok h) (Err s) e = cc
told-once (Err r) (Ok k) e = cc
told-once (Err r) (Err s) e = let f : number_of r ≡ number_of s = cc in ap Err (same_number r s f)

pub read-once : {max_size_lem max_count_lem : ℕ} {d : List ℕ} (r s : Result Header Refusal)
    → Reads max_size_lem max_count_lem d (told r) → Reads max_size_lem max_count_lem d (told s) → r ≡ s
read-once r s p q = told-once r s (p.answer ∙ sym q.answer)
