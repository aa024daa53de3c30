-- NO SECOND ANSWER of the code says the same in the papers' values. Assumes nothing.
use Rattle.wire.proofs.Basics.{◌≡◌, ap, refl, ℕ}
use Rattle.std.proofs.Common.{Result, Ok, Err, Option, Some, None}
use Rattle.refusals.specs.declared.Refusal.{Refusal}
use Rattle.refusals.specs.Numbers.{number_of}
use Rattle.refusals.proofs.Names.{same_number}
use Rattle.index_look.specs.Looked.{looked_told}

pub told-once : (r s : Result (Option ℕ) Refusal) → looked_told r ≡ looked_told s → r ≡ s
told-once (Ok (Some p)) (Ok (Some q)) e = let f : p ≡ q = cc in rw f refl
told-once (Ok (Some p)) (Ok None) e = cc
told-once (Ok (Some p)) (Err s) e = cc
told-once (Ok None) (Ok (Some q)) e = cc
told-once (Ok None) (Ok None) e = refl
told-once (Ok None) (Err s) e = cc
told-once (Err r) (Ok (Some q)) e = cc
told-once (Err r) (Ok None) e = cc
told-once (Err r) (Err s) e = let f : number_of r ≡ number_of s = cc in ap Err (same_number r s f)
