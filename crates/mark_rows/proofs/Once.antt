-- NO SECOND ANSWER satisfies the contract of `marks_of`, nor leaves other rows. Assumes nothing.
use Rattle.wire.proofs.Basics.{◌∙◌, sym, ◌≡◌, ap, List, ℤ}
use Rattle.std.proofs.Common.{Option, Some, None, Result, Ok, Err}
use Rattle.refusals.specs.declared.Refusal.{Refusal}
use Rattle.refusals.specs.Numbers.{number_of}
use Rattle.refusals.proofs.Names.{same_number}
use Rattle.mark_rows.specs.declared.Marks.{Marks}
use Rattle.mark_rows.specs.Rows.{Rows, rows_told, GivesRows}

pub rows-once : {l rows a b : List ℤ} {r s : Rows} → GivesRows l rows r a → GivesRows l rows s b → (r ≡ s) × (a ≡ b)
rows-once p q = (p.gave ∙ sym q.gave, p.left ∙ sym q.left)

-- the code's answers say one thing
pub told-once : (r s : Result (Option Marks) Refusal) → rows_told r ≡ rows_told s → r ≡ s
told-once (Ok (Some m)) (Ok (Some n)) e =
    let t : m.tile ≡ n.tile = cc in
    let k : m.rows ≡ n.rows = cc in
    (λ i. Ok (Some (record { tile = t i; rows = k i })))
told-once (Ok (Some m)) (Ok None) e = cc
told-once (Ok (Some m)) (Err s) e = cc
told-once (Ok None) (Ok (Some n)) e = cc
told-once (Ok None) (Ok None) e = cc
told-once (Ok None) (Err s) e = cc
told-once (Err r) (Ok (Some n)) e = cc
told-once (Err r) (Ok None) e = cc
told-once (Err r) (Err s) e = let f : number_of r ≡ number_of s = cc in ap Err (same_number r s f)

pub marks-once : {l rows a b : List ℤ} (r s : Result (Option Marks) Refusal) → GivesRows l rows (rows_told r) a → GivesRows l rows (rows_told s) b → (r ≡ s) × (a ≡ b)
marks-once r s p q = let o = rows-once p q in (told-once r s o.0, o.1)
