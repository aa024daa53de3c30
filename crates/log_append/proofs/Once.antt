-- No second answer satisfies a contract of this crate. Assumes nothing.
use Rattle.wire.proofs.Basics.{◌∙◌, sym, ◌≡◌, ap, ℕ, List}
use Rattle.flight_log.specs.Editions.{edition2, head_bytes}
use Rattle.flight_log.specs.Entries.{Entry, entry_bytes}
use Rattle.log_append.specs.Writes.{Answer, says, output, Began, Appended}
use Rattle.std.proofs.Common.{Result, Ok, Err}
use Rattle.refusals.specs.declared.Refusal.{Refusal}
use Rattle.refusals.specs.Numbers.{number_of}
use Rattle.refusals.proofs.Names.{same_number}

-- the code's answers and what they say are one for one
pub says-once : (r s : Result ℕ Refusal) → says r ≡ says s → r ≡ s
says-once (Ok a) (Ok b) e = let f : a ≡ b = cc in ap Ok f
says-once (Ok a) (Err s) e = cc
says-once (Err r) (Ok b) e = cc
says-once (Err r) (Err s) e = let f : number_of r ≡ number_of s = cc in ap Err (same_number r s f)

pub begin-once : (out : List ℕ) (limit : ℕ) (r s : Result ℕ Refusal) (x y : List ℕ) → Began out limit r x → Began out limit s y → (r ≡ s) × (x ≡ y)
begin-once out limit r s x y p q =
    let e : says r ≡ says s = p.answer ∙ sym q.answer in
    (says-once r s e, p.left ∙ ap (λ (w : Answer). output w out 0 (head_bytes (edition2 limit))) e ∙ sym q.left)

pub append-once : (out : List ℕ) (at : ℕ) (e : Entry) (r s : Result ℕ Refusal) (x y : List ℕ) → Appended out at e r x → Appended out at e s y → (r ≡ s) × (x ≡ y)
append-once out at e r s x y p q =
    let f : says r ≡ says s = p.answer ∙ sym q.answer in
    (says-once r s f, p.left ∙ ap (λ (w : Answer). output w out at (entry_bytes e)) f ∙ sym q.left)
