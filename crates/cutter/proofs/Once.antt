-- No second answer and no second output satisfy the cutter's contract. Assumes nothing.
use Rattle.wire.proofs.Basics.{◌∙◌, sym, ◌≡◌, ap, ℕ, List}
use Rattle.wire.proofs.Once.{one_answer}
use Rattle.cutter.specs.Cut.{Answer, says, datagram_of, cut_output, CutTo}
use Rattle.cutter.specs.declared.Cut.{Cut}
use Rattle.std.proofs.Common.{Result, Ok, Err}
use Rattle.refusals.specs.declared.Refusal.{Refusal}
use Rattle.refusals.specs.Numbers.{number_of}
use Rattle.refusals.proofs.Names.{same_number}

-- what the answer says determines it
pub says-once : (r s : Result Cut Refusal) → says r ≡ says s → r ≡ s
says-once (Ok a) (Ok b) e =
    let n : a.count ≡ b.count = cc in
    let l : a.len ≡ b.len = cc in
    λ i. Ok (record { count = n i; len = l i })
says-once (Ok a) (Err s) e = cc
says-once (Err r) (Ok b) e = cc
says-once (Err r) (Err s) e = let f : number_of r ≡ number_of s = cc in ap Err (same_number r s f)

pub cut-once : {name payload : List ℕ} {q m index : ℕ} {out : List ℕ} (r s : Result Cut Refusal) (a b : List ℕ)
    → CutTo name payload q m index out r a → CutTo name payload q m index out s b → (r ≡ s) × (a ≡ b)
cut-once {name} {payload} {q} {m} {index} {out} r s a b x y =
    let e : says r ≡ says s = one_answer (says r) (says s) x.answer y.answer in
    (says-once r s e, x.output ∙ ap (λ (t : Answer). cut_output t out (datagram_of q name payload m index)) e ∙ sym y.output)
