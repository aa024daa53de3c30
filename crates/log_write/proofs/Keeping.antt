-- An entry that was appended to a space of its own goes out, and no refusal comes there. Assumes nothing.
use Rattle.wire.proofs.Basics.{◌∙◌, sym, ◌≡◌, ap, refl, subst, ℕ, ◌≤◌, ◌+◌, List, length, take, le-ltb, arith}
use Rattle.datagram.specs.Limits.{max_datagram}
use Rattle.output.specs.Output.{Pours}
use Rattle.output.proofs.Sending.{pours-is, put_front}
use Rattle.flight_log.specs.Entries.{Entry, entry_of, entry_bytes}
use Rattle.log_append.specs.Writes.{Answer, wrote, refused, says, append_answer, output, Appended}
use Rattle.std.proofs.Common.{Result, Ok, Err}
use Rattle.refusals.specs.declared.Refusal.{Refusal}
use Rattle.refusals.specs.Numbers.{number_of}
use Rattle.log_append.proofs.Writing.{entry-most}
use Rattle.log_write.specs.Kept.{Keeps}
use Rattle.log_write.specs.Inside.{entry_limit}

module _ (space : List ℕ) (e : Entry) (short : length e.datagram ≤ max_datagram) (room : entry_limit ≤ length space) where
  fits : 0 + length (entry_bytes e) ≤ length space
  fits = omega (arith, entry-most e, short, room)

  answered : append_answer (length space) 0 e ≡ wrote (0 + length (entry_bytes e))
  unfolding append_answer
  answered = rw (le-ltb max_datagram (length e.datagram) short, le-ltb (length space) (0 + length (entry_bytes e)) fits) refl

module _ (space space' out out' : List ℕ) (at : ℕ) (e : Entry) (r : Result ℕ Refusal) (room : entry_limit ≤ length space) (k : Appended space 0 e r space') where
  pub kept_pours : (n q : ℕ) → r ≡ Ok n → Pours out at (take n space') out' q → Keeps out at e out' q
  kept_pours n q g p = λ short.
      let a : says r ≡ wrote (0 + length (entry_bytes e)) = k.answer ∙ answered space e short room in
      let h : wrote n ≡ wrote (0 + length (entry_bytes e)) = sym (ap says g) ∙ a in
      let m : n ≡ 0 + length (entry_bytes e) = cc in
      let w = k.left ∙ ap (λ (s : Answer). output s space 0 (entry_bytes e)) a in
      let l = fits space e short room in
      pours-is p (put_front space space' (entry_bytes e) n (omega (arith, l)) (record { wrote = w; next = omega (arith, l, m) }))

  pub kept-never : (n : Refusal) (x : ℕ) → r ≡ Err n → Keeps out at e out' x
  kept-never n x g = λ short.
      let h : refused (number_of n) ≡ wrote (0 + length (entry_bytes e)) = sym (ap says g) ∙ k.answer ∙ answered space e short room in
      absurd (let z : ◌≡◌ {A = ℕ} 0 1 = cc in let y : ⊥ = omega arith in y)

-- the two numbers of a head
pub of-numbers : (out : List ℕ) (from s t x y : ℕ) (d : List ℕ) (r : Result ℕ Refusal) (out' : List ℕ) → s ≡ x → t ≡ y → Appended out from (entry_of s t d) r out' → Appended out from (entry_of x y d) r out'
of-numbers out from s t x y d r out' e f k = subst (λ (a : ℕ). Appended out from (entry_of a y d) r out') e (subst (λ (b : ℕ). Appended out from (entry_of s b d) r out') f k)
