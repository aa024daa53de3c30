-- What is written of a flight has a length of 32 bits, is told as one number, and the header's macro gives it back; no second answer. Assumes nothing.
use Rattle.wire.proofs.Basics.{◌∙◌, sym, ◌≡◌, ap, refl, subst, ℕ, ◌+◌, ◌<◌, ◌-◌, ◌^◌, List, true, false, Bool, length, ltb, ltb-false, arith}
use Rattle.wire.specs.Choice.{pick}
use Rattle.wire.proofs.Once.{one_answer}
use Rattle.datagram.specs.Limits.{max_datagram, max_payload}
use Rattle.flight_log.specs.Editions.{edition2, head_bytes}
use Rattle.flight_log.specs.Entries.{Entry, entry_bytes}
use Rattle.log_append.specs.Writes.{Answer, wrote, refused, says, fitted, begin_answer, append_answer, output, Began, Appended}
use Rattle.std.proofs.Common.{Result}
use Rattle.refusals.specs.declared.Refusal.{Refusal}
use Rattle.log_append.proofs.Writing.{entry-most, seven-most}
use Rattle.host_append.specs.Told.{length_code, BeginTold, AppendTold, log_length}
use Rattle.host_append.specs.Inside.{Spans}

spans-fitted : (n at : ℕ) (b : List ℕ) → length b < 2 ^ 32 → Spans at (fitted n at b)
spans-fitted n at b h = by-test (ltb n (at + length b))
  where
    by-test : (t : Bool) → Spans at (pick t (refused 13) (wrote (at + length b)))
    by-test true = tt
    by-test false = (omega arith, omega arith)

pub spans-begin : (n limit : ℕ) → Spans 0 (begin_answer n limit)
unfolding begin_answer
spans-begin n limit = by-test (ltb max_payload limit)
  where
    by-test : (t : Bool) → Spans 0 (pick t (refused 45) (fitted n 0 (head_bytes (edition2 limit))))
    by-test true = tt
    by-test false = spans-fitted n 0 (head_bytes (edition2 limit)) (omega (arith, seven-most limit))

pub spans-append : (n at : ℕ) (e : Entry) → Spans at (append_answer n at e)
unfolding append_answer
spans-append n at e = by-test (ltb max_datagram (length e.datagram)) refl
  where
    by-test : (t : Bool) → ltb max_datagram (length e.datagram) ≡ t → Spans at (pick t (refused 42) (fitted n at (entry_bytes e)))
    by-test true p = tt
    by-test false p = spans-fitted n at (entry_bytes e) (omega (arith, entry-most e, ltb-false max_datagram (length e.datagram) p))

pub begin_spans : (out : List ℕ) (limit : ℕ) (r : Result ℕ Refusal) (out' : List ℕ) → Began out limit r out' → Spans 0 (says r)
begin_spans out limit r out' k = subst (Spans 0) (sym k.answer) (spans-begin (length out) limit)

pub append_spans : (out : List ℕ) (at : ℕ) (e : Entry) (r : Result ℕ Refusal) (out' : List ℕ) → Appended out at e r out' → Spans at (says r)
append_spans out at e r out' k = subst (Spans at) (sym k.answer) (spans-append (length out) at e)

pub begin-told : (out : List ℕ) (limit : ℕ) (r : Result ℕ Refusal) (out' : List ℕ) (x : ℕ) → Began out limit r out' → x ≡ length_code 0 (says r) → BeginTold out limit x out'
begin-told out limit r out' x k e = record {
  gave = e ∙ ap (length_code 0) k.answer;
  left = k.left ∙ ap (λ (a : Answer). output a out 0 (head_bytes (edition2 limit))) k.answer;
}

pub append-told : (out : List ℕ) (at : ℕ) (e : Entry) (r : Result ℕ Refusal) (out' : List ℕ) (x : ℕ) → Appended out at e r out' → x ≡ length_code at (says r) → AppendTold out at e x out'
append-told out at e r out' x k f = record {
  gave = f ∙ ap (length_code at) k.answer;
  left = k.left ∙ ap (λ (a : Answer). output a out at (entry_bytes e)) k.answer;
}

-- the length of what was written, by the header's macro: the place after it is the place and this
pub length_back : (at next : ℕ) → log_length (length_code at (wrote next)) ≡ next - at
length_back at next = omega arith

pub begin-told-once : (out : List ℕ) (limit x y : ℕ) (a b : List ℕ) → BeginTold out limit x a → BeginTold out limit y b → (x ≡ y) × (a ≡ b)
begin-told-once out limit x y a b p q = (one_answer x y p.gave q.gave, one_answer a b p.left q.left)

pub append-told-once : (out : List ℕ) (at : ℕ) (e : Entry) (x y : ℕ) (a b : List ℕ) → AppendTold out at e x a → AppendTold out at e y b → (x ≡ y) × (a ≡ b)
append-told-once out at e x y a b p q = (one_answer x y p.gave q.gave, one_answer a b p.left q.left)
