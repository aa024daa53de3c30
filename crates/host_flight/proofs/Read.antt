-- The two ways of qm_log_first and qm_log_next: no room, and what the reader answers; no second answer. Assumes nothing.
use Rattle.wire.proofs.Basics.{◌∙◌, sym, ◌≡◌, ap, ℕ, List, true, false, length, ltb}
use Rattle.wire.proofs.Once.{one_answer}
use Rattle.flight_log.specs.First.{First}
use Rattle.flight_log.specs.Step.{Step}
use Rattle.flight_log.specs.Said.{first_in, next_at}
use Rattle.host_flight.specs.Reading.{head_count, first_code, first_left, FirstTold, entry_count, step_code, step_left, NextTold}

pub first_short : (log list : List ℕ) → ltb (length list) head_count ≡ true → FirstTold log list 13 list
first_short log list t = record { gave = rw t; left = rw t }

pub first-told : (log list : List ℕ) (f : First) (answer : ℕ) (list' : List ℕ) → ltb (length list) head_count ≡ false → first_in log ≡ f
    → answer ≡ first_code f → list' ≡ first_left f list → FirstTold log list answer list'
first-told log list f answer list' t e g l = record { gave = rw t (g ∙ sym (ap first_code e)); left = rw t (l ∙ sym (ap (λ (r : First). first_left r list) e)) }

pub next-short : (log : List ℕ) (at : ℕ) (list : List ℕ) → ltb (length list) entry_count ≡ true → NextTold log at list 13 list
next-short log at list t = record { gave = rw t; left = rw t }

pub next-told : (log : List ℕ) (at : ℕ) (list : List ℕ) (s : Step) (answer : ℕ) (list' : List ℕ) → ltb (length list) entry_count ≡ false → next_at log at ≡ s
    → answer ≡ step_code s → list' ≡ step_left at s list → NextTold log at list answer list'
next-told log at list s answer list' t e g l = record { gave = rw t (g ∙ sym (ap step_code e)); left = rw t (l ∙ sym (ap (λ (r : Step). step_left at r list) e)) }

-- ---- no second answer, and no second list

pub first-told-once : (log list : List ℕ) (x y : ℕ) (a b : List ℕ) → FirstTold log list x a → FirstTold log list y b → (x ≡ y) × (a ≡ b)
first-told-once log list x y a b p q = (one_answer x y p.gave q.gave, one_answer a b p.left q.left)

pub next-told-once : (log : List ℕ) (at : ℕ) (list : List ℕ) (x y : ℕ) (a b : List ℕ) → NextTold log at list x a → NextTold log at list y b → (x ≡ y) × (a ≡ b)
next-told-once log at list x y a b p q = (one_answer x y p.gave q.gave, one_answer a b p.left q.left)
