-- Both ways in which a count is told; no second answer. Assumes nothing.
use Rattle.wire.proofs.Basics.{◌∙◌, sym, ◌≡◌, ap, refl, ℕ, ◌≤◌, ◌<◌, List, length, le-ltb, lt-ltb}
use Rattle.wire.specs.Overlay.{overlay}
use Rattle.count_rules.specs.Count.{Outcome, reported, no_report}
use Rattle.count.specs.Answer.{Answer, Given, Refused}
use Rattle.count.specs.Answer.{Counted}
use Rattle.count.specs.declared.Report.{Report}
use Rattle.count.specs.Counts.{counted, Loan, Counts}
use Rattle.host_count.specs.Numbers.{report_length, numbers_of}
use Rattle.host_count.specs.Told.{code_of, report_left, CountTold}

-- what the code answers and writes, by the struct
abbrev pub code_by : Answer → ℕ
code_by Given = 0
code_by (Refused n) = n

abbrev pub left_by : Answer → Report → List ℕ → List ℕ
left_by Given r list = overlay list 0 (numbers_of r)
left_by (Refused n) r list = list

same_code : (o : Outcome) → code_by (counted o).answer ≡ code_of o
same_code (reported r) = refl
same_code (no_report n) = refl

same_left : (o : Outcome) (list : List ℕ) → left_by (counted o).answer (counted o).report list ≡ report_left o list
same_left (reported r) list = refl
same_left (no_report n) list = refl

-- two answers to one call, with what they leave, are one
pub record NoSecond (x y : ℕ) (l₁ l₂ : Loan) (r₁ r₂ : List ℕ) : Type 0 where
  pub answer : x ≡ y
  pub lent : l₁ ≡ l₂
  pub report : r₁ ≡ r₂

module _ (log : List ℕ) (l : Loan) (report : List ℕ) where
  pub not-counted : length report < report_length → CountTold log l report 13 l report
  not-counted h = let t = lt-ltb (length report) report_length h in record { gave = rw t; report-left = rw t; left = rw t }

  pub told_as-counted : {c : Counted} {answer : ℕ} {l' : Loan} {report' : List ℕ} → report_length ≤ length report
      → Counts log l c l' → answer ≡ code_by c.answer → report' ≡ left_by c.answer c.report report → CountTold log l report answer l' report'
  told_as-counted {c} h k x y =
      let t = le-ltb (length report) report_length h in
      let o = k.outcome in
      record {
        gave = rw t (x ∙ ap (λ (z : Counted). code_by z.answer) k.gave ∙ same_code o ∙ ap code_of k.says.gave);
        report-left = rw t (y ∙ ap (λ (z : Counted). left_by z.answer z.report report) k.gave ∙ same_left o report ∙ ap (λ (z : Outcome). report_left z report) k.says.gave);
        left = rw t k.says.left;
      }

  pub count-told-once : {x y : ℕ} {l₁ l₂ : Loan} {r₁ r₂ : List ℕ} → CountTold log l report x l₁ r₁ → CountTold log l report y l₂ r₂ → NoSecond x y l₁ l₂ r₁ r₂
  count-told-once p q = record { answer = p.gave ∙ sym q.gave; lent = p.left ∙ sym q.left; report = p.report-left ∙ sym q.report-left }
