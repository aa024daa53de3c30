-- INSIDE: what one pit or some marks leave. Definitions only; no promise of a public function rests on them.
use Rattle.std.specs.Prelude.{◌≡◌, Bool, List, ℕ, ◌≤◌, ℤ, length}
use Rattle.count_rules.specs.Marks.{marks_in}
use Rattle.pit_marks.specs.Taken.{Taken}
use Rattle.pit_marks.specs.Enters.{Pitted}

pub record Leaves (p : Pitted) (r : Taken) (pits sure : List ℕ) : Type 0 where
  pub gave : r ≡ p.answer
  pub pits-left : pits ≡ p.pits
  pub sure-left : sure ≡ p.sure

-- the elements r are those of l from some place on: only nulls lie before it
pub record Past (l r : List ℤ) : Type 0 where
  pub fewer : length r ≤ length l
  pub same : (two : Bool) → marks_in two (length r) r ≡ marks_in two (length l) l
