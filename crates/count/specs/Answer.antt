-- The count's answer in the paper's values: the report is given, or the number of the refusal, and then the report is all zeros. Definitions only.
use Rattle.std.specs.Prelude.{ℕ}
use Rattle.count.specs.declared.Report.{Report}

pub data Answer : Type 0 where
  Given : Answer
  Refused : ℕ → Answer

pub record Counted : Type 0 where
  pub answer : Answer
  pub report : Report
