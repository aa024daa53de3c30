-- The order of a row is that of its fields. Assumes nothing.
use Rattle.std.proofs.Common.{◌≡◌, rules}
use Rattle.wire.proofs.Basics.{◌∙◌, inl, inr, eqb}
use Rattle.std.specs.Ordering.{partial_lt}
use Rattle.wire.proofs.Choices.{either}
use Rattle.log_index.specs.contracts.RowPartialOrd.TheImpl.{partial_cmp-value}
use Rattle.log_index.specs.Words.{row_said}
use Rattle.log_index.specs.Rows.{earlier}
use Rattle.log_index.specs.declared.Row as coded
use Rattle.log_index.proofs.is_before.Goals as goal

-- the derived order, by the fields
by-fields : (a b : coded.Row) → partial_lt partial_cmp-value.it a b ≡ earlier (row_said a) (row_said b)
unfolding earlier
by-fields a b = elim (either (eqb a.sender b.sender)) [
  | inl e ↦ elim (either (eqb a.sequence b.sequence)) [
    | inl d ↦ search rules
    | inr d ↦ search rules
  ]
  | inr e ↦ search rules
]

pub returns : goal.returns
returns c = c.lt.ensures ∙ by-fields c.args.a c.args.b
