-- What a call gives, or the number by which it is refused. Definitions only.
use Rattle.std.specs.Prelude.{ℕ}

pub data Given (X : Type 0) : Type 0 where
  gives : X → Given X
  refuses : ℕ → Given X

-- for C: 0, or the number of the refusal
abbrev pub code : {X : Type 0} → Given X → ℕ
code (gives x) = 0
code (refuses number) = number
