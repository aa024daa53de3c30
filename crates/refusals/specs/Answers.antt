-- What a call answers, in the papers' values: what it gives, or the number by which it is refused. Definitions only.
use Rattle.std.specs.Prelude.{Result, Ok, Err}
use Rattle.wire.specs.Given.{Given, gives, refuses}
use Rattle.refusals.specs.declared.Refusal.{Refusal}
use Rattle.refusals.specs.Numbers.{number_of}

abbrev pub given : {X : Type 0} → Result X Refusal → Given X
given (Ok x) = gives x
given (Err r) = refuses (number_of r)
