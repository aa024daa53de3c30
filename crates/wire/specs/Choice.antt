-- A choice by a truth value. Every rule of every crate that says "if" says it by one of these two names. Definitions only.
use Rattle.std.specs.Prelude.{Bool, true, false}

abbrev pub pick {ℓ} : {X : Type ℓ} → Bool → X → X → X
pick true x y = x
pick false x y = y

infixr 10 ◌when◌else◌
-- a chain of rules, as the papers have it: the first that holds
abbrev pub ◌when◌else◌ {ℓ} : {X : Type ℓ} → X → Bool → X → X
x when b else y = pick b x y
