-- NO SECOND ANSWER of the code says the same in the papers' values: of the head, and of the rows. Assumes nothing.
use Rattle.wire.proofs.Basics.{◌≡◌, ap, refl, ℕ, List, arith}
use Rattle.std.proofs.Common.{Result, Ok, Err}
use Rattle.refusals.specs.declared.Refusal.{Refusal}
use Rattle.refusals.specs.Numbers.{number_of}
use Rattle.refusals.proofs.Names.{same_number, some_number}
use Rattle.index_file.specs.Head.{head_told}
use Rattle.index_file.specs.Files.{answer_told, ReadsRows}
use Rattle.index_file.proofs.Answers.{reads-once}

pub head-once : (r s : Result (ℕ × ℕ) Refusal) → head_told r ≡ head_told s → r ≡ s
head-once (Ok (covered, n)) (Ok (length, m)) e =
    let f : covered ≡ length = cc in
    let g : n ≡ m = cc in
    rw (f, g) refl
head-once (Ok (covered, n)) (Err s) e = cc
head-once (Err r) (Ok (length, m)) e = cc
head-once (Err r) (Err s) e = let f : number_of r ≡ number_of s = cc in ap Err (same_number r s f)

-- 0 is no refusal's number
pub answer-once : (r s : Result (Unit {0}) Refusal) → answer_told r ≡ answer_told s → r ≡ s
answer-once (Ok u) (Ok v) e = refl
answer-once (Ok u) (Err s) e = let z = some_number s in let never : ⊥ = omega arith in absurd never
answer-once (Err r) (Ok v) e = let z = some_number r in let never : ⊥ = omega arith in absurd never
answer-once (Err r) (Err s) e = ap Err (same_number r s e)

pub reads-told-once : (f w : List ℕ) (r s : Result (Unit {0}) Refusal) (a b : List ℕ) → ReadsRows f w (answer_told r) a → ReadsRows f w (answer_told s) b → (r ≡ s) × (a ≡ b)
reads-told-once f w r s a b p q = let o = reads-once f w (answer_told r) (answer_told s) a b p q in (answer-once r s o.0, o.1)
