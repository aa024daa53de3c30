-- No second answer satisfies a contract: two answers of the reader, or of the writer, for one input are the same, and so are the
-- lent list or output that they leave. Assumes nothing.
use Rattle.wire.proofs.Basics.{◌≡◌, ap, ℕ, List, ℤ}
use Rattle.std.proofs.Common.{Result, Ok, Err}
use Rattle.wire.proofs.Once.{one_answer}
use Rattle.refusals.specs.declared.Refusal.{Refusal}
use Rattle.refusals.specs.Numbers.{number_of}
use Rattle.refusals.proofs.Names.{same_number}
use Rattle.lmcp.specs.Found.{Found, found_told}
use Rattle.lmcp.specs.Made.{Made, made_told}
use Rattle.lmcp.specs.Read.{Read}
use Rattle.lmcp.specs.Write.{Write}
use Rattle.lmcp.specs.Message.{ReadTo, WrittenTo}

pub read-once : {R : Read} {list : List ℤ} (a b : Found) (x y : List ℤ) → ReadTo R list a x → ReadTo R list b y → (a ≡ b) × (x ≡ y)
read-once a b x y p q = (one_answer a b p.gave q.gave, one_answer x y p.left q.left)

pub write-once : {R : Write} {out : List ℕ} (a b : Made) (x y : List ℕ) → WrittenTo R out a x → WrittenTo R out b y → (a ≡ b) × (x ≡ y)
write-once a b x y p q = (one_answer a b p.gave q.gave, one_answer x y p.left q.left)

-- ---- the code's answers say one thing

pub found-once : (r s : Result ℕ Refusal) → found_told r ≡ found_told s → r ≡ s
found-once (Ok n) (Ok m) e = let f : n ≡ m = cc in ap Ok f
found-once (Ok n) (Err s) e = cc
found-once (Err r) (Ok m) e = cc
found-once (Err r) (Err s) e = let f : number_of r ≡ number_of s = cc in ap Err (same_number r s f)

pub made-once : (r s : Result ℕ Refusal) → made_told r ≡ made_told s → r ≡ s
made-once (Ok n) (Ok m) e = let f : n ≡ m = cc in ap Ok f
made-once (Ok n) (Err s) e = cc
made-once (Err r) (Ok m) e = cc
made-once (Err r) (Err s) e = let f : number_of r ≡ number_of s = cc in ap Err (same_number r s f)

pub reader-once : {R : Read} {list : List ℤ} (r s : Result ℕ Refusal) (x y : List ℤ) → ReadTo R list (found_told r) x → ReadTo R list (found_told s) y → (r ≡ s) × (x ≡ y)
reader-once r s x y p q = let o = read-once (found_told r) (found_told s) x y p q in (found-once r s o.0, o.1)

pub writer-once : {R : Write} {out : List ℕ} (r s : Result ℕ Refusal) (x y : List ℕ) → WrittenTo R out (made_told r) x → WrittenTo R out (made_told s) y → (r ≡ s) × (x ≡ y)
writer-once r s x y p q = let o = write-once (made_told r) (made_told s) x y p q in (made-once r s o.0, o.1)
