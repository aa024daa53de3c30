-- Laws of text that is added to an output. Assumes nothing.
use Rattle.wire.proofs.Basics.{◌∙◌, ◌≡◌, refl, List, [], ◌++◌, ℕ, Bool, false, ◌≤◌, suc}
use Rattle.output.specs.declared.Output.{Output}
use Rattle.output.specs.Output.{Adds, IsClosed, Ends}
use Rattle.output.proofs.Sending.{pours-none, pours-then, pours-is, pours-stop, pours-shut, finishes-is, finishes-then, finishes-shut}

pub adds_none : (o : Output) → Adds o [] o
adds_none o = record { same = refl; poured = pours-none o.buf.now o.at }

-- one text after another
pub adds_then : {o p q : Output} {s t : List ℕ} → Adds o s p → Adds p t q → Adds o (s ++ t) q
adds_then x y = record { same = y.same ∙ x.same; poured = pours-then x.poured y.poured }

-- the same text by another name
pub adds_is : {o p : Output} {s t : List ℕ} → Adds o s p → s ≡ t → Adds o t p
adds_is x e = record { same = x.same; poured = pours-is x.poured e }

-- an output that is closed takes no more text, whatever it is
pub adds_stop : {o p : Output} {s : List ℕ} (t : List ℕ) → IsClosed p → Adds o s p → Adds o (s ++ t) p
adds_stop t e x = record { same = x.same; poured = pours-stop t e x.poured }

-- lines one after another: where the output closed at one of them, those behind it, up to any n, take no more
pub adds_shut : (lines one : ℕ → List ℕ) (more : (k : ℕ) → lines (suc k) ≡ lines k ++ one k) {o p : Output} {i n : ℕ} → IsClosed p → i ≤ n → Adds o (lines i) p → Adds o (lines n) p
adds_shut lines one more e h x = record { same = x.same; poured = pours-shut lines one more e h x.poured }

-- ---- the last text of a program

pub ends_is : {o p : Output} {s t : List ℕ} {r : Bool} → Ends o s p r → s ≡ t → Ends o t p r
ends_is x e = record { same = x.same; finished = finishes-is x.finished e }

pub ends_then : {o p q : Output} {s t : List ℕ} {r : Bool} → Adds o s p → Ends p t q r → Ends o (s ++ t) q r
ends_then x y = record { same = y.same ∙ x.same; finished = finishes-then x.poured y.finished }

-- a program that could not write stops
pub ends_shut : {o p : Output} {t : List ℕ} → IsClosed p → Adds o t p → Ends o t p false
ends_shut e x = record { same = x.same; finished = finishes-shut e x.poured }
