-- The ways in which a message that is written is told; no second answer. Assumes nothing.
use Rattle.wire.proofs.Basics.{◌∙◌, sym, ◌≡◌, ap, ℕ, ◌≤◌, ◌<◌, List, length, ℤ, le-ltb, lt-ltb}
use Rattle.wire.specs.Slices.{◌⇒◌}
use Rattle.wire.proofs.Once.{one_answer}
use Rattle.lmcp.specs.Made.{Made}
use Rattle.lmcp.specs.Message.{made, WrittenTo}
use Rattle.host_messages.specs.Told.{message_of, made_code, made_left, MessageTold}

module _ (l : List ℤ) (sum : ℕ) (out t : List ℕ) where
  pub write-short : length t < 1 → MessageTold l sum (out ⇒ out) (t ⇒ t) 13
  write-short h = let s = lt-ltb (length t) 1 h in record { gave = rw s; output = rw s; left = rw s }

  pub write-told : 1 ≤ length t → (r s : Made) (out' : List ℕ) → WrittenTo (message_of l sum) out r out' → r ≡ s → (answer : ℕ) (t' : List ℕ) → answer ≡ made_code s → t' ≡ made_left s t
      → MessageTold l sum (out ⇒ out') (t ⇒ t') answer
  write-told h r s out' w e answer t' g k =
      let f = le-ltb (length t) 1 h in
      let q : s ≡ made (message_of l sum) (length out) = sym e ∙ w.gave in
      record { gave = rw f (g ∙ ap made_code q); output = rw f w.left; left = rw f (k ∙ ap (λ (x : Made). made_left x t) q) }

  pub write-told-once : {x y : ℕ} {o₁ o₂ u v : List ℕ} → MessageTold l sum (out ⇒ o₁) (t ⇒ u) x → MessageTold l sum (out ⇒ o₂) (t ⇒ v) y → (x ≡ y) × ((o₁ ≡ o₂) × (u ≡ v))
  write-told-once {x} {y} {o₁} {o₂} {u} {v} p q = (one_answer x y p.gave q.gave, (one_answer o₁ o₂ p.output q.output, one_answer u v p.left q.left))
