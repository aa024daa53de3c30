-- The ways in which acknowledge blocks are told; no second answer. Assumes nothing.
use Rattle.wire.proofs.Basics.{◌∙◌, ◌≡◌, ap, refl, true, false, ℕ, ◌≤◌, ◌<◌, List, Bool, length, le-ltb, lt-ltb}
use mir.Val.{bool_byte}
use Rattle.wire.specs.Choice.{pick}
use Rattle.wire.specs.Slices.{◌⇒◌}
use Rattle.wire.proofs.Once.{one_answer}
use Rattle.ack_blocks.specs.Read.{Given, asked}
use Rattle.ack_writer.specs.Write.{written_of, writes, WritesBlocks}
use Rattle.std.proofs.Common.{Result}
use Rattle.refusals.specs.declared.Refusal.{Refusal}
use Rattle.wire.specs.Given.{code}
use Rattle.host_acks.specs.Told.{ask_left, AskTold, write_left, WriteTold}

-- ---- a question

pub one-or-zero : (found : Bool) → bool_byte found ≡ pick found 1 0
one-or-zero true = refl
one-or-zero false = refl

module _ (b : List ℕ) (n : ℕ) (t : List ℕ) where
  pub ask-short : length t < 1 → AskTold b n (t ⇒ t) 13
  ask-short h = let s = lt-ltb (length t) 1 h in record { gave = rw s; left = rw s }

  pub ask-told : 1 ≤ length t → (r : Given Bool) → r ≡ asked b n → (answer : ℕ) (t' : List ℕ) → answer ≡ code r → t' ≡ ask_left r t
      → AskTold b n (t ⇒ t') answer
  ask-told h r q answer t' g l =
      let f = le-ltb (length t) 1 h in
      record { gave = rw f (g ∙ ap code q); left = rw f (l ∙ ap (λ (x : Given Bool). ask_left x t) q) }

  pub ask-told-once : {x y : ℕ} {u v : List ℕ} → AskTold b n (t ⇒ u) x → AskTold b n (t ⇒ v) y → (x ≡ y) × (u ≡ v)
  ask-told-once {x} {y} {u} {v} p q = (one_answer x y p.gave q.gave, one_answer u v p.left q.left)

-- ---- the blocks of numbers

module _ (l out t : List ℕ) where
  pub write-short : length t < 1 → WriteTold l (out ⇒ out) (t ⇒ t) 13
  write-short h = let s = lt-ltb (length t) 1 h in record { gave = rw s; output = rw s; left = rw s }

  pub write-told : 1 ≤ length t → (r : Result ℕ Refusal) (out' : List ℕ) → WritesBlocks l out r out' → (answer : ℕ) (t' : List ℕ) → answer ≡ code (writes r) → t' ≡ write_left (writes r) t
      → WriteTold l (out ⇒ out') (t ⇒ t') answer
  write-told h r out' w answer t' g k =
      let f = le-ltb (length t) 1 h in
      let q : writes r ≡ written_of l (length out) = w.answer in
      record { gave = rw f (g ∙ ap code q); output = rw f w.output; left = rw f (k ∙ ap (λ (x : Given ℕ). write_left x t) q) }

  pub write-told-once : {x y : ℕ} {o₁ o₂ u v : List ℕ} → WriteTold l (out ⇒ o₁) (t ⇒ u) x → WriteTold l (out ⇒ o₂) (t ⇒ v) y → (x ≡ y) × ((o₁ ≡ o₂) × (u ≡ v))
  write-told-once {x} {y} {o₁} {o₂} {u} {v} p q = (one_answer x y p.gave q.gave, (one_answer o₁ o₂ p.output q.output, one_answer u v p.left q.left))
