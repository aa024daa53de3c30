-- What a call delivers lies in what holds it: place and length stay within the datagram, or within the store as the call left it, and as many bytes are handed over.
use Rattle.wire.proofs.Basics.{◌∙◌, sym, ◌≡◌, ap, refl, subst, ℕ, List, inl, inr, length, arith}
use Rattle.wire.proofs.Choices.{either}
use Rattle.steps.specs.declared.PayloadAt.{PayloadAt}
use Rattle.steps.specs.Receive.{Answer}
use Rattle.steps.specs.Receive.{Refused, Delivered}
use Rattle.steps.specs.Receive.{After, stay}
use Rattle.steps.specs.Answers.{answer_told, reply}
use Rattle.steps.specs.Promises.{Lies}
use Rattle.steps.proofs.Deliveries.{delivery-lies}
use Rattle.receiver_state.specs.View.{view, shaped}
use Rattle.receiver_state.proofs.Bridge.{slots_length}
use Rattle.receiver.specs.Lent.{Lent}
use Rattle.receiver.specs.Calls.{received, Follows, Receives}
use Rattle.receiver.specs.declared.Outcome.{Outcome}
use Rattle.open_and_payload.specs.Ends.{payload_of}

-- what the step a delivers lies in the datagram d, or in the store that a leaves
abbrev pub LiesIn : List ℕ → After → Type 0
LiesIn d a = (p : PayloadAt) (n : ℕ) → a.answer ≡ Delivered p n → Lies d a.store p n

-- a refusal delivers nothing
pub none-lies : (d : List ℕ) (a : After) (k : ℕ) → a.answer ≡ Refused k → LiesIn d a
none-lies d a k e p n q = let f : Refused k ≡ Delivered p n = sym e ∙ q in let z : ◌≡◌ {A = ℕ} 0 1 = cc in absurd (let y : ⊥ = omega arith in y)

-- for every state, names, store, ledger, sender and datagram
pub received-lies : (l : Lent) (sender : ℕ) (d : List ℕ) → LiesIn d (received l sender d)
unfolding received stay
received-lies l sender d = elim (either (shaped l.state l.names)) [
  | inl t ↦ rw t (delivery-lies (view l.state l.names) (slots_length l.state l.names) l.store l.ledger sender d)
  | inr t ↦ rw t (none-lies d (stay (view l.state l.names) l.store l.ledger (Refused 9)) 9 refl)
]

-- what is known of a step holds of a call that follows it
module _ (a : After) (l : Lent) (sender : ℕ) (d : List ℕ) (r : Outcome) (l' : Lent) (k : Follows a l sender d r l') (h : LiesIn d a) (p : PayloadAt) (n : ℕ)
    (e : answer_told r.answer ≡ Delivered p n) where
  pub follows-lies : Lies d l'.store p n
  follows-lies = subst (λ (s : List ℕ). Lies d s p n) (sym k.leaves.store) (h p n (sym k.leaves.answer ∙ e))

  -- and `payload` hands over n bytes
  pub payload-long : length (payload_of (reply d l'.store (answer_told r.answer))) ≡ n
  payload-long = ap (λ (x : Answer). length (payload_of (reply d l'.store x))) e ∙ follows-lies.long

-- OF A CALL OF `receive`
pub receive-lies : (l : Lent) (sender : ℕ) (d : List ℕ) (r : Outcome) (l' : Lent) → Receives l sender d r l' → (p : PayloadAt) (n : ℕ) → answer_told r.answer ≡ Delivered p n → Lies d l'.store p n
receive-lies l sender d r l' k = follows-lies (received l sender d) l sender d r l' k (received-lies l sender d)
