-- The two ways of qm_receive and qm_receive_within: no room for the outcome, and the receiver's own call. Assumes nothing.
use Rattle.wire.proofs.Basics.{◌≡◌, refl, ℕ, ◌≤◌, ◌<◌, List, true, false, length, ltb, le-ltb, lt-ltb}
use Rattle.wire.proofs.Choices.{never}
use Rattle.datagram.specs.Limits.{max_name}
use Rattle.receiver.specs.Lent.{Lent}
use Rattle.receiver.specs.declared.Outcome.{Outcome}
use Rattle.host_state.specs.Lengths.{outcome_count}
use Rattle.wire.specs.Slices.{Buffer, ◌⇒◌}
use Rattle.host_receiver.specs.Outcomes.{Tells}
use Rattle.host_receiver.specs.Calls.{lacking, Told}

-- ---- whether there is room

pub lacks-numbers : (told name : List ℕ) → length told < outcome_count → true ≡ lacking told name
lacks-numbers told name h = rw (lt-ltb (length told) outcome_count h)

pub has-numbers : (told name : List ℕ) → outcome_count ≤ length told → ltb (length name) max_name ≡ lacking told name
has-numbers told name h = rw (le-ltb (length told) outcome_count h)

-- ---- what is told then

module _ (call : Outcome → Lent → Type 0) (sequence : ℕ) (l : Lent) where
  pub short-told : (told name : List ℕ) (answer : ℕ) → answer ≡ 13 → lacking told name ≡ true → Told call sequence l (told ⇒ told) (name ⇒ name) answer l
  short-told told name answer e t = record {
    short = λ _. record { gave = e; stays = refl; list = refl; given = refl };
    heard = λ f. never t f;
  }

  pub heard-told : (told name : Buffer) (o : Outcome) (answer : ℕ) (l' : Lent) → lacking told.before name.before ≡ false
      → call o l' → Tells sequence o told name answer → Told call sequence l told name answer l'
  heard-told told name o answer l' f r t = record {
    short = λ e. never e f;
    heard = λ _. record { outcome = o; receives = r; tells = t };
  }
