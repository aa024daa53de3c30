-- Each C call is the call of the code that its contract tells of. Assumes nothing.
use Rattle.wire.proofs.Basics.{◌∙◌, ◌≡◌, ap, refl, subst, ℕ, ◌≤◌, List, true, false, Bool, inl, inr, some, none, arith}
use Rattle.wire.specs.Choice.{pick}
use Rattle.wire.proofs.Choices.{either}
use Rattle.datagram.specs.Read.{sequence_in}
use Rattle.steps.specs.Receive.{Answer}
use Rattle.steps.specs.Receive.{Refused, Kept, Repeat, Delivered}
use Rattle.steps.specs.Receive.{After, stay}
use Rattle.steps.specs.Runs.{Arrival}
use Rattle.steps.specs.Reach.{is_accepted}
use Rattle.steps.specs.Answers.{answer_told}
use Rattle.receiver_state.specs.View.{view, shaped}
use Rattle.receiver.specs.Lent.{Lent}
use Rattle.receiver.specs.Calls.{refusal_of, Follows, told}
use Rattle.receiver.specs.declared.Outcome.{Outcome}
use Rattle.flight_log.specs.declared.reader.Limits.{Limits}
use Rattle.within_limits.specs.Within.{ReceivesWithin}
use Rattle.within_limits.specs.Within as limited
use Rattle.within_limits.proofs.Deliveries.{within-is}
use Rattle.arrival.specs.ArrivalCalls.{received_within, TakesWithin, Takes}
use Rattle.arrival.specs.ArrivalCalls as arrival
use Rattle.arrival.specs.Runs.{hands_over}
use Rattle.arrival.specs.StrangersRuns.{Led, by-receive, by-within}
use Rattle.arrival.proofs.WithinCalls.{takes-are}
use Rattle.host_state.specs.Calls.{call_code_lem, OpenTold}
use Rattle.host_receiver.specs.Outcomes.{answer_code, Tells}
use Rattle.host_receiver.specs.Calls.{Heard}
use Rattle.host_laws.specs.Told.{Returned, lacks, heard_told, hands_told, accepted_told}
use Rattle.host_laws.specs.Calls.{HostTakes, freely, within, HostTurnsAway, no_room, refused}
use Rattle.host_laws.proofs.Speaks.{Speaks, speaks}
use Rattle.host_laws.proofs.Reading.{heard-is, accepted-is, hands-are}

-- ---- `receive_within` is the call within limits that demand 3 speaks of

module _ (limits : Limits) (l : Lent) (x : Arrival) where
  within_same : limited.received_within limits l x.sender x.datagram ≡ received_within limits.payload limits.fragments l x
  unfolding limited.received_within
  within_same =
      ap (λ (a : After). pick (shaped l.state l.names) a (stay (view l.state l.names) l.store l.ledger (Refused 9)))
      (within-is limits (view l.state l.names) l.store l.ledger x.sender x.datagram)

  pub within-takes : (r : Outcome) (l' : Lent) → ReceivesWithin limits l x.sender x.datagram r l' → TakesWithin limits.payload limits.fragments l x r l'
  within-takes r l' = subst (λ (a : After). Follows a l x.sender x.datagram r l') within_same

-- ---- a call to an arrival

pub record Code (l : Lent) (x : Arrival) (c : Returned) (l' : Lent) : Type 0 where
  pub outcome : Outcome
  pub takes : Takes l x outcome l'
  pub room : lacks c ≡ false
  pub tells : Tells (sequence_in x.datagram) outcome c.told c.name c.answer

module _ (l : Lent) (x : Arrival) (c : Returned) (l' : Lent) where
  pub as_code : HostTakes l x c l' → Code l x c l'
  as_code (freely f k) = let h = k.heard f in record { outcome = h.outcome; takes = arrival.freely h.receives; room = f; tells = h.tells }
  as_code (within f limits t k) =
      let h = k.heard f in
      record {
        outcome = h.outcome;
        takes = arrival.within limits.payload limits.fragments t (within-takes limits l x h.outcome l' h.receives);
        room = f;
        tells = h.tells;
      }

  module _ (a : Code l x c l') where
    its_speech : Speaks (view l.state l.names).slot_size_lem x.datagram a.outcome
    its_speech = speaks l x.sender x.datagram a.outcome l' (takes-are l x a.takes)

    pub code-heard : heard_told x.datagram l'.store c ≡ told x.datagram l'.store a.outcome
    code-heard = heard-is x l'.store _ a.outcome c a.room a.tells its_speech

    pub code-accepted : accepted_told c ≡ is_accepted (answer_told a.outcome.answer)
    code-accepted = accepted-is x l'.store _ a.outcome c a.room a.tells its_speech

    pub code-hands : hands_told x c l'.store ≡ hands_over (view l.state l.names).slot_size_lem x a.outcome l'.store
    code-hands = hands-are x l'.store _ a.outcome c a.room a.tells its_speech

-- ---- a call that is no arrival

not-zero : {X : Type 0} (c : Returned) → 1 ≤ c.answer → c.answer ≡ 0 → X
not-zero c h e = absurd (let z : ⊥ = omega arith in z)

module _ (l : Lent) (l' : Lent) where
  refused-stays : (limits : Limits) (x : Arrival) (c : Returned) → 1 ≤ c.answer → Heard (ReceivesWithin limits l x.sender x.datagram) (sequence_in x.datagram) c.told c.name c.answer l' → l' ≡ l
  refused-stays limits x c h w = go (answer_told w.outcome.answer) refl
    where
      go : (a : Answer) → answer_told w.outcome.answer ≡ a → l' ≡ l
      go (Refused n) e = w.receives.still n e
      go Kept e = not-zero c h (w.tells.gave ∙ ap answer_code e)
      go Repeat e = not-zero c h (w.tells.gave ∙ ap answer_code e)
      go (Delivered p n) e = not-zero c h (w.tells.gave ∙ ap answer_code e)

  -- ALTERS NOTHING
  pub turned : HostTurnsAway l l' → l' ≡ l
  turned (no_room x c t k) = (k.short t).stays
  turned (refused limits x c h k) = elim (either (lacks c)) [ inl t ↦ (k.short t).stays | inr f ↦ refused-stays limits x c h (k.heard f) ]

-- ---- the other calls

-- an opening that answers 0 is not refused
pub opened : (w n : List ℕ) (k : ℕ) (w' n' : List ℕ) → (o : OpenTold w n k 0 w' n') → refusal_of o.call ≡ none
opened w n k w' n' o = go (shaped w n) o.opens.gave
  where
    go : (b : Bool) → refusal_of o.call ≡ pick b none (some 9) → refusal_of o.call ≡ none
    go true e = e
    go false e = absurd (let z : 0 ≡ 9 = o.gave ∙ ap call_code_lem e in let y : ⊥ = omega arith in y)

pub takes-led : (n : ℕ) (l : Lent) (x : Arrival) (r : Outcome) (l' : Lent) → Takes l x r l' → Led n l.state l.names → Led n l'.state l'.names
takes-led n l x r l' (arrival.freely k) h = by-receive h l.store l.ledger x.sender x.datagram r l' k
takes-led n l x r l' (arrival.within payload fragments t k) h = by-within h payload fragments l.store l.ledger x r l' k
