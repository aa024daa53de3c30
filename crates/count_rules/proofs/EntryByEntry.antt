-- The walk entry by entry finds what the count says of the payloads, and with nothing found it has gone through all entries. Assumes nothing.
use Rattle.wire.proofs.Basics.{◌∙◌, sym, ◌≡◌, refl, ℕ, List, [], ◌∷◌, ◌++◌, true, false, Bool, inl, inr, length, eqb, ℤ, eq-eqb}
use Rattle.wire.specs.Choice.{pick}
use Rattle.wire.proofs.Choices.{either, never}
use Rattle.steps.specs.Answers.{Reply, refused_by, kept, repeat, delivered}
use Rattle.flight_log.specs.declared.reader.Limits.{Limits}
use Rattle.flight_log.specs.Entries.{Entry}
use Rattle.count_rules.specs.Marks.{PitList}
use Rattle.count_rules.specs.Run.{answer_to, left_by, answers, payload_in, payloads}
use Rattle.count_rules.specs.Count.{first_fault, Outcome}
use Rattle.count_rules.specs.Walk.{fault_at_lem, seen_at, Held, held_after, held_all, walk, at_first, walk_entries, Loan, CountsTo, NoSecond, Agrees}

module _ (l : Limits) (room : ℕ) where
  -- one answer, and then the payloads of others
  first_more : (seen : List PitList) (r : Reply) (ps : List (List ℕ))
      → first_fault room seen (payload_in r ++ ps) ≡ pick (eqb (fault_at_lem room seen r) 0) (first_fault room (seen_at seen r) ps) (fault_at_lem room seen r)
  unfolding first_fault
  first_more seen (refused_by n) ps = refl
  first_more seen kept ps = refl
  first_more seen repeat ps = refl
  first_more seen (delivered b) ps = refl

  pub walk-fault : (seen : List PitList) (h : Held) (es : List Entry) → (walk l room seen h es).fault ≡ first_fault room seen (payloads (answers l h.world es))
  unfolding walk answers first_fault
  walk-fault seen h [] = refl
  walk-fault seen h (e ∷ es) =
      go (eqb (fault_at_lem room seen r) 0) (walk-fault (seen_at seen r) (held_after l h e) es)
      ∙ sym (first_more seen r (payloads (answers l (left_by l h.world e) es)))
    where
      r : Reply
      r = answer_to l h.world e

      go : (b : Bool) → (walk l room (seen_at seen (answer_to l h.world e)) (held_after l h e) es).fault
          ≡ first_fault room (seen_at seen (answer_to l h.world e)) (payloads (answers l (left_by l h.world e) es))
          → (pick b (walk l room (seen_at seen (answer_to l h.world e)) (held_after l h e) es) (record { fault = fault_at_lem room seen (answer_to l h.world e); held = held_after l h e })).fault
          ≡ pick b (first_fault room (seen_at seen (answer_to l h.world e)) (payloads (answers l (left_by l h.world e) es))) (fault_at_lem room seen (answer_to l h.world e))
      go true ih = ih
      go false ih = refl

  -- with nothing found it has gone through them all
  pub walk-whole : (seen : List PitList) (h : Held) (es : List Entry) → (walk l room seen h es).fault ≡ 0 → (walk l room seen h es).held ≡ held_all l h es
  unfolding walk
  walk-whole seen h [] q = refl
  walk-whole seen h (e ∷ es) q = elim (either (eqb (fault_at_lem room seen (answer_to l h.world e)) 0)) [
    | inl t ↦ rw t (walk-whole (seen_at seen (answer_to l h.world e)) (held_after l h e) es (rw t at q))
    | inr t ↦ never (eq-eqb (fault_at_lem room seen (answer_to l h.world e)) 0 (let z : fault_at_lem room seen (answer_to l h.world e) ≡ 0 = rw t at q in z)) t
  ]

pub walk-agrees : (l : Limits) (store ledger : List ℕ) (list : List ℤ) (es : List Entry) → Agrees l store ledger list es
unfolding walk_entries
walk-agrees l store ledger list es = record {
  same-fault = walk-fault l (length list) [] (at_first store ledger list) es;
  whole = λ q. walk-whole l (length list) [] (at_first store ledger list) es q;
}

-- NO SECOND ANSWER
pub no_second : {log : List ℕ} {l l₁ l₂ : Loan} {a b : Outcome} → CountsTo log l a l₁ → CountsTo log l b l₂ → NoSecond a b l₁ l₂
no_second p q = record { answer = p.gave ∙ sym q.gave; left = p.left ∙ sym q.left }
