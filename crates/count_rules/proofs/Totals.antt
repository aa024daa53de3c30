-- Entries equal the sum over the answers. Assumes nothing.
use Rattle.wire.proofs.Basics.{sym, ◌≡◌, refl, ℕ, ◌≤◌, ◌+◌, List, [], ◌∷◌, length, length-append, eqb, eq-eqb, ne_eqb, arith}
use Rattle.wire.specs.Sum.{sum}
use Rattle.steps.specs.Search.{one}
use Rattle.steps.specs.Receive.{Answer, Refused, Kept, Repeat, Delivered}
use Rattle.steps.specs.Answers.{Reply, refused_by, kept, repeat, delivered, reply}
use Rattle.steps.specs.Runs.{World}
use Rattle.flight_log.specs.declared.reader.Limits.{Limits}
use Rattle.flight_log.specs.Entries.{Entry}
use Rattle.within_limits.proofs.Admits.{within-number}
use Rattle.count_rules.specs.Run.{called, answer_to, left_by, answers, is_kept, is_repeat, is_delivered, is_refused, how_many, kept_in, repeated_in, delivered_in, refusals, refused_in, payload_in, payloads}
use Rattle.count_rules.specs.Promise.{EntriesSum}
use Rattle.count_rules.proofs.Sums.{sum_to, sum-none, sum_more, sum-add}

-- AN ENTRY IS REFUSED BY 1 TO 9
pub called-number : (l : Limits) (w : World) (e : Entry) (n : ℕ) → (called l w e).answer ≡ Refused n → (1 ≤ n) × (n ≤ 9)
unfolding called
called-number l w e n q = within-number _ w.machine w.store w.ledger e.sender e.datagram n q

abbrev Numbered : Reply → Type 0
Numbered (refused_by n) = (1 ≤ n) × (n ≤ 9)
Numbered kept = Unit {0}
Numbered repeat = Unit {0}
Numbered (delivered b) = Unit {0}

numbered : (l : Limits) (w : World) (e : Entry) → Numbered (answer_to l w e)
numbered l w e = go (called l w e).answer (λ n q. called-number l w e n q)
  where
    go : (a : Answer) → ((n : ℕ) → a ≡ Refused n → (1 ≤ n) × (n ≤ 9)) → Numbered (reply e.datagram (called l w e).store a)
    go (Refused n) h = h n refl
    go Kept h = tt
    go Repeat h = tt
    go (Delivered p n) h = tt

-- one answer counts once
counts-once : (r : Reply) → Numbered r → 1 ≡ one (is_kept r) + (one (is_repeat r) + (one (is_delivered r) + sum_to refusals (λ k. one (is_refused k r))))
counts-once (refused_by n) h =
    let b : n ≤ 9 = h.1 in
    let s : sum_to refusals (λ k. one (eqb n k)) ≡ 1 + sum_to refusals (λ k. 0) =
    sum_more refusals (λ k. 0) (λ k. one (eqb n k)) 1 n (omega arith) (rw (eq-eqb n n refl)) (λ i b o. rw (ne_eqb n i (λ e. o (sym e)))) in
    let z : sum_to refusals (λ k. 0) ≡ 0 = sum-none refusals (λ k. 0) (λ i b. refl) in
    omega arith
counts-once kept h = rw (sum-none refusals (λ k. 0) (λ i b. refl))
counts-once repeat h = rw (sum-none refusals (λ k. 0) (λ i b. refl))
counts-once (delivered b) h = rw (sum-none refusals (λ k. 0) (λ i b. refl))

-- none is refused by 0
not-by-0 : (r : Reply) → Numbered r → one (is_refused 0 r) ≡ 0
not-by-0 (refused_by n) h = let b : 1 ≤ n = h.0 in rw (ne_eqb n 0 (λ e. let z : ⊥ = omega arith in z))
not-by-0 kept h = refl
not-by-0 repeat h = refl
not-by-0 (delivered b) h = refl

-- a reply hands over a payload when it is Delivered
hands-one : (r : Reply) → one (is_delivered r) ≡ length (payload_in r)
hands-one (refused_by n) = refl
hands-one kept = refl
hands-one repeat = refl
hands-one (delivered b) = refl

entries : (l : Limits) (w : World) (es : List Entry)
    → length es ≡ kept_in (answers l w es) + (repeated_in (answers l w es) + (delivered_in (answers l w es) + sum (refused_in (answers l w es))))
unfolding answers how_many
entries l w [] = rw (sum-none refusals (λ k. 0) (λ i b. refl))
entries l w (e ∷ es) =
    let r : Reply = answer_to l w e in
    let rs : List Reply = answers l (left_by l w e) es in
    let a = counts-once r (numbered l w e) in
    let b = entries l (left_by l w e) es in
    let c : sum_to refusals (λ k. one (is_refused k r) + how_many (is_refused k) rs) ≡ sum_to refusals (λ k. one (is_refused k r)) + sum_to refusals (λ k. how_many (is_refused k) rs) =
    sum-add refusals (λ k. one (is_refused k r)) (λ k. how_many (is_refused k) rs) in
    rw c (omega arith)

none-by-0 : (l : Limits) (w : World) (es : List Entry) → how_many (is_refused 0) (answers l w es) ≡ 0
unfolding answers how_many
none-by-0 l w [] = refl
none-by-0 l w (e ∷ es) = rw (not-by-0 (answer_to l w e) (numbered l w e), none-by-0 l (left_by l w e) es)

pub delivered-payloads : (rs : List Reply) → delivered_in rs ≡ length (payloads rs)
unfolding how_many
delivered-payloads [] = refl
delivered-payloads (r ∷ rs) = rw (hands-one r, delivered-payloads rs) (sym (length-append (payload_in r) (payloads rs)))

pub entries-sum : EntriesSum
entries-sum l w es = record { entries = entries l w es; none-by-0 = none-by-0 l w es; delivered = delivered-payloads (answers l w es) }
