-- The stretch through a fresh receiver, into empty sets, and then its answer. Assumes nothing.
use Rattle.wire.proofs.Basics.{◌≡◌, ap, refl, ℕ, replicate, length-replicate}
use Rattle.refusals.specs.declared.Refusal.{Refusal}
use Rattle.stretch.specs.declared.Stop.{Stop as Why}
use Rattle.stretch.specs.declared.Stop.TheVariants as why
use Rattle.stretch.specs.Stop as stop
use Rattle.stretch.specs.Told.{stop_told, stretch_told}
use Rattle.wire.specs.Bytes.{Bytes}
use Rattle.receiver_state.specs.View.{state_words_lem, name_bytes_lem}
use Rattle.count_rules.specs.Count.{max_tiles, max_pits}
use Rattle.receiver.specs.Lent.{lent}
use Rattle.pit_marks.specs.Sets.{sets_of, rooms}
use Rattle.pit_payloads.specs.Looks.{book}
use Rattle.stretch.specs.Stretch.{desk}
use Rattle.count.specs.Inside.{own}
use Rattle.count.proofs.Ends.{refused-then, given-then}
use Rattle.count.proofs.afresh.Goals as goal
use Rattle.count.proofs.afresh.Goals.{After-open}

-- what was not refused is told as no refusal
not-told : (x : Why) → ((r : Refusal) → x ≡ why.Refused r → ⊥) → (n : ℕ) → stop_told x ≡ stop.Refused n → ⊥
not-told why.Taken f n e = cc
not-told why.End f n e = cc
not-told (why.Broken r) f n e = cc
not-told (why.Refused r) f n e = f r refl

empty-rooms : rooms (sets_of (replicate max_tiles 0) (replicate max_pits 0) (replicate max_pits 0)) ≡ own
empty-rooms = λ i. record { tiles = length-replicate {A = ℕ} max_tiles 0 i; pits = length-replicate {A = ℕ} max_pits 0 i; sure = length-replicate {A = ℕ} max_pits 0 i }

pub returns-in-Refused : goal.returns-in-Refused
returns-in-Refused c =
    let o = (goal.at.returns-in-Refused c).After-open in
    let a = c.args in
    let b : Bytes a.log.now = λ i. (c.shared_slice_known-1.given i).fits in
    refused-then a.log.now b a.entries c.requires (desk (lent _ _ _ _) (book _ (sets_of _ _ _))) _ _ o.«open».result o.«open».ensures (length-replicate {A = ℕ} state_words_lem 0)
    (length-replicate {A = ℕ} name_bytes_lem 0) empty-rooms (stretch_told c.count_on-done.result) (desk (lent _ _ _ _) (book _ (sets_of _ _ _))) c.count_on-done.ensures.counts _
    (ap stop_told c.in-Refused.is) _ refl

pub returns : goal.returns
returns c =
    let o = (goal.at.returns c).After-open in
    let a = c.args in
    let b : Bytes a.log.now = λ i. (c.shared_slice_known-1.given i).fits in
    given-then a.log.now b a.entries c.requires (desk (lent _ _ _ _) (book _ (sets_of _ _ _))) _ _ o.«open».result o.«open».ensures (length-replicate {A = ℕ} state_words_lem 0)
    (length-replicate {A = ℕ} name_bytes_lem 0) empty-rooms (stretch_told c.count_on-done.result) (desk (lent _ _ _ _) (book _ (sets_of _ _ _))) c.count_on-done.ensures.counts
    (not-told _ c.in_default.not-Refused) _ c.given.ensures
