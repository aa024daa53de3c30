-- EXACTLY WHEN 13, 60 AND 61 COME: where the first payload comes, of those that the log's entries deliver, against which something stands. Assumes nothing.
use Rattle.wire.proofs.Basics.{◌∙◌, sym, ◌≡◌, ap, refl, ℕ, suc, zero, List, [], ◌∷◌, ◌++◌, true, false, Bool, length, eqb}
use Rattle.wire.proofs.Choices.{zero-is-one}
use Rattle.wire.specs.Choice.{pick}
use Rattle.steps.specs.Answers.{Reply}
use Rattle.flight_log.specs.declared.reader.Limits.{Limits}
use Rattle.flight_log.specs.Step.{Step}
use Rattle.flight_log.specs.Step as step
use Rattle.flight_log.specs.Said.{entry_said, read_at, onward, read_on}
use Rattle.sorted_set.proofs.Members.{gather_append}
use Rattle.count_rules.specs.Marks.{PitList, list_in}
use Rattle.count_rules.specs.Run.{answer_to, answers, payload_in, payloads}
use Rattle.pit_marks.specs.declared.Sizes.{Sizes}
use Rattle.pit_marks.specs.Sets.{rooms, Has}
use Rattle.pit_payloads.specs.Took.{fault_in, fault_over}
use Rattle.stretch.specs.Stop.{Stop}
use Rattle.stretch.specs.Stop as stop
use Rattle.stretch.specs.Stretch.{Kit, called_on, Entered, enter_on, Stretched, here, by_step, stretch, stop_fault, entries_of}
use Rattle.stretch.proofs.StretchAnswers.{entries-after, clean-answers, refused-some}
use Rattle.season.specs.Season.{Handed, first_over}
use Rattle.season.proofs.Went.{stretch-went}

-- what stands against one of the first payloads is not altered by those behind it
front-over : (words : Sizes) (room : ℕ) (seen : List PitList) (ps qs : List (List ℕ)) → (first_over words room seen ps ≡ 0 → ⊥) → first_over words room seen (ps ++ qs) ≡ first_over words room seen ps
unfolding first_over
front-over words room seen [] qs f = absurd (f refl)
front-over words room seen (p ∷ ps) qs f = by (eqb (fault_over words room seen p) 0) (front-over words room (list_in p ++ seen) ps qs) f
  where
    by : (c : Bool) → ((first_over words room (list_in p ++ seen) ps ≡ 0 → ⊥) → first_over words room (list_in p ++ seen) (ps ++ qs) ≡ first_over words room (list_in p ++ seen) ps)
        → (pick c (first_over words room (list_in p ++ seen) ps) (fault_over words room seen p) ≡ 0 → ⊥)
        → pick c (first_over words room (list_in p ++ seen) (ps ++ qs)) (fault_over words room seen p) ≡ pick c (first_over words room (list_in p ++ seen) ps) (fault_over words room seen p)
    by true ih g = ih g
    by false ih g = refl

module _ (l : Limits) (log : List ℕ) where
  abbrev S : ℕ → ℕ → Kit → Stretched
  S = stretch true l log

  -- the answers of a stretch are the first of those to its entries
  record First (rs all : List Reply) : Type 0 where
    rest : List Reply
    is : all ≡ rs ++ rest

  abbrev Answers : ℕ → Type 0
  Answers m = (place : ℕ) (k : Kit) → First (S m place k).replies (answers l k.world (entries_of (read_on m log place)))

  first-fault : (m : ℕ) → Answers m → (c : Bool) (f next : ℕ) (k : Kit) → First (pick c (S m next k) (here (stop.Refused f) next k)).replies (answers l k.world (entries_of (read_on m log next)))
  first-fault m ih true f next k = ih next k
  first-fault m ih false f next k = record { rest = answers l k.world (entries_of (read_on m log next)); is = refl }

  first_step : (m : ℕ) → Answers m → (place : ℕ) (k : Kit) (x : Step) → First (by_step true l log place k (S m) x).replies (answers l k.world (entries_of (onward (read_on m log) log x)))
  unfolding answers enter_on called_on
  first_step m ih place k (step.Found e) =
      let o : Entered = enter_on true l k (entry_said log e) in
      let g = first-fault m ih (eqb (fault_in o.looked) 0) (fault_in o.looked) e.next o.kit in
      record {
        rest = g.rest;
        is = ap (answers l k.world) (entries-after (entry_said log e) (read_on m log e.next)) ∙ ap (λ (rs : List Reply). answer_to l k.world (entry_said log e) ∷ rs) g.is;
      }
  first_step m ih place k step.End = record { rest = []; is = refl }
  first_step m ih place k (step.Refused j) = record { rest = []; is = refl }

  first-answers : (m : ℕ) → Answers m
  unfolding stretch read_on answers
  first-answers zero place k = record { rest = []; is = refl }
  first-answers (suc m) place k = first_step m (first-answers m) place k (read_at log place)

  pub stops_exactly : (m place : ℕ) (k : Kit) (seen : List PitList) → Has k.sets k.sizes seen → Handed (payloads (S m place k).replies)
      → stop_fault (S m place k).stop ≡ first_over (rooms k.sets) (length k.list) seen (payloads (answers l k.world (entries_of (read_on m log place))))
  stops_exactly m place k seen h hb = by (S m place k).stop refl
    where
      W : stop_fault (S m place k).stop ≡ first_over (rooms k.sets) (length k.list) seen (payloads (S m place k).replies)
      W = (stretch-went true l log m place k seen h hb).stops

      clean : ((n : ℕ) → (S m place k).stop ≡ stop.Refused n → ⊥) → stop_fault (S m place k).stop ≡ first_over (rooms k.sets) (length k.list) seen (payloads (answers l k.world (entries_of (read_on m log place))))
      clean q = W ∙ ap (λ (rs : List Reply). first_over (rooms k.sets) (length k.list) seen (payloads rs)) (clean-answers l log m place k q)

      by : (s : Stop) → (S m place k).stop ≡ s → stop_fault (S m place k).stop ≡ first_over (rooms k.sets) (length k.list) seen (payloads (answers l k.world (entries_of (read_on m log place))))
      by stop.Taken e = clean (λ n q. zero-is-one cc)
      by stop.End e = clean (λ n q. zero-is-one cc)
      by (stop.Broken j) e = clean (λ n q. zero-is-one cc)
      by (stop.Refused j) e =
          let g = first-answers m place k in
          let ps : List (List ℕ) = payloads (S m place k).replies in
          let u : first_over (rooms k.sets) (length k.list) seen ps ≡ j = sym W ∙ ap stop_fault e in
          let f : first_over (rooms k.sets) (length k.list) seen ps ≡ 0 → ⊥ = λ z. refused-some true l log m place k j e (sym u ∙ z) in
          W
          ∙ (sym (front-over (rooms k.sets) (length k.list) seen ps (payloads g.rest) f)
          ∙ ap (first_over (rooms k.sets) (length k.list) seen) (sym (ap payloads g.is ∙ gather_append payload_in (S m place k).replies g.rest)))
