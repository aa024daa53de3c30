-- WHAT A STRETCH ANSWERS: against which nothing stood, the answers to its entries; a refusal is no 0. Assumes nothing.
use Rattle.wire.proofs.Basics.{◌∙◌, sym, ◌≡◌, ap, refl, ℕ, ◌+◌, suc, zero, List, [], ◌∷◌, ◌++◌, true, false, Bool, length, length-append, eqb, leb, ℤ, eqb-false, arith}
use lib.Seq.{length-sets}
use Rattle.wire.specs.Choice.{pick}
use Rattle.wire.proofs.Choices.{zero-is-one, pick_all}
use Rattle.steps.specs.Answers.{Reply, refused_by, kept, repeat, delivered}
use Rattle.lmcp.specs.Run.{got, refused}
use Rattle.lmcp.specs.Read.{Read}
use Rattle.lmcp.specs.Message.{listed}
use Rattle.lmcp.specs.Lists.{read_list}
use Rattle.flight_log.specs.declared.reader.Limits.{Limits}
use Rattle.flight_log.specs.Step.{Step}
use Rattle.flight_log.specs.Step as step
use Rattle.flight_log.specs.Entries.{Entry}
use Rattle.flight_log.specs.Listed.{Listed, whole, broken, after}
use Rattle.flight_log.specs.Said.{entry_said, read_at, onward, read_on}
use Rattle.count_rules.specs.Marks.{PitList, list_in}
use Rattle.count_rules.specs.Run.{answer_to, answers, payload_in, lists_read}
use Rattle.count_rules.specs.Walk.{seen_at, list_at, seen_after}
use Rattle.pit_payloads.specs.Took.{fault_in}
use Rattle.stretch.specs.Stop.{Stop}
use Rattle.stretch.specs.Stop as stop
use Rattle.stretch.specs.Stretch.{Kit, called_on, Entered, enter_on, Stretched, here, by_step, stretch, Clean, stop_fault, entries_of}

pub entries-after : (e : Entry) (x : Listed) → entries_of (after e x) ≡ e ∷ entries_of x
entries-after e (whole es) = refl
entries-after e (broken es n) = refl

pub clean-zero : (x : Stop) → ((n : ℕ) → x ≡ stop.Refused n → ⊥) → stop_fault x ≡ 0
clean-zero stop.Taken q = refl
clean-zero stop.End q = refl
clean-zero (stop.Broken n) q = refl
clean-zero (stop.Refused n) q = absurd (q n refl)

-- ---- the number list keeps its length

listed-long : (r : Read) (list : List ℤ) → length (listed r list) ≡ length list
unfolding listed
listed-long (got zs r) list = pick_all (λ (x : List ℤ). length x ≡ length list) (leb (length zs) (length list)) (λ e. length-sets list 0 zs) (λ e. refl)
listed-long (refused n) list = refl

pub list-long : (list : List ℤ) (y : Reply) → length (list_at list y) ≡ length list
list-long list (refused_by n) = refl
list-long list kept = refl
list-long list repeat = refl
list-long list (delivered b) = listed-long (read_list b) list

-- ---- the lists seen with an answer

pub seen-then : (seen : List PitList) (r : Reply) (ps : List (List ℕ)) → seen_after (seen_at seen r) ps ≡ seen_after seen (payload_in r ++ ps)
seen-then seen (refused_by n) ps = refl
seen-then seen kept ps = refl
seen-then seen repeat ps = refl
seen-then seen (delivered b) ps = refl

pub lists-both : (ps qs : List (List ℕ)) → length (lists_read (ps ++ qs)) ≡ length (lists_read ps) + length (lists_read qs)
lists-both [] qs = omega arith
lists-both (p ∷ ps) qs =
    let a = lists-both ps qs in
    let c : length (list_in p ++ lists_read (ps ++ qs)) ≡ length (list_in p) + length (lists_read (ps ++ qs)) = length-append (list_in p) (lists_read (ps ++ qs)) in
    let d : length (list_in p ++ lists_read ps) ≡ length (list_in p) + length (lists_read ps) = length-append (list_in p) (lists_read ps) in
    omega arith

pub clean-ok : (c : Bool) (f next : ℕ) (k : Kit) (x : Stretched) → Clean (pick c x (here (stop.Refused f) next k)) → c ≡ true
clean-ok true f next k x q = refl
clean-ok false f next k x q = absurd (q f refl)

-- ---- the answers are those of the entries, whatever the sets

module _ (l : Limits) (log : List ℕ) where
  module _ (m : ℕ) (ih : (place : ℕ) (k : Kit) → Clean (stretch true l log m place k) → (stretch true l log m place k).replies ≡ answers l k.world (entries_of (read_on m log place))) where
    clean-fault : (c : Bool) (f next : ℕ) (k : Kit) → Clean (pick c (stretch true l log m next k) (here (stop.Refused f) next k))
        → (pick c (stretch true l log m next k) (here (stop.Refused f) next k)).replies ≡ answers l k.world (entries_of (read_on m log next))
    clean-fault true f next k q = ih next k q
    clean-fault false f next k q = absurd (q f refl)

    clean_step : (place : ℕ) (k : Kit) (x : Step) → Clean (by_step true l log place k (stretch true l log m) x)
        → (by_step true l log place k (stretch true l log m) x).replies ≡ answers l k.world (entries_of (onward (read_on m log) log x))
    unfolding answers enter_on called_on
    clean_step place k (step.Found e) q =
        let o : Entered = enter_on true l k (entry_said log e) in
        ap (λ (rs : List Reply). answer_to l k.world (entry_said log e) ∷ rs) (clean-fault (eqb (fault_in o.looked) 0) (fault_in o.looked) e.next o.kit q)
        ∙ ap (answers l k.world) (sym (entries-after (entry_said log e) (read_on m log e.next)))
    clean_step place k step.End q = refl
    clean_step place k (step.Refused j) q = refl

  pub clean-answers : (m place : ℕ) (k : Kit) → Clean (stretch true l log m place k) → (stretch true l log m place k).replies ≡ answers l k.world (entries_of (read_on m log place))
  unfolding stretch read_on answers
  clean-answers zero place k q = refl
  clean-answers (suc m) place k q = clean_step m (λ p j u. clean-answers m p j u) place k (read_at log place) q

-- ---- a refusal is no 0

module _ (b : Bool) (l : Limits) (log : List ℕ) where
  abbrev Some : ℕ → Type 0
  Some m = (place : ℕ) (k : Kit) (f : ℕ) → (stretch b l log m place k).stop ≡ stop.Refused f → f ≡ 0 → ⊥

  some-fault : (m : ℕ) → Some m → (j next : ℕ) (k : Kit) (f : ℕ) (c : Bool) → eqb j 0 ≡ c → (pick c (stretch b l log m next k) (here (stop.Refused j) next k)).stop ≡ stop.Refused f → f ≡ 0 → ⊥
  some-fault m ih j next k f true e q = ih next k f q
  some-fault m ih j next k f false e q = let z : j ≡ f = cc in λ u. eqb-false j 0 e (z ∙ u)

  some-step : (m : ℕ) → Some m → (place : ℕ) (k : Kit) (f : ℕ) (x : Step) → (by_step b l log place k (stretch b l log m) x).stop ≡ stop.Refused f → f ≡ 0 → ⊥
  some-step m ih place k f (step.Found e) q = some-fault m ih (fault_in (enter_on b l k (entry_said log e)).looked) e.next (enter_on b l k (entry_said log e)).kit f _ refl q
  some-step m ih place k f step.End q = zero-is-one (let z : ◌≡◌ {A = ℕ} 0 1 = cc in z)
  some-step m ih place k f (step.Refused j) q = zero-is-one (let z : ◌≡◌ {A = ℕ} 0 1 = cc in z)

  refused_any : (m : ℕ) → Some m
  unfolding stretch
  refused_any zero place k f q = zero-is-one (let z : ◌≡◌ {A = ℕ} 0 1 = cc in z)
  refused_any (suc m) place k f q = some-step m (refused_any m) place k f (read_at log place) q

  pub refused-some : (m place : ℕ) (k : Kit) (f : ℕ) → (stretch b l log m place k).stop ≡ stop.Refused f → f ≡ 0 → ⊥
  refused-some m = refused_any m
