-- A FLIGHT OVER CALLS: `open`, and then `count_on`, in whatever pieces, until it has no more to take. Assumes nothing.
use Rattle.wire.proofs.Basics.{◌∙◌, sym, ◌≡◌, ap, refl, subst, ℕ, ◌≤◌, ◌+◌, ◌<◌, ◌-◌, suc, zero, List, [], ◌∷◌, true, false, Bool, length, drop, eqb, eq-eqb, eqb-true, arith}
use Rattle.wire.proofs.Choices.{zero-is-one}
use Rattle.wire.specs.Bytes.{Bytes}
use Rattle.wire.specs.Choice.{pick}
use Rattle.wire.specs.Taken.{Taken, taken, refused}
use Rattle.steps.specs.Receive.{opened}
use Rattle.steps.specs.Runs.{lending}
use Rattle.receiver_state.specs.View.{state_words_lem, name_bytes_lem, view, shaped}
use Rattle.receiver.specs.Calls.{Call}
use Rattle.receiver.specs.Lent.{lent}
use Rattle.open_and_payload.specs.Ends.{Opens}
use Rattle.flight_log.specs.Editions.{Edition, head_in, limits_in_lem}
use Rattle.flight_log.specs.Entries.{Entry}
use Rattle.flight_log.specs.Listed.{entry_in}
use Rattle.flight_log.specs.declared.reader.Limits.{Limits}
use Rattle.flight_log.specs.declared.reader.EntryAt.{EntryAt}
use Rattle.flight_log.specs.Step.{Step, Found, End, Refused}
use Rattle.flight_log.specs.Said.{first_of, first_in, entry_at, step_of, step_in, next_at, entry_said, from_first, read_at}
use Rattle.flight_log.proofs.ReadingOn.{Found_at, found_at}
use Rattle.sorted_set.specs.Lists.{In}
use Rattle.count_rules.specs.Run.{payloads}
use Rattle.pit_payloads.specs.Looks.{book}
use Rattle.pit_payloads.specs.Took.{fault_in}
use Rattle.stretch.specs.Stop as stop
use Rattle.stretch.specs.Stop.{Stretch}
use Rattle.stretch.specs.Stretch.{Desk, desk, Kit, kit_of, in_shape, Entered, enter_on, Stretched, here, by_step, stretch, told_on, stretch_of, CountsOn}
use Rattle.season.specs.Season.{Map, Flight, set_out_lem, flown, Handed}
use Rattle.season.proofs.Fits.{Fits, fits-held}
use Rattle.season.proofs.Pieces.{pieces_end}

-- ---- each entry brings the reader on

pub record Ahead (log : List ℕ) (at : ℕ) (e : EntryAt) : Type 0 where
  pub on : at < e.next
  pub within : e.next ≤ length log

module _ (log : List ℕ) (h : Bytes log) (e : EntryAt) where
  next-ahead : (at : ℕ) → next_at log at ≡ Found e → Ahead log at e
  unfolding next_at
  next-ahead at q = by-rest (drop at log) refl q
    where
      by-taken : (b : List ℕ) → drop at log ≡ b → (t : Taken Entry) → entry_in b ≡ t → step_of log t ≡ Found e → Ahead log at e
      by-taken b p (taken d c) u v =
          let f : Found_at log at d c = found_at log h at d c (ap entry_in p ∙ u) in
          let z : entry_at log d c ≡ e = cc in
          let w : length log - length c ≡ e.next = ap (λ (y : EntryAt). y.next) z in
          record { on = (let o = f.on in omega arith); within = (let o = f.within in omega arith) }
      by-taken b p (refused n) u v = zero-is-one cc

      by-rest : (b : List ℕ) → drop at log ≡ b → step_in log b ≡ Found e → Ahead log at e
      by-rest [] p v = zero-is-one cc
      by-rest (x ∷ b) p v = by-taken (x ∷ b) p (entry_in (x ∷ b)) refl v

  pub ahead : (at : ℕ) → read_at log at ≡ Found e → Ahead log at e
  unfolding read_at
  ahead at q = by (eqb at 0) refl q
    where
      by-head : (t : Taken Edition) → head_in log ≡ t → from_first log (first_of log t) ≡ Found e → Ahead log 0 e
      by-head (taken v c) p u =
          let a : Ahead log (length log - length c) e = next-ahead (length log - length c) u in
          record { on = (let o = a.on in omega arith); within = a.within }
      by-head (refused n) p u = zero-is-one cc

      by : (b : Bool) → eqb at 0 ≡ b → pick b (from_first log (first_in log)) (next_at log at) ≡ Found e → Ahead log at e
      by true o u = subst (λ (n : ℕ). Ahead log n e) (sym (eqb-true at 0 o)) (by-head (head_in log) refl u)
      by false o u = next-ahead at u

-- ---- more turns than bytes are enough

module _ (b : Bool) (l : Limits) (log : List ℕ) (h : Bytes log) where
  abbrev S : ℕ → ℕ → Kit → Stretched
  S = stretch b l log

  abbrev Ends : ℕ → Type 0
  Ends n = (at : ℕ) (k : Kit) → at ≤ length log → length log < n + at → (S n at k).stop ≡ stop.Taken → ⊥

  ends-fault : (n : ℕ) → Ends n → (c : Bool) (f next : ℕ) (k : Kit) → next ≤ length log → length log < n + next → (pick c (S n next k) (here (stop.Refused f) next k)).stop ≡ stop.Taken → ⊥
  ends-fault n ih true f next k a o q = ih next k a o q
  ends-fault n ih false f next k a o q = zero-is-one cc

  ends-step : (n : ℕ) → Ends n → (at : ℕ) (k : Kit) → at ≤ length log → length log < suc n + at → (x : Step) → read_at log at ≡ x → (by_step b l log at k (S n) x).stop ≡ stop.Taken → ⊥
  ends-step n ih at k a o (Found e) p q =
      let g : Ahead log at e = ahead log h e at p in
      let u = g.on in
      let i : Entered = enter_on b l k (entry_said log e) in
      ends-fault n ih (eqb (fault_in i.looked) 0) (fault_in i.looked) e.next i.kit g.within (omega arith) q
  ends-step n ih at k a o End p q = zero-is-one cc
  ends-step n ih at k a o (Refused j) p q = zero-is-one cc

  ends : (n : ℕ) → Ends n
  unfolding stretch
  ends zero at k a o q = let y : ⊥ = omega arith in y
  ends (suc n) at k a o q = ends-step n (ends n) at k a o (read_at log at) refl q

  -- however many were asked for, if not all of these were taken
  pub to_the_end : (n : ℕ) (k : Kit) → ((S n 0 k).stop ≡ stop.Taken → ⊥) → S n 0 k ≡ S (suc (length log)) 0 k
  to_the_end n k f =
      let m : ℕ = suc (length log) in
      let g : (S m 0 k).stop ≡ stop.Taken → ⊥ = ends m 0 k (omega arith) (omega arith) in
      let z : n + m ≡ m + n = omega arith in
      sym (pieces_end b l log n m 0 k f) ∙ (ap (λ (j : ℕ). S j 0 k) z ∙ pieces_end b l log m n 0 k g)

-- ---- a receiver that was opened, and the log counted to its end, is a flight

module _ (f : Flight) (m : Map) (fits : Fits m.sets m.sizes) (bytes : Bytes f.log) (w₀ n₀ : List ℕ) (call : Call) (w n : List ℕ) (O : Opens w₀ n₀ (length f.store) call w n)
    (lw : length w₀ ≡ state_words_lem) (ln : length n₀ ≡ name_bytes_lem) (most : ℕ) (r : Stretch) (k' : Desk)
    (C : CountsOn f.log 0 most (desk (lent w n f.store f.ledger) (book f.list m.sets)) m.sizes r k') (all : r.stop ≡ stop.Taken → ⊥) where
  abbrev K : Desk
  K = desk (lent w n f.store f.ledger) (book f.list m.sets)

  stretch-is : stretch_of f.log 0 most K m.sizes ≡ stretch true (limits_in_lem f.log) f.log most 0 (set_out_lem f m)
  stretch-is =
      let a : shaped w₀ n₀ ≡ true = rw (eq-eqb _ _ lw, eq-eqb _ _ ln) in
      let b : in_shape K ≡ true = rw (eq-eqb _ _ (O.words ∙ lw), eq-eqb _ _ (O.bytes ∙ ln)) in
      let v : view w n ≡ opened (length f.store) = O.machine ∙ rw a in
      λ i. stretch (b i) (limits_in_lem f.log) f.log most 0 (record { world = lending (v i) f.store f.ledger; list = f.list; sets = m.sets; sizes = fits-held m.sets m.sizes fits i })

  flown-is : stretch_of f.log 0 most K m.sizes ≡ flown f m
  unfolding flown
  flown-is =
      stretch-is
      ∙ to_the_end true (limits_in_lem f.log) f.log bytes most (set_out_lem f m) (λ q. all (ap (λ (x : Stretch). x.stop) C.gave ∙ (ap (λ (x : Stretched). x.stop) stretch-is ∙ q)))

  pub flight-told : r ≡ told_on (flown f m)
  flight-told = C.gave ∙ ap told_on flown-is

  pub flight-left : kit_of k' r.sizes ≡ (flown f m).kit
  flight-left = C.shows ∙ ap (λ (x : Stretched). x.kit) flown-is

  pub flight-handed : Handed (payloads (flown f m).replies)
  flight-handed x i = C.handed x (subst (λ (y : Stretched). In x (payloads y.replies)) (sym flown-is) i)
