-- THE SIZES NEVER GO BEYOND WHAT IS LENT, whatever the sets are. Assumes nothing.
use Rattle.wire.proofs.Basics.{sym, ◌≡◌, refl, subst, ℕ, ◌≤◌, ◌+◌, suc, zero, min, List, [], ◌∷◌, true, false, Bool, length, eqb, ltb, ℤ, eqb-false, arith}
use Rattle.wire.specs.Choice.{pick}
use Rattle.wire.proofs.Choices.{pick_all}
use Rattle.steps.specs.Answers.{Reply, refused_by, kept, repeat, delivered}
use Rattle.steps.specs.Runs.{World}
use Rattle.lmcp.specs.Run.{got, refused}
use Rattle.lmcp.specs.Read.{Read}
use Rattle.lmcp.specs.Lists.{read_list}
use Rattle.flight_log.specs.declared.reader.Limits.{Limits}
use Rattle.flight_log.specs.Step.{Step}
use Rattle.flight_log.specs.Step as step
use Rattle.flight_log.specs.Said.{entry_said, read_at}
use Rattle.std.proofs.Common.{Option, Some, None}
use Rattle.sorted_set.specs.Halving.{held, is_there, no_room_lem, entered, words_with}
use Rattle.sorted_set.proofs.Sets.{words_long}
use Rattle.count_rules.specs.Marks.{Mark, at}
use Rattle.pit_marks.specs.declared.Sizes.{Sizes}
use Rattle.pit_marks.specs.Taken.{Taken}
use Rattle.pit_marks.specs.Taken as taken
use Rattle.pit_marks.specs.Sets.{Sets, held_in}
use Rattle.pit_marks.specs.Enters.{key_in, with_pits, with_tiles, sizes_of, Pitted, pitted, sure_entered, if_sure, pit_entered, enter_pit_lem, onward, enter_marks, tile_entered, elements_of, enter_list_lem}
use Rattle.pit_payloads.specs.Looks.{Left, in_read}
use Rattle.pit_payloads.specs.Took.{fault_in, sizes_in}
use Rattle.stretch.specs.Stop as stop
use Rattle.stretch.specs.Stretch.{Kit, looked_at, kit_with, enter_on, here, by_step, stretch}
use Rattle.pit_payloads.proofs.PayloadTaken.{sizes-same}

pub record Fits (x : Sets) (had : Sizes) : Type 0 where
  pub tiles : had.tiles ≤ length x.tiles
  pub pits : had.pits ≤ length x.pits
  pub sure : had.sure ≤ length x.sure

pub held_fits : (x : Sets) (had : Sizes) → Fits x (held_in x had)
held_fits x had = record { tiles = omega arith; pits = omega arith; sure = omega arith }

pub fits-held : (x : Sets) (had : Sizes) → Fits x had → held_in x had ≡ had
fits-held x had f =
    let a : min had.tiles (length x.tiles) ≡ had.tiles = (let o = f.tiles in omega arith) in
    let b : min had.pits (length x.pits) ≡ had.pits = (let o = f.pits in omega arith) in
    let c : min had.sure (length x.sure) ≡ had.sure = (let o = f.sure in omega arith) in
    λ i. record { tiles = a i; pits = b i; sure = c i }

-- ---- one number into one set

now-most : (w : List ℕ) (n x m : ℕ) → entered w n x ≡ Some m → m ≤ length (words_with w n x)
unfolding entered
now-most w n x m e = by (is_there w n x) (no_room_lem w n) refl e
  where
    by : (a b : Bool) → no_room_lem w n ≡ b → pick a (Some (held w n)) (pick b None (Some (held w n + 1))) ≡ Some m → m ≤ length (words_with w n x)
    by true b q u = let z : held w n ≡ m = cc in omega (arith, words_long w n x)
    by false true q u = absurd (let z : ◌≡◌ {A = ℕ} 0 1 = cc in let y : ⊥ = omega arith in y)
    by false false q u = let z : held w n + 1 ≡ m = cc in let o : min n (length w) ≡ length w → ⊥ = eqb-false _ _ q in omega (arith, words_long w n x)

-- ---- the pits, and the sure ones

record FitsP (n : ℕ) (X : Pitted) : Type 0 where
  tiles : (sizes_of X.answer).tiles ≡ n
  pits : (sizes_of X.answer).pits ≤ length X.pits
  sure : (sizes_of X.answer).sure ≤ length X.sure

module _ (n : ℕ) where
  sure-fits : (E : Option ℕ) (p s : List ℕ) (x : ℕ) (had : Sizes) → entered s had.sure x ≡ E → had.tiles ≡ n → had.pits ≤ length p → had.sure ≤ length s
      → FitsP n (sure_entered E p (words_with s had.sure x) had)
  sure-fits (Some m) p s x had e t a b = record { tiles = t; pits = a; sure = now-most s had.sure x m e }
  sure-fits None p s x had e t a b = record { tiles = t; pits = a; sure = omega (arith, words_long s had.sure x) }

  if-fits : (c : Bool) (p s : List ℕ) (x : ℕ) (had : Sizes) → had.tiles ≡ n → had.pits ≤ length p → had.sure ≤ length s → FitsP n (if_sure c x p s had)
  if-fits true p s x had t a b = sure-fits (entered s had.sure x) p s x had refl t a b
  if-fits false p s x had t a b = record { tiles = t; pits = a; sure = b }

  entered-fits : (E : Option ℕ) (c : Bool) (p s : List ℕ) (x : ℕ) (had : Sizes) → entered p had.pits x ≡ E → had.tiles ≡ n → had.pits ≤ length p → had.sure ≤ length s
      → FitsP n (pit_entered E c x (words_with p had.pits x) s had)
  entered-fits (Some m) c p s x had e t a b = if-fits c (words_with p had.pits x) s x (with_pits m had) t (now-most p had.pits x m e) b
  entered-fits None c p s x had e t a b = record { tiles = t; pits = omega (arith, words_long p had.pits x); sure = b }

  pit-fits : (c : Bool) (x : ℕ) (p s : List ℕ) (had : Sizes) → had.tiles ≡ n → had.pits ≤ length p → had.sure ≤ length s → FitsP n (enter_pit_lem c x p s had)
  unfolding enter_pit_lem
  pit-fits c x p s had t a b = entered-fits (entered p had.pits x) c p s x had refl t a b

  abbrev Fit-marks : ℕ → List Mark → Type 0
  Fit-marks t ms = (p s : List ℕ) (had : Sizes) → had.tiles ≡ n → had.pits ≤ length p → had.sure ≤ length s → FitsP n (enter_marks t ms p s had)

  on_fits : (t : ℕ) (ms : List Mark) → Fit-marks t ms → (a : Taken) (p s : List ℕ) → FitsP n (pitted a p s) → FitsP n (onward (enter_marks t ms) a p s)
  on_fits t ms ih (taken.Now now) p s f = ih p s now f.tiles f.pits f.sure
  on_fits t ms ih (taken.Refused now k) p s f = f

  marks_fit : (t : ℕ) (ms : List Mark) → Fit-marks t ms
  unfolding enter_marks
  marks_fit t [] p s had q a b = record { tiles = q; pits = a; sure = b }
  marks_fit t (m ∷ ms) p s had q a b =
      let Y : Pitted = enter_pit_lem m.sure (key_in t m.pit) p s had in
      on_fits t ms (marks_fit t ms) Y.answer Y.pits Y.sure (pit-fits m.sure (key_in t m.pit) p s had q a b)

-- ---- a list

list-fits : (l : List ℤ) (x : Sets) (had : Sizes) → Fits x had → Fits (enter_list_lem l x had).sets (sizes_of (enter_list_lem l x had).answer)
unfolding enter_list_lem
list-fits l x had f = by (entered x.tiles had.tiles (at l 2)) refl
  where
    by : (E : Option ℕ) → entered x.tiles had.tiles (at l 2) ≡ E → let Y = tile_entered E (words_with x.tiles had.tiles (at l 2)) (enter_marks (at l 2) (elements_of l)) x had in Fits Y.sets (sizes_of Y.answer)
    by (Some m) e =
        let g : FitsP m (enter_marks (at l 2) (elements_of l) x.pits x.sure (with_tiles m had)) = marks_fit m (at l 2) (elements_of l) x.pits x.sure (with_tiles m had) refl f.pits f.sure in
        record { tiles = (let o = now-most x.tiles had.tiles (at l 2) m e in omega (arith, g.tiles)); pits = g.pits; sure = g.sure }
    by None e = record { tiles = (let o = f.tiles in omega (arith, words_long x.tiles had.tiles (at l 2))); pits = f.pits; sure = f.sure }

-- ---- a payload

read_fits : (room : ℕ) (r : Read) (x : Sets) (had : Sizes) → Fits x had → Fits (in_read room r x had).sets (sizes_in had (in_read room r x had).answer)
read_fits room (got l rest) x had f =
    pick_all (λ (e : Left). Fits e.sets (sizes_in had e.answer)) (ltb room (length l)) (λ u. f)
    (λ u. pick_all (λ (e : Left). Fits e.sets (sizes_in had e.answer)) (eqb (at l 1) 5)
    (λ v. subst (Fits (enter_list_lem l x had).sets) (sym (sizes-same had (enter_list_lem l x had).answer)) (list-fits l x had f)) (λ v. f))
read_fits room (refused n) x had f = f

-- ---- a stretch

entry-fits : (k : Kit) (w : World) (y : Reply) → Fits k.sets k.sizes → let j = kit_with k w y (looked_at k y) in Fits j.sets j.sizes
entry-fits k w (refused_by n) f = f
entry-fits k w kept f = f
entry-fits k w repeat f = f
entry-fits k w (delivered b) f = read_fits (length k.list) (read_list b) k.sets k.sizes f

module _ (b : Bool) (l : Limits) (log : List ℕ) where
  abbrev Fit-all : ℕ → Type 0
  Fit-all m = (place : ℕ) (k : Kit) → Fits k.sets k.sizes → let j = (stretch b l log m place k).kit in Fits j.sets j.sizes

  fault-fits : (m : ℕ) → Fit-all m → (c : Bool) (f next : ℕ) (k : Kit) → Fits k.sets k.sizes → let j = (pick c (stretch b l log m next k) (here (stop.Refused f) next k)).kit in Fits j.sets j.sizes
  fault-fits m ih true f next k g = ih next k g
  fault-fits m ih false f next k g = g

  step_fits : (m : ℕ) → Fit-all m → (place : ℕ) (k : Kit) → Fits k.sets k.sizes → (x : Step) → let j = (by_step b l log place k (stretch b l log m) x).kit in Fits j.sets j.sizes
  unfolding enter_on
  step_fits m ih place k g (step.Found e) =
      let o = enter_on b l k (entry_said log e) in
      fault-fits m ih (eqb (fault_in o.looked) 0) (fault_in o.looked) e.next o.kit (entry-fits k o.kit.world o.reply g)
  step_fits m ih place k g step.End = g
  step_fits m ih place k g (step.Refused n) = g

  pub stretch-fits : (m : ℕ) → Fit-all m
  unfolding stretch
  stretch-fits zero place k g = g
  stretch-fits (suc m) place k g = step_fits m (stretch-fits m) place k g (read_at log place)
