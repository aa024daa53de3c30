-- A run of one sender's numbers: s+1, s+2, .. misses nothing, for as long as one likes and across the wrap, and what any run of Forwards
-- reports missing is the distance gone less the arrivals. Assumes nothing.
use Rattle.wire.proofs.Basics.{◌∙◌, sym, ◌≡◌, ap, refl, subst, ℕ, ◌≤◌, ◌+◌, ◌<◌, ◌-◌, suc, zero, ◌^◌, ◌%◌, List, [], ◌∷◌, map, true, length, get_or, take, set, replicate, length-set, length-take-le}
use Rattle.wire.proofs.Basics.{get_or-take, get_or-set_same, add-one, arith}
use lib.Seq.{set-get_or, take-suc-set}
use Rattle.wire.specs.Sum.{sum}
use Rattle.watch.specs.declared.Watch.{Watch}
use Rattle.watch.specs.Limits.{max_senders}
use Rattle.differences.specs.Limits.{most_late}
use Rattle.differences.specs.Noted.{Noted, first, forward, restarted, moves}
use Rattle.differences.specs.Difference.{difference, told}
use Rattle.watch.specs.Senders.{empty, place, sender_place, moved}
use Rattle.watch.specs.Watching.{asked, after}
use Rattle.watch.specs.Runs.{answers, after_all, shown, distance, final, Counters, Steps, Whole, Last}
use Rattle.differences.proofs.Differences.{restarted-number, back_restarts, forward-distance, step-told, cons-eq}
use Rattle.watch.proofs.Places.{place_at_lem, place-new}
use Rattle.watch.proofs.WatchCases.{asked-known, asked-new, moved-known, moved_new, after-moves}

module _ {w : Watch} {sender s : ℕ} (last : Last w sender s) where
  -- what is asked of a sender that has a last number goes by the difference to it
  asked-last : (n : ℕ) → asked w sender n ≡ told n (difference n s)
  asked-last n =
      asked-known w sender n (sender_place w sender) last.sound refl last.known
      ∙ ap (λ (x : ℕ). told n (difference n x)) last.last

  stands : set w.senders (sender_place w sender) sender ≡ w.senders
  stands =
      let at = sender_place w sender in
      let long : length (take w.count w.senders) ≡ w.count = length-take-le w.count w.senders (omega (arith, last.sound, last.whole.senders)) in
      let is : get_or w.senders at 0 ≡ sender = sym (get_or-take w.count w.senders at 0 last.known) ∙ place_at_lem sender (take w.count w.senders) (omega (arith, last.known)) in
      ap (set w.senders at) (sym is) ∙ set-get_or w.senders at 0

  moved-last : (n : ℕ) → moved w sender n ≡ record { senders = w.senders; lasts = set w.lasts (sender_place w sender) n; count = w.count }
  moved-last n =
      moved-known w sender n (sender_place w sender) last.sound refl (omega (arith, last.sound, last.known)) last.known
      ∙ ap (λ (l : List ℕ). record { senders = l; lasts = set w.lasts (sender_place w sender) n; count = w.count }) stands

  -- where the watch moves, the last number is the new one
  after-moved : (n : ℕ) (answer : Noted) → n < 2 ^ 32 → asked w sender n ≡ answer → moves answer ≡ true → Last (after w sender n) sender n
  after-moved n answer h e m =
      subst (λ (v : Watch). Last v sender n) (sym (moved-last n) ∙ after-moves w sender n answer (sym e) m)
      (record {
        whole = record { senders = last.whole.senders; lasts = length-set w.lasts (sender_place w sender) n ∙ last.whole.lasts };
        sound = last.sound;
        known = last.known;
        last = get_or-set_same w.lasts (sender_place w sender) n 0 (omega (arith, last.known, last.sound, last.whole.lasts));
        counter = h;
      })

  after-forward : (n m : ℕ) → n < 2 ^ 32 → asked w sender n ≡ forward m → Last (after w sender n) sender n
  after-forward n m h e = after-moved n (forward m) h e refl

  -- after a restart the counter is followed from the new number, as after a first one
  pub after_restart : (n m : ℕ) → n < 2 ^ 32 → asked w sender n ≡ restarted m → (m ≡ n) × Last (after w sender n) sender n
  after_restart n m h e = (restarted-number n (difference n s) m (sym (asked-last n) ∙ e), after-moved n (restarted m) h e refl)

-- after a First the sender's last number is that number: it stands at the end of the list
pub after_first_lem : (w : Watch) (sender n : ℕ) → Whole w → w.count < max_senders → sender_place w sender ≡ w.count → n < 2 ^ 32
    → (asked w sender n ≡ first) × Last (after w sender n) sender n
after_first_lem w sender n whole room new h =
    let e : asked w sender n ≡ first = asked-new w sender n w.count (omega arith) (sym new) (omega arith) room in
    let long : length (take w.count w.senders) ≡ w.count = length-take-le w.count w.senders (omega (arith, whole.senders)) in
    let at : place sender (take (w.count + 1) (set w.senders w.count sender)) ≡ w.count =
    ap (λ (k : ℕ). place sender (take k (set w.senders w.count sender))) (add-one w.count)
    ∙ ap (place sender) (take-suc-set w.senders w.count sender (omega (arith, whole.senders)))
    ∙ place-new sender (take w.count w.senders) (new ∙ sym long)
    ∙ long in (
      e,
      subst (λ (v : Watch). Last v sender n) (sym (moved_new w sender n w.count (omega arith) (sym new) room (omega arith)) ∙ after-moves w sender n first (sym e) refl)
          (record {
            whole =
                record {
                  senders = length-set w.senders w.count sender ∙ whole.senders;
                  lasts = length-set w.lasts w.count n ∙ whole.lasts;
                };
            sound = omega arith;
            known = omega (arith, at);
            last =
                ap (λ (k : ℕ). get_or (set w.lasts w.count n) k 0) at
                ∙ get_or-set_same w.lasts w.count n 0 (omega (arith, whole.lasts));
            counter = h;
          }),
    )

-- ---- runs

-- A counter that goes forward by steps is reported step by step: each misses one less than it went.
pub forward-run : (w : Watch) (sender s : ℕ) (l : List ℕ) → Last w sender s → Steps l → answers w sender (shown s l) ≡ map (λ (d : ℕ). forward (d - 1)) l
forward-run w sender s [] last good = refl
forward-run w sender s (d ∷ l) last good =
    let n : ℕ = (s + d) % 2 ^ 32 in
    let e : asked w sender n ≡ forward (d - 1) = asked-last last n ∙ step-told s d last.counter good.0.0 good.0.1 in
    let t = forward-run (after w sender n) sender n l (after-forward last n (d - 1) (omega arith) e) good.1 in
    λ i. e i ∷ t i

ones_steps : (k : ℕ) → Steps (replicate k 1)
ones_steps zero = tt
ones_steps (suc k) = ((omega arith, omega arith), ones_steps k)

map_ones : (k : ℕ) → map (λ (d : ℕ). forward (d - 1)) (replicate k 1) ≡ replicate k (forward 0)
map_ones zero = refl
map_ones (suc k) = ap (λ (t : List Noted). forward 0 ∷ t) (map_ones k)

-- s+1, s+2, .. after s: Forward with 0 missing at each step, for any number of steps, the wrap included
pub none-missing : (w : Watch) (sender s k : ℕ) → Last w sender s → answers w sender (shown s (replicate k 1)) ≡ replicate k (forward 0)
none-missing w sender s k last = forward-run w sender s (replicate k 1) last (ones_steps k) ∙ map_ones k

-- The numbers of a run of Forwards, and what it reports missing.
pub record Gone (s : ℕ) (l missing : List ℕ) : Type 0 where
  pub sum-missing : sum missing ≡ distance s l - length l
  pub arrivals : length l ≤ distance s l
  pub arrived : (s + distance s l) % 2 ^ 32 ≡ final s l

gone-none : (s : ℕ) → s < 2 ^ 32 → Gone s [] []
unfolding sum
gone-none s h = record { sum-missing = refl; arrivals = omega arith; arrived = omega arith }

gone-more : (s n m : ℕ) (l missing : List ℕ) → s < 2 ^ 32 → n < 2 ^ 32 → (n + (2 ^ 32 - s)) % 2 ^ 32 ≡ suc m → Gone n l missing → Gone s (n ∷ l) (m ∷ missing)
unfolding sum
gone-more s n m l missing hs hn e g =
    record {
      sum-missing = omega (arith, g.sum-missing, g.arrivals);
      arrivals = omega (arith, g.arrivals);
      arrived = (let p : (s + ((n + (2 ^ 32 - s)) % 2 ^ 32 + distance n l)) % 2 ^ 32 ≡ (n + distance n l) % 2 ^ 32 = omega arith in p) ∙ g.arrived;
    }

-- Over any run of Forwards the sum of the missing is the distance gone less the arrivals, and the distance leads from the first last number
-- to the final one.
pub run-missing : (w : Watch) (sender s : ℕ) (l missing : List ℕ) → Last w sender s → Counters l → answers w sender l ≡ map forward missing → Gone s l missing
run-missing w sender s [] [] last good e = gone-none s last.counter
run-missing w sender s [] (m ∷ missing) last good e = absurd (let z : ◌≡◌ {A = ℕ} 0 1 = cc in omega arith)
run-missing w sender s (n ∷ l) [] last good e = absurd (let z : ◌≡◌ {A = ℕ} 0 1 = cc in omega arith)
run-missing w sender s (n ∷ l) (m ∷ missing) last good e =
    let p = cons-eq e in
    gone-more s n m l missing last.counter good.0 (forward-distance n s m (sym (asked-last last n) ∙ p.0))
    (run-missing (after w sender n) sender n l missing (after-forward last n m good.0 p.0) good.1 p.1)

-- A new watch, a sender's first number s and then s+1, s+2, ..: First, and nothing is missing.
pub from_the-first : (sender s k : ℕ) → s < 2 ^ 32 → answers empty sender (s ∷ shown s (replicate k 1)) ≡ first ∷ replicate k (forward 0)
from_the-first sender s k h =
    let f = after_first_lem empty sender s (record { senders = refl; lasts = refl }) (omega arith) refl h in
    λ i. f.0 i ∷ none-missing (after empty sender s) sender s k f.1 i

-- ---- across a restart

-- a counter that falls back by more than 1,024 and goes on from there: Restarted with the new number, and then nothing is missing
pub from_the_restart : (w : Watch) (sender s d k : ℕ) → Last w sender s → most_late < d → d ≤ 2 ^ 31
    → let n : ℕ = (s + (2 ^ 32 - d)) % 2 ^ 32 in answers w sender (n ∷ shown n (replicate k 1)) ≡ restarted n ∷ replicate k (forward 0)
from_the_restart w sender s d k last l h =
    let n : ℕ = (s + (2 ^ 32 - d)) % 2 ^ 32 in
    let e : asked w sender n ≡ restarted n = asked-last last n ∙ back_restarts s d last.counter l h in
    let t = none-missing (after w sender n) sender n k (after_restart last n n (omega arith) e).1 in
    λ i. e i ∷ t i

-- the watch follows a run of Forwards to its final number
pub run-last : (w : Watch) (sender s : ℕ) (l missing : List ℕ) → Last w sender s → Counters l → answers w sender l ≡ map forward missing → Last (after_all w sender l) sender (final s l)
run-last w sender s [] missing last good e = last
run-last w sender s (n ∷ l) [] last good e = absurd (let z : ◌≡◌ {A = ℕ} 0 1 = cc in omega arith)
run-last w sender s (n ∷ l) (m ∷ missing) last good e =
    let p = cons-eq e in
    run-last (after w sender n) sender n l missing (after-forward last n m good.0 p.0) good.1 p.1

-- Forwards, a restart at n, Forwards: what is reported missing on either side is the distance gone there less the arrivals; the way back
-- is reported by nobody.
pub across_restart : (w : Watch) (sender s n m : ℕ) (l k before behind : List ℕ) → Last w sender s → Counters l → n < 2 ^ 32 → Counters k
    → answers w sender l ≡ map forward before → asked (after_all w sender l) sender n ≡ restarted m
    → answers (after (after_all w sender l) sender n) sender k ≡ map forward behind → (Gone s l before × Gone n k behind) × (m ≡ n)
across_restart w sender s n m l k before behind last good h more a r b =
    let v : Watch = after_all w sender l in
    let there = after_restart (run-last w sender s l before last good a) n m h r in
    ((run-missing w sender s l before last good a, run-missing (after v sender n) sender n k behind there.1 more b), there.0)
