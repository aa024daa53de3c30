-- Runs of packets of one session: nothing is missing where nothing was left out, and what is missing is what was left out. Assumes nothing.
use Rattle.wire.proofs.Basics.{◌∙◌, sym, ◌≡◌, ap, refl, subst, ℕ, ◌+◌, suc, zero, ◌^◌, ◌%◌, List, [], ◌∷◌, map, true, length, replicate, arith}
use Rattle.wire.specs.Same.{same}
use Rattle.wire.specs.Sum.{sum}
use Rattle.wire.proofs.Parts.{same_refl}
use Rattle.differences.specs.Noted.{Noted, first, forward, restarted, moves}
use Rattle.differences.specs.Difference.{difference, told}
use Rattle.differences.proofs.Differences.{restarted-number, step-told, forward-distance, cons-eq}
use Rattle.moss.specs.Packet.{gives, Packet, packet_of}
use Rattle.gauge_watch.specs.Heard.{Gauge}
use Rattle.gauge_watch.specs.Heard.{noted_of, moved_to, asked, after}
use Rattle.gauge_watch.specs.Runs.{noted_all, Expects, Follows, next_after, LeavesOut, done, next, Carries, none, more}
use Rattle.gauge_watch.proofs.Hears.{noted-same, after-moves}

-- ---- one packet

-- after a packet that moves the gauge, the message after it is expected
pub expects-next : (p : Packet) → Expects (moved_to p) p.session (next_after p)
expects-next p = record { started = refl; session = refl; counter = omega arith; next = omega arith }

module _ {g : Gauge} {s : List ℕ} {e : ℕ} (at : Expects g s e) where
  -- a packet of the session goes by the difference to the last number
  asked-same : (b : List ℕ) (p : Packet) → packet_of b ≡ gives p → p.session ≡ s → asked g (packet_of b) ≡ told p.sequence (difference p.sequence g.last)
  asked-same b p r f =
      let q : same p.session g.session ≡ true = ap (λ (l : List ℕ). same l g.session) (f ∙ sym at.session) ∙ same_refl g.session in
      ap (asked g) r ∙ noted-same g p at.started q

  -- where the watch moves, the message after it is expected next
  after-moved : (b : List ℕ) (p : Packet) (answer : Noted) → packet_of b ≡ gives p → p.session ≡ s → asked g (packet_of b) ≡ answer → moves answer ≡ true
      → Expects (after g (packet_of b)) s (next_after p)
  after-moved b p answer r f n m =
      let t : after g (packet_of b) ≡ moved_to p = ap (after g) r ∙ after-moves g p (ap moves (sym (ap (asked g) r) ∙ n) ∙ m) in
      subst (λ (x : Gauge). Expects x s (next_after p)) (sym t) (subst (λ (l : List ℕ). Expects (moved_to p) l (next_after p)) f (expects-next p))

  after-forward : (b : List ℕ) (p : Packet) (m : ℕ) → packet_of b ≡ gives p → p.session ≡ s → asked g (packet_of b) ≡ forward m
      → Expects (after g (packet_of b)) s (next_after p)
  after-forward b p m r f n = after-moved b p (forward m) r f n refl

  -- a restart is told with the packet's sequence, and the message after it is expected next, as after a First
  pub after_restart : (b : List ℕ) (p : Packet) (m : ℕ) → packet_of b ≡ gives p → p.session ≡ s → asked g (packet_of b) ≡ restarted m
      → (m ≡ p.sequence) × Expects (after g (packet_of b)) s (next_after p)
  after_restart b p m r f n =
      (restarted-number p.sequence (difference p.sequence g.last) m (sym (asked-same b p r f) ∙ n), after-moved b p (restarted m) r f n refl)

  -- x messages left out are reported as x missing
  follows-forward : {x : ℕ} {b : List ℕ} → Follows s e x b → asked g (packet_of b) ≡ forward x
  follows-forward {x} {b} f =
      let last = g.last in
      let n : f.packet.sequence ≡ (last + (x + 1)) % 2 ^ 32 = f.sequence ∙ (let z : (e + x) % 2 ^ 32 ≡ (last + (x + 1)) % 2 ^ 32 = omega (arith, at.next) in z) in
      asked-same b f.packet f.reads f.session
      ∙ ap (λ (q : ℕ). told q (difference q last)) n
      ∙ step-told last (x + 1) at.counter (omega arith) (omega (arith, f.few))
      ∙ ap forward (omega arith)

-- ---- runs

left-out-by : (s : List ℕ) (e : ℕ) (g : Gauge) (xs : List ℕ) (bs : List (List ℕ)) → Expects g s e → LeavesOut s e xs bs → noted_all g bs ≡ map forward xs
left-out-by s e g xs bs at done = refl
left-out-by s e g xs bs at (next {x = x} {xs = ys} {b = b} {bs = cs} f l) =
    let n = follows-forward at f in
    let t = left-out-by s (next_after f.packet) (after g (packet_of b)) ys cs (after-forward at b f.packet x f.reads f.session n) l in
    λ i. n i ∷ t i

-- over a run of packets of one session, what is reported missing before each is what was left out before it
pub left_out : (g : Gauge) (s : List ℕ) (e : ℕ) (xs : List ℕ) (bs : List (List ℕ)) → Expects g s e → LeavesOut s e xs bs → noted_all g bs ≡ map forward xs
left_out g s e xs bs at l = left-out-by s e g xs bs at l

map-none : (k : ℕ) → map forward (replicate k 0) ≡ replicate k (forward 0)
map-none zero = refl
map-none (suc k) = ap (λ (t : List Noted). forward 0 ∷ t) (map-none k)

-- a run that goes on, each packet's sequence the one before plus its count, heartbeats included and across the wrap: nothing is missing
pub nothing-missing : (g : Gauge) (s : List ℕ) (e k : ℕ) (bs : List (List ℕ)) → Expects g s e → LeavesOut s e (replicate k 0) bs → noted_all g bs ≡ replicate k (forward 0)
nothing-missing g s e k bs at l = left_out g s e (replicate k 0) bs at l ∙ map-none k

-- a packet that moves the gauge, First, Forward or Restarted alike, and what follows it: each is followed as after a First
pub from-moved : (g : Gauge) (b : List ℕ) (p : Packet) (answer : Noted) (xs : List ℕ) (bs : List (List ℕ)) → packet_of b ≡ gives p → noted_of g p ≡ answer
    → moves answer ≡ true → LeavesOut p.session (next_after p) xs bs → noted_all g (b ∷ bs) ≡ answer ∷ map forward xs
from-moved g b p answer xs bs r n m l =
    let t : after g (packet_of b) ≡ moved_to p = ap (after g) r ∙ after-moves g p (ap moves n ∙ m) in
    let at : Expects (after g (packet_of b)) p.session (next_after p) = subst (λ (x : Gauge). Expects x p.session (next_after p)) (sym t) (expects-next p) in
    let q : asked g (packet_of b) ≡ answer = ap (asked g) r ∙ n in
    let u = left_out (after g (packet_of b)) p.session (next_after p) xs bs at l in
    λ i. q i ∷ u i

-- a packet of another session, or the first of all, is First, and what follows it is followed
pub from_first_lem : (g : Gauge) (b : List ℕ) (p : Packet) (xs : List ℕ) (bs : List (List ℕ)) → packet_of b ≡ gives p → noted_of g p ≡ first
    → LeavesOut p.session (next_after p) xs bs → noted_all g (b ∷ bs) ≡ first ∷ map forward xs
from_first_lem g b p xs bs r n l = from-moved g b p first xs bs r n refl l

-- across a restart: Restarted with the packet's sequence, and then what was left out, as after a First
pub from_restart : (g : Gauge) (b : List ℕ) (p : Packet) (m : ℕ) (xs : List ℕ) (bs : List (List ℕ)) → packet_of b ≡ gives p → noted_of g p ≡ restarted m
    → LeavesOut p.session (next_after p) xs bs → noted_all g (b ∷ bs) ≡ restarted m ∷ map forward xs
from_restart g b p m xs bs r n l = from-moved g b p (restarted m) xs bs r n refl l

-- Over any run of Forwards what is missing and what is carried add up to the way from the number first expected to the last one.
pub run-missing : (g : Gauge) (s : List ℕ) (e : ℕ) (bs : List (List ℕ)) (n final : ℕ) (missing : List ℕ) → Expects g s e → Carries s e bs n final
    → noted_all g bs ≡ map forward missing → (e + (sum missing + n)) % 2 ^ 32 ≡ final
unfolding sum
run-missing g s e bs n final [] at none q = omega (arith, at.next)
run-missing g s e bs n final (m ∷ ms) at none q = absurd (let z : ◌≡◌ {A = ℕ} 0 1 = cc in omega arith)
run-missing g s e bs n final [] at (more p r f h l) q = absurd (let z : ◌≡◌ {A = ℕ} 0 1 = cc in omega arith)
run-missing g s e bs n final (m ∷ ms) at (more {n = k} {b = b} {bs = cs} p r f h l) q =
    let a = cons-eq q in
    let d = forward-distance p.sequence g.last m (sym (asked-same at b p r f) ∙ a.0) in
    let t = run-missing (after g (packet_of b)) s (next_after p) cs k final ms (after-forward at b p m r f a.0) l a.1 in
    (let z : (e + (m + sum ms + (length p.messages + k))) % 2 ^ 32 ≡ (next_after p + (sum ms + k)) % 2 ^ 32 = omega (arith, d, at.next, at.counter) in z) ∙ t
