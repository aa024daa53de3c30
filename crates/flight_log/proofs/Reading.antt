-- The reader's answers by its branches, and what they say in the paper's values. Assumes nothing.
use Rattle.wire.proofs.Basics.{◌∙◌, ◌≡◌, ap, refl, ℕ, ◌≤◌, ◌+◌, ◌<◌, ◌-◌, List, [], ◌∷◌, length, drop, get_or, take, length-drop, drop_of_length-le, length-take-le, eq-eqb, le-ltb, ne_eqb, lt-ltb}
use Rattle.wire.proofs.Basics.{arith}
use Rattle.wire.specs.Taken.{Taken, taken, refused}
use Rattle.varint.specs.Seven.{seven_in}
use Rattle.datagram.specs.Limits.{max_datagram, max_payload, max_fragments}
use Rattle.flight_log.specs.Editions.{Edition, edition1, first_byte, second_byte, limited, limit_in, head_in, limits_to, limits_of, limits_in_lem}
use Rattle.flight_log.specs.Listed.{datagram_in, length_in, tick_in, entry_in}
use Rattle.flight_log.specs.Said.{first_of, first_in, step_of, step_in, next_at, read_at}
use Rattle.flight_log.specs.declared.reader.Limits.{Limits}
use Rattle.flight_log.specs.First as first
use Rattle.flight_log.specs.Step.{Found, End, Refused}

-- ---- the head

pub first-empty : (log : List ℕ) → length log < 1 → first_in log ≡ first.Refused 43
unfolding head_in
first-empty [] h = refl
first-empty (x ∷ b) h = absurd (let z : ⊥ = omega arith in z)

pub first_one : (log : List ℕ) → 1 ≤ length log → get_or log 0 0 ≡ first_byte → first_in log ≡ first.At 1 (limits_of edition1)
unfolding head_in
first_one [] h e = absurd (let z : ⊥ = omega arith in z)
first_one (x ∷ b) h e = rw (eq-eqb x first_byte e) (ap (λ (at : ℕ). first.At at (limits_of edition1)) (omega arith))

pub first_two : (log : List ℕ) → 1 ≤ length log → (get_or log 0 0 ≡ first_byte → ⊥) → get_or log 0 0 ≡ second_byte → first_in log ≡ first_of log (limit_in (drop 1 log))
unfolding head_in
first_two [] h n e = absurd (let z : ⊥ = omega arith in z)
first_two (x ∷ b) h n e = rw (ne_eqb x first_byte n, eq-eqb x second_byte e) refl

pub first-other : (log : List ℕ) → 1 ≤ length log → (get_or log 0 0 ≡ first_byte → ⊥) → (get_or log 0 0 ≡ second_byte → ⊥) → first_in log ≡ first.Refused 40
unfolding head_in
first-other [] h n e = absurd (let z : ⊥ = omega arith in z)
first-other (x ∷ b) h n e = rw (ne_eqb x first_byte n, ne_eqb x second_byte e) refl

-- the limit of edition 2

pub limited-over : (log : List ℕ) (at limit : ℕ) → max_payload < limit → first_of log (limited limit (drop at log)) ≡ first.Refused 45
unfolding limited
limited-over log at limit h = rw (lt-ltb max_payload limit h) refl

pub limited-good : (log : List ℕ) (at limit : ℕ) → limit ≤ max_payload → at ≤ length log → first_of log (limited limit (drop at log)) ≡ first.At at (limits_to limit max_fragments)
unfolding limited
limited-good log at limit h l =
    let e : length log - length (drop at log) ≡ at = rw length-drop (omega arith) in
    rw (le-ltb max_payload limit h, e) refl

pub limit-follows : (b c : List ℕ) (limit : ℕ) → seven_in b ≡ taken limit c → limit_in b ≡ limited limit c
unfolding limit_in
limit-follows b c limit e = rw e refl

pub limit-refused : (b : List ℕ) (n : ℕ) → seven_in b ≡ refused n → limit_in b ≡ refused n
unfolding limit_in
limit-refused b n e = rw e refl

-- the limits that are told with the place are the log's

pub limits-told : (log : List ℕ) (at : ℕ) (l : Limits) → first_in log ≡ first.At at l → l ≡ limits_in_lem log
limits-told log at l e = by-head (head_in log) refl e
  where
    by-head : (t : Taken Edition) → head_in log ≡ t → first_of log t ≡ first.At at l → l ≡ limits_in_lem log
    by-head (refused n) p q = absurd (let z : ◌≡◌ {A = ℕ} 0 1 = cc in omega arith)
    by-head (taken v b) p q = let m : l ≡ limits_of v = cc in rw (p, m) refl

pub limits-none : (log : List ℕ) (n : ℕ) → first_in log ≡ first.Refused n → limits_to 0 0 ≡ limits_in_lem log
limits-none log n e = by-head (head_in log) refl e
  where
    by-head : (t : Taken Edition) → head_in log ≡ t → first_of log t ≡ first.Refused n → limits_to 0 0 ≡ limits_in_lem log
    by-head (refused m) p q = rw p refl
    by-head (taken v b) p q = absurd (let z : ◌≡◌ {A = ℕ} 0 1 = cc in omega arith)

-- ---- the datagram of an entry

module _ (log : List ℕ) (at s t n : ℕ) where
  pub datagram-long : max_datagram < n → step_of log (datagram_in s t n (drop at log)) ≡ Refused 42
  unfolding datagram_in
  datagram-long h = rw (lt-ltb max_datagram n h) refl

  pub datagram-cut : n ≤ max_datagram → length log - at < n → step_of log (datagram_in s t n (drop at log)) ≡ Refused 43
  unfolding datagram_in
  datagram-cut h l =
      let m : length (drop at log) < n = rw length-drop l in
      rw (le-ltb max_datagram n h, lt-ltb (length (drop at log)) n m) refl

  pub datagram-found : n ≤ max_datagram → at ≤ length log → n ≤ length log - at
      → step_of log (datagram_in s t n (drop at log)) ≡ Found (record { sender = s; tick = t; at = at; len = n; next = at + n })
  unfolding datagram_in
  datagram-found h a l =
      let m : n ≤ length (drop at log) = rw length-drop l in
      let size : length (take n (drop at log)) ≡ n = length-take-le n (drop at log) m in
      let left : length (drop n (drop at log)) ≡ length log - at - n = length-drop n (drop at log) ∙ rw length-drop refl in
      let next : length log - (length log - at - n) ≡ at + n = omega arith in
      let place : at + n - n ≡ at = omega arith in
      rw (le-ltb max_datagram n h, le-ltb (length (drop at log)) n m, size, left, next, place) refl

-- ---- a number and what comes after it

pub length-follows : (b c : List ℕ) (s t n : ℕ) → seven_in b ≡ taken n c → length_in s t b ≡ datagram_in s t n c
unfolding length_in
length-follows b c s t n e = rw e refl

pub tick-follows : (b c : List ℕ) (s t : ℕ) → seven_in b ≡ taken t c → tick_in s b ≡ length_in s t c
unfolding tick_in
tick-follows b c s t e = rw e refl

pub entry_follows : (b c : List ℕ) (s : ℕ) → seven_in b ≡ taken s c → entry_in b ≡ tick_in s c
unfolding entry_in
entry_follows b c s e = rw e refl

pub length-refused : (b : List ℕ) (s t n : ℕ) → seven_in b ≡ refused n → length_in s t b ≡ refused n
unfolding length_in
length-refused b s t n e = rw e refl

pub tick-refused : (b : List ℕ) (s n : ℕ) → seven_in b ≡ refused n → tick_in s b ≡ refused n
unfolding tick_in
tick-refused b s n e = rw e refl

pub entry-refused : (b : List ℕ) (n : ℕ) → seven_in b ≡ refused n → entry_in b ≡ refused n
unfolding entry_in
entry-refused b n e = rw e refl

-- ---- a place

pub next-end : (log : List ℕ) (at : ℕ) → length log ≤ at → next_at log at ≡ End
unfolding next_at
next-end log at h = rw (drop_of_length-le log h) refl

step-here : (log b : List ℕ) → 1 ≤ length b → step_in log b ≡ step_of log (entry_in b)
step-here log [] h = absurd (let z : ⊥ = omega arith in z)
step-here log (x ∷ b) h = refl

pub next_here : (log : List ℕ) (at : ℕ) → at < length log → next_at log at ≡ step_of log (entry_in (drop at log))
unfolding next_at
next_here log at h = step-here log (drop at log) (rw length-drop (omega arith))

-- ---- the open reader

pub read-on : (log : List ℕ) (at : ℕ) → (at ≡ 0 → ⊥) → read_at log at ≡ next_at log at
unfolding read_at
read-on log at n = rw (ne_eqb at 0 n) refl

pub read_first : (log : List ℕ) (at place : ℕ) (l : Limits) → at ≡ 0 → first_in log ≡ first.At place l → read_at log at ≡ next_at log place
unfolding read_at
read_first log at place l z e = rw (z, e) refl

pub read-refused : (log : List ℕ) (at n : ℕ) → at ≡ 0 → first_in log ≡ first.Refused n → read_at log at ≡ Refused n
unfolding read_at
read-refused log at n z e = rw (z, e) refl
