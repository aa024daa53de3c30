-- The whole input in a buffer. Assumes nothing.
use Rattle.wire.proofs.Basics.{sym, ◌≡◌, refl, subst, ℕ, ◌≤◌, List, ◌++◌, length, take, length-append, length-take-le, take_at, arith}
use Rattle.stream.specs.Whole.{Held, Exceeds}
use Rattle.stream.specs.InsideWindows.{Grown}

pub held_all_lem : {before after : List ℕ} {k : ℕ} → Grown before 0 after k → Held (length before) after k
held_all_lem {before} {after} {k} g =
    record { came = take k after; front = refl; size = sym (length-take-le k after g.within); fits = omega (arith, g.within, g.same_length) }

-- the buffer is full, and a byte or more came after it
pub exceeds : {before after small more : List ℕ} {j : ℕ} → Grown before 0 after (length before) → Grown small 0 more j → (j ≡ 0 → ⊥) → Exceeds (length before) after
exceeds {before} {after} {small} {more} {j} g m z =
    record {
      came = after ++ take j more;
      front = sym (take_at after (take j more) (length before) g.same_length);
      more = omega (arith, length-append after (take j more), length-take-le j more m.within, g.same_length);
    }

-- the same, where the last place is told to be the length or more
pub exceeds_full : {before after small more : List ℕ} {n j : ℕ} → Grown before 0 after n → length before ≤ n → Grown small 0 more j → (j ≡ 0 → ⊥) → Exceeds (length before) after
exceeds_full {before} {after} {small} {more} {n} {j} f o m z =
    let e : n ≡ length before = omega (arith, f.within, f.same_length) in
    exceeds (subst (λ (k : ℕ). Grown before 0 after k) e f) m z
