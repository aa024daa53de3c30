-- The totals with one answer more. Assumes nothing.
use Rattle.wire.proofs.Basics.{◌∙◌, sym, ◌≡◌, ap, refl, ℕ, ◌≤◌, ◌+◌, ◌<◌, suc, zero, ◌^◌, List, [], ◌∷◌, ◌++◌, true, false, Bool, length, get_or, arith}
use Rattle.steps.specs.Receive.{Answer, Refused, Kept, Repeat, Delivered}
use Rattle.steps.specs.Search.{one}
use Rattle.steps.specs.Answers.{Reply, refused_by, kept, repeat, reply}
use Rattle.words.specs.Builds.{build}
use Rattle.count_rules.specs.Run.{is_kept, is_repeat, is_delivered, is_refused, how_many, refusals}
use Rattle.count_rules.proofs.Steps.{how_many-more, refused-more, refused-stay}
use Rattle.stretch.specs.declared.Totals.{Totals}
use Rattle.stretch.specs.Stretch.{totals_of}
use Rattle.stretch.specs.Inside.{told_of, with_lists, Few}

pub lists-stay : (t : Totals) (a : Answer) → (told_of t a).lists ≡ t.lists
lists-stay t (Refused k) = refl
lists-stay t Kept = refl
lists-stay t Repeat = refl
lists-stay t (Delivered p n) = refl

-- no list more
pub no_more : (t : Totals) → with_lists t 0 ≡ t
no_more t = let z : t.lists + 0 ≡ t.lists = omega arith in λ i. record { kept = t.kept; repeated = t.repeated; delivered = t.delivered; refused = t.refused; lists = z i }

-- a column of the totals
more : (p : Reply → Bool) (rs : List Reply) (r : Reply) (b : Bool) → p r ≡ b → how_many p (rs ++ r ∷ []) ≡ how_many p rs + one b
more p rs r b e = how_many-more p rs r ∙ ap (λ (x : Bool). how_many p rs + one x) e

same : (p : Reply → Bool) (rs : List Reply) (r : Reply) → p r ≡ false → how_many p (rs ++ r ∷ []) ≡ how_many p rs
same p rs r e = more p rs r false e ∙ omega arith

pub told_more : (rs : List Reply) (n : ℕ) (d store : List ℕ) (a : Answer) → ((k : ℕ) → a ≡ Refused k → k < refusals)
    → told_of (totals_of rs n) a ≡ totals_of (rs ++ reply d store a ∷ []) n
told_more rs n d store (Refused k) f = λ i. record {
  kept = sym (same is_kept rs (refused_by k) refl) i;
  repeated = sym (same is_repeat rs (refused_by k) refl) i;
  delivered = sym (same is_delivered rs (refused_by k) refl) i;
  refused = sym (refused-more rs k (f k refl)) i;
  lists = n;
}
told_more rs n d store Kept f = λ i. record {
  kept = sym (more is_kept rs kept true refl) i;
  repeated = sym (same is_repeat rs kept refl) i;
  delivered = sym (same is_delivered rs kept refl) i;
  refused = sym (refused-stay rs kept (λ k. refl)) i;
  lists = n;
}
told_more rs n d store Repeat f = λ i. record {
  kept = sym (same is_kept rs repeat refl) i;
  repeated = sym (more is_repeat rs repeat true refl) i;
  delivered = sym (same is_delivered rs repeat refl) i;
  refused = sym (refused-stay rs repeat (λ k. refl)) i;
  lists = n;
}
told_more rs n d store (Delivered p k) f = λ i. record {
  kept = sym (same is_kept rs (reply d store (Delivered p k)) refl) i;
  repeated = sym (same is_repeat rs (reply d store (Delivered p k)) refl) i;
  delivered = sym (more is_delivered rs (reply d store (Delivered p k)) true refl) i;
  refused = sym (refused-stay rs (reply d store (Delivered p k)) (λ k. refl)) i;
  lists = n;
}

-- so few answers, so few of each
one-most : (b : Bool) → one b ≤ 1
one-most true = omega arith
one-most false = omega arith

build-below : (n m : ℕ) (f : ℕ → ℕ) → ((i : ℕ) → f i < m) → 0 < m → (k : ℕ) → get_or (build n f) k 0 < m
build-below zero m f h o k = o
build-below (suc n) m f h o zero = h 0
build-below (suc n) m f h o (suc k) = build-below n m (λ i. f (suc i)) (λ i. h (suc i)) o k

few-pass : (p : Reply → Bool) (rs : List Reply) → how_many p rs ≤ length rs
unfolding how_many
few-pass p [] = omega arith
few-pass p (r ∷ rs) = let i : how_many p rs ≤ length rs = few-pass p rs in let o : one (p r) ≤ 1 = one-most (p r) in omega arith

pub few : (rs : List Reply) (n : ℕ) → length rs + 1 < 2 ^ 64 → n + 1 < 2 ^ 64 → Few (totals_of rs n)
few rs n o m = record {
  kept = omega (arith, few-pass is_kept rs);
  repeated = omega (arith, few-pass is_repeat rs);
  delivered = omega (arith, few-pass is_delivered rs);
  refused = λ k. omega (arith, build-below refusals (length rs + 1) (λ k. how_many (is_refused k) rs) (λ k. omega (arith, few-pass (is_refused k) rs)) (omega arith) k);
  lists = m;
}
