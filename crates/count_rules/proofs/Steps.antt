-- For the code: what one more mark, one more list and one more answer does to the sets and to the counts. Assumes nothing.
use Rattle.wire.proofs.Basics.{◌∙◌, sym, ◌≡◌, ap, refl, subst, ℕ, ◌≤◌, ◌+◌, ◌<◌, suc, zero, List, [], ◌∷◌, ◌++◌, append_assoc, map, true, false, Bool, inl, inr, ◌≢◌, length, get_or, set, eq-eqb, ne_eqb}
use Rattle.wire.proofs.Basics.{arith}
use mathlib.Core.List.{map-append}
use Rattle.words.specs.Builds.{build}
use Rattle.words.proofs.Builds.{get_or-build}
use Rattle.steps.specs.Search.{one}
use Rattle.steps.specs.Answers.{Reply, refused_by}
use Rattle.sorted_set.specs.Lists.{In, gather, enter, rising}
use Rattle.sorted_set.proofs.Members.{in_left, in_right, in_either, gather_append}
use Rattle.sorted_set.proofs.Rises.{rising-more, distinct-fewer}
use Rattle.count_rules.specs.Marks.{Mark, PitList, mark_length, mark_at, marks_in}
use Rattle.count_rules.specs.Report.{pit_of_lem, pit_if_sure}
use Rattle.count_rules.specs.Run.{is_refused, how_many, refusals, refused_in}
use Rattle.count_rules.specs.Keys.{pit_key, keys_by, pit_keys, sure_keys}

-- ---- one list more

abbrev pub list_of : ℕ → List Mark → PitList
list_of t ms = record { tile = t; marks = ms }

module _ (t : ℕ) (ls : List PitList) where
  -- mark by mark, in the order of the list: what h takes of a mark comes behind
  keys-append : (h : Mark → List ℕ) (ms ns : List Mark) → keys_by h (list_of t (ms ++ ns) ∷ ls) ≡ map (pit_key t) (gather h ms) ++ keys_by h (list_of t ns ∷ ls)
  keys-append h ms ns =
      ap (λ (l : List ℕ). map (pit_key t) l ++ keys_by h ls) (gather_append h ms ns)
      ∙ ap (λ (l : List ℕ). l ++ keys_by h ls) (map-append (pit_key t) (gather h ms) (gather h ns))
      ∙ append_assoc (map (pit_key t) (gather h ms)) (map (pit_key t) (gather h ns)) (keys_by h ls)

  -- a mark's pit is entered
  pub pits-more : (ms : List Mark) (m : Mark) → rising (pit_keys (list_of t (ms ++ m ∷ []) ∷ ls)) ≡ enter (pit_key t m.pit) (rising (pit_keys (list_of t ms ∷ ls)))
  pits-more ms m = ap rising (keys-append pit_of_lem ms (m ∷ [])) ∙ rising-more (pit_key t m.pit) (map (pit_key t) (gather pit_of_lem ms)) (pit_keys ls)

  -- among the sure ones if it is sure
  pub sure-more : (ms : List Mark) (m : Mark) → m.sure ≡ true → rising (sure_keys (list_of t (ms ++ m ∷ []) ∷ ls)) ≡ enter (pit_key t m.pit) (rising (sure_keys (list_of t ms ∷ ls)))
  sure-more ms m e =
      ap rising (keys-append pit_if_sure ms (m ∷ []) ∙ rw e)
      ∙ rising-more (pit_key t m.pit) (map (pit_key t) (gather pit_if_sure ms)) (sure_keys ls)

  pub unsure-stay : (ms : List Mark) (m : Mark) → m.sure ≡ false → sure_keys (list_of t (ms ++ m ∷ []) ∷ ls) ≡ sure_keys (list_of t ms ∷ ls)
  unsure-stay ms m e = keys-append pit_if_sure ms (m ∷ []) ∙ rw e

  -- the first marks of a list have no more keys than all of them
  pub keys-fewer : (h : Mark → List ℕ) (ms ns : List Mark) → length (rising (keys_by h (list_of t ms ∷ ls))) ≤ length (rising (keys_by h (list_of t (ms ++ ns) ∷ ls)))
  keys-fewer h ms ns = distinct-fewer (keys_by h (list_of t ms ∷ ls)) (keys_by h (list_of t (ms ++ ns) ∷ ls)) (λ z i.
      subst (λ (l : List ℕ). In z l) (sym (keys-append h ms ns))
      (elim (in_either z (map (pit_key t) (gather h ms)) (keys_by h ls) i) [
        | inl k ↦ in_left z (map (pit_key t) (gather h ms)) (keys_by h (list_of t ns ∷ ls)) k
        | inr k ↦ in_right z (map (pit_key t) (gather h ms)) (keys_by h (list_of t ns ∷ ls)) (in_right z (map (pit_key t) (gather h ns)) (keys_by h ls) k)
      ]))

-- ---- one mark more, of the numbers of a list

-- past the end of the numbers there are no marks
pub marks-none : (two : Bool) (n : ℕ) → marks_in two n [] ≡ []
unfolding marks_in mark_at mark_length
marks-none two zero = refl
marks-none two (suc n) = marks-none two n

-- ---- one answer more

pub how_many-append : (p : Reply → Bool) (rs qs : List Reply) → how_many p (rs ++ qs) ≡ how_many p rs + how_many p qs
unfolding how_many
how_many-append p [] qs = omega arith
how_many-append p (r ∷ rs) qs = rw (how_many-append p rs qs) (omega arith)

pub how_many-more : (p : Reply → Bool) (rs : List Reply) (r : Reply) → how_many p (rs ++ r ∷ []) ≡ how_many p rs + one (p r)
unfolding how_many
how_many-more p rs r = rw (how_many-append p rs (r ∷ [])) (omega arith)

build-same : (n : ℕ) (f g : ℕ → ℕ) → ((k : ℕ) → g k ≡ f k) → build n g ≡ build n f
build-same zero f g e = refl
build-same (suc n) f g e = λ j. e 0 j ∷ build-same n (λ k. f (suc k)) (λ k. g (suc k)) (λ k. e (suc k)) j

-- all but one the same
build-set : (n : ℕ) (f g : ℕ → ℕ) (i : ℕ) → i < n → ((k : ℕ) → k ≢ i → g k ≡ f k) → build n g ≡ set (build n f) i (g i)
build-set zero f g i b e = absurd (let z : ⊥ = omega arith in z)
build-set (suc n) f g zero b e = ap (λ (l : List ℕ). g 0 ∷ l) (build-same n (λ k. f (suc k)) (λ k. g (suc k)) (λ k. e (suc k) (λ q. let z : ⊥ = omega arith in z)))
build-set (suc n) f g (suc i) b e = λ j.
    e 0 (λ q. let z : ⊥ = omega arith in z) j ∷ build-set n (λ k. f (suc k)) (λ k. g (suc k)) i (omega arith) (λ k q. e (suc k) (λ r. q (omega arith))) j

-- a refusal by n counts at place n
pub refused-more : (rs : List Reply) (n : ℕ) → n < refusals → refused_in (rs ++ refused_by n ∷ []) ≡ set (refused_in rs) n (get_or (refused_in rs) n 0 + 1)
refused-more rs n b =
    let f : ℕ → ℕ = λ k. how_many (is_refused k) rs in
    let g : ℕ → ℕ = λ k. how_many (is_refused k) (rs ++ refused_by n ∷ []) in
    build-set refusals f g n b (λ k q. how_many-more (is_refused k) rs (refused_by n) ∙ rw (ne_eqb n k (λ r. q (sym r))) (omega arith))
    ∙ ap (λ (v : ℕ). set (refused_in rs) n v)
    (how_many-more (is_refused n) rs (refused_by n) ∙ rw (eq-eqb n n refl) (ap (λ (v : ℕ). v + 1) (sym (get_or-build refusals f n 0 b))))

-- another answer at none
pub refused-stay : (rs : List Reply) (r : Reply) → ((k : ℕ) → is_refused k r ≡ false) → refused_in (rs ++ r ∷ []) ≡ refused_in rs
refused-stay rs r e =
    build-same refusals (λ k. how_many (is_refused k) rs) (λ k. how_many (is_refused k) (rs ++ r ∷ [])) (λ k. how_many-more (is_refused k) rs r ∙ rw (e k) (omega arith))
