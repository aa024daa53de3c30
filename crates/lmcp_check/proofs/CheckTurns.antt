-- How the walk that checks goes on, in places. Assumes nothing.
use Rattle.wire.proofs.Basics.{◌∙◌, sym, ◌≡◌, ap, refl, subst, ℕ, ◌≤◌, ◌+◌, ◌<◌, ◌-◌, List, [], ◌∷◌, ◌++◌, append-nil, length, drop, ℤ}
use Rattle.std.proofs.Common.{Result, Ok, Err}
use Rattle.refusals.specs.declared.Refusal.{Refusal}
use Rattle.refusals.specs.Numbers.{number_of}
use Rattle.lmcp.specs.declared.Row.{Row}
use Rattle.lmcp.specs.Run.{got, refused, Tag, tag, prepend, and_then, after, repeat}
use Rattle.lmcp.specs.Read.{Read}
use Rattle.lmcp.specs.Walk.{Way, field, fields}
use Rattle.lmcp.proofs.WalkPlaces.{prepend-nil, prepend-append, repeat-more, repeat-end}
use Rattle.lmcp.proofs.RunParts.{then-nil}
use Rattle.lmcp_check.specs.InsideChecks.{Upto, Checks}

pub begins : {s : List ℕ} {X : Read} (rest : List ℕ → Read) (p : ℕ) → X ≡ rest (drop p s) → p ≤ length s → Upto s X rest p
begins rest p e w = record { ys = []; whole = e ∙ sym (prepend-nil _); within = w }

module _ {s : List ℕ} {X : Read} {rest : List ℕ → Read} {p : ℕ} (h : Upto s X rest p) where
  pub next : {Y : Read} (rest' : List ℕ → Read) {q : ℕ} → rest (drop p s) ≡ and_then Y rest' → Upto s Y (got []) q → Upto s X rest' q
  unfolding prepend and_then
  next rest' {q} e g =
      record {
        ys = h.ys ++ g.ys;
        whole =
            h.whole
            ∙ ap (prepend h.ys) (e ∙ ap (λ (Y : Read). and_then Y rest') g.whole ∙ ap (λ (l : List ℤ). prepend l (rest' (drop q s))) (append-nil g.ys))
            ∙ sym (prepend-append h.ys g.ys (rest' (drop q s)));
        within = g.within;
      }

  pub next-stops : {Y : Read} (rest' : List ℕ → Read) (n : ℕ) → rest (drop p s) ≡ and_then Y rest' → Y ≡ refused n → X ≡ refused n
  unfolding and_then prepend
  next-stops rest' n e g = h.whole ∙ ap (prepend h.ys) (e ∙ ap (λ (Y : Read). and_then Y rest') g)

  -- nothing is left to do
  pub ends : rest (drop p s) ≡ got [] (drop p s) → Checks s X (Ok p)
  ends e = record { ys = h.ys; whole = h.whole ∙ ap (prepend h.ys) e; within = h.within }

-- a leaf made ys
pub made : {s : List ℕ} {X : Read} (ys : List ℤ) (p : ℕ) → X ≡ got ys (drop p s) → p ≤ length s → Checks s X (Ok p)
unfolding prepend
made {s} ys p e w = record { ys = ys; whole = e ∙ ap (λ (l : List ℤ). got l (drop p s)) (sym (append-nil ys)); within = w }

-- another name for the same run
pub same-run : (s : List ℕ) (r : Result ℕ Refusal) {X Y : Read} → Y ≡ X → Checks s X r → Checks s Y r
same-run s r {X} {Y} e h = subst (λ (Z : Read). Checks s Z r) (sym e) h

-- after a count or a type
module _ (s : List ℕ) {X : Tag ℕ ℤ} (n p : ℕ) (ys : List ℤ) (e : X ≡ tag n ys (drop p s)) (k : ℕ → List ℕ → Read) where
  pub marked-then : (r : Result ℕ Refusal) → Checks s (k n (drop p s)) r → Checks s (after X k) r
  unfolding prepend after
  marked-then (Ok q) u =
      record { ys = ys ++ u.ys; whole = ap (λ (Y : Tag ℕ ℤ). after Y k) e ∙ ap (prepend ys) u.whole ∙ sym (prepend-append ys u.ys (got [] (drop q s))); within = u.within }
  marked-then (Err m) g = ap (λ (Y : Tag ℕ ℤ). after Y k) e ∙ ap (prepend ys) g

-- ---- one turn of each loop

module _ {s : List ℕ} {X : Read} (f : List ℕ → Read) (n k : ℕ) {p : ℕ} (h : Upto s X (repeat (n - k) f) p) where
  module _ (more : k < n) (r : Result ℕ Refusal) (g : Checks s (f (drop p s)) r) where
    pub items-turn : (q : ℕ) → r ≡ Ok q → Upto s X (repeat (n - (k + 1)) f) q
    items-turn q e = next h (repeat (n - (k + 1)) f) (repeat-more f (drop p s) n k more) (subst (Checks s (f (drop p s))) e g)

    pub items-stop : (m : Refusal) → r ≡ Err m → X ≡ refused (number_of m)
    items-stop m e = next-stops h (repeat (n - (k + 1)) f) (number_of m) (repeat-more f (drop p s) n k more) (subst (Checks s (f (drop p s))) e g)

  pub items-end : n ≤ k → Checks s X (Ok p)
  items-end l = ends h (repeat-end f (drop p s) n k l)

-- ---- rows, some and then the others

module _ (W : Way ℕ ℤ) (obj : ℕ → List ℕ → Read) where
  then_assoc : (X : Read) (f g : List ℕ → Read) (k : List ℕ → Read) → ((l : List ℕ) → k l ≡ and_then (f l) g) → and_then X k ≡ and_then (and_then X f) g
  unfolding and_then prepend
  then_assoc (refused n) f g k h = refl
  then_assoc (got ys r) f g k h = ap (prepend ys) (h r) ∙ over (f r)
    where
      over : (Y : Read) → prepend ys (and_then Y g) ≡ and_then (prepend ys Y) g
      over (got zs q) = sym (prepend-append ys zs (g q))
      over (refused m) = refl

  pub fields-append : (a b : List Row) (l : List ℕ) → fields W obj (a ++ b) l ≡ and_then (fields W obj a l) (fields W obj b)
  unfolding fields and_then prepend
  fields-append [] b l = sym (prepend-nil (fields W obj b l))
  fields-append (f ∷ a) b l = then_assoc (field W obj f l) (fields W obj a) (fields W obj b) (fields W obj (a ++ b)) (fields-append a b)

  -- one row
  pub fields-one : (f : Row) (l : List ℕ) → fields W obj (f ∷ []) l ≡ field W obj f l
  unfolding fields
  fields-one f l = then-nil (field W obj f l)
