-- For the bytes that came, no second answer satisfies a contract of the input. Assumes nothing.
use Rattle.wire.proofs.Basics.{◌∙◌, sym, ◌≡◌, ap, refl, subst, ℕ, ◌+◌, ◌<◌, ◌-◌, min, List, [], ◌++◌, true, length, drop, take, slice, arith}
use Rattle.wire.proofs.Choices.{never}
use Rattle.stream.specs.declared.Kind.{Kind}
use Rattle.stream.specs.declared.Input.{Input}
use Rattle.std.proofs.Common.{Result, Ok, Err, Option, Some, None}
use Rattle.stream.specs.declared.Record.{Record as RecordAt}
use Rattle.stream.specs.declared.Ending.{Ending}
use Rattle.stream.specs.declared.Ending.TheVariants as ending
use Rattle.stream.specs.Records.{Next, Record, End, Cut, told, head_of, body_length_lem, is_whole, unread, holds, Took, Ends, Lacks, Gives}
use Rattle.stream.specs.Whole.{All, Whole, Longer, told_all, HoldsAll}
use Rattle.stream.proofs.Taking.{whole-none}

-- ---- records

-- what came, by an answer's contract
abbrev pub came_in : (kind : Kind) (b : List ℕ) (i : Input) (a : List ℕ) (r : Next) → Gives kind b i a r → List ℕ
came_in kind b i a (Record at len left) g = g.came
came_in kind b i a End g = g.came
came_in kind b i a Cut g = g.came

-- two answers are one: the same record, with the same bytes unread after it, or the same end
abbrev pub Alike : Kind → List ℕ → Next → List ℕ → Next → Type 0
Alike kind a (Record at len left) a' (Record at' len' left') =
    (len ≡ len')
    × (slice (at - head_of kind) at a ≡ slice (at' - head_of kind) at' a')
    × (slice at (at + len) a ≡ slice at' (at' + len') a')
    × (unread a left ≡ unread a' left')
Alike kind a (Record at len left) a' End = ⊥
Alike kind a (Record at len left) a' Cut = ⊥
Alike kind a End a' (Record at len left) = ⊥
Alike kind a End a' End = Unit
Alike kind a End a' Cut = ⊥
Alike kind a Cut a' (Record at len left) = ⊥
Alike kind a Cut a' End = ⊥
Alike kind a Cut a' Cut = Unit

module _ (kind : Kind) (b : List ℕ) (i : Input) where
  all : {x y : List ℕ} → x ≡ y → unread b i ++ x ≡ unread b i ++ y
  all = ap (λ (l : List ℕ). unread b i ++ l)

  no_end : {a : List ℕ} {at len : ℕ} {left : Input} (t : Took kind b i a at len left) (u : Ends kind b i) → t.came ≡ u.came → ⊥
  no_end t u e = never (subst (λ (l : List ℕ). is_whole kind l ≡ true) (all e ∙ u.none) t.whole) (whole-none kind)

  no_cut : {a : List ℕ} {at len : ℕ} {left : Input} (t : Took kind b i a at len left) (u : Lacks kind b i) → t.came ≡ u.came → ⊥
  no_cut t u e = never (subst (λ (l : List ℕ). is_whole kind l ≡ true) (all e) t.whole) (u.cut t.room)

  end-no-cut : (t : Ends kind b i) (u : Lacks kind b i) → t.came ≡ u.came → ⊥
  end-no-cut t u e =
      let z : 0 < length {A = ℕ} [] = subst (λ (l : List ℕ). 0 < length l) (sym (all e) ∙ t.none) (u.some t.room) in
      omega arith

  pub gives-once : (a a' : List ℕ) (r r' : Next) (g : Gives kind b i a r) (h : Gives kind b i a' r') → came_in kind b i a r g ≡ came_in kind b i a' r' h → Alike kind a r a' r'
  gives-once a a' (Record at len left) (Record at' len' left') g h e =
      let n : len ≡ len' = g.size ∙ (λ j. min (body_length_lem kind (all e j)) (holds kind (length b))) ∙ sym h.size in (
        n,
        g.head ∙ (λ j. take (head_of kind) (all e j)) ∙ sym h.head,
        g.body ∙ (λ j. slice (head_of kind) (head_of kind + n j) (all e j)) ∙ sym h.body,
        g.rest ∙ (λ j. drop (head_of kind + body_length_lem kind (all e j)) (all e j)) ∙ sym h.rest,
      )
  gives-once a a' (Record at len left) End g h e = no_end g h e
  gives-once a a' (Record at len left) Cut g h e = no_cut g h e
  gives-once a a' End (Record at len left) g h e = no_end h g (sym e)
  gives-once a a' End End g h e = tt
  gives-once a a' End Cut g h e = end-no-cut g h e
  gives-once a a' Cut (Record at len left) g h e = no_cut h g (sym e)
  gives-once a a' Cut End g h e = end-no-cut h g (sym e)
  gives-once a a' Cut Cut g h e = tt

-- two answers of the code that say the same are one
pub told-once : (r s : Result RecordAt Ending) → told r ≡ told s → r ≡ s
told-once (Ok r) (Ok s) e =
    let at : r.at ≡ s.at = cc in
    let len : r.len ≡ s.len = cc in
    let rest : r.rest ≡ s.rest = cc in
    λ j. Ok (record { at = at j; len = len j; rest = rest j })
told-once (Ok r) (Err ending.End) e = cc
told-once (Ok r) (Err ending.Cut) e = cc
told-once (Err ending.End) (Ok s) e = cc
told-once (Err ending.End) (Err ending.End) e = refl
told-once (Err ending.End) (Err ending.Cut) e = cc
told-once (Err ending.Cut) (Ok s) e = cc
told-once (Err ending.Cut) (Err ending.End) e = cc
told-once (Err ending.Cut) (Err ending.Cut) e = refl

-- ---- the whole input

abbrev pub came_all : (n : ℕ) (a : List ℕ) (r : All) → HoldsAll n a r → List ℕ
came_all n a (Whole k) g = g.came
came_all n a Longer g = g.came

abbrev pub AlikeAll : List ℕ → All → List ℕ → All → Type 0
AlikeAll a (Whole k) a' (Whole k') = (k ≡ k') × (take k a ≡ take k' a')
AlikeAll a (Whole k) a' Longer = ⊥
AlikeAll a Longer a' (Whole k') = ⊥
AlikeAll a Longer a' Longer = a ≡ a'

pub all_once : (n : ℕ) (a a' : List ℕ) (r r' : All) (g : HoldsAll n a r) (h : HoldsAll n a' r') → came_all n a r g ≡ came_all n a' r' h → AlikeAll a r a' r'
all_once n a a' (Whole k) (Whole k') g h e = (g.size ∙ ap length e ∙ sym h.size, g.front ∙ e ∙ sym h.front)
all_once n a a' (Whole k) Longer g h e = let z = ap length e in omega (arith, z, g.size, g.fits, h.more)
all_once n a a' Longer (Whole k') g h e = let z = ap length e in omega (arith, z, h.size, h.fits, g.more)
all_once n a a' Longer Longer g h e = g.front ∙ ap (take n) e ∙ sym h.front

-- two answers of the code that say the same are one
pub told_all-once : (r s : Option ℕ) → told_all r ≡ told_all s → r ≡ s
told_all-once (Some k) (Some m) e = let f : k ≡ m = cc in ap Some f
told_all-once (Some k) None e = cc
told_all-once None (Some m) e = cc
told_all-once None None e = refl
