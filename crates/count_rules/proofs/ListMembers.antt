-- The members of `tiles` and of `distinct`: which list, and which of its marks, a number comes from. Assumes nothing.
use Rattle.wire.proofs.Basics.{sym, ◌≡◌, refl, ℕ, List, [], ◌∷◌, true, false, Bool, inl, inr, eqb, eq-eqb, eqb-true}
use Rattle.wire.specs.Choice.{pick}
use Rattle.sorted_set.specs.Lists.{In, gather}
use Rattle.sorted_set.proofs.Members.{gather_in, gather-from, Source}
use Rattle.sorted_set.proofs.Rises.{rising_members}
use Rattle.count_rules.specs.Marks.{Mark, PitList}
use Rattle.count_rules.specs.Report.{tiles, under, distinct}
use Rattle.count_rules.specs.Meaning.{Names}

pub only : {x y : ℕ} → In x (y ∷ []) → x ≡ y
only (inl e) = e
only (inr h) = absurd h

record Under (t : ℕ) (l : PitList) (m : Mark) : Type 0 where
  its-tile : l.tile ≡ t
  inside : In m l.marks

under-is : (t : ℕ) (l : PitList) (m : Mark) → In m (under t l) → Under t l m
under-is t l m h = go (eqb l.tile t) refl h
  where
    go : (b : Bool) → eqb l.tile t ≡ b → In m (pick b l.marks []) → Under t l m
    go true e k = record { its-tile = eqb-true l.tile t e; inside = k }
    go false e k = absurd k

under_in : (t : ℕ) (l : PitList) (m : Mark) → l.tile ≡ t → In m l.marks → In m (under t l)
under_in t l m e h = rw (eq-eqb l.tile t e) h

module _ (ls : List PitList) where
  pub named : (t : ℕ) → In t (tiles ls) → Names ls t
  named t h =
      let s : Source (λ (l : PitList). l.tile ∷ []) ls t = gather-from _ ls t ((rising_members _).there t h) in
      record { list = s.x; among = s.inside; its-tile = sym (only s.gives) }

  pub name_in_lem : (t : ℕ) → Names ls t → In t (tiles ls)
  name_in_lem t n = (rising_members _).back t (gather_in (λ (l : PitList). l.tile ∷ []) ls n.list t n.among (inl (sym n.its-tile)))

-- a list of tile t has a mark from which h takes p
pub record Taken (h : Mark → List ℕ) (ls : List PitList) (t p : ℕ) : Type 0 where
  pub list : PitList
  pub among : In list ls
  pub its-tile : list.tile ≡ t
  pub mark : Mark
  pub inside : In mark list.marks
  pub gives : In p (h mark)

module _ (h : Mark → List ℕ) (ls : List PitList) (t p : ℕ) where
  pub taken-from : In p (distinct h ls t) → Taken h ls t p
  taken-from i =
      let s : Source (λ (l : PitList). gather h (under t l)) ls p = gather-from _ ls p ((rising_members _).there p i) in
      let r : Source h (under t s.x) p = gather-from h (under t s.x) p s.gives in
      let u : Under t s.x r.x = under-is t s.x r.x r.inside in
      record { list = s.x; among = s.inside; its-tile = u.its-tile; mark = r.x; inside = u.inside; gives = r.gives }

  pub taken_in : Taken h ls t p → In p (distinct h ls t)
  taken_in k = (rising_members _).back p (gather_in (λ (l : PitList). gather h (under t l)) ls k.list p k.among
      (gather_in h (under t k.list) k.mark p (under_in t k.list k.mark k.its-tile k.inside) k.gives))
