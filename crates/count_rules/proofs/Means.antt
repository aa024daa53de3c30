-- The tile lines mean what the request says. Assumes nothing.
use Rattle.wire.proofs.Basics.{sym, ◌≡◌, refl, ℕ, List, [], ◌∷◌, true, false, Bool, inl}
use Rattle.wire.specs.Choice.{pick}
use Rattle.sorted_set.specs.Lists.{In}
use Rattle.sorted_set.proofs.Rises.{rising-rises, rising_members, distinct-fewer}
use Rattle.count_rules.specs.Marks.{Mark, PitList}
use Rattle.count_rules.specs.Report.{pit_of_lem, pit_if_sure, pits, sure_pits}
use Rattle.count_rules.specs.Meaning.{Marks, MarksSure, Means}
use Rattle.count_rules.proofs.ListMembers.{only, named, name_in_lem, Taken, taken-from, taken_in}

pub sure-is : (m : Mark) (p : ℕ) → In p (pit_if_sure m) → (m.sure ≡ true) × (m.pit ≡ p)
sure-is m p h = go m.sure h
  where
    go : (b : Bool) → In p (pick b (m.pit ∷ []) []) → (b ≡ true) × (m.pit ≡ p)
    go true k = (refl, sym (only k))
    go false k = absurd k

module _ (ls : List PitList) (t p : ℕ) where
  marked : In p (pits ls t) → Marks ls t p
  marked h =
      let k : Taken pit_of_lem ls t p = taken-from pit_of_lem ls t p h in
      record { list = k.list; among = k.among; its-tile = k.its-tile; mark = k.mark; inside = k.inside; its-pit = sym (only k.gives) }

  mark_in : Marks ls t p → In p (pits ls t)
  mark_in k = taken_in pit_of_lem ls t p
      (record { list = k.list; among = k.among; its-tile = k.its-tile; mark = k.mark; inside = k.inside; gives = inl (sym k.its-pit) })

  sure : In p (sure_pits ls t) → MarksSure ls t p
  sure h =
      let k : Taken pit_if_sure ls t p = taken-from pit_if_sure ls t p h in
      let q : (k.mark.sure ≡ true) × (k.mark.pit ≡ p) = sure-is k.mark p k.gives in
      record { marks = record { list = k.list; among = k.among; its-tile = k.its-tile; mark = k.mark; inside = k.inside; its-pit = q.1 }; is-sure = q.0 }

  sure_in : MarksSure ls t p → In p (sure_pits ls t)
  sure_in z =
      let k : Marks ls t p = z.marks in
      taken_in pit_if_sure ls t p (record {
        list = k.list;
        among = k.among;
        its-tile = k.its-tile;
        mark = k.mark;
        inside = k.inside;
        gives = rw z.is-sure (inl (sym k.its-pit));
      })

pub lines-mean : (ls : List PitList) → Means ls
lines-mean ls = record {
  tiles-rise = rising-rises _;
  tiles-named = λ t. (named ls t, name_in_lem ls t);
  pits-rise = λ t. rising-rises _;
  pits-marked = λ t p. (marked ls t p, mark_in ls t p);
  sure-rise = λ t. rising-rises _;
  sure-marked = λ t p. (sure ls t p, sure_in ls t p);
  sure-fewer = λ t. distinct-fewer _ _ (λ p h. (rising_members _).there p (mark_in ls t p (sure ls t p ((rising_members _).back p h)).marks));
}
