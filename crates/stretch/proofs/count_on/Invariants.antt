-- The loop's invariant: the whole stretch is what was taken so far, and then the rest of it. Assumes nothing.
use Rattle.wire.proofs.Basics.{List, ℕ, ℤ}
use Rattle.stretch.proofs.MidStretch.{Going}
use Rattle.receiver.specs.Lent.{lent}
use Rattle.pit_marks.specs.declared.PitSets.{PitSets}
use Rattle.pit_marks.specs.Told.{sets_in, SameWords}
use Rattle.pit_payloads.specs.Looks.{book}
use Rattle.stretch.specs.Inside.{ran}
use Rattle.stretch.specs.Stretch.{Desk, desk}
use Rattle.stretch.proofs.count_on.Given as goal

abbrev pub lent_of : List ℕ → List ℕ → List ℕ → List ℕ → List ℤ → PitSets → Desk
lent_of state names store ledger numbers sets = desk (lent state names store ledger) (book numbers (sets_in sets))

abbrev pub invariant-loop-taken : goal.invariant-loop-taken
invariant-loop-taken l = record {
  same : SameWords l.initial.sets l.sets;
  going : Going l.log l.limits l.most l.initial.at (lent_of l.initial.state l.initial.names l.initial.store l.initial.ledger l.initial.numbers l.initial.sets) l.initial.sets.sizes
      (lent_of l.state l.names l.store l.ledger l.numbers l.sets) l.at l.taken (ran 0 l.totals l.sets.sizes);
}
