-- The walk in the middle of a log; and the lists seen by then, the latest first, report as the lists read. Assumes nothing.
use Rattle.wire.proofs.Basics.{◌≡◌, ℕ, List, [], ◌∷◌, ◌++◌, inl, inr, ◌⊎◌}
use Rattle.sorted_set.specs.Lists.{In, SameMembers}
use Rattle.sorted_set.proofs.Members.{in_left, in_right, in_either}
use Rattle.count_rules.specs.Marks.{PitList, list_in}
use Rattle.count_rules.specs.Report.{report}
use Rattle.count_rules.specs.Run.{lists_read}
use Rattle.count_rules.specs.Walk.{seen_after}
use Rattle.count_rules.proofs.ReportByLists.{same-report}

-- ---- the lists seen

pub seen-keeps : (seen : List PitList) (ps : List (List ℕ)) (l : PitList) → In l seen → In l (seen_after seen ps)
seen-keeps seen [] l h = h
seen-keeps seen (p ∷ ps) l h = seen-keeps (list_in p ++ seen) ps l (in_right l (list_in p) seen h)

pub seen-has : (seen : List PitList) (ps : List (List ℕ)) (l : PitList) → In l (lists_read ps) → In l (seen_after seen ps)
seen-has seen [] l h = absurd h
seen-has seen (p ∷ ps) l h = elim (in_either l (list_in p) (lists_read ps) h) [
  | inl k ↦ seen-keeps (list_in p ++ seen) ps l (in_left l (list_in p) seen k)
  | inr k ↦ seen-has (list_in p ++ seen) ps l k
]

pub seen-from : (seen : List PitList) (ps : List (List ℕ)) (l : PitList) → In l (seen_after seen ps) → In l (lists_read ps) ⊎ In l seen
seen-from seen [] l h = inr h
seen-from seen (p ∷ ps) l h = elim (seen-from (list_in p ++ seen) ps l h) [
  | inl k ↦ inl (in_right l (list_in p) (lists_read ps) k)
  | inr k ↦ elim (in_either l (list_in p) seen k) [ inl j ↦ inl (in_left l (list_in p) (lists_read ps) j) | inr j ↦ inr j ]
]

-- none is lost of those seen before
pub seen_more : (seen : List PitList) (p : List ℕ) (ps : List (List ℕ)) (l : PitList) → In l (list_in p ++ seen) → In l (seen_after seen (p ∷ ps))
seen_more seen p ps = seen-keeps (list_in p ++ seen) ps

pub seen_members : (ps : List (List ℕ)) → SameMembers (seen_after [] ps) (lists_read ps)
seen_members ps = record { there = λ l h. elim (seen-from [] ps l h) [ inl k ↦ k | inr k ↦ absurd k ]; back = seen-has [] ps }

pub seen-report : (ps : List (List ℕ)) → report (seen_after [] ps) ≡ report (lists_read ps)
seen-report ps = same-report (seen_after [] ps) (lists_read ps) (seen_members ps)
