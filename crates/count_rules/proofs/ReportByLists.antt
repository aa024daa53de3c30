-- The report depends only on which lists there are. Assumes nothing.
use Rattle.wire.proofs.Basics.{◌≡◌, ℕ, List, [], ◌∷◌, map, length}
use Rattle.sorted_set.specs.Lists.{SameMembers, gather, rising}
use Rattle.sorted_set.proofs.Members.{gather-same}
use Rattle.sorted_set.proofs.Rises.{rising-same}
use Rattle.count_rules.specs.Marks.{Mark, PitList}
use Rattle.count_rules.specs.Report.{tiles, under, distinct, pit_of_lem, pit_if_sure, report}
use Rattle.count_rules.specs.Promise.{WhichLists}

-- the distinct numbers that are gathered of lists
numbers-same : (h : PitList → List ℕ) (ls ms : List PitList) → SameMembers ls ms → rising (gather h ls) ≡ rising (gather h ms)
numbers-same h ls ms s = rising-same (gather h ls) (gather h ms) (gather-same h ls ms s)

pub same-report : WhichLists
unfolding report
same-report ls ms s =
    let a : tiles ls ≡ tiles ms = numbers-same (λ l. l.tile ∷ []) ls ms s in
    let b : (h : Mark → List ℕ) (t : ℕ) → distinct h ls t ≡ distinct h ms t = λ h t. numbers-same (λ l. gather h (under t l)) ls ms s in
    λ i. map (λ (t : ℕ). record { tile = t; pits = length (b pit_of_lem t i); sure = length (b pit_if_sure t i) }) (a i)
