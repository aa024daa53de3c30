-- What a payload that was taken says of the count: what stands against it, and its lists. Definitions only.
use Rattle.std.specs.Prelude.{List, ◌++◌, ℕ}
use Rattle.wire.specs.Choice.{◌when◌else◌}
use Rattle.lmcp.specs.Lists.{read_list}
use Rattle.count_rules.specs.Marks.{PitList, list_in}
use Rattle.count_rules.specs.Count.{too_long}
use Rattle.pit_marks.specs.declared.Sizes.{Sizes}
use Rattle.pit_marks.specs.Sets.{over}
use Rattle.pit_payloads.specs.Looked.{Looked, Other, Listed, Refused}

-- 0 for nothing
abbrev pub fault_in : Looked → ℕ
fault_in Other = 0
fault_in (Listed now) = 0
fault_in (Refused now n) = n

abbrev pub lists_in : Looked → ℕ
lists_in Other = 0
lists_in (Listed now) = 1
lists_in (Refused now n) = 0

abbrev pub sizes_in : Sizes → Looked → Sizes
sizes_in had Other = had
sizes_in had (Listed now) = now
sizes_in had (Refused now n) = now

-- what stands against one more payload after the lists seen, in sets of so many words and a number list with room for so many: 0 for nothing
abbrev pub fault_over : Sizes → ℕ → List PitList → List ℕ → ℕ
fault_over words room seen payload =
    13 when too_long room (read_list payload) else
    over words (list_in payload ++ seen)
