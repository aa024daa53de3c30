-- INSIDE: a refusal of the reader's, and the sets after a payload over those of the lists seen. Definitions only; no promise of a public function rests on them.
use Rattle.std.specs.Prelude.{◌≡◌, List, ◌++◌, ℕ, eqb, length}
use Rattle.wire.specs.Choice.{pick}
use Rattle.count_rules.specs.Marks.{PitList, list_in}
use Rattle.pit_marks.specs.declared.Sizes.{Sizes}
use Rattle.pit_marks.specs.Sets.{Sets, rooms, Has, Partly}
use Rattle.pit_payloads.specs.Looked.{Looked, Other, Refused}
use Rattle.pit_payloads.specs.Took.{fault_in, lists_in, sizes_in, fault_over}

-- a refusal of the reader's
abbrev pub unread_by : Sizes → ℕ → Looked
unread_by had n = pick (eqb n 13) (Refused had 13) Other

pub record Took (room : ℕ) (payload : List ℕ) (x : Sets) (had : Sizes) (seen : List PitList) (r : Looked) (x' : Sets) : Type 0 where
  pub found : fault_in r ≡ fault_over (rooms x) room seen payload
  pub long : rooms x' ≡ rooms x
  pub lists : fault_in r ≡ 0 → lists_in r ≡ length (list_in payload)
  pub has : fault_in r ≡ 0 → Has x' (sizes_in had r) (list_in payload ++ seen)
  -- refused or not
  pub still : Partly x' (sizes_in had r) (list_in payload) seen
