-- INSIDE: what only private contracts use. Definitions only; no promise of a public function rests on them.
use Rattle.std.specs.Prelude.{List, [], ℕ, eqb, get_or}
use Rattle.wire.specs.Choice.{pick}

-- byte k of row i of the table
abbrev pub cell : List (List ℕ) → ℕ → ℕ → ℕ
cell t i k = get_or (get_or t i []) k 0

-- the bytes of a code
abbrev pub width_of : ℕ → ℕ
width_of c = pick (eqb c 0) 1 (pick (eqb c 1) 2 (pick (eqb c 2) 4 (pick (eqb c 3) 2 (pick (eqb c 4) 4 8))))
