-- The kinds of blocks by their bytes. Definitions only.
use Rattle.std.specs.Prelude.{◌≡◌, ◌<◌, ℕ, Result, MatchResult}
use Rattle.refusals.specs.declared.Refusal.{Refusal}
use Rattle.refusals.specs.declared.Refusal.TheVariants.{BlockKind}
use Rattle.ack_blocks.specs.Limits.{kind_single, kind_run, kind_map}
use Rattle.ack_blocks.specs.declared.Kind.{Kind}
use Rattle.ack_blocks.specs.declared.Kind.TheVariants.{Single, Run, Bitmap}

abbrev pub byte_of : Kind → ℕ
byte_of Single = kind_single
byte_of Run = kind_run
byte_of Bitmap = kind_map

-- the kind of a byte; 71 where it has none
abbrev pub KindOf : ℕ → Result Kind Refusal → Type 0
KindOf byte r = MatchResult r (λ kind. byte_of kind ≡ byte) (λ refusal. (refusal ≡ BlockKind) × (kind_map < byte))
