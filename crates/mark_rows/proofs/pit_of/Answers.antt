-- A uint32 fits. Assumes nothing.
use Rattle.wire.proofs.Basics.{◌<◌, ◌^◌, ◌%◌, arith}
use mir.Syntax.{w64}
use mir.ValLaws.{to_z_pos}
use Rattle.count_rules.specs.Keys.{span}
use Rattle.mark_rows.proofs.pit_of.Goals as goal

pub returns : goal.returns
returns c = let k : c.args.p % span < 2 ^ 63 = omega arith in to_z_pos w64 (c.args.p % span) k
