-- `lmcp_check::check_chars` meets its contract.
use Rattle.wire.proofs.Basics.{◌-◌, drop}
use Rattle.lmcp.specs.Run.{repeat}
use Rattle.lmcp.specs.Table.{char_kind}
use Rattle.lmcp.specs.Read.{read_value}
use Rattle.lmcp_check.specs.InsideChecks.{Upto}
use Rattle.lmcp_check.proofs.check_chars.Given as goal

abbrev pub invariant-loop : goal.invariant-loop
invariant-loop l = Upto l.s (repeat l.n (read_value char_kind 1) (drop l.at l.s)) (repeat (l.n - l.counter) (read_value char_kind 1)) l.p
