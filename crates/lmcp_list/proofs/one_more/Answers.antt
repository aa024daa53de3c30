-- A message is read, and its line goes out. Assumes nothing.
use Rattle.wire.proofs.Basics.{ap, ℕ}
use Rattle.output.proofs.Adding.{adds_is}
use Rattle.lmcp.specs.Found.{found_told}
use Rattle.lmcp_list.specs.Lines.{line}
use Rattle.lmcp_list.proofs.Reading.{line-found}
use Rattle.lmcp_list.proofs.one_more.Goals as goal

pub returns-clause-listed : goal.returns-clause-listed
returns-clause-listed c =
    let e = c.read_message-found.ensures in
    record { found = found_told c.read_message-found.result; read = e; said = adds_is c.pour_line.ensures (line-found _ _ _ _ _ e) }

pub returns-clause-line : goal.returns-clause-line
returns-clause-line c =
    adds_is (adds_is c.pour_line.ensures (line-found _ _ _ _ _ c.read_message-found.ensures)) (ap (λ (m : ℕ). line m c.args.n c.args.message.now) c.requires)
