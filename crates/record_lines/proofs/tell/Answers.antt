use Rattle.wire.proofs.Basics.{subst, ℕ, List, sym}
use Rattle.output.specs.Output.{Ends}
use Rattle.stream.specs.Records.{Next, ended_as}
use Rattle.record_lines.proofs.RecordLoop.{tells-reached}
use Rattle.record_lines.proofs.tell.Goals as goal

pub returns : goal.returns
returns g c =
    let t = c.in-Some.told in
    tells-reached c.in-Some.ensures
    (subst (λ (f : Next → ℕ → List ℕ). Ends c.records.new.out (f (ended_as t.ending) t.n) c.finish.new.self c.finish.result) (sym g.met.T.LastLine.ends) c.finish.ensures)
