-- Nothing is added. Assumes nothing.
use Rattle.wire.proofs.Basics.{refl}
use Rattle.output.proofs.Sending.{pours-none}
use Rattle.output.proofs.Output.write_out.Goals as goal

pub returns : goal.returns
returns c =
    let o = c.args.self.now in
    record { same = refl; finished = record { end = o.at; poured = pours-none o.buf.now o.at; told = c.write_out.ensures } }
