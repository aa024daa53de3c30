-- The unread bytes at the front. Assumes nothing.
use Rattle.wire.proofs.Basics.{◌∙◌, refl, ap, ◌-◌, take}
use Rattle.stream.proofs.Slices.{copied-front}
use Rattle.stream.proofs.to_front.Goals as goal

pub returns : goal.returns
returns c =
    let a = c.args in
    record {
      count = refl;
      same_length = c.copy_within.ensures.len;
      front = ap (take (a.end - a.at)) c.copy_within.ensures.after ∙ copied-front a.buf.now a.at a.end c.requires.1 c.requires.2;
    }
