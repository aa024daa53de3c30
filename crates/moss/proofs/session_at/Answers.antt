-- Ten bytes of a slice by value. Assumes nothing.
use Rattle.wire.proofs.Basics.{◌∙◌, ap, length, drop, length-drop, replicate, take_all, arith}
use Rattle.wire.specs.Overlay.{overlay}
use Rattle.moss.specs.Limits.{session_length}
use Rattle.moss.proofs.session_at.Goals as goal

pub returns : goal.returns
returns c =
    let a = c.args in
    let b = a.b.now in
    let all = take_all (length b) (drop a.at b) (omega (arith, length-drop a.at b)) in
    c.put_bytes.ensures ∙ ap (overlay (replicate session_length 0) 0) (c.part.ensures ∙ all)
