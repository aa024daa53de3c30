-- `host_index_file::tell_head` meets its contract: a refusal leaves the list. Assumes nothing.
use Rattle.wire.proofs.Basics.{◌∙◌, ◌≡◌, sym, [], rules}
use Rattle.wire.specs.Overlay.{overlay}
use Rattle.wire.proofs.Overlays.{overlay-nil}
use Rattle.index_file.specs.Head.{head_told}
use Rattle.host_index_file.specs.Told.{head_numbers}
use Rattle.host_index_file.proofs.tell_head.Goals as goal

pub returns-in-Err : goal.returns-in-Err
returns-in-Err c =
    let l = c.args.head.now in
    let e : overlay l 0 (head_numbers (head_told c.args.read)) ≡ overlay l 0 [] = search rules in
    (search rules, sym (e ∙ overlay-nil l 0))
