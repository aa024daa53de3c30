-- `host_index_file::tell_looked` meets its contract: a refusal leaves the list. Assumes nothing.
use Rattle.wire.proofs.Basics.{◌∙◌, ◌≡◌, sym, [], rules}
use Rattle.wire.specs.Overlay.{overlay}
use Rattle.wire.proofs.Overlays.{overlay-nil}
use Rattle.index_look.specs.Looked.{looked_told}
use Rattle.host_index_file.specs.Told.{looked_numbers}
use Rattle.host_index_file.proofs.tell_looked.Goals as goal

pub returns-in-Err : goal.returns-in-Err
returns-in-Err c =
    let l = c.args.place.now in
    let e : overlay l 0 (looked_numbers (looked_told c.args.looked)) ≡ overlay l 0 [] = search rules in
    (search rules, sym (e ∙ overlay-nil l 0))
