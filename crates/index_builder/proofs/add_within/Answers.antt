-- The rows counted, then judged, then added. Assumes nothing.
use Rattle.wire.proofs.Basics.{◌∙◌, sym, refl, ◌/◌, length}
use Rattle.std.proofs.lemmas.Result.{err_from_is_err_and}
use Rattle.index_builder.proofs.Answers.{adds-refused, adds-full, adds-all}
use Rattle.index_builder.proofs.add_within.Goals as goal

pub returns-in_err-k : goal.returns-in_err-k
returns-in_err-k c =
    let a = c.args in
    let p = err_from_is_err_and c.from_residual.result c.from_residual.ensures.1 in
    rw (p.1, p.2) (adds-refused a.most (length a.batch.now / 3) _ _ _ _ _ a.index.now a.n _ c.walk.ensures c.in_err-k.was)

pub returns-then-no_room : goal.returns-then-no_room
returns-then-no_room c =
    let a = c.args in
    adds-full a.most (length a.batch.now / 3) _ _ _ _ _ a.index.now a.n _ c.walk.ensures c.in_ok-k.was (sym c.no_room.ensures ∙ c.if-no_room.true)

pub returns : goal.returns
returns c =
    let a = c.args in
    let room = sym c.no_room.ensures ∙ c.if-no_room.false in
    adds-all a.most (length a.batch.now / 3) _ _ _ _ _ a.index.now a.n _ c.walk.ensures c.in_ok-k.was room _ _ (length a.batch.now) refl c.requires.1 c.walk-2.ensures
