-- `lmcp_reader::Walk::has_room` meets its contract: a list longer than the root, or the walk over no list at all, of which nothing is left.
use Rattle.wire.proofs.Basics.{sym, ◌≡◌, ap, refl, List, [], ◌++◌, length, length-take-le, leb, ℤ, arith}
use Rattle.lmcp.proofs.WalkPlaces.{empty}
use Rattle.lmcp_reader.proofs.Roots.{long-list, counted}
use Rattle.lmcp_reader.proofs.Walk.has_room.Goals as goal

pub returns-then-self-list : goal.returns-then-self-list
returns-then-self-list c = let a = c.args in (refl, long-list a.self.now.packed.version a.self.now.s.now (length a.list.now) c.if-self-list.true)

pub slice_bounds-put_object-end-2 : goal.slice_bounds-put_object-end-2
slice_bounds-put_object-end-2 c = let l = c.args.list.now in sym (length-take-le _ l (omega arith))

pub returns : goal.returns
returns c =
    let a = c.args in
    let o : List ℤ = c.put_object-done.new.list in
    let nil : o ≡ [] = empty o c.put_object-done.auto.list in
    let list = a.list.now in
    let n = c.put_object-done.result.q in
    (ap (λ (l : List ℤ). l ++ list) nil, counted a.self.now.packed.version a.self.now.s.now (length list) c.put_object-done.result.p n c.put_object-done.ensures (leb n (length (o ++ list))) (ap (λ (l : List ℤ). leb n (length (l ++ list))) nil))
