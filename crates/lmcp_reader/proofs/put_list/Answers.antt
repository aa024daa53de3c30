-- `lmcp_reader::put_list` meets its contract: no room, or the version and the root's numbers behind it.
use Rattle.wire.proofs.Basics.{◌∙◌, sym, ◌≡◌, ap, subst, ℕ, length, List, [], ◌∷◌, set, ℤ, pos, arith}
use Rattle.lmcp.specs.Found.{Refused}
use Rattle.lmcp.specs.Run.{prepend, whole}
use Rattle.lmcp.specs.Message.{ReadTo}
use Rattle.lmcp.specs.InsideAhead.{Lays}
use Rattle.lmcp_check.specs.InsideSteps.{read_object, read_root}
use Rattle.lmcp_reader.specs.InsidePuts.{Ahead, Rooms}
use Rattle.lmcp_reader.proofs.NumberBits.{through}
use Rattle.lmcp_reader.proofs.Roots.{root-ahead, list-short, list-good}
use Rattle.lmcp_reader.proofs.put_list.Goals as goal

module _ (v u : ℕ) (s : List ℕ) (e : u ≡ v) where
  ahead : Ahead (whole (read_root v s)) 1 → Ahead (read_object u 16 0 s) 1
  ahead h = subst (λ (j : ℕ). Ahead (read_object j 16 0 s) 1) (sym e) (root-ahead v s h)

pub has_room-requires : goal.has_room-requires
has_room-requires c = ahead c.args.version c.of.result.version c.args.s.now c.of.ensures c.requires.1.1

pub returns-then-not-has_room : goal.returns-then-not-has_room
returns-then-not-has_room c =
    let h = c.has_room in
    let a = c.args in
    subst (ReadTo (prepend (pos a.version ∷ []) (whole (read_root a.version a.s.now))) a.list.now (Refused 13)) (sym h.ensures.0)
    (list-short a.version a.s.now c.requires.1.1 a.list.now h.result (subst (λ (j : ℕ). Rooms (read_object j 16 0 a.s.now) (length a.list.now) h.result) c.of.ensures h.ensures.1) (c.if-not-has_room.true))

pub put_object-done-requires : goal.put_object-done-requires
put_object-done-requires c = (omega arith, ahead c.args.version c.of.result.version c.args.s.now c.of.ensures c.requires.1.1)

pub returns : goal.returns
returns c =
    let w = c.put_object-done in
    let v = c.plain_of in
    let h = c.has_room in
    let a = c.args in
    let first = c.put.ensures ∙ ap (λ (z : ℤ). set h.new.list 0 z) (through (record { sfits = v.type_inv }) v.ensures) ∙ ap (λ (l : List ℤ). set l 0 (pos a.version)) h.ensures.0 in
    list-good a.version a.s.now c.requires.1.1 a.list.now h.result (subst (λ (j : ℕ). Rooms (read_object j 16 0 a.s.now) (length a.list.now) h.result) c.of.ensures h.ensures.1) (c.if-not-has_room.false) c.put.new.list first w.result.p w.result.q _
    (subst (λ (j : ℕ). Lays a.s.now c.put.new.list 1 (read_object j 16 0 a.s.now) w.result.p w.result.q w.new.list) c.of.ensures w.ensures)
