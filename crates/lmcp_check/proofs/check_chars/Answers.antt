use Rattle.wire.proofs.Basics.{◌∙◌, ap, refl, ◌≤◌, ◌+◌, ◌<◌, ◌-◌, [], ◌∷◌, length, drop, get_or, length-drop, drop-drop, arith}
use Rattle.std.proofs.Common.{Ok, Err}
use Rattle.refusals.specs.declared.Refusal.TheVariants.{EndsInside, NotAscii}
use Rattle.lmcp.specs.Run.{repeat, got}
use Rattle.lmcp.specs.Table.{char_kind}
use Rattle.lmcp.specs.Value.{number_of}
use Rattle.lmcp.specs.Read.{read_value}
use Rattle.lmcp.proofs.WalkPlaces.{repeat-all}
use Rattle.lmcp_check.proofs.ReadCases.{value-short, value-bad, value-good, fault-char, sound-char}
use Rattle.lmcp.proofs.Widths.{be-one}
use Rattle.lmcp_check.proofs.CheckTurns.{made, begins, items-turn, items-stop, items-end}
use Rattle.lmcp_check.proofs.check_chars.Goals as goal

pub loop-init : goal.loop-init
loop-init c = let a = c.args in (begins (repeat (a.n - 0) (read_value char_kind 1)) a.at (repeat-all (read_value char_kind 1) (drop a.at a.s.now) a.n) c.requires.0)

pub returns-then-s-p : goal.returns-then-s-p
returns-then-s-p c =
    let x = c.loop in
    let a = c.args in
    let b = drop x.p a.s.now in
    items-stop (read_value char_kind 1) a.n x.counter x.invariant c.loop-test.true (Err EndsInside) (value-short char_kind 1 b (rw length-drop (omega (arith, c.if-s-p.true)))) EndsInside refl

pub returns-then-s-p-gt127 : goal.returns-then-s-p-gt127
returns-then-s-p-gt127 c =
    let x = c.loop in
    let a = c.args in
    let b = drop x.p a.s.now in
    let l : 1 ≤ length b = rw length-drop (omega (arith, c.if-s-p.false)) in
    let v = be-one a.s.now x.p (get_or a.s.now x.p 0) refl in
    let g : 127 < get_or a.s.now x.p 0 = c.if-s-p-gt127.true in
    items-stop (read_value char_kind 1) a.n x.counter x.invariant c.loop-test.true (Err NotAscii)
    (value-bad char_kind 1 b l (get_or a.s.now x.p 0) 27 v (fault-char char_kind _ refl g) (λ z. (let y : ⊥ = omega (arith, z) in y))) NotAscii refl

pub loop-preserved : goal.loop-preserved
loop-preserved c =
    let x = c.loop in
    let a = c.args in
    let b = drop x.p a.s.now in
    let v = get_or a.s.now x.p 0 in
    let i = c.if-s-p.false in
    let l : 1 ≤ length b = rw length-drop (omega (arith, i)) in
    let e = be-one a.s.now x.p v refl in
    let g : v ≤ 127 = c.if-s-p-gt127.false in
    let m = value-good char_kind 1 b l v 0 (number_of char_kind 1 v) e (sound-char char_kind v refl g) refl refl in
    items-turn (read_value char_kind 1) a.n x.counter x.invariant c.loop-test.true (Ok (x.p + 1))
    (made (number_of char_kind 1 v ∷ []) (x.p + 1) (m ∙ ap (got (number_of char_kind 1 v ∷ [])) (drop-drop 1 x.p a.s.now)) (omega (arith, i))) (x.p + 1) refl

pub returns : goal.returns
returns c =
    let x = c.loop in
    let a = c.args in
    items-end (read_value char_kind 1) a.n x.counter x.invariant c.loop-test.false
