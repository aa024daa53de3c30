-- `lmcp_check::head_of` meets its contract.
use Rattle.wire.proofs.Basics.{◌∙◌, sym, ◌≡◌, ap, ℕ, ◌≤◌, ◌+◌, ◌<◌, [], ◌∷◌, length, drop, length-drop, drop-drop, pos, arith}
use Rattle.wire.specs.Bytes.{be}
use Rattle.lmcp.specs.Table.{pitsurv}
use Rattle.lmcp.specs.Read.{known}
use Rattle.lmcp.specs.Run.{tag}
use Rattle.lmcp_check.proofs.ReadCases.{head-short, head-odd, head-null, head-deep, head-cut, head-unknown, head-known}
use Rattle.lmcp.proofs.Heads.{typed-least, known-type}
use Rattle.lmcp.proofs.Widths.{be-one}
use Rattle.lmcp_check.proofs.head_of.Goals as goal
use Rattle.lmcp_check.proofs.head_of.Goals.{After-wide-exists}

enough : (r : After-wide-exists) → 1 ≤ length (drop r.args.at r.args.s.now)
enough r = simp length-drop r.if-s-at-lt1.false

-- the existence byte

byte : (r : After-wide-exists) → r.wide-exists.result ≡ be 1 (drop r.args.at r.args.s.now)
byte r = be-one r.args.s.now r.args.at _ r.wide-exists.ensures.0

pub returns-then-s-at-lt1 : goal.returns-then-s-at-lt1
returns-then-s-at-lt1 c = head-short (pitsurv c.args.version) c.args.deep c.args.declared (drop c.args.at c.args.s.now) (simp length-drop c.if-s-at-lt1.true)

pub returns-then-exists-eq0 : goal.returns-then-exists-eq0
returns-then-exists-eq0 c =
    let r = (goal.at.returns-then-exists-eq0 c).After-wide-exists in
    let a = c.args in
    let e = head-null (pitsurv c.args.version) a.deep a.declared (drop c.args.at c.args.s.now) (enough r) c.wide-exists.result (byte r) c.if-exists-eq0.true in
    (e ∙ ap (tag 0 (pos 0 ∷ [])) (drop-drop 1 a.at a.s.now), omega (arith, c.if-s-at-lt1.false, c.requires))

pub returns-then-exists-ne1 : goal.returns-then-exists-ne1
returns-then-exists-ne1 c =
    let r = (goal.at.returns-then-exists-ne1 c).After-wide-exists in
    let a = c.args in
    let o : 1 < c.wide-exists.result = omega (arith, c.if-exists-ne1.true, c.if-exists-eq0.false) in
    head-odd (pitsurv c.args.version) a.deep a.declared (drop c.args.at c.args.s.now) (enough r) c.wide-exists.result (byte r) o

pub returns-then-deep-eq0 : goal.returns-then-deep-eq0
returns-then-deep-eq0 c =
    let r = (goal.at.returns-then-deep-eq0 c).After-wide-exists in
    let a = c.args in
    let o : c.wide-exists.result ≤ 1 = omega (arith, c.if-exists-ne1.false) in
    head-deep (pitsurv c.args.version) a.deep a.declared (drop c.args.at c.args.s.now) (enough r) c.wide-exists.result (byte r) o c.if-exists-eq0.false c.if-deep-eq0.true

pub returns-then-s-at-lt15 : goal.returns-then-s-at-lt15
returns-then-s-at-lt15 c =
    let r = (goal.at.returns-then-s-at-lt15 c).After-wide-exists in
    let a = c.args in
    let o : c.wide-exists.result ≤ 1 = omega (arith, c.if-exists-ne1.false) in
    head-cut (pitsurv c.args.version) a.deep a.declared (drop c.args.at c.args.s.now) (enough r) c.wide-exists.result (byte r) o c.if-exists-eq0.false c.if-deep-eq0.false (simp length-drop c.if-s-at-lt15.true)

pub returns-then-known_at : goal.returns-then-known_at
returns-then-known_at c =
    let r = (goal.at.returns-then-known_at c).After-wide-exists in
    let a = c.args in
    let n = c.four.result in
    let o : c.wide-exists.result ≤ 1 = omega (arith, c.if-exists-ne1.false) in
    let p9 : a.at + 1 + 8 ≡ a.at + 9 = omega arith in
    let p15 : a.at + 1 + 14 ≡ a.at + 15 = omega arith in
    let k = sym c.if-known_at.true ∙ c.known_at.ensures ∙ ap (known (pitsurv c.args.version) a.declared) (sym (drop-drop 1 a.at a.s.now)) in
    let m : n ≡ be 4 (drop 8 (drop 1 (drop c.args.at c.args.s.now))) =
    c.four.ensures.0 ∙ ap (λ (i : ℕ). be 4 (drop i a.s.now)) (sym p9)
    ∙ ap (be 4) (sym (drop-drop 8 (a.at + 1) a.s.now) ∙ ap (drop 8) (sym (drop-drop 1 a.at a.s.now))) in
    let g = head-known (pitsurv c.args.version) a.deep a.declared (drop c.args.at c.args.s.now) (enough r) c.wide-exists.result (byte r) o c.if-exists-eq0.false c.if-deep-eq0.false (simp length-drop c.if-s-at-lt15.false) n k m in
    let q : drop 14 (drop 1 (drop c.args.at c.args.s.now)) ≡ drop (a.at + 15) a.s.now =
    ap (drop 14) (drop-drop 1 a.at a.s.now) ∙ drop-drop 14 (a.at + 1) a.s.now ∙ ap (λ (i : ℕ). drop i a.s.now) p15 in
    let l = typed-least (pitsurv c.args.version) a.declared _ (known-type (pitsurv c.args.version) a.declared (drop 1 (drop c.args.at c.args.s.now)) (sym k)) in
    record { some = λ z. (let y : ⊥ = omega (arith, l, m, z) in y); is = g ∙ ap (tag n (pos n ∷ [])) q; within = omega (arith, c.if-s-at-lt15.false, c.requires) }

pub returns : goal.returns
returns c =
    let r = (goal.at.returns c).After-wide-exists in
    let a = c.args in
    let o : c.wide-exists.result ≤ 1 = omega (arith, c.if-exists-ne1.false) in
    head-unknown (pitsurv c.args.version) a.deep a.declared (drop c.args.at c.args.s.now) (enough r) c.wide-exists.result (byte r) o c.if-exists-eq0.false c.if-deep-eq0.false (simp length-drop c.if-s-at-lt15.false)
    (sym c.if-known_at.false ∙ c.known_at.ensures ∙ ap (known (pitsurv c.args.version) a.declared) (sym (drop-drop 1 a.at a.s.now)))
