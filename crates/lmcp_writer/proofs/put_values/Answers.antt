use Rattle.wire.proofs.Basics.{◌∙◌, sym, ◌≡◌, ap, refl, subst, ℕ, ◌≤◌, ◌+◌, ◌<◌, ◌-◌, suc, ◌*◌, List, ◌∷◌, length, drop, get_or, sets, ℤ, pos, arith, rules}
use Rattle.wire.specs.Bytes.{bytes}
use Rattle.wire.specs.Signed.{unsigned}
use Rattle.wire.proofs.Numbers.{length-bytes}
use Rattle.lmcp.proofs.WalkPlaces.{sets-append}
use Rattle.lmcp.proofs.Sizes.{through}
use Rattle.lmcp.proofs.Widths.{peel}
use Rattle.lmcp_size.proofs.WriteCases.{here}
use Rattle.lmcp_writer.specs.InsidePuts.{spelled}
use Rattle.lmcp_writer.proofs.NumberBytes.{laid-number}
use Rattle.lmcp_writer.proofs.put_values.Goals as goal

-- one number, and then the others

next : (out o1 : List ℕ) (to w m j : ℕ) (l : List ℤ) (z : ℤ) (r : List ℤ) (u : ℕ) → l ≡ z ∷ r → m ≡ suc j → o1 ≡ sets out to (bytes w u) → u ≡ unsigned 64 z → sets o1 (to + w) (spelled j w r) ≡ sets out to (spelled m w l)
next out o1 to w m j l z r u e f o i =
    ap (λ (x : List ℕ). sets x (to + w) (spelled j w r)) (o ∙ ap (λ (y : ℕ). sets out to (bytes w y)) i)
    ∙ ap (λ (n : ℕ). sets (sets out to (bytes w (unsigned 64 z))) (to + n) (spelled j w r)) (sym (length-bytes w (unsigned 64 z)))
    ∙ sym (sets-append out to (bytes w (unsigned 64 z)) (spelled j w r)) ∙ sym (ap (λ (n : ℕ). sets out to (spelled n w l)) f ∙ ap (λ (x : List ℤ). sets out to (spelled (suc j) w x)) e)

pub loop-k-init : goal.loop-k-init
loop-k-init c =
    let a = c.args in
    let z : a.n - 0 ≡ a.n = omega arith in
    let y : a.from.p + 0 ≡ a.from.p = omega arith in (
      refl,
      (
        subst (λ (m : ℕ). a.from.q + m * a.w ≤ length a.out.now) (sym z) c.requires.0.1,
        ap (λ (m : ℕ). sets a.out.now a.from.q (spelled m a.w (drop (a.from.p + 0) a.list.now))) z ∙ ap (λ (m : ℕ). sets a.out.now a.from.q (spelled a.n a.w (drop m a.list.now))) y,
      ),
    )

pub put_number-requires : goal.put_number-requires
put_number-requires c =
    let x = c.loop-k in
    let a = c.args in
    let e = peel a.n x.k a.w c.loop-k-test.true in
    (omega (arith, x.invariant.0, x.invariant.1.0, e), c.requires.1)

pub overflow_add-to : goal.overflow_add-to
overflow_add-to c =
    let x = c.loop-k in
    let a = c.args in
    let e = peel a.n x.k a.w c.loop-k-test.true in
    record { fits = omega (arith, x.invariant.1.0, e, c.well_formed.1.1) }

pub loop-k-preserved : goal.loop-k-preserved
loop-k-preserved c =
    let x = c.loop-k in
    let a = c.args in
    let e = peel a.n x.k a.w c.loop-k-test.true in
    let i : a.from.p + x.k < length a.list.now = omega (arith, c.loop-k-test.true, c.requires.0.0) in
    let z : ℤ = get_or a.list.now (a.from.p + x.k) (pos 0) in
    let same = through z (record { sfits = search rules }) in
    let m : a.n - x.k ≡ suc (a.n - (x.k + 1)) = omega (arith, c.loop-k-test.true) in
    let j : a.from.p + (x.k + 1) ≡ a.from.p + x.k + 1 = omega arith in
    let u = c.bits_of.result in
    let o = laid-number x.out c.put_number.new.out x.to a.w u u c.put_number.ensures refl in (
      c.put_number.auto.out ∙ x.invariant.0,
      (
        omega (arith, x.invariant.1.0, e),
        ap (λ (y : ℕ). sets c.put_number.new.out (x.to + a.w) (spelled (a.n - (x.k + 1)) a.w (drop y a.list.now))) j
            ∙ next x.out c.put_number.new.out x.to a.w (a.n - x.k) (a.n - (x.k + 1)) (drop (a.from.p + x.k) a.list.now) z (drop (a.from.p + x.k + 1) a.list.now) u (here a.list.now (a.from.p + x.k) i) m o (c.bits_of.ensures ∙ ap (unsigned 64) same)
            ∙ x.invariant.1.1,
      ),
    )

pub returns : goal.returns
returns c =
    let x = c.loop-k in
    let a = c.args in
    let m : a.n - x.k ≡ 0 = omega (arith, c.loop-k-test.false) in
    sym (ap (λ (y : ℕ). sets x.out x.to (spelled y a.w (drop (a.from.p + x.k) a.list.now))) m) ∙ x.invariant.1.1
