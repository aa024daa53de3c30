use Rattle.wire.proofs.Basics.{◌∙◌, sym, ◌≡◌, ap, refl, ℕ, ◌+◌, ◌-◌, suc, List, drop, get_or, set, drop-drop, sets, ℤ, pos, arith}
use Rattle.wire.specs.Bytes.{be}
use Rattle.lmcp_reader.proofs.NumberBits.{through}
use Rattle.lmcp_reader.specs.InsidePuts.{bytes_as_numbers}
use Rattle.lmcp.proofs.Widths.{be-one}
use Rattle.lmcp_reader.proofs.put_bytes_as_numbers.Goals as goal

pub loop-k-init : goal.loop-k-init
loop-k-init c =
    let a = c.args in
    let l = a.list.now in
    let zp : a.from.p + 0 ≡ a.from.p = omega arith in
    let zq : a.from.q + 0 ≡ a.from.q = omega arith in
    let zn : a.n - 0 ≡ a.n = omega arith in (
      refl,
      ap (λ (i : ℕ). sets l i (bytes_as_numbers (a.n - 0) (drop (a.from.p + 0) a.s.now))) zq ∙ ap (λ (i : ℕ). sets l a.from.q (bytes_as_numbers i (drop (a.from.p + 0) a.s.now))) zn
          ∙ ap (λ (i : ℕ). sets l a.from.q (bytes_as_numbers a.n (drop i a.s.now))) zp,
    )

pub loop-k-preserved : goal.loop-k-preserved
loop-k-preserved c =
    let x = c.loop-k in
    let a = c.args in
    let v = c.from in
    let i = a.from.p + x.k in
    let j = a.from.q + x.k in
    let l = drop i a.s.now in
    let rest = a.n - (x.k + 1) in
    let m : a.n - x.k ≡ suc rest = omega (arith, c.loop-k-test.true) in
    let next-i : a.from.p + (x.k + 1) ≡ i + 1 = omega arith in
    let next-j : a.from.q + (x.k + 1) ≡ suc j = omega arith in
    let byte = through (record { sfits = v.type_inv }) v.ensures ∙ ap pos (be-one a.s.now i (get_or a.s.now i 0) refl) in
    let put = c.put.ensures ∙ ap (λ (z : ℤ). set x.list j z) byte in (
      c.put.auto.list ∙ x.invariant.0,
      ap (λ (y : ℕ). sets c.put.new.list y (bytes_as_numbers rest (drop (a.from.p + (x.k + 1)) a.s.now))) next-j
          ∙ ap (λ (y : ℕ). sets c.put.new.list (suc j) (bytes_as_numbers rest (drop y a.s.now))) next-i
          ∙ ap (λ (o : List ℤ). sets o (suc j) (bytes_as_numbers rest (drop (i + 1) a.s.now))) put
          ∙ ap (λ (y : List ℕ). sets (set x.list j (pos (be 1 l))) (suc j) (bytes_as_numbers rest y)) (sym (drop-drop 1 i a.s.now))
          ∙ ap (λ (y : ℕ). sets x.list j (bytes_as_numbers y l)) (sym m)
          ∙ x.invariant.1,
    )

pub returns : goal.returns
returns c =
    let x = c.loop-k in
    let a = c.args in
    let m : a.n - x.k ≡ 0 = omega (arith, c.loop-k-test.false) in
    sym (ap (λ (y : ℕ). sets x.list (a.from.q + x.k) (bytes_as_numbers y (drop (a.from.p + x.k) a.s.now))) m) ∙ x.invariant.1
