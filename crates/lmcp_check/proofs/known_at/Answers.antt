-- `lmcp_check::known_at` meets its contract.
use Rattle.wire.proofs.Basics.{◌∙◌, sym, ◌≡◌, ap, ℕ, ◌+◌, ◌<◌, List, drop, drop-drop, arith}
use Rattle.wire.specs.Bytes.{be}
use Rattle.lmcp.specs.Table.{pitsurv}
use Rattle.lmcp.specs.Read.{typed}
use Rattle.lmcp.proofs.Widths.{be-eight}
use Rattle.lmcp_check.proofs.ReadCases.{not-series, not-version, known-typed}
use Rattle.lmcp_check.proofs.known_at.Goals as goal

-- the series by its halves

module _ (s : List ℕ) (at x y : ℕ) (e : x ≡ be 4 (drop at s)) (f : y ≡ be 4 (drop (at + 4) s)) where
  has-halves : y < 4294967296 → be 8 (drop at s) ≡ 5785247913224590848 → (x ≡ 1346982995) × (y ≡ 1431459328)
  has-halves l h = let g = be-eight s at x y e f in (omega (arith, g, h, l), omega (arith, g, h, l))

  of-halves : x ≡ 1346982995 → y ≡ 1431459328 → be 8 (drop at s) ≡ 5785247913224590848
  of-halves a b = let g = be-eight s at x y e f in omega (arith, g, a, b)

pub returns-then-begins-ne-SERIES_BEGINS : goal.returns-then-begins-ne-SERIES_BEGINS
unfolding be
returns-then-begins-ne-SERIES_BEGINS c =
    let a = c.args in
    not-series (pitsurv a.version) a.declared (drop a.at a.s.now)
    (λ e. c.if-begins-ne-SERIES_BEGINS.true (has-halves a.s.now a.at _ _ c.four-begins.ensures.0 c.four-ends.ensures.0 c.four-ends.ensures.1 e).0)

pub returns-then-ends-ne-SERIES_ENDS : goal.returns-then-ends-ne-SERIES_ENDS
unfolding be
returns-then-ends-ne-SERIES_ENDS c =
    let a = c.args in
    not-series (pitsurv a.version) a.declared (drop a.at a.s.now)
    (λ e. c.if-ends-ne-SERIES_ENDS.true (has-halves a.s.now a.at _ _ c.four-begins.ensures.0 c.four-ends.ensures.0 c.four-ends.ensures.1 e).1)

pub returns-then-two-version : goal.returns-then-two-version
returns-then-two-version c =
    let a = c.args in
    not-version (pitsurv a.version) a.declared (drop a.at a.s.now)
    (λ e. let q = c.two.ensures.0 ∙ ap (be 2) (sym (drop-drop 12 a.at a.s.now)) ∙ e in let y : ⊥ = omega (arith, c.if-two-version.true) in y)

pub returns : goal.returns
unfolding be
returns c =
    let a = c.args in
    let b = drop a.at a.s.now in
    let s = of-halves a.s.now a.at _ _ c.four-begins.ensures.0 c.four-ends.ensures.0 c.if-begins-ne-SERIES_BEGINS.false c.if-ends-ne-SERIES_ENDS.false in
    let v : be 2 (drop 12 b) ≡ a.version = ap (be 2) (drop-drop 12 a.at a.s.now) ∙ sym c.two.ensures.0 ∙ c.if-two-version.false in
    let n = c.four.ensures.0 ∙ ap (be 4) (sym (drop-drop 8 a.at a.s.now)) in
    c.typed_in.ensures ∙ ap (typed (pitsurv a.version) a.declared) n ∙ known-typed (pitsurv a.version) a.declared b s v
