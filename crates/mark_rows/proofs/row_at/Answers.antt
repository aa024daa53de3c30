-- Number by number. Assumes nothing.
use Rattle.wire.proofs.Basics.{◌∙◌, ap, ℕ, ◌%◌, [], ◌∷◌, Bool, not, drop, eqb, pos}
use Rattle.wire.specs.Choice.{pick}
use Rattle.lmcp.proofs.Sizes.{through}
use Rattle.count_rules.specs.Keys.{span}
use Rattle.mark_rows.specs.Placed.{signed_at}
use Rattle.mark_rows.proofs.row_at.Goals as goal

abbrev some : ℕ → Bool
some n = not (eqb n 0)

pub returns : goal.returns
returns c =
    let a = c.args in
    let d = drop a.place a.list.now in
    let e = c.size_at-placed.ensures in
    λ i.
    (through c.pit_of.result (record { sfits = c.pit_of.type_inv }) ∙ (c.pit_of.ensures ∙ ap (λ (k : ℕ). pos (k % span)) c.size_at.ensures)) i
    ∷ (through c.one_if.result (record { sfits = c.one_if.type_inv }) ∙ (c.one_if.ensures ∙ ap (λ (k : ℕ). pos (pick (some k) 1 0)) c.size_at-2.ensures)) i
    ∷ (through c.one_if-2.result (record { sfits = c.one_if-2.type_inv }) ∙ (c.one_if-2.ensures ∙ ap (λ (k : ℕ). pos (pick (some k) 1 0)) e)) i
    ∷ (through c.number_if.result (record { sfits = c.number_if.type_inv }) ∙ (c.number_if.ensures ∙ ap (λ (k : ℕ). pick (some k) (signed_at d 4) (pos 0)) e)) i
    ∷ (through c.number_if-2.result (record { sfits = c.number_if-2.type_inv }) ∙ (c.number_if-2.ensures ∙ ap (λ (k : ℕ). pick (some k) (signed_at d 5) (pos 0)) e)) i
    ∷ (through c.number_if-3.result (record { sfits = c.number_if-3.type_inv }) ∙ (c.number_if-3.ensures ∙ ap (λ (k : ℕ). pick (some k) (signed_at d 6) (pos 0)) e)) i
    ∷ (through c.one_if-3.result (record { sfits = c.one_if-3.type_inv }) ∙ c.one_if-3.ensures) i
    ∷ (through c.number_if-4.result (record { sfits = c.number_if-4.type_inv }) ∙ (c.number_if-4.ensures ∙ ap (λ (k : ℕ). pick a.two (signed_at d k) (pos 0)) (c.depth_place.ensures ∙ ap (λ (k : ℕ). pick (some k) 7 4) e))) i
    ∷ []
