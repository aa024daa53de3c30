-- `names::first` meets its contract. Assumes nothing.
use Rattle.wire.proofs.Basics.{◌∙◌, sym}
use Rattle.names.proofs.first.Goals as goal

pub returns-then-within : goal.returns-then-within
returns-then-within c = rw (sym c.within.ensures ∙ c.if-within.true) c.tails.ensures

pub returns-then-within-2 : goal.returns-then-within-2
returns-then-within-2 c =
    rw (sym c.within.ensures ∙ c.if-within.false, sym c.within-2.ensures ∙ c.if-within-2.true) c.after.ensures

pub returns-then-within-3 : goal.returns-then-within-3
returns-then-within-3 c =
    let a = sym c.within.ensures ∙ c.if-within.false in
    let b = sym c.within-2.ensures ∙ c.if-within-2.false in
    rw (a, b, sym c.within-3.ensures ∙ c.if-within-3.true) c.after-then-within-3.ensures

pub returns-then-within-4 : goal.returns-then-within-4
returns-then-within-4 c =
    let a = sym c.within.ensures ∙ c.if-within.false in
    let b = sym c.within-2.ensures ∙ c.if-within-2.false in
    let d = sym c.within-3.ensures ∙ c.if-within-3.false in
    rw (a, b, d, sym c.within-4.ensures ∙ c.if-within-4.true) c.after-then-within-4.ensures

pub returns : goal.returns
returns c =
    let a = sym c.within.ensures ∙ c.if-within.false in
    let b = sym c.within-2.ensures ∙ c.if-within-2.false in
    let d = sym c.within-3.ensures ∙ c.if-within-3.false in
    rw (a, b, d, sym c.within-4.ensures ∙ c.if-within-4.false)
