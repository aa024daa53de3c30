-- `datagram::read_fragment` meets its contract. Assumes nothing.
use Rattle.wire.proofs.Basics.{◌∙◌, sym, ◌≡◌, ℕ, ◌≤◌, ◌<◌, List, drop, eqb, ltb, eq-eqb, le-ltb, ne_eqb, lt-ltb, le-leb, lt-leb, arith}
use Rattle.wire.specs.Choice.{pick}
use Rattle.datagram.specs.Name.{name_length_lem}
use Rattle.datagram.specs.Read.{Refused, size_in, number_in, count_in, place, zero_to, formed, read_fragment_lem}
use Rattle.datagram.proofs.Names.{named-rest, found-short}
use Rattle.datagram.proofs.read_fragment.Goals as goal

-- past refusal 5: the size decides
past-five : (max_size max_count : ℕ) (d : List ℕ) → (count_in d ≡ 0 → ⊥) → count_in d ≤ max_count → number_in d < count_in d
    → read_fragment_lem max_size max_count d
    ≡ pick (ltb max_size (size_in d)) (Refused 6) (pick (eqb (number_in d) 0) (zero_to d (name_length_lem (drop 20 d))) (formed d (place 20 0) 20))
unfolding read_fragment_lem
past-five max_size max_count d some' few numbered = rw (ne_eqb _ _ some', le-ltb _ _ few, lt-leb _ _ numbered)

-- past refusal 6: the number decides
past-six : (max_size max_count : ℕ) (d : List ℕ) (n k size : ℕ) → n ≡ count_in d → k ≡ number_in d → size ≡ size_in d
    → (n ≡ 0 → ⊥) → n ≤ max_count → k < n → size ≤ max_size
    → read_fragment_lem max_size max_count d ≡ pick (eqb k 0) (zero_to d (name_length_lem (drop 20 d))) (formed d (place 20 0) 20)
past-six max_size max_count d n k size en ek es some' few numbered fits =
    past-five max_size max_count d (rw en at some') (rw en at few) (rw (en, ek) at numbered) ∙ rw (le-ltb _ _ (rw es at fits), sym ek)

pub returns-then-count-eq0 : goal.returns-then-count-eq0
unfolding read_fragment_lem
returns-then-count-eq0 c = rw (eq-eqb _ _ (sym c.two-count.ensures.0 ∙ c.if-count-eq0.true))

pub returns-then-max_count-count : goal.returns-then-max_count-count
unfolding read_fragment_lem
returns-then-max_count-count c =
    let count = c.two-count.ensures.0 in
    rw (ne_eqb _ _ (rw count at c.if-count-eq0.false), lt-ltb _ _ (rw count at c.if-max_count-count.true))

pub returns-then-count-number : goal.returns-then-count-number
unfolding read_fragment_lem
returns-then-count-number c =
    let count = c.two-count.ensures.0 in
    rw (ne_eqb _ _ (rw count at c.if-count-eq0.false), le-ltb _ _ (rw count at c.if-max_count-count.false), le-leb _ _ (rw (count, c.two-number.ensures.0) at c.if-count-number.true))

pub returns-then-max_size-four : goal.returns-then-max_size-four
returns-then-max_size-four c =
    let count = c.two-count.ensures.0 in
    rw
    (past-five _ _ _ (rw count at c.if-count-eq0.false) (rw count at c.if-max_count-count.false) (rw (count, c.two-number.ensures.0) at c.if-count-number.false), lt-ltb _ _ (rw c.four.ensures at c.if-max_size-four.true))

pub returns-then-number-ne0 : goal.returns-then-number-ne0
returns-then-number-ne0 c =
    c.formed_of.ensures ∙ sym
    (past-six _ _ _ _ _ _ c.two-count.ensures.0 c.two-number.ensures.0 c.four.ensures c.if-count-eq0.false c.if-max_count-count.false c.if-count-number.false c.if-max_size-four.false
    ∙ rw (ne_eqb _ _ c.if-number-ne0.true))

pub returns-in_default : goal.returns-in_default
returns-in_default c =
    sym
    (past-six _ _ _ _ _ _ c.two-count.ensures.0 c.two-number.ensures.0 c.four.ensures c.if-count-eq0.false c.if-max_count-count.false c.if-count-number.false c.if-max_size-four.false
    ∙ rw (eq-eqb _ _ c.if-number-ne0.false, named-rest c.args.d.now 20 _ c.name_length.ensures ∙ c.in_default.is))

pub overflow_add-c : goal.overflow_add-c
overflow_add-c c = omega (arith, found-short _ _ (named-rest c.args.d.now 20 _ c.name_length.ensures ∙ c.in-Some.is))

pub returns : goal.returns
returns c =
    c.formed_of-2.ensures ∙ sym
    (past-six _ _ _ _ _ _ c.two-count.ensures.0 c.two-number.ensures.0 c.four.ensures c.if-count-eq0.false c.if-max_count-count.false c.if-count-number.false c.if-max_size-four.false
    ∙ rw (eq-eqb _ _ c.if-number-ne0.false, named-rest c.args.d.now 20 _ c.name_length.ensures ∙ c.in-Some.is))
