-- `names::good_name` meets its contract. Assumes nothing.
use Rattle.wire.proofs.Basics.{◌∙◌, sym, ap, length, eqb, le-leb, lt-leb, arith}
use Rattle.names.specs.Limits.{max_name}
use Rattle.names.specs.Name.{good_name_lem}
use Rattle.names.specs.declared.Scan.{Scan}
use Rattle.names.proofs.Names.{long-name}
use Rattle.names.proofs.Scans.{plain-all}
use Rattle.names.proofs.good_name.Goals as goal

pub returns-then-name-lt1 : goal.returns-then-name-lt1
unfolding good_name_lem
returns-then-name-lt1 c = rw (lt-leb 1 (length c.args.name.now) c.if-name-lt1.true)

pub returns-then-name-gt-MAX_NAME : goal.returns-then-name-gt-MAX_NAME
returns-then-name-gt-MAX_NAME c = sym (long-name c.args.name.now c.if-name-gt-MAX_NAME.true)

pub returns-then-is_plain : goal.returns-then-is_plain
unfolding good_name_lem
returns-then-is_plain c =
    let l = c.args.name.now in
    let e = ap (λ (s : Scan). eqb s.left 0) (plain-all l (sym c.is_plain.ensures ∙ c.if-is_plain.true)) in
    sym (rw (le-leb 1 (length l) (omega arith), le-leb (length l) max_name (omega arith)) e)

pub returns : goal.returns
unfolding good_name_lem
returns c =
    let l = c.args.name.now in
    c.well_formed-2.ensures ∙ sym (rw (le-leb 1 (length l) (omega arith), le-leb (length l) max_name (omega arith)))
