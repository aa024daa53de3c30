-- A record's line. Assumes nothing.
use Rattle.wire.proofs.Basics.{◌∙◌, sym, ◌≡◌, ap, ℕ, List, ◌≤◌, ◌++◌, ◌/◌, length, take, sets, arith}
use Rattle.text.specs.Text.{decimal}
use Rattle.output.proofs.Adding.{adds_then, adds_is}
use Rattle.ack_bytes.specs.Lines.{list_limit, numbers_of, record_list, bytes_text}
use Rattle.wire.proofs.Parts.{front_of}
use Rattle.record_lines.proofs.BodyNumbers.{length-numbers}
use Rattle.ack_bytes.proofs.Records.{line_longer, line-cut, line-bytes, line_refused}
use Rattle.ack_bytes.proofs.one_more.Goals as goal

-- the front of the list is the record's numbers
list_taken : (list b : List ℕ) {k : ℕ} {list' : List ℕ} → length list ≡ list_limit → length b / 8 ≤ list_limit → k ≡ length b / 8
    → list' ≡ sets list 0 (numbers_of (length b / 8) b) → take k list' ≡ record_list b
list_taken list b {k} {list'} room held e f =
    let numbers = numbers_of (length b / 8) b in
    let some : length numbers ≡ length b / 8 = length-numbers (λ x. x) (length b / 8) b in
    (λ i. take (e i) (f i))
    ∙ ap (λ (j : ℕ). take j (sets list 0 numbers)) (sym some)
    ∙ front_of list numbers (omega (arith, some, held, room))

pub returns-then-body-gt-NUMBERS : goal.returns-then-body-gt-NUMBERS
returns-then-body-gt-NUMBERS c =
    let a = c.args in
    adds_is (adds_then c.pour_decimal.ensures c.pour_longer.ensures) (line_longer a.n a.body.now c.if-body-gt-NUMBERS.true)

pub returns-then-body-ne0 : goal.returns-then-body-ne0
returns-then-body-ne0 c =
    let a = c.args in
    adds_is (adds_then c.pour_decimal.ensures c.pour_refused.ensures) (line-cut a.n a.body.now c.if-body-gt-NUMBERS.false c.if-body-ne0.true)

pub slice_bounds-write_blocks-end : goal.slice_bounds-write_blocks-end
slice_bounds-write_blocks-end c =
    let k = c.take_list-count in
    omega (arith, c.requires.0, k.ensures.0, k.auto.list, c.if-body-gt-NUMBERS.false)

pub returns-in-Ok : goal.returns-in-Ok
returns-in-Ok c =
    let a = c.args in
    let b = a.body.now in
    let k = c.take_list-count.ensures in
    let is = list_taken a.list.now b c.requires.0 c.if-body-gt-NUMBERS.false k.0 k.1 in
    adds_is (adds_then c.pour_decimal.ensures c.pour_bytes.ensures)
    (ap (λ (x : List ℕ). decimal a.n ++ bytes_text x) c.part.ensures
    ∙ line-bytes a.n b c.if-body-gt-NUMBERS.false c.if-body-ne0.false a.blocks.now _ c.requires.1 _ is _ c.in-Ok.ensures)

pub returns-in-Err : goal.returns-in-Err
returns-in-Err c =
    let a = c.args in
    let b = a.body.now in
    let k = c.take_list-count.ensures in
    let is = list_taken a.list.now b c.requires.0 c.if-body-gt-NUMBERS.false k.0 k.1 in
    adds_is (adds_then c.pour_decimal.ensures c.pour_refused-in-Err.ensures)
    (line_refused a.n b c.if-body-gt-NUMBERS.false c.if-body-ne0.false a.blocks.now _ c.requires.1 _ is _ c.in-Err.ensures)
