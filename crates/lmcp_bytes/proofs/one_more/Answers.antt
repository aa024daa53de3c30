-- A list is written, or it is too long, and its line goes out. Assumes nothing.
use Rattle.wire.proofs.Basics.{◌∙◌, sym, ◌≡◌, ap, refl, subst, ℕ, ◌≤◌, ◌/◌, List, ◌++◌, Bool, length, take, sets, ℤ, le-ltb, lt-ltb, arith}
use Rattle.std.proofs.Common.{Result}
use Rattle.refusals.specs.declared.Refusal.{Refusal}
use Rattle.wire.specs.Signed.{signed}
use Rattle.lmcp.specs.Message.{WrittenTo}
use Rattle.lmcp.specs.Made.{made_told}
use Rattle.lmcp.specs.Lists.{write_list}
use Rattle.lmcp.specs.Limits.{max_message}
use Rattle.text.specs.Text.{decimal}
use Rattle.output.proofs.Adding.{adds_then, adds_is}
use Rattle.lmcp_bytes.specs.Lines.{numbers_of, by_length, list_limit, list_line}
use Rattle.lmcp_bytes.specs.Inside.{holds}
use Rattle.wire.proofs.Parts.{front_of}
use Rattle.record_lines.proofs.BodyNumbers.{length-numbers}
use Rattle.lmcp_bytes.proofs.Writing.{text_longer, text-written}
use Rattle.lmcp_bytes.proofs.one_more.Goals as goal

-- of a program that holds as much as it says
limits : (most room n : ℕ) (calculate : Bool) (body : List ℕ) → most ≡ list_limit → room ≡ max_message
    → list_line most room n calculate body ≡ list_line list_limit max_message n calculate body
limits most room n calculate body e f = λ j. list_line (e j) (f j) n calculate body

-- the front of the list is the record's numbers
taken : (list : List ℤ) (body : List ℕ) {k : ℕ} {list' : List ℤ} → length body / 8 ≤ length list → k ≡ length body / 8
    → list' ≡ sets list 0 (numbers_of (length body / 8) body) → take k list' ≡ numbers_of (length body / 8) body
taken list body {k} {list'} room e f =
    let vs = numbers_of (length body / 8) body in
    let some : length vs ≡ length body / 8 = length-numbers (signed 64) (length body / 8) body in
    (λ i. take (e i) (f i)) ∙ ap (λ (j : ℕ). take j (sets list 0 vs)) (sym some) ∙ front_of list vs (omega (arith, some, room))

pub returns-then-list-body-clause-written : goal.returns-then-list-body-clause-written
returns-then-list-body-clause-written c =
    let a = c.args in
    record {
      held =
          subst (λ (b : Bool). by_length b a.calculate a.body.now (holds a.list.now a.bytes.now) (holds a.list.now a.bytes.now))
          (sym (lt-ltb (length a.list.now) (length a.body.now / 8) c.if-list-body.true))
          (record { same-list = refl; same_bytes = refl });
      said =
          adds_is (adds_then c.pour_decimal.ensures c.pour_longer.ensures)
          (ap (λ (l : List ℕ). decimal a.n ++ l) (text_longer (length a.list.now) (length a.bytes.now) a.calculate a.body.now c.if-list-body.true));
    }

pub returns-then-list-body-clause-line : goal.returns-then-list-body-clause-line
returns-then-list-body-clause-line c =
    let a = c.args in
    adds_is (adds_then c.pour_decimal.ensures c.pour_longer.ensures)
    (ap (λ (l : List ℕ). decimal a.n ++ l) (text_longer (length a.list.now) (length a.bytes.now) a.calculate a.body.now c.if-list-body.true)
    ∙ limits _ _ a.n a.calculate a.body.now c.requires.0 c.requires.1)

pub slice_bounds-write_message-end : goal.slice_bounds-write_message-end
slice_bounds-write_message-end c =
    let k = c.take_list-count in
    omega (arith, k.ensures.0, k.auto.list, c.if-list-body.false)

-- what the writer was given is the record's list
unfold-list : (calculate : Bool) (body : List ℕ) (bytes bytes' : List ℕ) (l : List ℤ) (w : Result ℕ Refusal) → l ≡ numbers_of (length body / 8) body
    → WrittenTo (write_list calculate l) bytes (made_told w) bytes' → WrittenTo (write_list calculate (numbers_of (length body / 8) body)) bytes (made_told w) bytes'
unfold-list calculate body bytes bytes' l w e x = subst (λ (y : List ℤ). WrittenTo (write_list calculate y) bytes (made_told w) bytes') e x

pub returns-clause-written : goal.returns-clause-written
returns-clause-written c =
    let a = c.args in
    let k = c.take_list-count in
    let e = taken a.list.now a.body.now c.if-list-body.false k.ensures.0 k.ensures.1 in
    let u = unfold-list a.calculate a.body.now a.bytes.now c.write_message-made.new.out _ c.write_message-made.result e c.write_message-made.ensures in
    record {
      held =
          subst (λ (b : Bool). by_length b a.calculate a.body.now (holds a.list.now a.bytes.now) (holds k.new.list c.write_message-made.new.out))
          (sym (le-ltb (length a.list.now) (length a.body.now / 8) c.if-list-body.false))
          (record { taken = k.ensures.1; made = made_told c.write_message-made.result; written = u });
      said =
          adds_is (adds_then c.pour_decimal.ensures c.pour_made.ensures)
          (ap (λ (l : List ℕ). decimal a.n ++ l) (text-written (length a.list.now) a.calculate a.body.now a.bytes.now _ (made_told c.write_message-made.result) c.if-list-body.false u));
    }

pub returns-clause-line : goal.returns-clause-line
returns-clause-line c =
    let a = c.args in
    let k = c.take_list-count in
    let e = taken a.list.now a.body.now c.if-list-body.false k.ensures.0 k.ensures.1 in
    let u = unfold-list a.calculate a.body.now a.bytes.now c.write_message-made.new.out _ c.write_message-made.result e c.write_message-made.ensures in
    adds_is (adds_then c.pour_decimal.ensures c.pour_made.ensures)
    (ap (λ (l : List ℕ). decimal a.n ++ l) (text-written (length a.list.now) a.calculate a.body.now a.bytes.now _ (made_told c.write_message-made.result) c.if-list-body.false u)
    ∙ limits _ _ a.n a.calculate a.body.now c.requires.0 c.requires.1)
