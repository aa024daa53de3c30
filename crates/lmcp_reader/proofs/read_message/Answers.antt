-- `lmcp_reader::read_message` meets its contract: what is wrong with the message, or the numbers of its root.
use Rattle.wire.proofs.Basics.{◌≡◌, ℕ, ◌≤◌, ◌<◌, ◌-◌, ◌^◌, List, true, false, Bool, length, drop, length-drop, length-take, eqb, arith}
use Rattle.std.proofs.lemmas.Result.{err_from_is_err_and}
use Rattle.refusals.specs.Numbers.{number_of}
use Rattle.refusals.proofs.Names.{some_number}
use Rattle.lmcp.specs.Found.{found_told}
use Rattle.wire.specs.Choice.{pick}
use Rattle.wire.specs.Bytes.{be}
use Rattle.lmcp.specs.Limits.{max_message}
use Rattle.lmcp.specs.Lists.{version_of_lem, read_list}
use Rattle.lmcp_check.specs.Refusal.{refusal_of}
use Rattle.lmcp_check.proofs.Roots.{root, root-same, frame-within}
use Rattle.lmcp_reader.proofs.Roots.{answer-refused, good, good-ahead, answer-good}
use Rattle.lmcp_reader.proofs.read_message.Goals as goal

-- a version is 1 or 2

version-small : (b : List ℕ) {v : ℕ} → v ≡ version_of_lem b → v < 2 ^ 63
version-small b {v} e = by (eqb (be 2 (drop 13 b)) 2) e
  where
    by : (t : Bool) → v ≡ pick t 2 1 → v < 2 ^ 63
    by true q = omega arith
    by false q = omega arith

pub returns-in_err-check_message : goal.returns-in_err-check_message
returns-in_err-check_message c =
    let r = c.in_err-check_message.field-0.0 in
    let p = err_from_is_err_and c.from_residual.result c.from_residual.ensures.1 in
    rw (p.1, p.2) (answer-refused c.args.message.now c.args.list.now (number_of r) c.in_err-check_message.ensures (λ z. (let y : ⊥ = omega (arith, some_number r, z) in y)))

-- nothing is wrong

within : (m : List ℕ) → 0 ≡ refusal_of (read_list m) → (12 ≤ length m) × (length m ≤ max_message)
within m e = frame-within m (good m e).framed

pub overflow_sub-end : goal.overflow_sub-end
overflow_sub-end c = omega (arith, (within c.args.message.now c.in_ok-check_message.ensures).0)

pub slice_bounds-s-count : goal.slice_bounds-s-count
slice_bounds-s-count c = omega (arith, (within c.args.message.now c.in_ok-check_message.ensures).0)

pub slice_bounds-s-start : goal.slice_bounds-s-start
slice_bounds-s-start c = let k : 8 ≤ length c.args.message.now - 4 = omega (arith, (within c.args.message.now c.in_ok-check_message.ensures).0) in k

pub put_list-requires : goal.put_list-requires
put_list-requires c =
    let v = c.version_of in
    let m = c.args.message.now in
    let n : length (root m) ≤ length m = rw (length-take, length-drop) (omega arith) in
    (version-small (root m) v.ensures, (omega (arith, n, (within m c.in_ok-check_message.ensures).1), good-ahead m c.in_ok-check_message.ensures (root m) (root-same m) v.result v.ensures))

pub returns : goal.returns
returns c =
    let m = c.args.message.now in
    answer-good m c.in_ok-check_message.ensures (root m) (root-same m) c.version_of.result c.version_of.ensures c.args.list.now (found_told c.put_list.result) c.put_list.new.list c.put_list.ensures
