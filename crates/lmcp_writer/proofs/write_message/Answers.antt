-- `lmcp_writer::write_message` meets its contract: what is wrong with the list, no room, or the message.
use Rattle.wire.proofs.Basics.{◌∙◌, ◌≡◌, ap, Bool, List, ◌<◌, length, get_or, ℕ, ℤ, pos, arith, rules}
use lib.Signed.{mag}
use Rattle.std.proofs.lemmas.Result.{err_from_is_err_and}
use Rattle.refusals.specs.Numbers.{number_of}
use Rattle.lmcp.specs.Made.{Bytes}
use Rattle.lmcp.specs.Lists.{write_list}
use Rattle.lmcp.proofs.Sizes.{through}
use Rattle.lmcp_size.specs.Size.{sized}
use Rattle.lmcp_writer.proofs.Answers.{answer-refused, answer-short, some-list, root-of, root-ahead, list-good}
use Rattle.lmcp_writer.proofs.write_message.Goals as goal
use Rattle.lmcp_writer.proofs.write_message.Goals.{After-size_of-version}

some : (calculate : Bool) (l : List ℤ) (n : ℕ) → Bytes n ≡ sized (write_list calculate l) → 0 < length l
some calculate l n e = let s = (some-list calculate l n e).0 in omega (arith, s)

-- the list's version

version : (c : After-size_of-version) → c.size_of-version.result ≡ mag (get_or c.args.list.now 0 (pos 0))
version c =
    let z : ℤ = get_or c.args.list.now 0 (pos 0) in
    c.size_of-version.ensures ∙ ap mag (through z (record { sfits = search rules }))

pub returns-in_err-size : goal.returns-in_err-size
returns-in_err-size c =
    let a = c.args in
    let p = err_from_is_err_and c.from_residual.result c.from_residual.ensures.1 in
    rw (p.1, p.2) (answer-refused (write_list a.calculate a.list.now) a.out.now (number_of c.in_err-size.field-0.0) (c.in_err-size.ensures a.calculate))

pub returns-then-out-size : goal.returns-then-out-size
returns-then-out-size c =
    let a = c.args in
    answer-short (write_list a.calculate a.list.now) a.out.now c.in_ok-size.size (c.in_ok-size.ensures a.calculate) c.if-out-size.true

pub bounds-list-0 : goal.bounds-list-0
bounds-list-0 c = some c.args.calculate c.args.list.now c.in_ok-size.size (c.in_ok-size.ensures c.args.calculate)

pub slice_bounds-put_message-count : goal.slice_bounds-put_message-count
slice_bounds-put_message-count c = let l = some c.args.calculate c.args.list.now c.in_ok-size.size (c.in_ok-size.ensures c.args.calculate) in search rules

pub slice_bounds-put_message-start : goal.slice_bounds-put_message-start
slice_bounds-put_message-start c = let l = some c.args.calculate c.args.list.now c.in_ok-size.size (c.in_ok-size.ensures c.args.calculate) in search rules

pub slice_bounds-put_message-end : goal.slice_bounds-put_message-end
slice_bounds-put_message-end c = let l = some c.args.calculate c.args.list.now c.in_ok-size.size (c.in_ok-size.ensures c.args.calculate) in search rules

pub overflow_sub-size : goal.overflow_sub-size
overflow_sub-size c =
    let v = (goal.at.overflow_sub-size c).After-size_of-version in
    let a = c.args in
    let l = (root-of a.calculate a.list.now c.in_ok-size.size (c.in_ok-size.ensures a.calculate) c.size_of-version.result (version v)).long in search rules

pub put_message-requires : goal.put_message-requires
put_message-requires c =
    let v = (goal.at.put_message-requires c).After-size_of-version in
    let a = c.args in
    let e = c.in_ok-size.ensures a.calculate in
    let R = root-of a.calculate a.list.now c.in_ok-size.size e c.size_of-version.result (version v) in
    (omega (arith, c.if-out-size.false, R.long), (omega (arith, R.long), root-ahead a.calculate a.list.now c.in_ok-size.size e c.size_of-version.result (version v)))

pub returns : goal.returns
returns c =
    let v = (goal.at.returns c).After-size_of-version in
    let a = c.args in
    list-good a.calculate a.list.now c.in_ok-size.size (c.in_ok-size.ensures a.calculate) c.size_of-version.result (version v) a.out.now c.put_message.new.out c.if-out-size.false c.put_message.ensures
