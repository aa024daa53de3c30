-- `lmcp_size::message_size` meets its contract: the version, and then the rest of the list by its table.
use Rattle.wire.proofs.Basics.{rules, ◌∙◌, sym, ap, get_or, ℤ, pos}
use lib.Signed.{mag}
use Rattle.lmcp.specs.Lists.{is_version_lem}
use Rattle.lmcp.proofs.Sizes.{through}
use Rattle.lmcp_size.specs.Size.{sized}
use Rattle.lmcp_size.proofs.Answers.{list-empty, list-other, list-version}
use Rattle.lmcp_size.proofs.message_size.Goals as goal

pub returns-then-list-eq0 : goal.returns-then-list-eq0
returns-then-list-eq0 c = list-empty c.args.list.now c.if-list-eq0.true

pub returns-then-is_version : goal.returns-then-is_version
returns-then-is_version c calculate =
    let a = c.args in
    let z : ℤ = get_or a.list.now 0 (pos 0) in
    let same = through z (record { sfits = search rules }) in
    c.root_size.ensures calculate
    ∙ sym (ap sized (list-version a.list.now c.if-list-eq0.false (sym (c.is_version.ensures ∙ ap is_version_lem same) ∙ c.if-is_version.true) c.size_of.result (c.size_of.ensures ∙ ap mag same) calculate))

pub returns : goal.returns
returns c =
    let a = c.args in
    let z : ℤ = get_or a.list.now 0 (pos 0) in
    let same = through z (record { sfits = search rules }) in
    list-other a.list.now c.if-list-eq0.false (sym (c.is_version.ensures ∙ ap is_version_lem same) ∙ c.if-is_version.false)
