-- `lmcp_check::frame_of` meets its contract, in the order of the refusals.
use Rattle.wire.proofs.Basics.{◌∙◌, sym, ◌≡◌, ap, ℕ, ◌≤◌, ◌+◌, ◌-◌, true, length, drop, take, length-take-le, arith}
use Rattle.wire.specs.Bytes.{be}
use Rattle.wire.specs.Same.{same}
use Rattle.lmcp.specs.Limits.{max_message, magic}
use Rattle.lmcp_check.proofs.Frames.{too_short, not-magic, too_long_lem, not-length, sum-none, sum-right, sum-wrong}
use Rattle.lmcp_check.proofs.frame_of.Goals as goal
use Rattle.lmcp_check.proofs.frame_of.Goals.{Else-m-gt-MAX_MESSAGE, Else-m-lt12, Else-m-n, Else-not-same_at}

-- ---- what is known once each test is passed, of the message

long : (c : Else-m-lt12) → 12 ≤ length c.args.m.now
long c = c.if-m-lt12.false

known : (c : Else-not-same_at) → same (take 4 c.args.m.now) magic ≡ true
known c = sym c.same_at.ensures ∙ c.if-not-same_at.false

short : (c : Else-m-gt-MAX_MESSAGE) → length c.args.m.now ≤ max_message
short c = c.if-m-gt-MAX_MESSAGE.false

sized : (c : Else-m-n) → length c.args.m.now ≡ 12 + be 4 (drop 4 c.args.m.now)
unfolding be
sized c = c.if-m-n.false ∙ ap (λ (n : ℕ). 12 + n) c.number-n.ensures.value

-- ---- the needs

pub returns-then-m-lt12 : goal.returns-then-m-lt12
returns-then-m-lt12 c = too_short _ c.if-m-lt12.true

pub returns-then-not-same_at : goal.returns-then-not-same_at
returns-then-not-same_at c =
    let e = (goal.at.returns-then-not-same_at c).Else-m-lt12 in not-magic c.args.m.now (long e) (sym c.same_at.ensures ∙ c.if-not-same_at.true)

pub returns-then-m-gt-MAX_MESSAGE : goal.returns-then-m-gt-MAX_MESSAGE
returns-then-m-gt-MAX_MESSAGE c = let e = (goal.at.returns-then-m-gt-MAX_MESSAGE c).Else-not-same_at in too_long_lem c.args.m.now (long (goal.at.returns-then-m-gt-MAX_MESSAGE c).Else-m-lt12) (known e) c.if-m-gt-MAX_MESSAGE.true

pub returns-then-m-n : goal.returns-then-m-n
unfolding be
returns-then-m-n c =
    let place = (goal.at.returns-then-m-n c).Else-m-gt-MAX_MESSAGE in
    let e = (goal.at.returns-then-m-n c).Else-not-same_at in
    not-length c.args.m.now (long (goal.at.returns-then-m-n c).Else-m-lt12) (known e) (short (place))
    (λ q. c.if-m-n.true (q ∙ ap (λ (n : ℕ). 12 + n) (sym c.number-n.ensures.value)))

pub returns-then-sum-eq0 : goal.returns-then-sum-eq0
unfolding be
returns-then-sum-eq0 c =
    let d = (goal.at.returns-then-sum-eq0 c).Else-m-n in
    let e = (goal.at.returns-then-sum-eq0 c).Else-not-same_at in
    sum-none c.args.m.now (long (goal.at.returns-then-sum-eq0 c).Else-m-lt12) (known e) (short (goal.at.returns-then-sum-eq0 c).Else-m-gt-MAX_MESSAGE) (sized d) (sym c.number-sum.ensures.value ∙ c.if-sum-eq0.true)

pub slice_bounds-checksum-end : goal.slice_bounds-checksum-end
slice_bounds-checksum-end c =
    let m = c.args.m.now in
    sym (length-take-le (length m - 4) m (omega arith))

pub returns-then-sum-checksum : goal.returns-then-sum-checksum
unfolding be
returns-then-sum-checksum c =
    let d = (goal.at.returns-then-sum-checksum c).Else-m-n in
    let e = (goal.at.returns-then-sum-checksum c).Else-not-same_at in
    sum-right c.args.m.now (long (goal.at.returns-then-sum-checksum c).Else-m-lt12) (known e) (short (goal.at.returns-then-sum-checksum c).Else-m-gt-MAX_MESSAGE) (sized d)
    (sym c.number-sum.ensures.value ∙ c.if-sum-checksum.true ∙ c.checksum.ensures)

pub returns : goal.returns
unfolding be
returns c =
    let d = (goal.at.returns c).Else-m-n in
    let e = (goal.at.returns c).Else-not-same_at in
    sum-wrong c.args.m.now (long (goal.at.returns c).Else-m-lt12) (known e) (short (goal.at.returns c).Else-m-gt-MAX_MESSAGE) (sized d)
    (λ z. c.if-sum-eq0.false (c.number-sum.ensures.value ∙ z))
    (λ q. c.if-sum-checksum.false (c.number-sum.ensures.value ∙ q ∙ sym c.checksum.ensures))
