-- `datagram::read_datagram` meets its contract. Assumes nothing.
use Rattle.wire.proofs.Basics.{◌≡◌, ℕ, List, ◌≤◌, length, eqb, ltb, eq-eqb, le-ltb, ne_eqb, lt-ltb}
use Rattle.wire.specs.Choice.{pick}
use Rattle.datagram.specs.Limits.{max_datagram}
use Rattle.datagram.specs.Read.{Refused, magic_in, small_magic, fragment_magic, read_small_lem, read_fragment_lem, read_datagram_lem}
use Rattle.datagram.proofs.Saids.{read-says}
use Rattle.datagram.proofs.read_datagram.Goals as goal

-- past the lengths: the magic decides
by-magic : (max_size max_count : ℕ) (d : List ℕ) → length d ≤ max_datagram → 8 ≤ length d
    → read_datagram_lem max_size max_count d
    ≡ pick (eqb (magic_in d) small_magic) (read_small_lem d)
    (pick (eqb (magic_in d) fragment_magic) (pick (ltb (length d) 20) (Refused 1) (read_fragment_lem max_size max_count d)) (Refused 2))
unfolding read_datagram_lem
by-magic max_size max_count d short long = rw (le-ltb _ _ short, le-ltb _ _ long)

pub returns-then-d-gt-MAX_DATAGRAM : goal.returns-then-d-gt-MAX_DATAGRAM
unfolding read_datagram_lem
returns-then-d-gt-MAX_DATAGRAM c = read-says (rw (lt-ltb _ _ c.if-d-gt-MAX_DATAGRAM.true))

pub returns-then-d-lt8 : goal.returns-then-d-lt8
unfolding read_datagram_lem
returns-then-d-lt8 c = read-says (rw (le-ltb _ _ c.if-d-gt-MAX_DATAGRAM.false, lt-ltb _ _ c.if-d-lt8.true))

pub returns-then-magic-eq-SMALL_MAGIC : goal.returns-then-magic-eq-SMALL_MAGIC
returns-then-magic-eq-SMALL_MAGIC c =
    read-says (rw (by-magic _ _ _ c.if-d-gt-MAX_DATAGRAM.false c.if-d-lt8.false, eq-eqb _ _ (rw c.four-magic.ensures at c.if-magic-eq-SMALL_MAGIC.true)) c.read_small.ensures)

pub returns-then-magic-ne-FRAGMENT_MAGIC : goal.returns-then-magic-ne-FRAGMENT_MAGIC
returns-then-magic-ne-FRAGMENT_MAGIC c =
    let magic = c.four-magic.ensures in
    read-says
    (rw (by-magic _ _ _ c.if-d-gt-MAX_DATAGRAM.false c.if-d-lt8.false, ne_eqb _ _ (rw magic at c.if-magic-eq-SMALL_MAGIC.false), ne_eqb _ _ (rw magic at c.if-magic-ne-FRAGMENT_MAGIC.true)))

pub returns-then-d-lt20 : goal.returns-then-d-lt20
returns-then-d-lt20 c =
    let magic = c.four-magic.ensures in
    read-says
    (rw (by-magic _ _ _ c.if-d-gt-MAX_DATAGRAM.false c.if-d-lt8.false, ne_eqb _ _ (rw magic at c.if-magic-eq-SMALL_MAGIC.false), eq-eqb _ _ (rw magic at c.if-magic-ne-FRAGMENT_MAGIC.false), lt-ltb _ _ c.if-d-lt20.true))

pub returns : goal.returns
returns c =
    let magic = c.four-magic.ensures in
    read-says
    (rw (by-magic _ _ _ c.if-d-gt-MAX_DATAGRAM.false c.if-d-lt8.false, ne_eqb _ _ (rw magic at c.if-magic-eq-SMALL_MAGIC.false), eq-eqb _ _ (rw magic at c.if-magic-ne-FRAGMENT_MAGIC.false), le-ltb _ _ c.if-d-lt20.false)
    c.read_fragment.ensures)
