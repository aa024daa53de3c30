-- The form of a fragment: document 01, "Datagrams". Definitions only.
use Rattle.std.specs.Prelude.{Bool, true, ◌&&◌, ℕ, ◌+◌, eqb, leb}
use Rattle.wire.specs.Choice.{pick}

-- fragment 0 has offset 0; a fragment with k above 0 has data
abbrev pub good_start_lem : ℕ → ℕ → ℕ → Bool
good_start_lem number offset len = pick (eqb number 0) (eqb offset 0) (leb 1 len)

-- and offset and data length together are at most P; for k = n - 1 they equal P
abbrev pub good_fragment_lem : ℕ → ℕ → ℕ → ℕ → ℕ → Bool
good_fragment_lem size offset number count len =
    good_start_lem number offset len
    && (leb (offset + len) size
    && pick (eqb (number + 1) count) (eqb (offset + len) size) true)
