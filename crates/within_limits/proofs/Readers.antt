-- The datagram reader within a log's limits. Assumes nothing.
use Rattle.wire.proofs.Basics.{◌≡◌, refl, ℕ, ◌≤◌, min, List, eq-eqb, arith}
use Rattle.datagram.specs.Limits.{max_fragments}
use Rattle.datagram.specs.Read.{magic_in, small_magic, read_datagram_lem}
use Rattle.datagram.specs.declared.Header.{Header}
use Rattle.datagram.specs.Read.{Good}
use Rattle.datagram.proofs.Larger.{larger}
use Rattle.flight_log.specs.declared.reader.Limits.{Limits}
use Rattle.within_limits.specs.Within.{read_within_lem}

-- what is accepted within a log's limits is accepted, and says the same
pub within-good : (l : Limits) (C : ℕ) (d : List ℕ) (h : Header) → read_within_lem l C d ≡ Good h → read_datagram_lem C max_fragments d ≡ Good h
within-good l C d h = larger d (min C l.payload) (min max_fragments l.fragments) C max_fragments (omega arith) (omega arith) h

-- limits that are not below the receiver's leave the reader as it is
pub within_loose : (l : Limits) (C : ℕ) (d : List ℕ) → C ≤ l.payload → max_fragments ≤ l.fragments → read_within_lem l C d ≡ read_datagram_lem C max_fragments d
within_loose l C d p n =
    let e : min C l.payload ≡ C = omega arith in
    let f : min max_fragments l.fragments ≡ max_fragments = omega arith in
    rw (e, f) refl

-- and no limits of a log concern a small message
pub within-small : (l : Limits) (C : ℕ) (d : List ℕ) → magic_in d ≡ small_magic → read_within_lem l C d ≡ read_datagram_lem C max_fragments d
unfolding read_datagram_lem
within-small l C d e = rw (eq-eqb (magic_in d) small_magic e) refl
