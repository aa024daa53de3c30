-- What each datagram of a cut message is to be read as. Definitions only.
use Rattle.std.specs.Prelude.{◌≡◌, true, List, [], ◌++◌, ℕ, zero, suc, ◌^◌, ◌≤◌, ◌<◌, eqb, length}
use Rattle.wire.specs.Choice.{pick}
use Rattle.names.specs.Name.{good_name_lem}
use Rattle.datagram.specs.Said.{Fragment, Said, small, fragment}
use Rattle.cutter.specs.Cut.{Sized, is_small, count_of, begins_at_lem, piece_of}

-- a message that can be cut, for a reader that takes payloads of at most maxSize bytes in at most maxCount fragments
pub record Cuttable (max_size_lem max_count_lem q : ℕ) (name payload : List ℕ) (m : ℕ) : Type 0 where
  pub sequence : q < 2 ^ 32
  pub named : good_name_lem name ≡ true
  pub sized : Sized (length name) m
  pub limited : length payload ≤ max_size_lem
  pub numbered : length payload < 2 ^ 32
  pub few : count_of (length name) (length payload) m ≤ max_count_lem
  pub counted : count_of (length name) (length payload) m < 2 ^ 16

-- fragment k: its own part of the payload, and the name in fragment 0
abbrev pub cut_fragment : ℕ → List ℕ → List ℕ → ℕ → ℕ → Fragment
cut_fragment q name payload m k = record {
  sequence = q;
  size = length payload;
  offset = begins_at_lem (length name) m k;
  number = k;
  count = count_of (length name) (length payload) m;
  name = pick (eqb k 0) name [];
  bytes = piece_of name payload m k;
}

-- what datagram k says
abbrev pub cut_said : ℕ → List ℕ → List ℕ → ℕ → ℕ → Said
cut_said q name payload m k = pick (is_small (length name) (length payload) m) (small q name payload) (fragment (cut_fragment q name payload m k))

-- the first n pieces, one after another
unfoldable pub joined : (ℕ → List ℕ) → ℕ → List ℕ
joined piece zero = []
joined piece (suc n) = joined piece n ++ piece n
