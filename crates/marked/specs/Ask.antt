-- What a marked case asks of which definition, and what it is given. Definitions only.
use Rattle.std.specs.Prelude.{List, [], ◌∷◌, map, ℕ, zero, suc, length, replicate}
use Rattle.wire.specs.Text.{ascii}
use Rattle.datagram.specs.Limits.{max_payload, max_fragments}
use Rattle.datagram.specs.Said.{Said, refused, small, fragment, said}
use Rattle.cutter.specs.Cut.{count_of, datagram_of}
use Rattle.steps.specs.Answers.{Reply}
use Rattle.steps.specs.Limits.{ledger_length}
use Rattle.steps.specs.Runs.{fresh, from, Heard, all_heard}
use Rattle.watch.specs.Senders.{empty}
use Rattle.watch.specs.Watching.{asked, after}
use Rattle.differences.specs.Noted as watched
use Rattle.watch.specs.declared.Watch.{Watch}
use Rattle.lmcp.specs.Read.{Read}
use Rattle.lmcp.specs.Lists.{read_list}

pub data Ask : Type 0 where
  -- what does the datagram say, for a slot size of 4?
  reading : List ℕ → Ask
  -- what does a fresh receiver, with a slot size of 4, answer to these datagrams of one sender?
  receiving : List (List ℕ) → Ask
  -- name TILE, M 96: how is a payload of so many bytes cut?
  cutting : ℕ → Ask
  -- what does the watch say of these numbers of one sender?
  watching : List ℕ → Ask
  -- what numbers does the message hold?
  opening : List ℕ → Ask

-- how a message is cut: small, with so many bytes of payload, or fragments with so many bytes of data each
pub data Cutting : Type 0 where
  small' : ℕ → Cutting
  fragments : List ℕ → Cutting
  nothing : Cutting

pub data Given : Type 0 where
  said' : Said → Given
  replied : List Reply → Given
  cut' : Cutting → Given
  seen : List watched.Noted → Given
  numbers : Read → Given

-- ---- each definition, asked

abbrev TILE : List ℕ
TILE = ascii "TILE"

-- datagram k, and what our own reader says of it
abbrev tile_says : ℕ → ℕ → Said
tile_says p k = said max_payload max_fragments (datagram_of 7 TILE (replicate p 1) 96 k)

abbrev with_data : Said → Cutting → Cutting
with_data (refused n) c = nothing
with_data (small q name payload) c = small' (length payload)
with_data (fragment f) (fragments l) = fragments (length f.bytes ∷ l)
with_data (fragment f) (small' n) = nothing
with_data (fragment f) nothing = nothing

-- datagrams k to k + n - 1
abbrev tile_from : ℕ → ℕ → ℕ → Cutting
tile_from p k zero = fragments []
tile_from p k (suc n) = with_data (tile_says p k) (tile_from p (suc k) n)

abbrev seen_from : Watch → List ℕ → List watched.Noted
seen_from w [] = []
seen_from w (n ∷ ns) = asked w 0 n ∷ seen_from (after w 0 n) ns

abbrev pub given : Ask → Given
given (reading d) = said' (said 4 max_fragments d)
given (receiving ds) = replied (map (λ (h : Heard). h.answer) (all_heard (fresh (replicate 32 9) (replicate ledger_length 0)) (map (from 0) ds)))
given (cutting p) = cut' (tile_from p 0 (count_of (length TILE) p 96))
given (watching ns) = seen (seen_from empty ns)
given (opening m) = numbers (read_list m)
