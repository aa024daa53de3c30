-- A SEASON OVER CALLS: each flight is a call of `open`, and then `count_on` to the log's end, in one call or in several that are one (`go_on`). Definitions only.
use Rattle.std.specs.Prelude.{◌≡◌, List, [], ◌∷◌, ◌++◌, ℕ, length}
use Rattle.wire.specs.Bytes.{Bytes}
use Rattle.wire.specs.Slices.{Buffer}
use Rattle.receiver_state.specs.View.{state_words_lem, name_bytes_lem}
use Rattle.receiver.specs.Calls.{Call}
use Rattle.receiver.specs.Lent.{lent}
use Rattle.open_and_payload.specs.Ends.{Opens}
use Rattle.count_rules.specs.Marks.{PitList}
use Rattle.pit_marks.specs.Lines.{Lays}
use Rattle.pit_payloads.specs.Looks.{book}
use Rattle.stretch.specs.Stop as stop
use Rattle.stretch.specs.Stop.{Stretch}
use Rattle.stretch.specs.Stretch.{Desk, desk, CountsOn}
use Rattle.season.specs.Season.{Map, Shows, Flight, lists_of_all, LinesOf, SameLogs}

-- a flight made the map m to m': state and names may have held anything, and nothing stood against it
pub record Flew (f : Flight) (m m' : Map) : Type 0 where
  pub log-bytes : Bytes f.log
  pub state₀ : List ℕ
  pub names₀ : List ℕ
  pub words : length state₀ ≡ state_words_lem
  pub bytes : length names₀ ≡ name_bytes_lem
  pub state : List ℕ
  pub names : List ℕ
  pub call : Call
  pub opens : Opens state₀ names₀ (length f.store) call state names
  pub most : ℕ
  pub answer : Stretch
  pub left : Desk
  pub counts : CountsOn f.log 0 most (desk (lent state names f.store f.ledger) (book f.list m.sets)) m.sizes answer left
  pub to_the_end : answer.stop ≡ stop.Taken → ⊥
  pub unrefused : (n : ℕ) → answer.stop ≡ stop.Refused n → ⊥
  pub map_is : m' ≡ record { sets = left.book.sets; sizes = answer.sizes }

-- flights one after another
pub data Flown : List Flight → Map → Map → Type 0 where
  landed : {m : Map} → Flown [] m m
  flew : {f : Flight} {fs : List Flight} {m n m' : Map} → Flew f m n → Flown fs n m' → Flown (f ∷ fs) m m'

-- then `put_lines` lays the tile lines of all lists read in all flights
abbrev pub CodeSeason : Type 0
CodeSeason = (fs : List Flight) (m m' : Map) (seen : List PitList) → Shows m seen → Flown fs m m' → (tile pit certain : Buffer)
    → Lays m'.sets m'.sizes tile pit certain → LinesOf (lists_of_all fs ++ seen) tile pit certain

-- and they are those of any season of the same logs, over whatever stores and ledgers as long: so one that is lent to all flights, with what the flight before left in it, makes no difference
abbrev pub CodeAnyOrder : Type 0
CodeAnyOrder = (fs gs : List Flight) (m m' : Map) (seen : List PitList) → Shows m seen → Flown fs m m' → SameLogs fs gs → (tile pit certain : Buffer)
    → Lays m'.sets m'.sizes tile pit certain → LinesOf (lists_of_all gs ++ seen) tile pit certain
