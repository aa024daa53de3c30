-- INSIDE: what the private functions over a state need and give. Definitions only; no promise of a public function rests on them.
use Rattle.std.specs.Prelude.{◌≡◌, true, false, List, ℕ, ◌+◌, ◌*◌, ◌≤◌, ◌<◌, ◌^◌, eqb, length, get_or}
use Rattle.wire.specs.Choice.{pick}
use Rattle.wire.specs.Overlay.{overlay}
use Rattle.datagram.specs.Limits.{max_name, max_payload, max_fragments}
use Rattle.datagram.specs.Read.{part_of}
use Rattle.datagram.specs.declared.Header.{Header}
use Rattle.steps.specs.declared.Key.{Key}
use Rattle.steps.specs.Memory.{Memory, remember, forget_keys, memory_ok}
use Rattle.steps.specs.Slots.{padded}
use Rattle.steps.specs.Receive.{Machine, with_slots}
use Rattle.receiver_state.specs.View.{room_word, state_words_lem, name_bytes_lem, slots_of, memory_of, view}

-- ---- what is needed

pub record Shaped (w n : List ℕ) : Type 0 where
  pub words : length w ≡ state_words_lem
  pub bytes : length n ≡ name_bytes_lem

-- what is known of a state that is not refused by 9
pub record Ready (w n : List ℕ) : Type 0 where
  pub shape : Shaped w n
  pub known : memory_ok (memory_of w) ≡ true
  pub room : get_or w room_word 0 ≤ max_payload

-- what is known of a header that the reader accepted
pub record Told (d : List ℕ) (h : Header) : Type 0 where
  pub short : length (part_of d h.name) ≤ max_name
  pub long : length (part_of d h.payload) ≡ h.payload.len
  pub fits : h.payload.len < 2 ^ 32
  pub few : h.small ≡ false → h.count ≤ max_fragments
  pub small_at : h.small ≡ true → h.payload.at ≡ 9 + length (part_of d h.name)

-- ---- what is given

-- the words and names have their lengths and show that machine
pub record Shows (m : Machine) (w n : List ℕ) : Type 0 where
  pub machine : view w n ≡ m
  pub shape : Shaped w n

-- fragment 0 brings its name into slot s
abbrev pub named_in : List ℕ → ℕ → Header → List ℕ → List ℕ
named_in n s h d = pick (eqb h.number 0) (overlay n (max_name * s) (padded (part_of d h.name))) n

-- another memory, whatever the names; the rest stays
pub record Holds (w : List ℕ) (memory : Memory) (w' : List ℕ) : Type 0 where
  pub machine : (n : List ℕ) → view w' n ≡ with_slots (view w n) (slots_of w n) memory
  pub words : length w' ≡ state_words_lem

-- the key is remembered, or a sender's keys are dropped
abbrev pub Remembers : List ℕ → Key → List ℕ → Type 0
Remembers w k w' = Holds w (remember (memory_of w) k) w'

abbrev pub Drops : List ℕ → ℕ → List ℕ → Type 0
Drops w sender w' = Holds w (forget_keys (memory_of w) sender) w'
