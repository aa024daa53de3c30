-- Runs of packets of one session: what is noted of each, and what was left out between them. Definitions only.
use Rattle.std.specs.Prelude.{◌≡◌, ℕ, ◌+◌, ◌-◌, ◌%◌, ◌^◌, ◌<◌, true, List, [], ◌∷◌, length}
use Rattle.differences.specs.Noted.{Noted}
use Rattle.moss.specs.Packet.{gives, Packet, packet_of}
use Rattle.gauge_watch.specs.Heard.{Gauge}
use Rattle.gauge_watch.specs.Heard.{asked, after}

-- what is noted of each packet, in order of arrival
abbrev pub noted_all : Gauge → List (List ℕ) → List Noted
noted_all g [] = []
noted_all g (b ∷ bs) = asked g (packet_of b) ∷ noted_all (after g (packet_of b)) bs

-- the gauge stands in a session, and the next message has number e
pub record Expects (g : Gauge) (s : List ℕ) (e : ℕ) : Type 0 where
  pub started : g.started ≡ true
  pub session : g.session ≡ s
  pub counter : g.last < 2 ^ 32
  pub next : e ≡ (g.last + 1) % 2 ^ 32

-- a packet of the session, with x messages left out before it
pub record Follows (s : List ℕ) (e x : ℕ) (b : List ℕ) : Type 0 where
  pub packet : Packet
  pub reads : packet_of b ≡ gives packet
  pub session : packet.session ≡ s
  pub sequence : packet.sequence ≡ (e + x) % 2 ^ 32
  pub few : x < 2 ^ 31 - 1

-- the number of the message after a packet
abbrev pub next_after : Packet → ℕ
next_after p = (p.sequence + length p.messages) % 2 ^ 32

-- packets of session s, with so many messages left out before each
pub data LeavesOut (s : List ℕ) : ℕ → List ℕ → List (List ℕ) → Type 0 where
  done : {e : ℕ} → LeavesOut s e [] []
  next : {e x : ℕ} {xs b : List ℕ} {bs : List (List ℕ)} (f : Follows s e x b) → LeavesOut s (next_after f.packet) xs bs → LeavesOut s e (x ∷ xs) (b ∷ bs)

-- packets of session s as they come: from the number e on they carry so many messages, and the message after them has number `final`
pub data Carries (s : List ℕ) : ℕ → List (List ℕ) → ℕ → ℕ → Type 0 where
  none : {e : ℕ} → Carries s e [] 0 e
  more : {e n final : ℕ} {b : List ℕ} {bs : List (List ℕ)} (p : Packet) → packet_of b ≡ gives p → p.session ≡ s → p.sequence < 2 ^ 32
      → Carries s (next_after p) bs n final → Carries s e (b ∷ bs) (length p.messages + n) final
