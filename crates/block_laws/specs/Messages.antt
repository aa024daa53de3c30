-- `lay_block` CALLS IN A ROW, each at the place behind the block before, leave the blocks of the list. Its proof is `in_a_row` of proofs/Messages. Definitions only.
use Rattle.std.specs.Prelude.{◌≡◌, List, [], ◌∷◌, ℕ, ◌+◌, ◌-◌, ◌≤◌, length, take, drop}
use Rattle.std.proofs.Math.Option.{some}
use Rattle.wire.specs.Overlay.{overlay}
use Rattle.moss.specs.Blocks.{laid, messages_in}
use Rattle.moss_writer.specs.Write.{LaysBlock}
use Rattle.std.specs.Prelude.{Ok}

-- none of the calls was refused; of each only its contract is known. From a place of an output to the place behind the last block, and the output then
pub data Laid : List (List ℕ) → ℕ → List ℕ → ℕ → List ℕ → Type 0 where
  no_more : {at : ℕ} {out : List ℕ} → Laid [] at out at out
  lays : {ms : List (List ℕ)} {at end : ℕ} {out out₁ out' : List ℕ} (m : List ℕ) (n : ℕ) → LaysBlock m at out (Ok n) out₁ → Laid ms (at + n) out₁ end out'
      → Laid (m ∷ ms) at out end out'

pub record LeavesBlocks (ms : List (List ℕ)) (at : ℕ) (out : List ℕ) (end : ℕ) (out' : List ℕ) : Type 0 where
  pub behind : end ≡ at + length (laid ms)
  pub output : out' ≡ overlay out at (laid ms)
  -- what lies there are the blocks, and they are read as the messages
  pub lies : take (end - at) (drop at out') ≡ laid ms
  pub reads : messages_in (take (end - at) (drop at out')) ≡ some ms

abbrev pub InARow : Type 0
InARow = (ms : List (List ℕ)) (at : ℕ) (out : List ℕ) (end : ℕ) (out' : List ℕ) → at ≤ length out → Laid ms at out end out' → LeavesBlocks ms at out end out'
