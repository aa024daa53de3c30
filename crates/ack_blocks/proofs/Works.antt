-- The largest number, worked out byte by byte. Assumes nothing.
use Rattle.wire.proofs.Basics.{◌≡◌, refl, ℕ, List, [], ◌∷◌, ◌++◌, true, false}
use Rattle.wire.specs.Bytes.{be}
use Rattle.ack_blocks.specs.Limits.{largest}
use Rattle.ack_blocks.specs.Read.{gives, refuses, asked, blocks_within, fault_in, size_in, block_in, map_fault_lem}

abbrev top : List ℕ
top = 255 ∷ 255 ∷ 255 ∷ 255 ∷ 255 ∷ 255 ∷ 255 ∷ 255 ∷ []

-- a bitmap of one bit that is the largest number, and one whose last number would be above it
pub largest-last : asked ((2 ∷ top) ++ (0 ∷ 1 ∷ 128 ∷ [])) largest ≡ gives true
unfolding asked blocks_within fault_in size_in block_in map_fault_lem be
largest-last = refl

pub largest-passed : asked ((2 ∷ top) ++ (0 ∷ 2 ∷ 192 ∷ [])) largest ≡ refuses 73
unfolding asked blocks_within fault_in size_in block_in map_fault_lem be
largest-passed = refl

-- a run that ends there does not go on from 0
pub largest-run : asked ((1 ∷ top) ++ top) 0 ≡ gives false
unfolding asked blocks_within fault_in size_in block_in map_fault_lem be
largest-run = refl
