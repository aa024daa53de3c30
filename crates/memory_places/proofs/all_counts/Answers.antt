-- `memory_places::all_counts` meets its contract. Assumes nothing.
use Rattle.std.proofs.Common.{◌≡◌, ◌∙◌, ℕ, ◌+◌, ◌-◌, ◌<◌, ◌≤◌, List, take, drop, length, get_or, bit_or, arith}
use Rattle.std.proofs.lemmas.Grind.{common_steps}
use Rattle.std.proofs.lemmas.List.{get_or-take, get_or-drop}
use Rattle.wire.proofs.Basics.{length-drop, length-take-le}
use Rattle.std.specs.List.{fold}
use Rattle.steps.specs.Limits.{senders_most}
use Rattle.memory.specs.Words.{used_at, memory_words}
use Rattle.memory_places.proofs.Places.{all_bits}
use Rattle.memory_places.proofs.all_counts.Goals as goal

counts-below : (w : List ℕ) (r : ℕ) → length w ≡ memory_words → r ≡ fold bit_or 0 (take (senders_most + senders_most - senders_most) (drop senders_most w))
    → (i : ℕ) → i < senders_most → get_or w (used_at i) 0 ≤ r
counts-below w r e f i h =
    let xs : List ℕ = take (senders_most + senders_most - senders_most) (drop senders_most w) in
    let a : get_or xs i 0 ≤ fold bit_or 0 xs = (all_bits xs 0).1 i (omega (arith, length-take-le {A = ℕ}, length-drop {A = ℕ})) in
    let b : get_or xs i 0 ≡ get_or w (used_at i) 0 = get_or-take (senders_most + senders_most - senders_most) (drop senders_most w) i 0 (omega arith) ∙ get_or-drop senders_most w i 0 in
    omega arith

pub returns : goal.returns
returns c = counts-below c.args.memory.now c.fold.result c.requires (grind (arith, common_steps))
