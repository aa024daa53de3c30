-- The runs of a list, a turn at a time, and their bytes. Assumes nothing.
use Rattle.wire.proofs.Basics.{◌∙◌, sym, ◌≡◌, ap, refl, ℕ, ◌≤◌, ◌+◌, ◌<◌, List, [], ◌∷◌, ◌++◌, true, false, Bool, ◌&&◌, length, drop, get_or, length-append, drop_of_length-le, drop-cons, eqb, ltb}
use Rattle.wire.proofs.Basics.{le-ltb, lt-ltb, eqb-true, ltb-false, add-one, arith}
use Rattle.wire.specs.Choice.{pick}
use Rattle.wire.specs.Overlay.{overlay}
use Rattle.wire.proofs.Overlays.{overlay-append}
use Rattle.ack_blocks.specs.Limits.{max_blocks}
use Rattle.ack_blocks.specs.Blocks.{Block, block_bytes, laid}
use Rattle.ack_blocks.specs.Read.{gives, refuses}
use Rattle.ack_writer.specs.Write.{rising, rising_from, one_block, blocks_from, blocks_of, bytes_of, room_for, written_of}
use Rattle.ack_writer.specs.InsideWalk.{RunFrom}

pub list_at_lem : (l : List ℕ) (i : ℕ) → i < length l → drop i l ≡ get_or l i 0 ∷ drop (i + 1) l
list_at_lem l i h = rw (add-one, drop-cons l i 0)

-- ---- rising

pub rising-start : (l : List ℕ) (i : ℕ) → i < length l → rising (drop i l) ≡ rising_from (get_or l i 0) (drop (i + 1) l)
rising-start l i h = ap rising (list_at_lem l i h)

module _ (l : List ℕ) (last i : ℕ) (inside : i < length l) where
  pub rising-on : eqb (get_or l i 0) (last + 1) ≡ true → rising_from last (drop i l) ≡ rising_from (get_or l i 0) (drop (i + 1) l)
  rising-on e =
      let h : get_or l i 0 ≡ last + 1 = eqb-true (get_or l i 0) (last + 1) e in
      ap (rising_from last) (list_at_lem l i inside) ∙ ap (λ (t : Bool). t && rising_from (get_or l i 0) (drop (i + 1) l)) (lt-ltb last (get_or l i 0) (omega arith))

  pub rising_breaks : rising_from last (drop i l) ≡ (ltb last (get_or l i 0) && rising (drop i l))
  rising_breaks =
      ap (rising_from last) (list_at_lem l i inside) ∙ ap (λ (t : Bool). ltb last (get_or l i 0) && t) (sym (rising-start l i inside))

pub rising-end : (l : List ℕ) (last i : ℕ) → length l ≤ i → rising_from last (drop i l) ≡ (true && rising (drop i l))
rising-end l last i h =
    let e : drop i l ≡ [] = drop_of_length-le l h in
    ap (rising_from last) e ∙ ap rising (sym e)

-- ---- runs

pub blocks_start : (l : List ℕ) (i : ℕ) → i < length l → blocks_of (drop i l) ≡ blocks_from (get_or l i 0) (get_or l i 0) (drop (i + 1) l)
blocks_start l i h = ap blocks_of (list_at_lem l i h)

module _ (l : List ℕ) (first last i : ℕ) where
  pub run_on : i < length l → eqb (get_or l i 0) (last + 1) ≡ true → blocks_from first last (drop i l) ≡ blocks_from first (get_or l i 0) (drop (i + 1) l)
  run_on h e =
      ap (blocks_from first last) (list_at_lem l i h)
      ∙ ap (λ (t : Bool). pick t (blocks_from first (get_or l i 0) (drop (i + 1) l)) (one_block first last ∷ blocks_from (get_or l i 0) (get_or l i 0) (drop (i + 1) l))) e

  pub run_breaks : i < length l → eqb (get_or l i 0) (last + 1) ≡ false → blocks_from first last (drop i l) ≡ one_block first last ∷ blocks_of (drop i l)
  run_breaks h e =
      ap (blocks_from first last) (list_at_lem l i h)
      ∙ ap (λ (t : Bool). pick t (blocks_from first (get_or l i 0) (drop (i + 1) l)) (one_block first last ∷ blocks_from (get_or l i 0) (get_or l i 0) (drop (i + 1) l))) e
      ∙ ap (λ (bs : List Block). one_block first last ∷ bs) (sym (blocks_start l i h))

  pub run_ends : length l ≤ i → blocks_from first last (drop i l) ≡ one_block first last ∷ blocks_of (drop i l)
  run_ends h =
      let e : drop i l ≡ [] = drop_of_length-le l h in
      ap (blocks_from first last) e ∙ ap (λ (m : List ℕ). one_block first last ∷ blocks_of m) (sym e)

-- ---- bytes

pub bytes-turn : (l : List ℕ) (i last next : ℕ) {rises : Bool} → RunFrom l i last next rises
    → bytes_of (drop i l) ≡ block_bytes (one_block (get_or l i 0) last) ++ bytes_of (drop next l)
unfolding bytes_of
bytes-turn l i last next r = ap laid r.blocks

pub bytes-end : (l : List ℕ) (i : ℕ) → length l ≤ i → bytes_of (drop i l) ≡ []
unfolding bytes_of
bytes-end l i h = ap (λ (m : List ℕ). laid (blocks_of m)) (drop_of_length-le l h)

pub length-turn : (l : List ℕ) (i last next : ℕ) {rises : Bool} → RunFrom l i last next rises
    → length (bytes_of (drop i l)) ≡ length (block_bytes (one_block (get_or l i 0) last)) + length (bytes_of (drop next l))
length-turn l i last next r = ap length (bytes-turn l i last next r) ∙ length-append (block_bytes (one_block (get_or l i 0) last)) (bytes_of (drop next l))

pub put-turn : (d l : List ℕ) (at i last next : ℕ) {rises : Bool} → RunFrom l i last next rises
    → overlay d at (bytes_of (drop i l))
    ≡ overlay (overlay d at (block_bytes (one_block (get_or l i 0) last))) (at + length (block_bytes (one_block (get_or l i 0) last))) (bytes_of (drop next l))
put-turn d l at i last next r =
    ap (overlay d at) (bytes-turn l i last next r) ∙ overlay-append d at (block_bytes (one_block (get_or l i 0) last)) (bytes_of (drop next l))

-- one piece after another from a place
pub put_next : (d s t x y : List ℕ) (at k : ℕ) → x ≡ overlay d at s → k ≡ at + length s → y ≡ overlay x k t → y ≡ overlay d at (s ++ t)
put_next d s t x y at k e f g = g ∙ rw (e, f) (sym (overlay-append d at s t))

-- ---- what the writer answers

module _ (n room : ℕ) where
  pub room-long : max_blocks < n → room_for n room ≡ refuses 77
  room-long h = rw (lt-ltb max_blocks n h)

  module _ (fits : n ≤ max_blocks) where
    pub room-short : room < n → room_for n room ≡ refuses 76
    room-short h = rw (le-ltb max_blocks n fits, lt-ltb room n h)

    pub room-enough : n ≤ room → room_for n room ≡ gives n
    room-enough h = rw (le-ltb max_blocks n fits, le-ltb room n h)

pub written-not : (l : List ℕ) (room : ℕ) → rising l ≡ false → written_of l room ≡ refuses 75
unfolding written_of
written-not l room h = rw h

pub written-rising : (l : List ℕ) (room : ℕ) → rising l ≡ true → written_of l room ≡ room_for (length (bytes_of l)) room
unfolding written_of
written-rising l room h = rw h

-- ---- what is known where it writes

pub record Makes (n room k : ℕ) : Type 0 where
  pub fits : n ≤ max_blocks
  pub enough : n ≤ room
  pub is : k ≡ n

makes-room : (n room k : ℕ) (u : Bool) → n ≤ max_blocks → ltb room n ≡ u → pick u (refuses 76) (gives n) ≡ gives k → Makes n room k
makes-room n room k true f h e = absurd (let z : ◌≡◌ {A = ℕ} 0 1 = cc in omega arith)
makes-room n room k false f h e = record { fits = f; enough = ltb-false room n h; is = cc }

makes-long : (n room k : ℕ) (t : Bool) → ltb max_blocks n ≡ t → pick t (refuses 77) (pick (ltb room n) (refuses 76) (gives n)) ≡ gives k → Makes n room k
makes-long n room k true h e = absurd (let z : ◌≡◌ {A = ℕ} 0 1 = cc in omega arith)
makes-long n room k false h e = makes-room n room k (ltb room n) (ltb-false max_blocks n h) refl e

pub room_makes : (n room k : ℕ) → room_for n room ≡ gives k → Makes n room k
room_makes n room k e = makes-long n room k (ltb max_blocks n) refl e

makes-rising : (l : List ℕ) (room k : ℕ) (t : Bool) → pick t (room_for (length (bytes_of l)) room) (refuses 75) ≡ gives k → Makes (length (bytes_of l)) room k
makes-rising l room k true e = room_makes (length (bytes_of l)) room k e
makes-rising l room k false e = absurd (let z : ◌≡◌ {A = ℕ} 0 1 = cc in omega arith)

pub written_makes : (l : List ℕ) (room k : ℕ) → written_of l room ≡ gives k → Makes (length (bytes_of l)) room k
unfolding written_of
written_makes l room k e = makes-rising l room k (rising l) e
