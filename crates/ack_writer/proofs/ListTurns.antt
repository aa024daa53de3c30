-- One pass over the list, a turn at a time: what is laid and what is left are the whole. Assumes nothing.
use Rattle.wire.proofs.Basics.{◌∙◌, sym, ◌≡◌, ap, refl, ℕ, ◌≤◌, ◌+◌, ◌<◌, List, true, false, Bool, ◌&&◌, length, drop, get_or, take, length-take, drop_of_length-le, dec_le, arith}
use Rattle.wire.specs.Overlay.{overlay}
use Rattle.wire.proofs.Overlays.{overlay-nil, overlay-at, length-overlay}
use Rattle.ack_blocks.specs.Limits.{max_blocks}
use Rattle.ack_blocks.specs.Blocks.{block_bytes}
use Rattle.ack_blocks.specs.Read.{Given, gives, refuses}
use Rattle.ack_writer.specs.Write.{rising, one_block, bytes_of, room_for, written_of, writes, output_of, WritesBlocks}
use Rattle.ack_writer.specs.InsideWalk.{RunFrom, PutNext, Lays}
use Rattle.std.proofs.Common.{Result, Ok, Err}
use Rattle.refusals.specs.declared.Refusal.{Refusal}
use Rattle.ack_writer.proofs.Runs.{length-turn, put-turn, bytes-end, room-long, written-not, written-rising, written_makes}

-- at a place of the list: the bytes so far stand in the block space, unless they are already too many
pub record Sofar (l d₀ d : List ℕ) (at i : ℕ) : Type 0 where
  pub inside : i ≤ length l
  pub size : length d ≡ length d₀
  pub rise : rising (drop i l) ≡ rising l
  pub count : at ≤ max_blocks → at + length (bytes_of (drop i l)) ≡ length (bytes_of l)
  pub over : max_blocks < at → max_blocks < length (bytes_of l)
  pub laid : at ≤ max_blocks → overlay d at (bytes_of (drop i l)) ≡ overlay d₀ 0 (bytes_of l)

pub sofar-start : (l d : List ℕ) → Sofar l d d 0 0
sofar-start l d = record {
  inside = omega arith;
  size = refl;
  rise = refl;
  count = λ h. omega arith;
  over = λ h. absurd (omega (arith, h));
  laid = λ h. refl;
}

module _ (l d₀ d d' : List ℕ) (at i last next r : ℕ) where
  abbrev s : List ℕ
  s = block_bytes (one_block (get_or l i 0) last)

  pub sofar-next : {rises : Bool} → Sofar l d₀ d at i → RunFrom l i last next rises → rises ≡ true → PutNext d at s r d' → Sofar l d₀ d' r next
  sofar-next f g u p = record {
    inside = g.inside;
    size = p.size ∙ f.size;
    rise = ap (λ (t : Bool). t && rising (drop next l)) (sym u) ∙ sym g.rise ∙ f.rise;
    count = λ h.
        let a : at ≤ max_blocks = omega (arith, p.on) in
        omega (arith, f.count a, p.next a, length-turn l i last next g);
    over = λ h. elim (dec_le at max_blocks) [
      | yes a ↦ omega (arith, h, f.count a, p.next a, length-turn l i last next g)
      | no a ↦ f.over (omega (arith, a))
    ];
    laid = λ h.
        let a : at ≤ max_blocks = omega (arith, p.on) in
        (λ j. overlay (p.put a j) (p.next a j) (bytes_of (drop next l))) ∙ sym (put-turn d l at i last next g) ∙ f.laid a;
  }

-- a list that does not go on rising
pub sofar-falls : (l d₀ d : List ℕ) (at i last next room : ℕ) {rises : Bool} → Sofar l d₀ d at i → RunFrom l i last next rises → rises ≡ false
    → written_of l room ≡ refuses 75
sofar-falls l d₀ d at i last next room f g u =
    written-not l room (sym f.rise ∙ g.rise ∙ ap (λ (t : Bool). t && rising (drop next l)) u)

-- the end of the list
module _ (l d₀ d : List ℕ) (at i : ℕ) (f : Sofar l d₀ d at i) (end : length l ≤ i) where
  rises : rising l ≡ true
  rises = sym f.rise ∙ ap rising (drop_of_length-le l end)

  none_left : length (bytes_of (drop i l)) ≡ 0
  none_left = ap length (bytes-end l i end)

  pub sofar-room : (room : ℕ) → room_for at room ≡ written_of l room
  sofar-room room = elim (dec_le at max_blocks) [
    | yes a ↦
        let e : at ≡ length (bytes_of l) = omega (arith, f.count a, none_left) in
        ap (λ (n : ℕ). room_for n room) e ∙ sym (written-rising l room rises)
    | no a ↦ room-long at room (omega (arith, a)) ∙ sym (room-long (length (bytes_of l)) room (f.over (omega (arith, a)))) ∙ sym (written-rising l room rises)
  ]

  pub sofar-laid : at ≤ max_blocks → d ≡ overlay d₀ 0 (bytes_of l)
  sofar-laid h = sym (overlay-nil d at) ∙ ap (overlay d at) (sym (bytes-end l i end)) ∙ f.laid h

-- the front of the block space is the bytes
pub front_of : (l d d' : List ℕ) (room n : ℕ) (r : Result ℕ Refusal) → Lays l room d r d' → writes r ≡ gives n → length d ≡ max_blocks
    → (n ≤ length d') × (take n d' ≡ bytes_of l)
front_of l d d' room n r f e z =
    let m = written_makes l room n (sym f.answer ∙ e) in
    let g = f.laid n e in
    let k : length d' ≡ length d = ap length g ∙ length-overlay d 0 (bytes_of l) in
    let i : n ≡ length (bytes_of l) = m.is in
    let u : 0 + length (bytes_of l) ≤ length d = omega (arith, m.fits) in
    (omega (arith, m.fits), (λ j. take (i j) (g j)) ∙ overlay-at d 0 (bytes_of l) u)

pub front-size : (n : ℕ) (d : List ℕ) → n ≤ length d → n ≡ length (take n d)
front-size n d h = simp length-take (omega arith)

-- a refusal leaves the output
pub leaves : (l d d' out : List ℕ) (r : Refusal) → Lays l (length out) d (Err r) d' → WritesBlocks l out (Err r) out
leaves l d d' out r f = record { answer = f.answer; output = ap (λ (g : Given ℕ). output_of g (bytes_of l) out) f.answer }

-- else the bytes stand at its start
pub puts : (l d d' out out' : List ℕ) (n : ℕ) → Lays l (length out) d (Ok n) d' → length d ≡ max_blocks
    → out' ≡ overlay out 0 (take n d') → WritesBlocks l out (Ok n) out'
puts l d d' out out' n f z o =
    record {
      answer = f.answer;
      output = o ∙ ap (overlay out 0) (front_of l d d' (length out) n (Ok n) f refl z).1 ∙ ap (λ (g : Given ℕ). output_of g (bytes_of l) out) f.answer;
    }
