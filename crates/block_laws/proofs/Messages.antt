-- Calls of `lay_block` in a row leave the blocks of the list. Assumes nothing.
use Rattle.wire.proofs.Basics.{◌∙◌, sym, ◌≡◌, ap, refl, ℕ, ◌≤◌, ◌+◌, ◌-◌, List, ◌++◌, true, false, Bool, length, drop, take, length-append, ltb, ltb-false, arith}
use Rattle.wire.specs.Choice.{pick}
use Rattle.wire.specs.Bytes.{bytes}
use Rattle.wire.specs.Overlay.{overlay}
use Rattle.wire.proofs.Numbers.{length-bytes}
use Rattle.wire.proofs.Overlays.{length-overlay, overlay-nil, overlay-append, overlay-at}
use Rattle.moss.specs.Limits.{max_message}
use Rattle.moss.specs.Blocks.{block, laid, messages_in}
use Rattle.moss.specs.Packet.{gives, refuses}
use Rattle.moss_writer.specs.Write.{laid_of, output_of, LaysBlock}
use Rattle.std.proofs.Common.{Ok}
use Rattle.moss_writer.proofs.Laying.{Short, laid-messages}
use Rattle.block_laws.specs.Messages.{Laid, no_more, lays, InARow}

-- ---- one call

record One (m : List ℕ) (at : ℕ) (out : List ℕ) (n : ℕ) (out₁ : List ℕ) : Type 0 where
  short : length m ≤ max_message
  room : at + (2 + length m) ≤ length out
  is : n ≡ 2 + length m
  output : out₁ ≡ overlay out at (block m)

one : (m : List ℕ) (at : ℕ) (out : List ℕ) (n : ℕ) (out₁ : List ℕ) → LaysBlock m at out (Ok n) out₁ → One m at out n out₁
unfolding laid_of
one m at out n out₁ w = go (ltb max_message (length m)) refl (ltb (length out) (at + (2 + length m))) refl w.answer w.output
  where
    go : (a : Bool) → ltb max_message (length m) ≡ a → (b : Bool) → ltb (length out) (at + (2 + length m)) ≡ b
        → gives n ≡ pick a (refuses 51) (pick b (refuses 55) (gives (2 + length m)))
        → out₁ ≡ output_of (pick a (refuses 51) (pick b (refuses 55) (gives (2 + length m)))) out at (block m) → One m at out n out₁
    go true p b q e o = absurd (let z : ◌≡◌ {A = ℕ} 0 1 = cc in let y : ⊥ = omega arith in y)
    go false p true q e o = absurd (let z : ◌≡◌ {A = ℕ} 0 1 = cc in let y : ⊥ = omega arith in y)
    go false p false q e o = record { short = ltb-false max_message (length m) p; room = ltb-false (length out) (at + (2 + length m)) q; is = cc; output = o }

block-long : (m : List ℕ) → length (block m) ≡ 2 + length m
block-long m = (let a = length-append (bytes 2 (length m)) m in omega (arith, length-bytes 2 (length m)))

-- ---- in a row

record Row (ms : List (List ℕ)) (at : ℕ) (out : List ℕ) (end : ℕ) (out' : List ℕ) : Type 0 where
  short : Short ms
  room : at ≤ length out → at + length (laid ms) ≤ length out
  behind : end ≡ at + length (laid ms)
  output : out' ≡ overlay out at (laid ms)

row : {ms : List (List ℕ)} {at end : ℕ} {out out' : List ℕ} → Laid ms at out end out' → Row ms at out end out'
row (no_more {at} {out}) = record { short = tt; room = λ h. omega arith; behind = omega arith; output = sym (overlay-nil out at) }
row (lays {ms} {at} {end} {out} {out₁} {out'} m n w l) =
    let o : One m at out n out₁ = one m at out n out₁ w in
    let r : Row ms (at + n) out₁ end out' = row l in
    let k : length (block m ++ laid ms) ≡ length (block m) + length (laid ms) = length-append (block m) (laid ms) in
    let s : length out₁ ≡ length out = ap (λ (x : List ℕ). length x) o.output ∙ length-overlay out at (block m) in
    let p : at + n ≡ at + length (block m) = (let a = o.is in omega (arith, block-long m)) in
    record {
      short = (o.short, r.short);
      room = λ h. (let a = o.room in let b = o.is in let c = r.room (omega arith) in omega (arith, block-long m));
      behind = (let a = r.behind in let b = o.is in omega (arith, block-long m));
      output = r.output ∙ ((λ i. overlay (o.output i) (p i) (laid ms)) ∙ sym (overlay-append out at (block m) (laid ms)));
    }

pub in_a_row : InARow
in_a_row ms at out end out' h l =
    let r : Row ms at out end out' = row l in
    let n : end - at ≡ length (laid ms) = (let a = r.behind in omega arith) in
    let lie : take (end - at) (drop at out') ≡ laid ms = (λ i. take (n i) (drop at (r.output i))) ∙ overlay-at out at (laid ms) (r.room h) in
    record { behind = r.behind; output = r.output; lies = lie; reads = ap messages_in lie ∙ laid-messages ms r.short }
