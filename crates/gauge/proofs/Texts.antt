-- Laws of the lines. Assumes nothing.
use Rattle.wire.proofs.Basics.{◌∙◌, sym, ◌≡◌, ap, refl, ℕ, ◌≤◌, ◌+◌, ◌<◌, List, [], ◌∷◌, ◌++◌, some, none, Option, length, drop, length-drop, drop_of_length-le, length-take-le}
use Rattle.wire.proofs.Basics.{drop-drop, eq-eqb, arith}
use native.Mathlib.Decide.{dec_lt}
use Rattle.wire.specs.Bytes.{be}
use Rattle.differences.specs.Noted.{Noted}
use Rattle.moss.specs.Limits.{head_length, letter_u}
use Rattle.moss.specs.Blocks.{first_message, before, messages_in}
use Rattle.moss.specs.Packet.{Given, gives, refuses, Packet, kind_in, carried, fill_fault, packet_of}
use Rattle.moss.specs.Answers.{Header, headers_of, letter_of}
use Rattle.moss.specs.declared.Kind.{Kind}
use Rattle.moss.specs.declared.Kind.TheVariants.{Data, Heartbeat, End}
use Rattle.moss.proofs.MessageTurn.{messages-next, messages-cut, messages-none}
use Rattle.moss.proofs.Packets.{Good, packet-good}
use Rattle.gauge_watch.proofs.Hears.{headed, not-read}
use Rattle.text.specs.Text.{decimal}
use Rattle.output.specs.declared.Output.{Output}
use Rattle.output.specs.Output.{Adds}
use Rattle.gauge.specs.Lines.{noted_text, spaced, messages_text, line}
use Rattle.gauge.specs.Inside.{lengths_in, lengths_of}

-- ---- the block at a place, where the blocks from there on fill the packet

fits_by : (b : List ℕ) → 0 < length b → fill_fault (messages_in b) ≡ 0 → 2 + be 2 b ≤ length b
fits_by b h f =
    elim (dec_lt (length b) (2 + be 2 b)) [
      | yes l ↦ absurd (let z = ap fill_fault (sym (messages-cut b h l)) ∙ f in omega arith)
      | no l ↦ omega arith
    ]

fault-behind : (m : List ℕ) (o : Option (List (List ℕ))) → fill_fault (before m o) ≡ 0 → fill_fault o ≡ 0
fault-behind m none e = e
fault-behind m (some ms) e = e

lengths-behind : (m : List ℕ) (o : Option (List (List ℕ))) → fill_fault (before m o) ≡ 0 → lengths_in (before m o) ≡ length m ∷ lengths_in o
lengths-behind m none e = absurd (let z : ⊥ = omega arith in z)
lengths-behind m (some ms) e = refl

module _ (s : List ℕ) (at k : ℕ) (inside : at < length s) (filled : fill_fault (messages_in (drop at s)) ≡ 0) (size : k ≡ be 2 (drop at s)) where
  some_left : 0 < length (drop at s)
  some_left = rw (length-drop at s) (omega arith)

  pub block-fits : at + (2 + k) ≤ length s
  block-fits = omega (arith, fits_by (drop at s) some_left filled, length-drop at s, size)

  block-next : messages_in (drop at s) ≡ before (first_message (drop at s)) (messages_in (drop (at + (2 + k)) s))
  block-next =
      messages-next (drop at s) some_left (fits_by (drop at s) some_left filled)
      ∙ ap (λ (l : List ℕ). before (first_message (drop at s)) (messages_in l)) (drop-drop (2 + be 2 (drop at s)) at s ∙ ap (λ (j : ℕ). drop (at + (2 + j)) s) (sym size))

  first-size : length (first_message (drop at s)) ≡ k
  first-size =
      length-take-le (be 2 (drop at s)) (drop 2 (drop at s)) (omega (arith, fits_by (drop at s) some_left filled, length-drop 2 (drop at s)))
      ∙ sym size

  pub rest-filled : fill_fault (messages_in (drop (at + (2 + k)) s)) ≡ 0
  rest-filled = fault-behind (first_message (drop at s)) (messages_in (drop (at + (2 + k)) s)) (ap fill_fault (sym block-next) ∙ filled)

  pub lengths-next : lengths_in (messages_in (drop at s)) ≡ k ∷ lengths_in (messages_in (drop (at + (2 + k)) s))
  lengths-next =
      ap lengths_in block-next
      ∙ lengths-behind (first_message (drop at s)) (messages_in (drop (at + (2 + k)) s)) (ap fill_fault (sym block-next) ∙ filled)
      ∙ ap (λ (j : ℕ). j ∷ lengths_in (messages_in (drop (at + (2 + k)) s))) first-size

-- past the last block
pub lengths-end : (s : List ℕ) (at : ℕ) → length s ≤ at → lengths_in (messages_in (drop at s)) ≡ []
lengths-end s at h = ap (λ (l : List ℕ). lengths_in (messages_in l)) (drop_of_length-le s h) ∙ ap lengths_in messages-none

-- what went out, and what is left: together the lengths of all
pub record Passed (out : Output) (s : List ℕ) (from block : ℕ) (out' : Output) : Type 0 where
  pub text : List ℕ
  pub gone : Adds out text out'
  pub whole : text ++ spaced (lengths_in (messages_in (drop block s))) ≡ spaced (lengths_in (messages_in (drop from s)))

-- ---- the blocks of a packet of type U

is_carried : (b : List ℕ) (p : Packet) → packet_of b ≡ gives p → p.kind ≡ letter_u → messages_in (drop head_length b) ≡ some p.messages
is_carried b p e u =
    let g : Good b p = packet-good b p e in
    let c : carried (kind_in b) (drop head_length b) ≡ messages_in (drop head_length b) = rw (eq-eqb (kind_in b) letter_u (sym g.kind ∙ u)) in
    sym c ∙ g.carries

module _ (b : List ℕ) (h : Header) (told : gives h ≡ headers_of (packet_of b)) (u : h.kind ≡ letter_u) where
  carries : messages_in (drop head_length b) ≡ some (headed (packet_of b) h told).packet.messages
  carries =
      let d = headed (packet_of b) h told in
      is_carried b d.packet d.is (sym (ap (λ (x : Header). x.kind) d.header) ∙ u)

  pub blocks-filled : fill_fault (messages_in (drop head_length b)) ≡ 0
  blocks-filled = ap fill_fault carries

  pub blocks_lengths : lengths_in (messages_in (drop head_length b)) ≡ lengths_of (packet_of b)
  blocks_lengths = ap lengths_in carries ∙ sym (ap lengths_of (headed (packet_of b) h told).is)

-- ---- the line of a packet that is refused, and of one that is read

line-of-refused : (n : ℕ) (g : Given Packet) (noted : Noted) (k : ℕ) → g ≡ refuses k → decimal n ++ noted_text noted ++ 10 ∷ [] ≡ line n g noted
line-of-refused n g noted k e = ap (λ (x : Given Packet). line n x noted) (sym e)

pub line_refused : (n : ℕ) (g : Given Packet) (noted : Noted) (k : ℕ) → headers_of g ≡ refuses k → decimal n ++ noted_text noted ++ 10 ∷ [] ≡ line n g noted
line_refused n g noted k e = line-of-refused n g noted k (not-read g k (sym e))

pub line-good : (n : ℕ) (b : List ℕ) (noted : Noted) (h : Header) → gives h ≡ headers_of (packet_of b)
    → decimal n ++ (32 ∷ h.kind ∷ []) ++ noted_text noted ++ messages_text h.kind (lengths_of (packet_of b)) ++ 10 ∷ [] ≡ line n (packet_of b) noted
line-good n b noted h e =
    let d = headed (packet_of b) h e in
    ap (λ (x : Header). decimal n ++ (32 ∷ x.kind ∷ []) ++ noted_text noted ++ messages_text x.kind (lengths_of (packet_of b)) ++ 10 ∷ []) d.header
    ∙ ap (λ (x : Given Packet). decimal n ++ (32 ∷ d.packet.kind ∷ []) ++ noted_text noted ++ messages_text d.packet.kind (lengths_of x) ++ 10 ∷ []) d.is
    ∙ ap (λ (x : Given Packet). line n x noted) (sym d.is)

-- no lengths but those of data
pub none-told : (kind : Kind) (lengths : List ℕ) → (kind ≡ Data → ⊥) → [] ≡ messages_text (letter_of kind) lengths
none-told Data lengths h = absurd (h refl)
none-told Heartbeat lengths h = refl
none-told End lengths h = refl
