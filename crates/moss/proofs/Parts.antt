-- The n-th message is the part of the packet at its place. Assumes nothing.
use Rattle.wire.proofs.Basics.{◌∙◌, sym, ◌≡◌, ap, refl, ℕ, ◌≤◌, ◌+◌, suc, zero, List, [], ◌∷◌, true, false, Bool, some, none, Option, length, drop, take, length-drop, length-take-le, drop-drop, eqb}
use Rattle.wire.proofs.Basics.{ltb-false, arith}
use Rattle.wire.specs.Choice.{pick}
use Rattle.wire.specs.Bytes.{be}
use Rattle.moss.specs.Limits.{head_length, max_packet, letter_u}
use Rattle.moss.specs.Blocks.{is_cut, first_message, behind, before, nothing_in, first_then, messages_within, messages_in}
use Rattle.moss.specs.Packet.{Given, gives, refuses, Packet, kind_in, packet_of}
use Rattle.moss.specs.Message.{Part, located, place_in, nth, message_in}
use Rattle.moss.proofs.Packets.{packet-good}

-- ---- a block and the messages behind it, taken apart

pub record Front (b m : List ℕ) (rest : Option (List (List ℕ))) (ms : List (List ℕ)) : Type 0 where
  pub fits : 2 + be 2 b ≤ length b
  pub is : first_message b ≡ m
  pub behind : rest ≡ some ms

front_rest : (m n : List ℕ) (rest : Option (List (List ℕ))) (ms : List (List ℕ)) → before m rest ≡ some (n ∷ ms) → (m ≡ n) × (rest ≡ some ms)
front_rest m n none ms e = absurd (let z : ◌≡◌ {A = ℕ} 0 1 = cc in omega arith)
front_rest m n (some l) ms e = (cc, let p : l ≡ ms = cc in ap some p)

front_by : (t : Bool) (b m : List ℕ) (rest : Option (List (List ℕ))) (ms : List (List ℕ)) → is_cut b ≡ t
    → pick t none (before (first_message b) rest) ≡ some (m ∷ ms) → Front b m rest ms
front_by true b m rest ms h e = absurd (let z : ◌≡◌ {A = ℕ} 0 1 = cc in omega arith)
front_by false b m rest ms h e =
    let p = front_rest (first_message b) m rest ms e in
    record { fits = ltb-false (length b) (2 + be 2 b) h; is = p.0; behind = p.1 }

pub front : (b m : List ℕ) (rest : Option (List (List ℕ))) (ms : List (List ℕ)) → first_then b rest ≡ some (m ∷ ms) → Front b m rest ms
front [] m rest ms e = absurd (let z : ◌≡◌ {A = ℕ} 0 1 = cc in omega arith)
front (x ∷ b) m rest ms e = front_by (is_cut (x ∷ b)) (x ∷ b) m rest ms refl e

pub within-front : (t : ℕ) (b m : List ℕ) (ms : List (List ℕ)) → messages_within (suc t) b ≡ some (m ∷ ms) → Front b m (messages_within t (behind b)) ms
unfolding messages_within
within-front t b m ms e = front b m (messages_within t (behind b)) ms e

pub within-zero : (b m : List ℕ) (ms : List (List ℕ)) → messages_within zero b ≡ some (m ∷ ms) → ⊥
unfolding messages_within
within-zero [] m ms e = let z : ◌≡◌ {A = ℕ} 0 1 = cc in omega arith
within-zero (x ∷ b) m ms e = let z : ◌≡◌ {A = ℕ} 0 1 = cc in omega arith

pub front-size : {b m : List ℕ} {rest : Option (List (List ℕ))} {ms : List (List ℕ)} → Front b m rest ms → length m ≡ be 2 b
front-size {b} f = ap length (sym f.is) ∙ length-take-le (be 2 b) (drop 2 b) (omega (arith, f.fits, length-drop 2 b))

-- ---- the n-th message

part-within : (t : ℕ) (s : List ℕ) (at n : ℕ) (ms : List (List ℕ)) (a : Part) → messages_within t (drop at s) ≡ some ms → located n at ms ≡ gives a
    → take a.len (drop a.at s) ≡ nth n ms
part-within t s at n [] a h e = absurd (let z : ◌≡◌ {A = ℕ} 0 1 = cc in omega arith)
part-within zero s at n (m ∷ ms) a h e = absurd (within-zero (drop at s) m ms h)
part-within (suc t) s at zero (m ∷ ms) a h e =
    let f = within-front t (drop at s) m ms h in
    let p : record { at = at + 2; len = length m } ≡ a = cc in
    ap (λ (q : Part). take q.len (drop q.at s)) (sym p)
    ∙ ap (λ (l : List ℕ). take (length m) l) (sym (drop-drop 2 at s))
    ∙ ap (λ (k : ℕ). take k (drop 2 (drop at s))) (front-size f)
    ∙ f.is
part-within (suc t) s at (suc n) (m ∷ ms) a h e =
    let f = within-front t (drop at s) m ms h in
    let r : behind (drop at s) ≡ drop (at + (2 + length m)) s =
    drop-drop (2 + be 2 (drop at s)) at s ∙ ap (λ (k : ℕ). drop (at + (2 + k)) s) (sym (front-size f)) in
    part-within t s (at + (2 + length m)) n ms a (ap (messages_within t) (sym r) ∙ f.behind) e

pub nothing_is : (b : List ℕ) (l : List (List ℕ)) → nothing_in b ≡ some l → l ≡ []
nothing_is [] l e = cc
nothing_is (x ∷ b) l e = absurd (let z : ◌≡◌ {A = ℕ} 0 1 = cc in omega arith)

pub nothing_left : (b : List ℕ) (l : List (List ℕ)) → nothing_in b ≡ some l → b ≡ []
nothing_left [] l e = refl
nothing_left (x ∷ b) l e = absurd (let z : ◌≡◌ {A = ℕ} 0 1 = cc in omega arith)

carried-part : (t : Bool) (s : List ℕ) (at n : ℕ) (ms : List (List ℕ)) (a : Part)
    → pick t (messages_in (drop at s)) (nothing_in (drop at s)) ≡ some ms → located n at ms ≡ gives a → take a.len (drop a.at s) ≡ nth n ms
carried-part true s at n ms a h e = part-within (length (drop at s)) s at n ms a h e
carried-part false s at n ms a h e =
    let z : located n at [] ≡ gives a = ap (located n at) (sym (nothing_is (drop at s) ms h)) ∙ e in
    absurd (let y : ◌≡◌ {A = ℕ} 0 1 = cc in omega arith)

-- the part at the n-th message's place is the n-th message
message-of : (b : List ℕ) (g : Given Packet) (n : ℕ) (a : Part) → packet_of b ≡ g → place_in g n ≡ gives a → take a.len (drop a.at b) ≡ message_in g n
message-of b (refuses number) n a p e = absurd (let z : ◌≡◌ {A = ℕ} 0 1 = cc in omega arith)
message-of b (gives q) n a p e = carried-part (eqb (kind_in b) letter_u) b head_length n q.messages a (packet-good b q p).carries e

pub message-part : (b : List ℕ) (n : ℕ) (a : Part) → place_in (packet_of b) n ≡ gives a → take a.len (drop a.at b) ≡ message_in (packet_of b) n
message-part b n a e = message-of b (packet_of b) n a refl e

none-at : (n at number : ℕ) (ms : List (List ℕ)) → located n at ms ≡ refuses number → nth n ms ≡ []
none-at n at number [] e = refl
none-at zero at number (m ∷ ms) e = absurd (let z : ◌≡◌ {A = ℕ} 0 1 = cc in omega arith)
none-at (suc n) at number (m ∷ ms) e = none-at n (at + (2 + length m)) number ms e

pub message-none : (g : Given Packet) (n number : ℕ) → place_in g n ≡ refuses number → message_in g n ≡ []
message-none (refuses k) n number e = refl
message-none (gives q) n number e = none-at n head_length number q.messages e

-- ---- how many messages there can be

within-few : (t : ℕ) (b : List ℕ) (ms : List (List ℕ)) → messages_within t b ≡ some ms → length ms ≤ length b
within-few t b [] e = omega arith
within-few zero b (m ∷ ms) e = absurd (within-zero b m ms e)
within-few (suc t) b (m ∷ ms) e =
    let f = within-front t b m ms e in
    omega (arith, within-few t (behind b) ms f.behind, f.fits, length-drop (2 + be 2 b) b)

carried-few : (t : Bool) (b : List ℕ) (ms : List (List ℕ)) → pick t (messages_in b) (nothing_in b) ≡ some ms → length ms ≤ length b
carried-few true b ms e = within-few (length b) b ms e
carried-few false b ms e = omega (arith, ap length (nothing_is b ms e))

pub messages-few : (b : List ℕ) (p : Packet) → packet_of b ≡ gives p → length p.messages ≤ max_packet
messages-few b p e =
    let g = packet-good b p e in
    omega (arith, g.fits, length-drop head_length b, carried-few (eqb (kind_in b) letter_u) (drop head_length b) p.messages g.carries)
