-- Messages and their blocks determine each other. Assumes nothing.
use Rattle.wire.proofs.Basics.{◌∙◌, sym, ◌≡◌, ap, refl, ℕ, ◌≤◌, ◌+◌, suc, zero, List, [], ◌∷◌, ◌++◌, append_assoc, true, false, Bool, some, none, Option, length, drop, take, length-append}
use Rattle.wire.proofs.Basics.{take-append-drop, drop_at, take_at, take-add, arith}
use Rattle.wire.specs.Choice.{pick}
use Rattle.wire.specs.Bytes.{be, bytes, Bytes}
use Rattle.wire.proofs.Numbers.{be-bytes, bytes-be, length-bytes, drop-bytes}
use Rattle.moss.specs.Limits.{max_message}
use Rattle.moss.specs.Blocks.{block, laid, is_cut, first_message, behind, before, messages_within, messages_in}
use Rattle.moss.proofs.MessageTurn.{messages-next, messages-none}
use Rattle.moss.proofs.Parts.{within-front, within-zero, front-size}

-- each message has a length of two bytes
abbrev pub Short : List (List ℕ) → Type 0
Short [] = Unit {0}
Short (m ∷ ms) = (length m ≤ max_message) × Short ms

module _ (m r : List ℕ) (short : length m ≤ max_message) where
  -- a block and what follows it
  first-length : be 2 (block m ++ r) ≡ length m
  first-length = ap (be 2) (append_assoc (bytes 2 (length m)) m r) ∙ be-bytes 2 (length m) (omega arith) (m ++ r)

  first-is : first_message (block m ++ r) ≡ m
  first-is =
      ap (λ (n : ℕ). take n (drop 2 (block m ++ r))) first-length
      ∙ ap (λ (l : List ℕ). take (length m) (drop 2 l)) (append_assoc (bytes 2 (length m)) m r)
      ∙ ap (take (length m)) (drop_at (bytes 2 (length m)) (m ++ r) 2 (length-bytes 2 (length m)))
      ∙ take_at m r (length m) refl

  block-length : length (block m) ≡ 2 + length m
  block-length = length-append (bytes 2 (length m)) m ∙ ap (λ (n : ℕ). n + length m) (length-bytes 2 (length m))

  rest-is : behind (block m ++ r) ≡ r
  rest-is =
      ap (λ (n : ℕ). drop (2 + n) (block m ++ r)) first-length
      ∙ drop_at (block m) r (2 + length m) block-length

  whole-block : 2 + be 2 (block m ++ r) ≤ length (block m ++ r)
  whole-block = omega (arith, first-length, block-length, length-append (block m) r)

-- what is laid is read back, message by message
pub laid-messages : (ms : List (List ℕ)) → Short ms → messages_in (laid ms) ≡ some ms
laid-messages [] h = messages-none
laid-messages (m ∷ ms) h =
    let r : List ℕ = laid ms in
    messages-next (block m ++ r) (omega (arith, whole-block m r h.0)) (whole-block m r h.0)
    ∙ ap (λ (x : List ℕ). before x (messages_in (behind (block m ++ r)))) (first-is m r h.0)
    ∙ ap (λ (x : List ℕ). before m (messages_in x)) (rest-is m r h.0)
    ∙ ap (before m) (laid-messages ms h.1)

-- ---- what is read was laid

none_before : (t : Bool) (m : List ℕ) (rest : Option (List (List ℕ))) → pick t none (before m rest) ≡ some [] → ⊥
none_before true m rest e = let z : ◌≡◌ {A = ℕ} 0 1 = cc in omega arith
none_before false m none e = let z : ◌≡◌ {A = ℕ} 0 1 = cc in omega arith
none_before false m (some l) e = let z : ◌≡◌ {A = ℕ} 0 1 = cc in omega arith

none_left : (t : ℕ) (b : List ℕ) → messages_within t b ≡ some [] → b ≡ []
unfolding messages_within
none_left t [] e = refl
none_left zero (x ∷ b) e = absurd (let z : ◌≡◌ {A = ℕ} 0 1 = cc in omega arith)
none_left (suc t) (x ∷ b) e = absurd (none_before (is_cut (x ∷ b)) (first_message (x ∷ b)) (messages_within t (behind (x ∷ b))) e)

within-laid : (t : ℕ) (b : List ℕ) (ms : List (List ℕ)) → Bytes b → messages_within t b ≡ some ms → laid ms ≡ b
within-laid t b [] h e = sym (none_left t b e)
within-laid zero b (m ∷ ms) h e = absurd (within-zero b m ms e)
within-laid (suc t) b (m ∷ ms) h e =
    let f = within-front t b m ms e in
    let k : ℕ = be 2 b in
    let size : bytes 2 (length m) ≡ take 2 b = ap (bytes 2) (front-size f) ∙ bytes-be 2 b h (omega (arith, f.fits)) in
    let rest : laid ms ≡ drop (2 + k) b = within-laid t (behind b) ms (drop-bytes b (2 + k) h) f.behind in
    ap (λ (x : List ℕ). x ++ m ++ laid ms) size
    ∙ ap (λ (x : List ℕ). take 2 b ++ x ++ laid ms) (sym f.is)
    ∙ ap (λ (x : List ℕ). take 2 b ++ take k (drop 2 b) ++ x) rest
    ∙ ap (λ (x : List ℕ). x ++ drop (2 + k) b) (sym (take-add 2 k b))
    ∙ take-append-drop (2 + k) b

pub messages-laid : (b : List ℕ) (ms : List (List ℕ)) → Bytes b → messages_in b ≡ some ms → laid ms ≡ b
messages-laid b ms h e = within-laid (length b) b ms h e
