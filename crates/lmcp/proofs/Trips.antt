-- The two round trips of whole messages, once over any sound table. Assumes nothing.
use Rattle.wire.proofs.Basics.{◌∙◌, sym, ◌≡◌, ap, refl, ℕ, ◌≤◌, ◌+◌, ◌<◌, ◌-◌, suc, zero, ◌^◌, List, [], ◌∷◌, ◌++◌, append_assoc, append-nil, true, false, Bool, ◌||◌, not, length, drop, take}
use Rattle.wire.proofs.Basics.{length-append, length-drop, take-append-drop, length-take-le, drop-drop, take_all, drop_at, take_at, eqb, ltb, lit<, ℤ, eq-eqb, le-ltb, eqb-true, ltb-false, le-leb}
use Rattle.wire.proofs.Basics.{not-false, arith}
use Rattle.wire.specs.Choice.{pick}
use Rattle.wire.specs.Bytes.{be, bytes, Bytes}
use Rattle.wire.specs.Same.{same}
use Rattle.wire.proofs.Choices.{or_l, or_r}
use Rattle.wire.proofs.Parts.{same_true}
use Rattle.wire.proofs.Numbers.{length-bytes, be-bytes, be-lt, bytes-be}
use Rattle.lmcp.specs.Found.{Numbers}
use Rattle.lmcp.specs.Limits.{max_message, magic}
use Rattle.lmcp.specs.Run.{Run, got, refused, whole}
use Rattle.lmcp.specs.Table.{Table, Sound}
use Rattle.lmcp.specs.Walk.{root}
use Rattle.lmcp.specs.Read.{reading}
use Rattle.lmcp.specs.Write.{Write, writing}
use Rattle.lmcp.specs.Message.{checksum_of, before, stored, root_of, frame, read_message_lem, choice, found, head_on, message_on, framed, write_message_lem}
use Rattle.lmcp.proofs.Undo.{got-unless, got-where, got-made, got-rest, not-refused, Leaves, undo-root}
use Rattle.lmcp.proofs.Values.{front-drop, bytes_rest, bytes_drop, value-reads, value-writes, count-reads, count-writes}
use Rattle.lmcp.proofs.Heads.{head-reads, head-writes}
use Rattle.lmcp.proofs.Tables.{fields_fit}

-- ---- roots

module _ (T : Table) (sound : Sound T) where
  reads-back : Leaves (λ l. Unit) (writing T) (reading T)
  reads-back =
      record {
        rest = λ a b g. tt;
        values = λ f s n. value-reads f.arg (s.arg-least n) f.kind;
        counts = λ w h. count-reads w;
        heads = λ d t. head-reads T d t sound;
      }

  writes-back : Leaves Bytes (reading T) (writing T)
  writes-back =
      record {
        rest = bytes_rest;
        values = λ f s n. value-writes f.arg (s.arg-least n) f.kind;
        counts = λ w h. count-writes w;
        heads = λ d t. head-writes T d t sound;
      }

  pub root-reads : (l : List ℤ) (bs : List ℕ) → root (writing T) T l ≡ got bs [] → root (reading T) T bs ≡ got l []
  root-reads l bs e = undo-root (λ l. Unit) (writing T) (reading T) reads-back T (fields_fit T sound.rows_fit) l bs tt e

  pub root-writes : (b : List ℕ) (zs : List ℤ) → Bytes b → root (reading T) T b ≡ got zs [] → root (writing T) T zs ≡ got b []
  root-writes b zs f e = undo-root Bytes (reading T) (writing T) writes-back T (fields_fit T sound.rows_fit) b zs f e

-- ---- nothing left

pub whole-got : {A B : Type 0} (X : Run A B) {ys : List B} {r : List A} → whole X ≡ got ys r → (X ≡ got ys []) × (r ≡ [])
unfolding whole
whole-got (got zs []) e = (ap (λ m. got m []) (got-made e), sym (got-rest e))
whole-got (got zs (x ∷ m)) e = not-refused e
whole-got (refused n) e = not-refused e

whole-all : {A B : Type 0} (X : Run A B) {ys : List B} → X ≡ got ys [] → whole X ≡ got ys []
unfolding whole
whole-all X e = ap whole e

-- ---- a message that is put together of a root's bytes and the value of its checksum

module _ (bs : List ℕ) (small : 12 + length bs ≤ max_message) (s : ℕ) (fits : s < 256 ^ 4) where
  unfoldable pub message : List ℕ
  message = head_on bs ++ bytes 4 s

  head-length : length (head_on bs) ≡ 8 + length bs
  head-length = simp (length-append, length-bytes) (omega arith)

  message-length : length message ≡ 12 + length bs
  unfolding message
  message-length = length-append (head_on bs) (bytes 4 s) ∙ omega (arith, head-length, length-bytes 4 s)

  before-is : before message ≡ head_on bs
  unfolding message
  before-is = take_at (head_on bs) (bytes 4 s) (length message - 4) (omega (arith, head-length, message-length))

  pub stored_is : stored message ≡ s
  unfolding message
  stored_is =
      let d : drop (length message - 4) message ≡ bytes 4 s = drop_at (head_on bs) (bytes 4 s) (length message - 4) (omega (arith, head-length, message-length)) in
      ap (be 4) (d ∙ sym (append-nil (bytes 4 s))) ∙ be-bytes 4 s fits []

  parts : message ≡ magic ++ (bytes 4 (length bs) ++ (bs ++ bytes 4 s))
  unfolding message
  parts = append_assoc magic (bytes 4 (length bs) ++ bs) (bytes 4 s) ∙ ap (λ (x : List ℕ). magic ++ x) (append_assoc (bytes 4 (length bs)) bs (bytes 4 s))

  magic-is : take 4 message ≡ magic
  magic-is = ap (take 4) parts

  drop4 : drop 4 message ≡ bytes 4 (length bs) ++ (bs ++ bytes 4 s)
  drop4 = ap (drop 4) parts

  length-is : be 4 (drop 4 message) ≡ length bs
  length-is = ap (be 4) drop4 ∙ be-bytes 4 (length bs) (omega arith) (bs ++ bytes 4 s)

  root_is : root_of message ≡ bs
  root_is =
      let d : drop 8 message ≡ bs ++ bytes 4 s = sym (drop-drop 4 4 message) ∙ ap (drop 4) drop4 ∙ front-drop 4 (length bs) (bs ++ bytes 4 s) in
      ap (λ (x : List ℕ). take (length message - 12) x) d ∙ take_at bs (bytes 4 s) (length message - 12) (omega (arith, message-length))

  frame_is : (eqb s 0 || eqb s (checksum_of (head_on bs))) ≡ true → frame message ≡ 0
  unfolding frame
  frame_is e =
      let l12 : ltb (length message) 12 ≡ false = le-ltb (length message) 12 (omega (arith, message-length)) in
      let m4 : same (take 4 message) magic ≡ true = ap (λ (l : List ℕ). same l magic) magic-is in
      let lim : ltb max_message (length message) ≡ false = le-ltb max_message (length message) (omega (arith, message-length)) in
      let len : eqb (length message) (12 + be 4 (drop 4 message)) ≡ true = eq-eqb (length message) (12 + be 4 (drop 4 message)) (message-length ∙ ap (λ (n : ℕ). 12 + n) (sym length-is)) in
      let sum : (eqb (stored message) 0 || eqb (stored message) (checksum_of (before message))) ≡ true = rw (stored_is, before-is) e in
      simp (l12, m4, lim, len, sum)

-- ---- what a framed root says of its parts

pub record Framed (calculate : Bool) (X : Write) (m : List ℕ) (r : List ℤ) : Type 0 where
  pub bs : List ℕ
  pub inner : X ≡ got bs r
  pub small : 12 + length bs ≤ max_message
  pub made : m ≡ message_on calculate bs

pub framed-got : (calculate : Bool) (X : Write) {m : List ℕ} {r : List ℤ} → framed calculate X ≡ got m r → Framed calculate X m r
unfolding framed
framed-got calculate (got bs q) e =
    let p = got-unless (ltb max_message (12 + length bs)) 21 (got (message_on calculate bs) q) e in
    record { bs = bs; inner = ap (got bs) (got-rest p.1); small = ltb-false max_message (12 + length bs) p.0; made = sym (got-made p.1) }
framed-got calculate (refused n) e = not-refused e

pub framed-sum : (calculate : Bool) (bs : List ℕ)
    → (pick calculate (checksum_of (head_on bs)) 0 < 256 ^ 4) × ((eqb (pick calculate (checksum_of (head_on bs)) 0) 0 || eqb (pick calculate (checksum_of (head_on bs)) 0) (checksum_of (head_on bs))) ≡ true)
framed-sum true bs = (omega arith, right (checksum_of (head_on bs)) (eqb (checksum_of (head_on bs)) 0))
  where
    right : (s : ℕ) (t : Bool) → (t || eqb s s) ≡ true
    right s true = refl
    right s false = eq-eqb s s refl
framed-sum false bs = (lit< tt, refl)

-- FIRST ROUND TRIP: what is written of a list reads back as that list
pub write_read : (T : Table) → Sound T → (calculate : Bool) (l : List ℤ) {m : List ℕ} {r : List ℤ} → write_message_lem T calculate l ≡ got m r → read_message_lem T m ≡ got l []
unfolding write_message_lem read_message_lem message
write_read T sound calculate l {m} {r} e =
    let g = framed-got calculate (whole (root (writing T) T l)) e in
    let w = whole-got (root (writing T) T l) g.inner in
    let x = root-reads T sound l g.bs w.0 in
    let s = pick calculate (checksum_of (head_on g.bs)) 0 in
    let q = framed-sum calculate g.bs in
    let f : frame m ≡ 0 = ap frame g.made ∙ frame_is g.bs g.small s q.0 q.1 in
    let b : root_of m ≡ g.bs = ap root_of g.made ∙ root_is g.bs g.small s q.0 in
    rw (f, b) (whole-all (root (reading T) T g.bs) x)

-- so the reader's count of numbers is the list's length, where the lent list has room for it
pub write-count : (T : Table) → Sound T → (calculate : Bool) (l : List ℤ) {m : List ℕ} {r : List ℤ} (room : ℕ) → write_message_lem T calculate l ≡ got m r → length l ≤ room
    → found (read_message_lem T m) room ≡ Numbers (length l)
unfolding found
write-count T sound calculate l {m} {r} room e h = rw (write_read T sound calculate l e) (rw (le-leb (length l) room h) refl)

-- ---- a message that is accepted

record Accepted (m : List ℕ) : Type 0 where
  long : 12 ≤ length m
  magic-at : take 4 m ≡ magic
  small : length m ≤ max_message
  length_at : length m ≡ 12 + be 4 (drop 4 m)
  sum-at : (eqb (stored m) 0 || eqb (stored m) (checksum_of (before m))) ≡ true

frame_flags : (a b c : Bool) → ◌≡◌ {A = ℕ} (pick a 20 (pick b 21 (pick c 0 22))) 0 → (a ≡ false) × ((b ≡ false) × (c ≡ true))
frame_flags true b c e = absurd (let z : ⊥ = omega arith in z)
frame_flags false true c e = absurd (let z : ⊥ = omega arith in z)
frame_flags false false true e = (refl, (refl, refl))
frame_flags false false false e = absurd (let z : ⊥ = omega arith in z)

accepted : (m : List ℕ) → frame m ≡ 0 → Accepted m
unfolding frame
accepted m e =
    let a1 = ltb (length m) 12 in
    let a2 = not (same (take 4 m) magic) in
    let b1 = ltb max_message (length m) in
    let b2 = not (eqb (length m) (12 + be 4 (drop 4 m))) in
    let f = frame_flags (a1 || a2) (b1 || b2) (eqb (stored m) 0 || eqb (stored m) (checksum_of (before m))) e in
    record {
      long = ltb-false (length m) 12 (or_l a1 a2 f.0);
      magic-at = same_true (take 4 m) magic (not-false (same (take 4 m) magic) (or_r a1 a2 f.0));
      small = ltb-false max_message (length m) (or_l b1 b2 f.1.0);
      length_at = eqb-true (length m) (12 + be 4 (drop 4 m)) (not-false (eqb (length m) (12 + be 4 (drop 4 m))) (or_r b1 b2 f.1.0));
      sum-at = f.1.1;
    }

pub bytes_take : (k : ℕ) (b : List ℕ) → Bytes b → Bytes (take k b)
bytes_take zero b f i = omega arith
bytes_take (suc k) [] f i = omega arith
bytes_take (suc k) (x ∷ b) f zero = f 0
bytes_take (suc k) (x ∷ b) f (suc i) = bytes_take k b (λ j. f (suc j)) i

module _ (m : List ℕ) (f : Bytes m) (p : Accepted m) where
  root-length : length (root_of m) ≡ length m - 12
  root-length = let k : length m - 12 ≤ length (drop 8 m) = rw length-drop (omega (arith, p.long)) in length-take-le (length m - 12) (drop 8 m) k

  tail-is : bytes 4 (stored m) ≡ drop (length m - 4) m
  tail-is =
      let k : length (drop (length m - 4) m) ≡ 4 = length-drop (length m - 4) m ∙ omega (arith, p.long) in
      let k1 : 4 ≤ length (drop (length m - 4) m) = omega arith in
      let k2 : length (drop (length m - 4) m) ≤ 4 = omega arith in
      bytes-be 4 (drop (length m - 4) m) (bytes_drop (length m - 4) m f) k1 ∙ take_all 4 (drop (length m - 4) m) k2

  whole_is : head_on (root_of m) ++ bytes 4 (stored m) ≡ m
  whole_is =
      let b = root_of m in
      let k8 : 4 ≤ length (drop 4 m) = rw length-drop (omega (arith, p.long)) in
      let t2 : bytes 4 (length b) ≡ take 4 (drop 4 m) = ap (bytes 4) (root-length ∙ omega (arith, p.length_at)) ∙ bytes-be 4 (drop 4 m) (bytes_drop 4 m f) k8 in
      let s8 : 8 + (length m - 12) ≡ length m - 4 = omega (arith, p.long) in
      let t3 : b ++ drop (length m - 4) m ≡ drop 8 m = ap (λ (i : ℕ). b ++ drop i m) (sym s8) ∙ ap (λ (x : List ℕ). b ++ x) (sym (drop-drop (length m - 12) 8 m)) ∙ take-append-drop (length m - 12) (drop 8 m) in
      append_assoc magic (bytes 4 (length b) ++ b) (bytes 4 (stored m))
      ∙ ap (λ (x : List ℕ). magic ++ x)
      (append_assoc (bytes 4 (length b)) b (bytes 4 (stored m)) ∙ ap (λ (x : List ℕ). bytes 4 (length b) ++ (b ++ x)) tail-is ∙ ap (λ (x : List ℕ). bytes 4 (length b) ++ x) t3
      ∙ ap (λ (x : List ℕ). x ++ drop 8 m) t2 ∙ ap (λ (x : List ℕ). take 4 (drop 4 m) ++ x) (sym (drop-drop 4 4 m)) ∙ take-append-drop 4 (drop 4 m))
      ∙ ap (λ (x : List ℕ). x ++ drop 4 m) (sym p.magic-at) ∙ take-append-drop 4 m

  before_root : before m ≡ head_on (root_of m)
  unfolding message
  before_root = ap before (sym whole_is) ∙ before-is (root_of m) (omega (arith, root-length, p.small, p.long)) (stored m) (be-lt 4 (drop (length m - 4) m) (bytes_drop (length m - 4) m f))

  limit_is : ltb max_message (12 + length (root_of m)) ≡ false
  limit_is = le-ltb max_message (12 + length (root_of m)) (omega (arith, root-length, p.small, p.long))

  framed-by : (t : Bool) → eqb (stored m) 0 ≡ t → framed (not t) (got (root_of m) []) ≡ got m []
  unfolding framed
  framed-by true e = rw limit_is (ap (λ (x : List ℕ). got x []) (ap (λ (s : ℕ). head_on (root_of m) ++ bytes 4 s) (sym (eqb-true (stored m) 0 e)) ∙ whole_is))
  framed-by false e =
      let q : eqb (stored m) (checksum_of (before m)) ≡ true = rw e at p.sum-at in
      let s : checksum_of (head_on (root_of m)) ≡ stored m = ap checksum_of (sym before_root) ∙ sym (eqb-true (stored m) (checksum_of (before m)) q) in
      rw (limit_is, s) (ap (λ (x : List ℕ). got x []) whole_is)

-- SECOND ROUND TRIP: what is read of a message is written as that message, with the same choice of a checksum
pub read_write : (T : Table) → Sound T → (m : List ℕ) → Bytes m → {zs : List ℤ} {r : List ℕ} → read_message_lem T m ≡ got zs r → write_message_lem T (choice m) zs ≡ got m []
unfolding read_message_lem write_message_lem
read_write T sound m f {zs} {r} e =
    let a = got-where (eqb (frame m) 0) (whole (root (reading T) T (root_of m))) (frame m) e in
    let p = accepted m (eqb-true (frame m) 0 a.0) in
    let w = whole-got (root (reading T) T (root_of m)) a.1 in
    let x = root-writes T sound (root_of m) zs (bytes_take (length m - 12) (drop 8 m) (bytes_drop 8 m f)) w.0 in
    ap (framed (choice m)) (whole-all (root (writing T) T zs) x) ∙ framed-by m f p (eqb (stored m) 0) refl
