-- The round trips of the lent memory, from the contracts of the reader and the writer alone: what was written to the output reads back into
-- the list, and what was read into the list is written back to the output. Assumes nothing.
use Rattle.wire.proofs.Basics.{◌∙◌, ◌≡◌, ap, refl, ℕ, ◌≤◌, ◌+◌, List, [], true, false, Bool, length, take, sets, leb, ℤ, le-leb, leb-true, arith}
use Rattle.wire.specs.Choice.{pick}
use Rattle.wire.specs.Bytes.{Bytes}
use Rattle.wire.specs.Overlay.{overlay}
use Rattle.wire.proofs.Overlays.{overlay-at}
use Rattle.wire.proofs.Parts.{front_of}
use Rattle.lmcp.specs.Found.{Found, Numbers, Refused as Unread}
use Rattle.lmcp.specs.Made.{Made, Bytes as Wrote, Refused as Unwritten}
use Rattle.lmcp.specs.Run.{got, refused}
use Rattle.lmcp.specs.Table.{Table, Sound}
use Rattle.lmcp.specs.Read.{Read}
use Rattle.lmcp.specs.Write.{Write}
use Rattle.lmcp.specs.Message.{choice, read_message_lem, found, listed, ReadTo, write_message_lem, made, written, WrittenTo}
use Rattle.lmcp.specs.Lists.{read_list, write_list}
use Rattle.lmcp.proofs.Trips.{write_read, read_write}
use Rattle.lmcp.proofs.Editions.{written-list, read-list}

-- ---- what an answer with a length says

record Written (X : Write) (out : List ℕ) (n : ℕ) (after : List ℕ) : Type 0 where
  message : List ℕ
  rest : List ℤ
  is : X ≡ got message rest
  size : n ≡ length message
  front : take n after ≡ message

wrote : (X : Write) (out : List ℕ) (n : ℕ) (after : List ℕ) → WrittenTo X out (Wrote n) after → Written X out n after
unfolding made written
wrote (got m r) out n after w = by (leb (length m) (length out)) refl w.gave w.left
  where
    by : (t : Bool) → leb (length m) (length out) ≡ t → Wrote n ≡ pick t (Wrote (length m)) (Unwritten 13) → after ≡ pick t (overlay out 0 m) out → Written (got m r) out n after
    by true l e f =
        let s : n ≡ length m = cc in
        let h : 0 + length m ≤ length out = omega (arith, leb-true (length m) (length out) l) in
        record { message = m; rest = r; is = refl; size = s; front = ap (λ (k : ℕ). take k after) s ∙ ap (take (length m)) f ∙ overlay-at out 0 m h }
    by false l e f = absurd (let z : ◌≡◌ {A = ℕ} 0 1 = cc in let q : ⊥ = omega arith in q)
wrote (refused k) out n after w = absurd (let e = w.gave in let z : ◌≡◌ {A = ℕ} 0 1 = cc in let q : ⊥ = omega arith in q)

pub record Listed (X : Read) (list : List ℤ) (n : ℕ) (after : List ℤ) : Type 0 where
  pub numbers : List ℤ
  pub rest : List ℕ
  pub is : X ≡ got numbers rest
  pub size : n ≡ length numbers
  pub within : n ≤ length list
  pub front : take n after ≡ numbers

pub read : (X : Read) (list : List ℤ) (n : ℕ) (after : List ℤ) → ReadTo X list (Numbers n) after → Listed X list n after
unfolding found listed
read (got zs r) list n after w = by (leb (length zs) (length list)) refl w.gave w.left
  where
    by : (t : Bool) → leb (length zs) (length list) ≡ t → Numbers n ≡ pick t (Numbers (length zs)) (Unread 13) → after ≡ pick t (sets list 0 zs) list → Listed (got zs r) list n after
    by true l e f =
        let s : n ≡ length zs = cc in
        let h : length zs ≤ length list = leb-true (length zs) (length list) l in
        record { numbers = zs; rest = r; is = refl; size = s; within = omega arith; front = ap (λ (k : ℕ). take k after) s ∙ ap (take (length zs)) f ∙ front_of list zs h }
    by false l e f = absurd (let z : ◌≡◌ {A = ℕ} 0 1 = cc in let q : ⊥ = omega arith in q)
read (refused k) list n after w = absurd (let e = w.gave in let z : ◌≡◌ {A = ℕ} 0 1 = cc in let q : ⊥ = omega arith in q)

-- ---- there and back, for any writing W and reading R of which one undoes the other

-- The writer answered a length for the list l. Then the reader, given those bytes and a list with room, answers the length of l, and its
-- list begins with l.
lent_reads : (X : Write) (R : List ℕ → Read) (l : List ℤ) (out : List ℕ) (n : ℕ) (after : List ℕ) → WrittenTo X out (Wrote n) after
    → ((m : List ℕ) (r : List ℤ) → X ≡ got m r → R m ≡ got l [])
    → (list : List ℤ) (a : Found) (left : List ℤ) → ReadTo (R (take n after)) list a left → length l ≤ length list
    → (a ≡ Numbers (length l)) × (take (length l) left ≡ l)
unfolding found listed
lent_reads X R l out n after w back list a left r h =
    let x = wrote X out n after w in
    let e : R (take n after) ≡ got l [] = ap R x.front ∙ back x.message x.rest x.is in
    let g : a ≡ found (got l []) (length list) = r.gave ∙ ap (λ (X : Read). found X (length list)) e in
    let f : left ≡ listed (got l []) list = r.left ∙ ap (λ (X : Read). listed X list) e in
    let k : leb (length l) (length list) ≡ true = le-leb (length l) (length list) h in
    (g ∙ rw k refl, ap (take (length l)) (f ∙ rw k refl) ∙ front_of list l h)

-- The reader answered a count for the message m. Then the writer, given those numbers and an output with room, answers the length of m, and
-- its output begins with m.
lent-writes : (X : Read) (W : List ℤ → Write) (m : List ℕ) (list : List ℤ) (n : ℕ) (after : List ℤ) → ReadTo X list (Numbers n) after
    → ((zs : List ℤ) (r : List ℕ) → X ≡ got zs r → W zs ≡ got m [])
    → (out : List ℕ) (a : Made) (left : List ℕ) → WrittenTo (W (take n after)) out a left → length m ≤ length out
    → (a ≡ Wrote (length m)) × (take (length m) left ≡ m)
unfolding made written
lent-writes X W m list n after r back out a left w h =
    let x = read X list n after r in
    let e : W (take n after) ≡ got m [] = ap W x.front ∙ back x.numbers x.rest x.is in
    let g : a ≡ made (got m []) (length out) = w.gave ∙ ap (λ (X : Write). made X (length out)) e in
    let f : left ≡ written (got m []) out = w.left ∙ ap (λ (X : Write). written X out) e in
    let k : leb (length m) (length out) ≡ true = le-leb (length m) (length out) h in
    let j : 0 + length m ≤ length out = omega arith in
    (g ∙ rw k refl, ap (take (length m)) (f ∙ rw k refl) ∙ overlay-at out 0 m j)

-- ---- for any sound table

module _ (T : Table) (fits : Sound T) where
  pub written-reads : (calculate : Bool) (l : List ℤ) (out : List ℕ) (n : ℕ) (after : List ℕ) → WrittenTo (write_message_lem T calculate l) out (Wrote n) after
      → (list : List ℤ) (a : Found) (left : List ℤ) → ReadTo (read_message_lem T (take n after)) list a left → length l ≤ length list
      → (a ≡ Numbers (length l)) × (take (length l) left ≡ l)
  written-reads calculate l out n after w = lent_reads (write_message_lem T calculate l) (read_message_lem T) l out n after w (λ m r e. write_read T fits calculate l e)

  pub read-writes : (m : List ℕ) → Bytes m → (list : List ℤ) (n : ℕ) (after : List ℤ) → ReadTo (read_message_lem T m) list (Numbers n) after
      → (out : List ℕ) (a : Made) (left : List ℕ) → WrittenTo (write_message_lem T (choice m) (take n after)) out a left → length m ≤ length out
      → (a ≡ Wrote (length m)) × (take (length m) left ≡ m)
  read-writes m b list n after r = lent-writes (read_message_lem T m) (write_message_lem T (choice m)) m list n after r (λ zs r e. read_write T fits m b e)

-- ---- and for our own, in either version

-- what the writer wrote of a list, the reader reads back as that list
pub list-written-reads : (calculate : Bool) (l : List ℤ) (out : List ℕ) (n : ℕ) (after : List ℕ) → WrittenTo (write_list calculate l) out (Wrote n) after
    → (list : List ℤ) (a : Found) (left : List ℤ) → ReadTo (read_list (take n after)) list a left → length l ≤ length list
    → (a ≡ Numbers (length l)) × (take (length l) left ≡ l)
list-written-reads calculate l out n after w = lent_reads (write_list calculate l) read_list l out n after w (λ m r e. written-list calculate l e)

-- what the reader read of a message, the writer writes back as that message
pub list-read-writes : (m : List ℕ) → Bytes m → (list : List ℤ) (n : ℕ) (after : List ℤ) → ReadTo (read_list m) list (Numbers n) after
    → (out : List ℕ) (a : Made) (left : List ℕ) → WrittenTo (write_list (choice m) (take n after)) out a left → length m ≤ length out
    → (a ≡ Wrote (length m)) × (take (length m) left ≡ m)
list-read-writes m b list n after r = lent-writes (read_list m) (write_list (choice m)) m list n after r (λ zs r e. read-list m b e)
