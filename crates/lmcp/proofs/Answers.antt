-- What the reader's answers tell: it refuses by 20 to 28, never by the 13 that a caller hears of a list too short; and an accepted message's
-- numbers begin with its version and its root's type, which are not negative. Assumes nothing.
use Rattle.wire.proofs.Basics.{◌∙◌, sym, ◌≡◌, ap, refl, subst, ℕ, ◌≤◌, ◌+◌, List, [], ◌∷◌, true, false, Bool, ◌&&◌, ◌||◌, not, length, drop, get_or, take, eqb, ltb, lit≤, ℤ, pos, eqb-false}
use Rattle.wire.specs.Choice.{pick}
use Rattle.wire.specs.Bytes.{be}
use Rattle.wire.specs.Same.{same}
use Rattle.wire.proofs.Choices.{pick_all}
use Rattle.lmcp.specs.Limits.{max_message, magic, deepest}
use Rattle.lmcp.specs.Run.{got, refused, Tag, tag, bad, prepend, after, whole}
use Rattle.lmcp.specs.Table.{Table, bool_kind, char_kind, pitsurv}
use Rattle.lmcp.specs.Value.{fault}
use Rattle.lmcp.specs.Read.{Read, judged, read_value, read_count, known, read_header, read_head, reading}
use Rattle.lmcp.specs.Walk.{is_null, object, root}
use Rattle.lmcp.specs.Message.{checksum_of, before, stored, frame, root_of, read_message_lem}
use Rattle.lmcp.specs.Lists.{version_of_lem, read_as, read_list}
use Rattle.lmcp.proofs.Undo as undo
use Rattle.lmcp.proofs.Makes.{Fine, FineTag, fine-root}

abbrev Number : ℕ → Type 0
Number n = (20 ≤ n) × (n ≤ 28)

abbrev Any : List ℤ → Type 0
Any zs = Unit

abbrev Reads : Read → Type 0
Reads = Fine Any Number

abbrev Heads : Tag ℕ ℤ → Type 0
Heads = FineTag Any Number

-- what is wrong with a value
value-fault : (k v : ℕ) → (eqb (fault k v) 0 ≡ false) → Number (fault k v)
unfolding fault
value-fault k v = go (eqb k bool_kind && ltb 1 v) (eqb k char_kind && ltb 127 v)
  where
    go : (a b : Bool) → eqb (pick a 23 (pick b 27 0)) 0 ≡ false → Number (pick a 23 (pick b 27 0))
    go true b e = (lit≤ tt, lit≤ tt)
    go false true e = (lit≤ tt, lit≤ tt)
    go false false e = absurd (eqb-false 0 0 e refl)

values : (k w : ℕ) (b : List ℕ) → Reads (read_value k w b)
unfolding read_value judged
values k w b =
    pick_all Reads (ltb (length b) w) (λ e. (lit≤ tt, lit≤ tt))
    (λ e. pick_all Reads (eqb (fault k (be w b)) 0) (λ e. tt) (λ e. value-fault k (be w b) e))

counts : (w : ℕ) (b : List ℕ) → Heads (read_count w b)
unfolding read_count
counts w b = pick_all Heads (ltb (length b) w) (λ e. (lit≤ tt, lit≤ tt)) (λ e. tt)

heads : (T : Table) (d t : ℕ) (b : List ℕ) → Heads (read_head T d t b)
unfolding read_head read_header
heads T d t b =
    pick_all Heads (ltb (length b) 1) (λ e. (lit≤ tt, lit≤ tt))
    (λ e. pick_all Heads (ltb 1 (be 1 b)) (λ e. (lit≤ tt, lit≤ tt))
    (λ e. pick_all Heads (eqb (be 1 b) 0) (λ e. tt)
    (λ e. pick_all Heads (eqb d 0) (λ e. (lit≤ tt, lit≤ tt))
    (λ e. pick_all Heads (ltb (length (drop 1 b)) 14) (λ e. (lit≤ tt, lit≤ tt))
    (λ e. pick_all Heads (known T t (drop 1 b)) (λ e. tt) (λ e. (lit≤ tt, lit≤ tt)))))))

roots : (T : Table) (b : List ℕ) → Reads (root (reading T) T b)
roots T b =
    fine-root Any Number (reading T)
    (record { none = tt; both = λ a b p q. tt; null-root = (lit≤ tt, lit≤ tt); values = values; counts = counts; heads = heads T }) T b

wholes : (X : Read) → Reads X → Reads (whole X)
unfolding whole
wholes (got zs []) g = tt
wholes (got zs (x ∷ r)) g = (lit≤ tt, lit≤ tt)
wholes (refused n) g = g

-- what is wrong with a message before its root
frame-fault : (m : List ℕ) → eqb (frame m) 0 ≡ false → Number (frame m)
unfolding frame
frame-fault m =
    go (ltb (length m) 12 || not (same (take 4 m) magic)) (ltb max_message (length m) || not (eqb (length m) (12 + be 4 (drop 4 m))))
    (eqb (stored m) 0 || eqb (stored m) (checksum_of (before m)))
  where
    go : (a b c : Bool) → eqb (pick a 20 (pick b 21 (pick c 0 22))) 0 ≡ false → Number (pick a 20 (pick b 21 (pick c 0 22)))
    go true b c e = (lit≤ tt, lit≤ tt)
    go false true c e = (lit≤ tt, lit≤ tt)
    go false false false e = (lit≤ tt, lit≤ tt)
    go false false true e = absurd (eqb-false 0 0 e refl)

messages : (T : Table) (m : List ℕ) → Reads (read_message_lem T m)
unfolding read_message_lem
messages T m = pick_all Reads (eqb (frame m) 0) (λ e. wholes (root (reading T) T (root_of m)) (roots T (root_of m))) (λ e. frame-fault m e)

prepended : (ys : List ℤ) (X : Read) → Reads X → Reads (prepend ys X)
unfolding prepend
prepended ys (got zs r) g = tt
prepended ys (refused n) g = g

-- NO REFUSAL BUT 20 TO 28
pub read-refuses : (m : List ℕ) (n : ℕ) → read_list m ≡ refused n → (20 ≤ n) × (n ≤ 28)
unfolding read_list read_as
read-refuses m n e =
    let v = version_of_lem (root_of m) in
    subst Reads e (prepended (pos v ∷ []) (read_message_lem (pitsurv v) m) (messages (pitsurv v) m))

-- ---- the type of a root

-- a number that is not negative
pub record Plain (z : ℤ) : Type 0 where
  pub number : ℕ
  pub is : z ≡ pos number

-- what is got begins with one
abbrev Begins : Read → Type 0
Begins (got zs r) = Plain (get_or zs 0 (pos 0))
Begins (refused n) = Unit

abbrev Tags : Tag ℕ ℤ → Type 0
Tags (tag n ys r) = ys ≡ pos n ∷ []
Tags (bad n) = Unit

tags : (T : Table) (d t : ℕ) (b : List ℕ) → Tags (read_head T d t b)
unfolding read_head read_header
tags T d t b =
    pick_all Tags (ltb (length b) 1) (λ e. tt)
    (λ e. pick_all Tags (ltb 1 (be 1 b)) (λ e. tt)
    (λ e. pick_all Tags (eqb (be 1 b) 0) (λ e. refl)
    (λ e. pick_all Tags (eqb d 0) (λ e. tt)
    (λ e. pick_all Tags (ltb (length (drop 1 b)) 14) (λ e. tt)
    (λ e. pick_all Tags (known T t (drop 1 b)) (λ e. refl) (λ e. tt))))))

begins-prepend : (n : ℕ) (X : Read) → Begins (prepend (pos n ∷ []) X)
unfolding prepend
begins-prepend n (got zs r) = record { number = n; is = refl }
begins-prepend n (refused k) = tt

begins-after : (t : Tag ℕ ℤ) (k : ℕ → List ℕ → Read) → Tags t → Begins (after t k)
unfolding after
begins-after (tag n ys r) k e = subst (λ (l : List ℤ). Begins (prepend l (k n r))) (sym e) (begins-prepend n (k n r))
begins-after (bad n) k e = tt

begins-whole : (X : Read) → Begins X → Begins (whole X)
unfolding whole
begins-whole (got zs []) g = g
begins-whole (got zs (x ∷ r)) g = tt
begins-whole (refused n) g = tt

begins-root : (T : Table) (b : List ℕ) → Begins (root (reading T) T b)
unfolding root object
begins-root T b = pick_all Begins (is_null (read_head T deepest 0 b)) (λ e. tt) (λ e. begins-after (read_head T deepest 0 b) _ (tags T deepest 0 b))

begins-message : (T : Table) (m : List ℕ) → Begins (read_message_lem T m)
unfolding read_message_lem
begins-message T m = pick_all Begins (eqb (frame m) 0) (λ e. begins-whole (root (reading T) T (root_of m)) (begins-root T (root_of m))) (λ e. tt)

-- A ROOT'S TYPE IS NOT NEGATIVE
pub root-type : (m : List ℕ) (l : List ℤ) (r : List ℕ) → read_list m ≡ got l r → Plain (get_or l 1 (pos 0))
unfolding read_list read_as
root-type m l r e =
    let v = version_of_lem (root_of m) in
    let g = undo.prepended (pos v ∷ []) (read_message_lem (pitsurv v) m) e in
    let b : Plain (get_or g.more 0 (pos 0)) = subst Begins g.inner (begins-message (pitsurv v) m) in
    record { number = b.number; is = ap (λ (n : List ℤ). get_or n 1 (pos 0)) g.joined ∙ b.is }
