-- The round trips of number lists, in either version, from those over any table; the old reader answers 24 to version 2. Assumes nothing.
use Rattle.wire.proofs.Basics.{◌∙◌, sym, ◌≡◌, ap, refl, subst, ℕ, ◌<◌, ◌^◌, List, [], ◌∷◌, true, false, Bool, ◌||◌, drop, drop-drop, eqb, lit<, ℤ, pos, negsuc, ne_eqb, eqb-true, arith}
use lib.Signed.{mag}
use Rattle.wire.specs.Choice.{pick}
use Rattle.wire.specs.Bytes.{be, Bytes}
use Rattle.wire.proofs.Choices.{never, and-false}
use Rattle.lmcp.specs.Limits.{deepest}
use Rattle.lmcp.specs.Run.{got, refused, tag, bad, prepend, whole}
use Rattle.lmcp.specs.Table.{Table, pitsurv}
use Rattle.lmcp.specs.Walk.{root, object, is_null}
use Rattle.lmcp.specs.Read.{reading, known, read_header, read_head}
use Rattle.lmcp.specs.Message.{root_of, frame, read_message_lem, choice, write_message_lem}
use Rattle.lmcp.specs.Lists.{version_of_lem, read_as, read_list, is_version_lem, write_list}
use Rattle.lmcp.proofs.Undo.{got-unless, got-where, not-refused, followed, prepended}
use Rattle.lmcp.proofs.WalkPlaces.{inside, object-is, root-stops}
use Rattle.lmcp.proofs.Heads.{known-version, Headed, read-headed}
use Rattle.lmcp.proofs.Trips.{whole-got, write_read, read_write}
use Rattle.lmcp.proofs.Pitsurv.{sound}

-- ---- a version is 1 or 2

pub record IsVersion (z : ℤ) : Type 0 where
  pub number : z ≡ pos (mag z)
  pub small : mag z < 256 ^ 2
  pub named : (n : ℕ) → n ≡ mag z → pick (eqb n 2) 2 1 ≡ mag z

is-version : (z : ℤ) → is_version_lem z ≡ true → IsVersion z
is-version (negsuc n) e = never e refl
is-version (pos n) e = by (eqb n 1) (eqb n 2) refl refl e
  where
    one : n ≡ 1 → IsVersion (pos n)
    one q = subst (λ (m : ℕ). IsVersion (pos m)) (sym q) (record { number = refl; small = lit< tt; named = λ n e. ap (λ (k : ℕ). pick (eqb k 2) 2 1) e })

    two : n ≡ 2 → IsVersion (pos n)
    two q = subst (λ (m : ℕ). IsVersion (pos m)) (sym q) (record { number = refl; small = lit< tt; named = λ n e. ap (λ (k : ℕ). pick (eqb k 2) 2 1) e })

    by : (s t : Bool) → eqb n 1 ≡ s → eqb n 2 ≡ t → (s || t) ≡ true → IsVersion (pos n)
    by true t p q f = one (eqb-true n 1 p)
    by false true p q f = two (eqb-true n 2 q)
    by false false p q f = never f refl

pub version-is : (b : List ℕ) → is_version_lem (pos (version_of_lem b)) ≡ true
version-is b = by (eqb (be 2 (drop 13 b)) 2)
  where
    by : (t : Bool) → is_version_lem (pos (pick t 2 1)) ≡ true
    by true = refl
    by false = refl

-- ---- a root that is read has a head of its table's version

record Rooted (T : Table) (b : List ℕ) : Type 0 where
  type : ℕ
  head : Headed T deepest 0 type b

tag-some : (n : ℕ) (zs : List ℤ) (r : List ℕ) → is_null {A = ℕ} {B = ℤ} (tag n zs r) ≡ false → n ≡ 0 → ⊥
tag-some n zs r e z = never (ap (λ (m : ℕ). is_null {A = ℕ} {B = ℤ} (tag m zs r)) z) e

rooted : (T : Table) (b : List ℕ) {zs : List ℤ} {r : List ℕ} → root (reading T) T b ≡ got zs r → Rooted T b
unfolding root
rooted T b e =
    let p = got-unless (is_null (read_head T deepest 0 b)) 23 (object (reading T) T deepest 0 b) e in
    let q = followed (read_head T deepest 0 b) (inside (reading T) T deepest) (sym (object-is (reading T) T deepest 0 b) ∙ p.1) in
    let some = tag-some q.number q.one q.mid (ap is_null (sym q.first) ∙ p.0) in
    record { type = q.number; head = read-headed T deepest 0 q.number some b q.first }

read-rooted : (T : Table) (m : List ℕ) {zs : List ℤ} {r : List ℕ} → read_message_lem T m ≡ got zs r → (frame m ≡ 0) × Rooted T (root_of m)
unfolding read_message_lem
read-rooted T m e =
    let a = got-where (eqb (frame m) 0) (whole (root (reading T) T (root_of m))) (frame m) e in
    (eqb-true (frame m) 0 a.0, rooted T (root_of m) (whole-got (root (reading T) T (root_of m)) a.1).0)

root-version : (T : Table) (b : List ℕ) → Rooted T b → be 2 (drop 13 b) ≡ T.version
root-version T b h = ap (be 2) (sym (drop-drop 12 1 b)) ∙ known-version T 0 (drop 1 b) h.head.is_known

-- ---- the round trips of number lists

-- FIRST: what is written of a list, in either version, reads back as that list
pub written-list : (calculate : Bool) (l : List ℤ) {m : List ℕ} {r : List ℤ} → write_list calculate l ≡ got m r → read_list m ≡ got l []
unfolding write_list read_list read_as prepend
written-list calculate [] e = not-refused e
written-list calculate (z ∷ l) {m} e =
    let p = got-where (is_version_lem z) (write_message_lem (pitsurv (mag z)) calculate l) 29 e in
    let v = is-version z p.0 in
    let x = write_read (pitsurv (mag z)) (sound (mag z) v.small) calculate l p.1 in
    let k : version_of_lem (root_of m) ≡ mag z = v.named _ (root-version (pitsurv (mag z)) (root_of m) (read-rooted (pitsurv (mag z)) m x).1) in
    ap (λ (n : ℕ). prepend (pos n ∷ []) (read_message_lem (pitsurv n) m)) k ∙ ap (prepend (pos (mag z) ∷ [])) x ∙ ap (λ (y : ℤ). got (y ∷ l) []) (sym v.number)

-- SECOND: what is read of a message of either version is written as that message, with the same choice of a checksum
pub read-list : (m : List ℕ) → Bytes m → {zs : List ℤ} {r : List ℕ} → read_list m ≡ got zs r → write_list (choice m) zs ≡ got m []
unfolding read_list read_as write_list
read-list m f e =
    let v = version_of_lem (root_of m) in
    let g = prepended (pos v ∷ []) (read_message_lem (pitsurv v) m) e in
    let k = version-is (root_of m) in
    let x = read_write (pitsurv v) (sound v (is-version (pos v) k).small) m f g.inner in
    ap (write_list (choice m)) g.joined ∙ rw k x

-- ---- an old reader, which has version 1's table alone

-- a root that one table reads is refused by 24 by a table of another version
not_known : (U : Table) (t : ℕ) (b : List ℕ) → (be 2 (drop 12 b) ≡ U.version → ⊥) → known U t b ≡ false
unfolding known
not_known U t b h = simp (ne_eqb (be 2 (drop 12 b)) U.version h, and-false)

other-head : (T U : Table) (b : List ℕ) → Rooted T b → (be 2 (drop 12 (drop 1 b)) ≡ U.version → ⊥) → read_head U deepest 0 b ≡ bad 24
unfolding read_head read_header
other-head T U b h n = rw (h.head.long, h.head.most, h.head.exists, h.head.enough, not_known U 0 (drop 1 b) n) refl

other-message : (U : Table) (m : List ℕ) → frame m ≡ 0 → read_head U deepest 0 (root_of m) ≡ bad 24 → read_message_lem U m ≡ refused 24
unfolding read_message_lem whole
other-message U m f h = rw (f, root-stops (reading U) U (root_of m) 24 h) refl

-- it answers 24 to every message that the reader takes as version 2
pub old-reader : (m : List ℕ) (zs : List ℤ) (r : List ℕ) → read_list m ≡ got (pos 2 ∷ zs) r → read_message_lem (pitsurv 1) m ≡ refused 24
unfolding read_list read_as
old-reader m zs r e =
    let v = version_of_lem (root_of m) in
    let g = prepended (pos v ∷ []) (read_message_lem (pitsurv v) m) e in
    let j = g.joined in
    let two : v ≡ 2 = cc in
    let h = read-rooted (pitsurv v) m g.inner in
    let k : be 2 (drop 12 (drop 1 (root_of m))) ≡ 2 = known-version (pitsurv v) 0 (drop 1 (root_of m)) h.1.head.is_known ∙ two in
    other-message (pitsurv 1) m h.0 (other-head (pitsurv v) (pitsurv 1) (root_of m) h.1 (λ q. let z : ◌≡◌ {A = ℕ} 2 1 = sym k ∙ q in omega arith))

-- and never gives a list for a root whose header says version 2, whatever follows
pub old-never : (m : List ℕ) (zs : List ℤ) (r : List ℕ) → be 2 (drop 13 (root_of m)) ≡ 2 → read_message_lem (pitsurv 1) m ≡ got zs r → ⊥
old-never m zs r two e = let q : ◌≡◌ {A = ℕ} 2 1 = sym two ∙ root-version (pitsurv 1) (root_of m) (read-rooted (pitsurv 1) m e).1 in omega arith
