-- The sum that is never zero: the bytes "LMCP" alone sum to 300, and no message within the whole-length limit sums to 2 ^ 32. Assumes nothing.
use Rattle.wire.proofs.Basics.{◌∙◌, ◌≡◌, ap, refl, subst, ℕ, ◌≤◌, ◌+◌, ◌<◌, suc, zero, ◌*◌, ◌^◌, ◌%◌, ◌/◌, List, [], ◌∷◌, ◌++◌, true, false, Bool, not, length, eqb, lit<, ℤ, ne_eqb, arith}
use lib.Signed.{mag}
use Rattle.wire.specs.Choice.{pick}
use Rattle.wire.specs.Bytes.{bytes, Bytes}
use Rattle.wire.specs.Signed.{unsigned}
use Rattle.wire.specs.Sum.{sum}
use Rattle.wire.proofs.Choices.{pick_all}
use Rattle.wire.proofs.Numbers.{length-bytes}
use Rattle.wire.proofs.Sums.{sum-append}
use Rattle.lmcp.specs.Limits.{max_message, SumsBelow, magic, series}
use Rattle.lmcp.specs.Run.{got, whole}
use Rattle.lmcp.specs.Table.{Table}
use Rattle.lmcp.specs.Walk.{root}
use Rattle.lmcp.specs.Value.{below, fits}
use Rattle.lmcp.specs.Write.{Write, write_value, write_count, header, typed_by_lem, write_head, writing}
use Rattle.lmcp.specs.Message.{checksum_of, stored, choice, head_on, message_on, write_message_lem}
use Rattle.lmcp.proofs.Makes.{Fine, FineTag, fine-root}
use Rattle.lmcp.proofs.Trips.{whole-got, message, stored_is, framed-got, framed-sum}

-- ---- all that is written is bytes

bytes-append : (a b : List ℕ) → Bytes a → Bytes b → Bytes (a ++ b)
bytes-append [] b f g i = g i
bytes-append (x ∷ a) b f g zero = f 0
bytes-append (x ∷ a) b f g (suc i) = bytes-append a b (λ j. f (suc j)) g i

bytes_one : (x : ℕ) → x < 256 → Bytes (x ∷ [])
bytes_one x h zero = h
bytes_one x h (suc i) = omega arith

bytes-bytes : (k v : ℕ) → Bytes (bytes k v)
unfolding bytes
bytes-bytes zero v = λ i. omega arith
bytes-bytes (suc k) v = bytes-append (bytes k (v / 256)) (v % 256 ∷ []) (bytes-bytes k (v / 256)) (bytes_one (v % 256) (omega arith))

bytes-header : (T : Table) (n : ℕ) → Bytes (header T n)
unfolding header
bytes-header T n =
    bytes-append (1 ∷ []) (bytes 8 series ++ (bytes 4 n ++ bytes 2 T.version)) (bytes_one 1 (omega arith))
    (bytes-append (bytes 8 series) (bytes 4 n ++ bytes 2 T.version) (bytes-bytes 8 series) (bytes-append (bytes 4 n) (bytes 2 T.version) (bytes-bytes 4 n) (bytes-bytes 2 T.version)))

-- a walk that makes bytes, or refuses
abbrev MakesBytes : Write → Type 0
MakesBytes = Fine Bytes (λ n. Unit)

values-bytes : (k w : ℕ) (l : List ℤ) → MakesBytes (write_value k w l)
unfolding write_value
values-bytes k w [] = tt
values-bytes k w (z ∷ l) = pick_all MakesBytes (fits k w z) (λ e. bytes-bytes w (unsigned (8 * w) z)) (λ e. tt)

counts-bytes : (w : ℕ) (l : List ℤ) → FineTag {A = ℤ} {B = ℕ} Bytes (λ n. Unit) (write_count w l)
unfolding write_count
counts-bytes w [] = tt
counts-bytes w (z ∷ l) = pick_all (FineTag Bytes (λ n. Unit)) (below (2 ^ (8 * w)) z) (λ e. bytes-bytes w (mag z)) (λ e. tt)

heads-bytes : (T : Table) (d t : ℕ) (l : List ℤ) → FineTag {A = ℤ} {B = ℕ} Bytes (λ n. Unit) (write_head T d t l)
unfolding write_head
heads-bytes T d t [] = tt
heads-bytes T d t (z ∷ l) =
    pick_all (FineTag Bytes (λ n. Unit)) (below 1 z) (λ e. bytes_one 0 (omega arith))
    (λ e. pick_all (FineTag Bytes (λ n. Unit)) (eqb d 0) (λ e. tt)
    (λ e. pick_all (FineTag Bytes (λ n. Unit)) (typed_by_lem T t z) (λ e. bytes-header T (mag z)) (λ e. tt)))

pub root-bytes : (T : Table) (l : List ℤ) → Fine {A = ℤ} {B = ℕ} Bytes (λ n. Unit) (root (writing T) T l)
root-bytes T l =
    fine-root Bytes (λ n. Unit) (writing T)
    (record { none = λ i. omega arith; both = bytes-append; null-root = tt; values = values-bytes; counts = counts-bytes; heads = heads-bytes T }) T l

-- ---- sums

sum-le : (b : List ℕ) → Bytes b → sum b ≤ 255 * length b
unfolding sum
sum-le [] f = omega arith
sum-le (x ∷ b) f = let h : x < 256 = f 0 in omega (arith, sum-le b (λ i. f (suc i)))

sum-magic : sum magic ≡ 300
unfolding sum
sum-magic = refl

-- THE LAW of the whole-length limit: while a message within the limit sums to less than 2 ^ 32, no calculated checksum is zero
pub never-zero : (limit : ℕ) → SumsBelow limit → (bs : List ℕ) → Bytes bs → 12 + length bs ≤ limit → checksum_of (head_on bs) ≡ 0 → ⊥
never-zero limit below bs f h e =
    let s1 = sum-append magic (bytes 4 (length bs) ++ bs) in
    let s2 = sum-append (bytes 4 (length bs)) bs in
    let total : sum (head_on bs) ≡ 300 + (sum (bytes 4 (length bs)) + sum bs) = s1 ∙ ap (λ (n : ℕ). n + sum (bytes 4 (length bs) ++ bs)) sum-magic ∙ ap (λ (n : ℕ). 300 + n) s2 in
    omega (arith, total, length-bytes 4 (length bs), sum-le (bytes 4 (length bs)) (bytes-bytes 4 (length bs)), sum-le bs f)

-- the limit in force is such a limit, by computing with its number: another number must show it again
pub limit-sums-below : SumsBelow max_message
limit-sums-below = lit< tt

-- the field of a message that is put together
field_is : (calculate : Bool) (bs : List ℕ) → 12 + length bs ≤ max_message → stored (message_on calculate bs) ≡ pick calculate (checksum_of (head_on bs)) 0
unfolding message
field_is calculate bs h = stored_is bs h (pick calculate (checksum_of (head_on bs)) 0) (framed-sum calculate bs).0

told : (calculate : Bool) (bs : List ℕ) → Bytes bs → 12 + length bs ≤ max_message → choice (message_on calculate bs) ≡ calculate
told true bs f h = ap (λ (n : ℕ). not (eqb n 0)) (field_is true bs h) ∙ ap not (ne_eqb (checksum_of (head_on bs)) 0 (never-zero max_message limit-sums-below bs f h))
told false bs f h = ap (λ (n : ℕ). not (eqb n 0)) (field_is false bs h)

-- So of every message that is written, for any table and any list, the field tells whether the checksum was calculated: it is then never zero.
pub field-tells : (T : Table) (calculate : Bool) (l : List ℤ) {m : List ℕ} {r : List ℤ} → write_message_lem T calculate l ≡ got m r → choice m ≡ calculate
unfolding write_message_lem
field-tells T calculate l e =
    let g = framed-got calculate (whole (root (writing T) T l)) e in
    let w = whole-got (root (writing T) T l) g.inner in
    let f : Bytes g.bs = subst (Fine {A = ℤ} {B = ℕ} Bytes (λ n. Unit)) w.0 (root-bytes T l) in
    ap choice g.made ∙ told calculate g.bs f g.small
