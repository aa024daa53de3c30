-- A file is laid a step at a time: its head, a row, all rows; and the answers of the writer, and no second one. Assumes nothing.
use Rattle.wire.proofs.Basics.{◌∙◌, sym, ◌≡◌, ap, refl, ℕ, ◌≤◌, ◌+◌, ◌<◌, ◌*◌, List, [], ◌∷◌, ◌++◌, length, le-ltb, lt-ltb, arith}
use Rattle.wire.specs.Bytes.{bytes}
use Rattle.wire.specs.Overlay.{overlay}
use Rattle.wire.proofs.Numbers.{length-bytes}
use Rattle.wire.proofs.Overlays.{overlay-nil, overlay-append, overlay-next, length-overlay}
use Rattle.log_index.specs.Rows.{Row}
use Rattle.wire.proofs.Once.{one_answer}
use Rattle.log_index.specs.Words.{row_at}
use Rattle.index_file.specs.File.{row_bytes, rows_bytes, head_of, file_of, first_rows}
use Rattle.index_file.proofs.Places.{first-length, first_next}
use Rattle.index_file.proofs.RowBytes.{rows-length, rows_append, rows-one}
use Rattle.index_file.proofs.Determines.{head-size}
use Rattle.index_writer.specs.Writes.{file_answer, WritesFile}
use Rattle.std.proofs.Common.{Result}
use Rattle.refusals.specs.declared.Refusal.{Refusal}
use Rattle.index_file.specs.Files.{answer_told}
use Rattle.index_file.proofs.Once.{answer-once}

byte_one : bytes 1 1 ≡ 1 ∷ []
unfolding bytes
byte_one = refl

pub head-laid : (f a b c : List ℕ) (covered n : ℕ) → a ≡ overlay f 0 (bytes 1 1) → b ≡ overlay a 1 (bytes 8 covered) → c ≡ overlay b 9 (bytes 8 n) → c ≡ overlay f 0 (head_of covered n)
head-laid f a b c covered n p q r =
    let x : a ≡ overlay f 0 (1 ∷ []) = p ∙ ap (overlay f 0) byte_one in
    let y : b ≡ overlay f 0 ((1 ∷ []) ++ bytes 8 covered) = overlay-next f (1 ∷ []) (bytes 8 covered) a b 1 x refl q in
    let l : 9 ≡ length ((1 ∷ []) ++ bytes 8 covered) = let e = length-bytes 8 covered in omega (arith, e) in
    overlay-next f ((1 ∷ []) ++ bytes 8 covered) (bytes 8 n) b c 9 y l r

pub row_laid : (f a b c : List ℕ) (at : ℕ) (r : Row) → a ≡ overlay f at (bytes 8 r.sender) → b ≡ overlay a (at + 8) (bytes 4 r.sequence) → c ≡ overlay b (at + 12) (bytes 8 r.place)
    → c ≡ overlay f at (row_bytes r)
row_laid f a b c at r p q s =
    let x = bytes 8 r.sender in
    let y = bytes 4 r.sequence in
    let z = bytes 8 r.place in
    let m : at + 8 ≡ at + length x = ap (λ (k : ℕ). at + k) (sym (length-bytes 8 r.sender)) in
    let n : at + 12 ≡ at + 8 + length y = (let e = length-bytes 4 r.sequence in omega (arith, e)) in
    s
    ∙ (λ j. overlay (q j) (n j) z)
    ∙ sym (overlay-append a (at + 8) y z)
    ∙ (λ j. overlay (p j) (m j) (y ++ z))
    ∙ sym (overlay-append f at x (y ++ z))

-- the first i rows stand behind the head
pub record Laid (row : ℕ → Row) (f : List ℕ) (i : ℕ) (g : List ℕ) : Type 0 where
  pub size : length g ≡ length f
  pub rows : g ≡ overlay f 17 (rows_bytes (first_rows i row))

module _ (row : ℕ → Row) (f : List ℕ) where
  pub lay-none : Laid row f 0 f
  unfolding first_rows rows_bytes
  lay-none = record { size = refl; rows = sym (overlay-nil f 17) }

  pub lay-turn : (i : ℕ) (g g' : List ℕ) (r : Row) → Laid row f i g → r ≡ row i → g' ≡ overlay g (17 + 20 * i) (row_bytes r) → Laid row f (i + 1) g'
  lay-turn i g g' r c d p =
      let b = rows_bytes (first_rows i row) in
      let l : 17 + 20 * i ≡ 17 + length b = ap (λ (k : ℕ). 17 + 20 * k) (sym (first-length i row)) ∙ ap (λ (k : ℕ). 17 + k) (sym (rows-length (first_rows i row))) in
      record {
        size = ap length p ∙ length-overlay g (17 + 20 * i) (row_bytes r) ∙ c.size;
        rows =
            p
            ∙ (λ j. overlay (c.rows j) (l j) (row_bytes (d j)))
            ∙ sym (overlay-append f 17 b (row_bytes (row i)))
            ∙ ap (λ (t : List ℕ). overlay f 17 (b ++ t)) (sym (rows-one (row i)))
            ∙ ap (overlay f 17) (sym (rows_append (first_rows i row) (row i ∷ [])))
            ∙ ap (λ (l : List Row). overlay f 17 (rows_bytes l)) (sym (first_next i row));
      }

  pub lay-all : (i n : ℕ) (g : List ℕ) → Laid row f i g → i ≡ n → g ≡ overlay f 17 (rows_bytes (first_rows n row))
  lay-all i n g c e = c.rows ∙ ap (λ (k : ℕ). overlay f 17 (rows_bytes (first_rows k row))) e

  pub file-laid : (n covered : ℕ) (a b : List ℕ) → a ≡ overlay f 0 (head_of covered n) → b ≡ overlay a 17 (rows_bytes (first_rows n row)) → b ≡ overlay f 0 (file_of covered (first_rows n row))
  unfolding file_of
  file-laid n covered a b p q =
      let rs = first_rows n row in
      let k = first-length n row in
      let x : a ≡ overlay f 0 (head_of covered (length rs)) = p ∙ ap (λ (m : ℕ). overlay f 0 (head_of covered m)) (sym k) in
      overlay-next f (head_of covered (length rs)) (rows_bytes rs) a b 17 x (sym (head-size covered rs)) q

-- ---- the answers

module _ (w : List ℕ) (n covered : ℕ) (f : List ℕ) where
  pub writes_fewer : length w < 3 * n → WritesFile w n covered f 13 f
  unfolding file_answer
  writes_fewer h = let t = lt-ltb (length w) (3 * n) h in record { gave = rw t; left = rw t }

  pub writes_short : 3 * n ≤ length w → length f < 17 + 20 * n → WritesFile w n covered f 13 f
  unfolding file_answer
  writes_short h g =
      let t = le-ltb (length w) (3 * n) h in
      let u = lt-ltb (length f) (17 + 20 * n) g in
      record { gave = rw (t, u); left = rw (t, u) }

  pub writes-all : 3 * n ≤ length w → 17 + 20 * n ≤ length f → (f' : List ℕ) → f' ≡ overlay f 0 (file_of covered (first_rows n (row_at w))) → WritesFile w n covered f 0 f'
  unfolding file_answer
  writes-all h g f' e =
      let t = le-ltb (length w) (3 * n) h in
      let u = le-ltb (length f) (17 + 20 * n) g in
      record { gave = rw (t, u); left = rw (t, u) e }

-- ---- no second answer

pub writes-once : (w : List ℕ) (n covered : ℕ) (f : List ℕ) (x y : ℕ) (a b : List ℕ) → WritesFile w n covered f x a → WritesFile w n covered f y b → (x ≡ y) × (a ≡ b)
writes-once w n covered f x y a b p q = (one_answer x y p.gave q.gave, one_answer a b p.left q.left)

-- nor of the code
pub writes-told-once : (w : List ℕ) (n covered : ℕ) (f : List ℕ) (r s : Result (Unit {0}) Refusal) (a b : List ℕ)
    → WritesFile w n covered f (answer_told r) a → WritesFile w n covered f (answer_told s) b → (r ≡ s) × (a ≡ b)
writes-told-once w n covered f r s a b p q = let o = writes-once w n covered f (answer_told r) (answer_told s) a b p q in (answer-once r s o.0, o.1)
