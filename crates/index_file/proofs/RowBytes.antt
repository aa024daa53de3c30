-- A row and its bytes, and rows one after another. Assumes nothing.
use Rattle.wire.proofs.Basics.{◌∙◌, sym, ◌≡◌, ap, refl, ℕ, ◌≤◌, ◌+◌, suc, zero, ◌*◌, List, [], ◌∷◌, ◌++◌, append_assoc, append-nil, length, drop, take, length-append, length-drop, drop-drop, drop_at}
use Rattle.wire.proofs.Basics.{take-add, arith}
use Rattle.wire.specs.Bytes.{be, bytes, Bytes}
use Rattle.wire.proofs.Numbers.{length-bytes, be-bytes, be-lt, bytes-be, drop-bytes}
use Rattle.log_index.specs.Rows.{Row, row_of}
use Rattle.index_file.specs.File.{Fits, row_bytes, rows_bytes, row_in}

-- ---- one row

pub row-length : (r : Row) → length (row_bytes r) ≡ 20
row-length r = simp (length-append, length-bytes)

module _ (r : Row) (t : List ℕ) where
  abbrev a : List ℕ
  a = bytes 8 r.sender

  abbrev b : List ℕ
  b = bytes 4 r.sequence

  abbrev d : List ℕ
  d = bytes 8 r.place

  after-sender : row_bytes r ++ t ≡ a ++ (b ++ (d ++ t))
  after-sender = append_assoc a (b ++ d) t ∙ ap (λ (l : List ℕ). a ++ l) (append_assoc b d t)

  from-sequence : drop 8 (row_bytes r ++ t) ≡ b ++ (d ++ t)
  from-sequence = ap (drop 8) after-sender ∙ drop_at a (b ++ (d ++ t)) 8 (length-bytes 8 r.sender)

  from_place : drop 12 (row_bytes r ++ t) ≡ d ++ t
  from_place =
      sym (drop-drop 4 8 (row_bytes r ++ t)) ∙ ap (drop 4) from-sequence ∙ drop_at b (d ++ t) 4 (length-bytes 4 r.sequence)

  -- what was written is read
  pub row_back : Fits r → row_in (row_bytes r ++ t) ≡ r
  row_back f =
      let s : be 8 (row_bytes r ++ t) ≡ r.sender = ap (be 8) after-sender ∙ be-bytes 8 r.sender f.sender (b ++ (d ++ t)) in
      let q : be 4 (drop 8 (row_bytes r ++ t)) ≡ r.sequence = ap (be 4) from-sequence ∙ be-bytes 4 r.sequence f.sequence (d ++ t) in
      let p : be 8 (drop 12 (row_bytes r ++ t)) ≡ r.place = ap (be 8) from_place ∙ be-bytes 8 r.place f.place t in
      λ j. row_of (s j) (q j) (p j)

-- what is read fits, and is written as it stood
pub row_fits : (b : List ℕ) → Bytes b → Fits (row_in b)
row_fits b h = record {
  sender = be-lt 8 b h;
  sequence = be-lt 4 (drop 8 b) (drop-bytes b 8 h);
  place = be-lt 8 (drop 12 b) (drop-bytes b 12 h);
}

pub row-again : (b : List ℕ) → Bytes b → 20 ≤ length b → row_bytes (row_in b) ≡ take 20 b
row-again b h l =
    let m : 4 ≤ length (drop 8 b) = rw length-drop (omega arith) in
    let n : 8 ≤ length (drop 12 b) = rw length-drop (omega arith) in
    (λ j. bytes-be 8 b h (omega arith) j ++ (bytes-be 4 (drop 8 b) (drop-bytes b 8 h) m j ++ bytes-be 8 (drop 12 b) (drop-bytes b 12 h) n j))
    ∙ (λ j. take 8 b ++ (take 4 (drop 8 b) ++ take 8 (sym (drop-drop 4 8 b) j)))
    ∙ (λ j. take 8 b ++ sym (take-add 4 8 (drop 8 b)) j)
    ∙ sym (take-add 8 12 b)

-- ---- rows

pub rows-length : (rs : List Row) → length (rows_bytes rs) ≡ 20 * length rs
unfolding rows_bytes
rows-length [] = refl
rows-length (r ∷ rs) = length-append (row_bytes r) (rows_bytes rs) ∙ (let e = row-length r in let f = rows-length rs in omega (arith, e, f))

pub rows_append : (a b : List Row) → rows_bytes (a ++ b) ≡ rows_bytes a ++ rows_bytes b
unfolding rows_bytes
rows_append [] b = refl
rows_append (r ∷ a) b = ap (λ (l : List ℕ). row_bytes r ++ l) (rows_append a b) ∙ sym (append_assoc (row_bytes r) (rows_bytes a) (rows_bytes b))

pub rows-one : (r : Row) → rows_bytes (r ∷ []) ≡ row_bytes r
unfolding rows_bytes
rows-one r = append-nil (row_bytes r)

pub rows_drop : (rs : List Row) (i : ℕ) → i ≤ length rs → drop (20 * i) (rows_bytes rs) ≡ rows_bytes (drop i rs)
unfolding rows_bytes
rows_drop rs zero h = refl
rows_drop [] (suc i) h = absurd (let z : ⊥ = omega arith in z)
rows_drop (r ∷ rs) (suc i) h =
    let e : 20 * suc i ≡ 20 + 20 * i = omega arith in
    ap (λ (k : ℕ). drop k (row_bytes r ++ rows_bytes rs)) e
    ∙ sym (drop-drop (20 * i) 20 (row_bytes r ++ rows_bytes rs))
    ∙ ap (drop (20 * i)) (drop_at (row_bytes r) (rows_bytes rs) 20 (row-length r))
    ∙ rows_drop rs i (omega arith)
