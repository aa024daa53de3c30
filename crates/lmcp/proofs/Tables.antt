-- Laws of any table: where each type's rows stand among all rows, and that they fit. Assumes nothing.
use Rattle.wire.proofs.Basics.{◌∙◌, sym, ◌≡◌, ap, refl, subst, ℕ, ◌≤◌, ◌+◌, ◌<◌, suc, zero, List, [], ◌∷◌, ◌++◌, true, Bool, ◌&&◌, ⊎_elim, length, drop, get_or, take, length-append, slice, take-length}
use Rattle.wire.proofs.Basics.{not-suc-le-zero, zero-add, le_of_suc-le-suc, add-one, arith}
use native.Mathlib.Nat.{suc-add, eq-or-lt_of_le}
use Rattle.wire.proofs.Choices.{and_l, and_r}
use lib.Seq.{drop-append-add, take-append-le, take-nil}
use Rattle.lmcp.specs.declared.Row.{Row}
use Rattle.lmcp.specs.Table.{Table, RowFits, RowsFit, fields_of, joined, beginnings, rows_of, starts_of, nothing}

-- ---- where the rows of type t begin and end, counted from o

first : (o : ℕ) (ts : List (List Row)) → get_or (beginnings o ts) 0 0 ≡ o
first o [] = refl
first o (t ∷ ts) = refl

record Part (o : ℕ) (ts : List (List Row)) (n : ℕ) : Type 0 where
  pub from : ℕ
  pub begins : get_or (beginnings o ts) n 0 ≡ o + from
  pub ends : get_or (beginnings o ts) (suc n) 0 ≡ o + (from + length (get_or ts n []))
  pub inside : from + length (get_or ts n []) ≤ length (joined ts)
  pub is : take (length (get_or ts n [])) (drop from (joined ts)) ≡ get_or ts n []

part : (o : ℕ) (ts : List (List Row)) (n : ℕ) → n < length ts → Part o ts n
part o [] n h = absurd (let z : ⊥ = omega arith in z)
part o (t ∷ ts) zero h =
    record {
      from = 0;
      begins = omega arith;
      ends = first (o + length t) ts ∙ omega arith;
      inside = rw length-append (omega arith);
      is = take-append-le (length t) t (joined ts) (omega arith) ∙ take-length t;
    }
part o (t ∷ ts) (suc n) h =
    let p = part (o + length t) ts n (omega arith) in
    record {
      from = length t + p.from;
      begins = p.begins ∙ omega arith;
      ends = p.ends ∙ omega arith;
      inside = rw length-append (omega (arith, p.inside));
      is = ap (take (length (get_or ts n []))) (drop-append-add t (joined ts) p.from) ∙ p.is;
    }

drop-take : (i j : ℕ) (l : List Row) → drop i (take (i + j) l) ≡ take j (drop i l)
drop-take zero j l = ap (λ (m : ℕ). take m l) (zero-add j)
drop-take (suc i) j [] = rw (suc-add i j) (sym (take-nil j))
drop-take (suc i) j (x ∷ l) = rw (suc-add i j) (drop-take i j l)

module _ (T : Table) (n : ℕ) (h : n < length T.types) where
  pub starts-rise : get_or (starts_of T) n 0 ≤ get_or (starts_of T) (n + 1) 0
  starts-rise = let p = part 0 T.types n h in rw add-one (omega (arith, p.begins, p.ends))

  pub starts-inside : get_or (starts_of T) (n + 1) 0 ≤ length (rows_of T)
  starts-inside = let p = part 0 T.types n h in rw add-one (omega (arith, p.ends, p.inside))

  pub fields_slice : slice (get_or (starts_of T) n 0) (get_or (starts_of T) (n + 1) 0) (rows_of T) ≡ fields_of T n
  fields_slice =
      let p = part 0 T.types n h in
      let b : get_or (starts_of T) n 0 ≡ p.from = p.begins ∙ zero-add p.from in
      let f : get_or (starts_of T) (n + 1) 0 ≡ p.from + length (fields_of T n) = rw add-one (p.ends ∙ zero-add _) in
      rw (b, f) (drop-take p.from (length (fields_of T n)) (rows_of T) ∙ p.is)

-- ---- rows that fit

pub fit_append : (a b : List Row) → RowsFit (a ++ b) → RowsFit a × RowsFit b
fit_append [] b s = (tt, s)
fit_append (f ∷ a) b s = let p = fit_append a b s.1 in ((s.0, p.0), p.1)

types_fit : (ts : List (List Row)) → RowsFit (joined ts) → (n : ℕ) → RowsFit (get_or ts n [])
types_fit [] s n = tt
types_fit (t ∷ ts) s zero = (fit_append t (joined ts) s).0
types_fit (t ∷ ts) s (suc n) = types_fit ts (fit_append t (joined ts) s).1 n

pub fields_fit : (T : Table) → RowsFit (rows_of T) → (n : ℕ) → RowsFit (fields_of T n)
fields_fit T s n = types_fit T.types s n

pub row_fits : (l : List Row) → RowsFit l → (i : ℕ) → i < length l → RowFits (get_or l i nothing)
row_fits [] s i h = absurd (let z : ⊥ = omega arith in z)
row_fits (f ∷ l) s zero h = s.0
row_fits (f ∷ l) s (suc i) h = row_fits l s.1 i (omega arith)

-- ---- a rule at each number below n, from one test that is computed

abbrev pub upto : (ℕ → Bool) → ℕ → Bool
upto f zero = true
upto f (suc n) = f n && upto f n

pub under : (f : ℕ → Bool) (n : ℕ) → upto f n ≡ true → (k : ℕ) → k < n → f k ≡ true
under f zero t k h = absurd (not-suc-le-zero h)
under f (suc n) t k h =
    ⊎_elim (λ e. subst (λ (m : ℕ). f m ≡ true) (sym e) (and_l (f n) (upto f n) t)) (λ l. under f n (and_r (f n) (upto f n) t) k l)
    (eq-or-lt_of_le (le_of_suc-le-suc h))

-- ---- the rows of a type, by its two places among all rows

pub record Rows (T : Table) (n i e : ℕ) : Type 0 where
  pub rise : i ≤ e
  pub inside : e ≤ length (rows_of T)
  pub are : fields_of T n ≡ slice i e (rows_of T)

pub rows-of : (T : Table) (n i e : ℕ) → n < length T.types → i ≡ get_or (starts_of T) n 0 → e ≡ get_or (starts_of T) (n + 1) 0 → Rows T n i e
rows-of T n i e h a b =
    rw (a, b) (record { rise = starts-rise T n h; inside = starts-inside T n h; are = sym (fields_slice T n h) })
