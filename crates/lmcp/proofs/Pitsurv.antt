-- Series PITSURV: its table is sound in either version, by one computed test over all rows. Assumes nothing.
use Rattle.wire.proofs.Basics.{sym, ◌≡◌, refl, subst, ℕ, ◌<◌, ◌^◌, List, [], ◌∷◌, true, false, Bool, ◌&&◌, ◌||◌, length, get_or, eqb, leb, lit≤, ne_eqb, leb-true}
use Rattle.wire.proofs.Choices.{and_l, and_r}
use Rattle.lmcp.specs.declared.Row.{Row}
use Rattle.lmcp.specs.Table.{object_kind, signed_kind, RowFits, RowsFit, Sound, joined, rows_of, nothing, second, types_of, pitsurv}
use Rattle.lmcp.proofs.Tables.{row_fits}

-- ---- the test, and what it says

abbrev fitting : Row → Bool
fitting f = leb f.count 7 && (eqb f.kind object_kind || (leb 1 f.arg && (leb f.arg 8 && (eqb f.kind signed_kind || leb f.arg 7))))

abbrev all-fitting : List Row → Bool
all-fitting [] = true
all-fitting (f ∷ fs) = fitting f && all-fitting fs

fits-row : (f : Row) → fitting f ≡ true → RowFits f
fits-row f e =
    let plain = eqb f.kind signed_kind || leb f.arg 7 in
    let rest = leb 1 f.arg && (leb f.arg 8 && plain) in
    let a : (eqb f.kind object_kind || rest) ≡ true = and_r (leb f.count 7) (eqb f.kind object_kind || rest) e in
    let b : (f.kind ≡ object_kind → ⊥) → rest ≡ true = λ n. subst (λ (t : Bool). (t || rest) ≡ true) (ne_eqb f.kind object_kind n) a in
    let d : (f.kind ≡ object_kind → ⊥) → (leb f.arg 8 && plain) ≡ true = λ n. and_r (leb 1 f.arg) (leb f.arg 8 && plain) (b n) in
    record {
      count_fits = leb-true f.count 7 (and_l (leb f.count 7) (eqb f.kind object_kind || rest) e);
      arg-least = λ n. leb-true 1 f.arg (and_l (leb 1 f.arg) (leb f.arg 8 && plain) (b n));
      arg-signed = λ n. leb-true f.arg 8 (and_l (leb f.arg 8) plain (d n));
      arg_plain = λ n m.
          leb-true f.arg 7 (subst (λ (t : Bool). (t || leb f.arg 7) ≡ true) (ne_eqb f.kind signed_kind m) (and_r (leb f.arg 8) plain (d n)));
    }

all_fit : (l : List Row) → all-fitting l ≡ true → RowsFit l
all_fit [] e = tt
all_fit (f ∷ l) e = (fits-row f (and_l (fitting f) (all-fitting l) e), all_fit l (and_r (fitting f) (all-fitting l) e))

rows-by : (two : Bool) → RowsFit (joined (types_of two))
rows-by true = all_fit (joined (types_of true)) refl
rows-by false = all_fit (joined (types_of false)) refl

pub rows_fit : (v : ℕ) → RowsFit (rows_of (pitsurv v))
rows_fit v = rows-by (second v)

-- row i of the table fits
pub row_fit : (v i : ℕ) {f : Row} → i < length (rows_of (pitsurv v)) → f ≡ get_or (rows_of (pitsurv v)) i nothing → RowFits f
row_fit v i h e = subst RowFits (sym e) (row_fits (rows_of (pitsurv v)) (rows_fit v) i h)

pub sound : (v : ℕ) → v < 256 ^ 2 → Sound (pitsurv v)
sound v h = record { version-fits = h; types_fit = lit≤ tt; rows_fit = rows_fit v }
