-- The bytes of a row's numbers and of its count: what the writer takes of them. Assumes nothing.
use Rattle.wire.proofs.Basics.{◌∙◌, sym, ◌≡◌, refl, subst, ℕ, ◌≤◌, ◌<◌, List, true, false, Bool, ◌||◌, length, get_or, eqb, ne_eqb, eqb-true, arith}
use Rattle.lmcp.specs.declared.Row.{Row}
use Rattle.lmcp.specs.Table.{joined, rows_of, nothing, second, types_of, pitsurv}
use Rattle.lmcp.specs.Packed.{packed_of}
use Rattle.lmcp.specs.InsidePacked.{cell}
use Rattle.lmcp.proofs.Pitsurv.{row_fit}
use Rattle.lmcp.proofs.Tables.{under}
use Rattle.lmcp.proofs.RowWays.{Here, count_same, arg-same, few_bytes, plain_row}
use Rattle.lmcp_size.specs.InsideWeighs.{Wide, two, four, Ranges}
use Rattle.lmcp_size.proofs.WriteCases.{wide-code}

-- a count has 2 or 4 bytes
count_test : List Row → ℕ → Bool
count_test rows i = eqb (get_or rows i nothing).count 0 || (eqb (get_or rows i nothing).count 2 || eqb (get_or rows i nothing).count 4)

count-says : (n : ℕ) → (eqb n 0 || (eqb n 2 || eqb n 4)) ≡ true → (n ≡ 0 → ⊥) → Wide n
count-says n e z = by (eqb n 2) refl (subst (λ (b : Bool). (b || (eqb n 2 || eqb n 4)) ≡ true) (ne_eqb n 0 z) e)
  where
    by : (b : Bool) → eqb n 2 ≡ b → (b || eqb n 4) ≡ true → Wide n
    by true q f = subst Wide (sym (eqb-true n 2 q)) two
    by false q f = subst Wide (sym (eqb-true n 4 f)) four

counts-by : (two : Bool) (i : ℕ) → i < length (joined (types_of two)) → count_test (joined (types_of two)) i ≡ true
unfolding count_test
counts-by true i h = under (count_test (joined (types_of true))) 20 refl i h
counts-by false i h = under (count_test (joined (types_of false))) 19 refl i h

count-wide : (v i : ℕ) → i < length (rows_of (pitsurv v)) → ((get_or (rows_of (pitsurv v)) i nothing).count ≡ 0 → ⊥) → Wide (get_or (rows_of (pitsurv v)) i nothing).count
unfolding count_test
count-wide v i h z = count-says (get_or (rows_of (pitsurv v)) i nothing).count (counts-by (second v) i h) z

module _ {v i : ℕ} (H : Here v i) where
  pub widths : (H.code ≡ 6 → ⊥) → Ranges (get_or (rows_of (pitsurv v)) i nothing).kind H.arg
  widths k =
      let fit = row_fit v i H.inside refl in
      let value = plain_row H k in
      record {
        wide = subst Wide (sym (arg-same H ∙ value.width)) (wide-code (cell (packed_of v) i 7));
        less = λ s. omega (arith, fit.arg_plain value.plain s, arg-same H);
      }

  pub few : (H.count ≡ 0 → ⊥) → Wide H.count × (H.count ≤ 7)
  few z = (subst Wide (sym (count_same H)) (count-wide v i H.inside (λ y. z (count_same H ∙ y))), few_bytes H)
