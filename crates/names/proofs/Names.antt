-- Laws of names. Where the name rule changes, `long-name` and `no_zero` are shown again. Assumes nothing.
use Rattle.wire.proofs.Basics.{◌∙◌, ◌≡◌, ap, refl, ℕ, ◌≤◌, ◌<◌, List, [], ◌∷◌, true, false, not, length, eqb, leb, ne_eqb, lt-leb, ℕ_discrete, dec_le, arith}
use Rattle.wire.proofs.Choices.{never, and-false, and_r}
use Rattle.names.specs.Limits.{max_name}
use Rattle.names.specs.Scan.{start, next, scan}
use Rattle.names.specs.Name.{every, good_name_lem}
use Rattle.names.specs.declared.Scan.{Scan}
use Rattle.names.proofs.Scans.{bad-stays, next-zero, next_low}

-- no name is longer
pub long-name : (nm : List ℕ) → max_name < length nm → good_name_lem nm ≡ false
unfolding good_name_lem
long-name nm h = rw (lt-leb (length nm) max_name h) (and-false (leb 1 (length nm)))

pub name-short : (nm : List ℕ) → good_name_lem nm ≡ true → length nm ≤ max_name
name-short nm e = elim (dec_le (length nm) max_name) [ yes h ↦ h | no h ↦ never e (long-name nm (omega arith)) ]

-- a name has no zero byte
pub no_zero : (nm : List ℕ) → good_name_lem nm ≡ true → every (λ (x : ℕ). not (eqb x 0)) nm ≡ true
unfolding good_name_lem
no_zero nm e = go start nm (omega arith) (and_r (leb (length nm) max_name) _ (and_r (leb 1 (length nm)) _ e))
  where
    go : (s : Scan) (l : List ℕ) → 1 ≤ s.low → eqb (scan s l).left 0 ≡ true → every (λ (x : ℕ). not (eqb x 0)) l ≡ true
    go s [] h d = refl
    go s (x ∷ l) h d = elim (ℕ_discrete x 0) [
      | yes z ↦ never d (ap (λ (r : Scan). eqb r.left 0) (ap (λ (r : Scan). scan r l) (next-zero s x h z) ∙ bad-stays l))
      | no z ↦ rw (ne_eqb x 0 z) (go (next s x) l (next_low s x) d)
    ]
