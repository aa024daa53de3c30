-- A run of plain numbers, which a bool may end: only 25 can go wrong before the bool, so that one test of the length answers exactly. Assumes nothing.
use Rattle.wire.proofs.Basics.{◌∙◌, sym, ◌≡◌, ap, refl, subst, ℕ, ◌≤◌, ◌+◌, ◌<◌, ◌-◌, suc, zero, ◌*◌, List, [], ◌∷◌, ◌++◌, true, false, Bool, ◌&&◌, ◌||◌, length, drop, get_or, length-drop, drop-drop}
use Rattle.wire.proofs.Basics.{get_or-drop, eqb, ltb, ℤ, eqb-true, ltb-false, ltb-true, suc-mul, arith}
use Rattle.wire.specs.Choice.{pick}
use Rattle.wire.specs.Bytes.{be}
use Rattle.wire.proofs.Choices.{never, and_l, and_r}
use Rattle.std.proofs.Common.{Result}
use Rattle.refusals.specs.declared.Refusal.{Refusal}
use Rattle.lmcp.specs.declared.Row.{Row}
use Rattle.lmcp.specs.Run.{got, refused, prepend, and_then, repeat}
use Rattle.lmcp.specs.Table.{unsigned_kind, signed_kind, bool_kind, char_kind, object_kind, Table}
use Rattle.lmcp.specs.Value.{number_of}
use Rattle.lmcp.specs.Read.{Read, reading, read_value}
use Rattle.lmcp.specs.Walk.{item, field, fields}
use Rattle.lmcp.proofs.WalkPlaces.{item-value, field_fixed}
use Rattle.lmcp_check.proofs.ReadCases.{value-short, value-bad, value-good, sound-plain, sound-bool, fault-bool}
use Rattle.lmcp.specs.Packed.{plain, single, run_bytes, run_bool}
use Rattle.lmcp.proofs.Rows.{none, is_run}
use Rattle.lmcp_check.specs.InsideChecks.{Checks, Ran, cut, odd, bare, truly}
use Rattle.lmcp.proofs.RunParts.{then-nil}
use Rattle.lmcp_check.proofs.CheckTurns.{made, fields-one}

-- a step that takes w bytes, and of which nothing can be wrong but that they are not there
pub record Strict (w : ℕ) (f : List ℕ → Read) : Type 0 where
  pub short : (l : List ℕ) → length l < w → f l ≡ refused 25
  pub made : List ℕ → List ℤ
  pub full : (l : List ℕ) → w ≤ length l → f l ≡ got (made l) (drop w l)

strict-value : (k w : ℕ) → (k ≡ bool_kind → ⊥) → (k ≡ char_kind → ⊥) → Strict w (read_value k w)
strict-value k w b c =
    record {
      short = λ l h. value-short k w l h;
      made = λ l. number_of k w (be w l) ∷ [];
      full = λ l h. value-good k w l h (be w l) 0 (number_of k w (be w l)) refl (sound-plain k (be w l) b c) refl refl;
    }

short-then : {a b : ℕ} {f g : List ℕ → Read} → Strict a f → Strict b g → (l : List ℕ) → length l < a + b → (e : Bool) → ltb (length l) a ≡ e → and_then (f l) g ≡ refused 25
unfolding and_then prepend
short-then {a} {b} {f} {g} F G l h true e = ap (λ (X : Read). and_then X g) (F.short l (omega (arith, ltb-true (length l) a e)))
short-then {a} {b} {f} {g} F G l h false e =
    let q = ltb-false (length l) a e in
    ap (λ (X : Read). and_then X g) (F.full l q) ∙ ap (prepend (F.made l)) (G.short (drop a l) (rw length-drop (omega arith)))

pub strict-then : {a b : ℕ} {f g : List ℕ → Read} → Strict a f → Strict b g → Strict (a + b) (λ l. and_then (f l) g)
unfolding and_then prepend
strict-then {a} {b} {f} {g} F G =
    record {
      short = λ l h. short-then F G l h (ltb (length l) a) refl;
      made = λ l. F.made l ++ G.made (drop a l);
      full = λ l h.
          let i : a ≤ length l = omega arith in
          let j : b ≤ length (drop a l) = rw length-drop (omega arith) in
          ap (λ (X : Read). and_then X g) (F.full l i) ∙ ap (prepend (F.made l)) (G.full (drop a l) j ∙ ap (got (G.made (drop a l))) (drop-drop b a l));
    }

strict_none : Strict 0 (got [])
strict_none = record { short = λ l h. absurd (let z : ⊥ = omega arith in z); made = λ l. []; full = λ l h. refl }

strict-repeat : {w : ℕ} {f : List ℕ → Read} → Strict w f → (n : ℕ) → Strict (n * w) (repeat n f)
unfolding repeat
strict-repeat {w} {f} F zero = subst (λ (k : ℕ). Strict k (got [])) (let z : 0 ≡ 0 * w = omega arith in z) strict_none
strict-repeat {w} {f} F (suc n) = subst (λ (k : ℕ). Strict k (λ l. and_then (f l) (repeat n f))) (let z : w + n * w ≡ suc n * w = omega (arith, suc-mul n w) in z) (strict-then F (strict-repeat F n))

-- the same step by another name
pub strict_as : {w : ℕ} {f g : List ℕ → Read} → ((l : List ℕ) → g l ≡ f l) → Strict w f → Strict w g
strict_as h F = record { short = λ l k. h l ∙ F.short l k; made = F.made; full = λ l k. h l ∙ F.full l k }

-- ---- rows

plain-kind : (f : Row) → plain f ≡ true → (k : ℕ) → (unsigned_kind ≡ k → ⊥) → (signed_kind ≡ k → ⊥) → f.kind ≡ k → ⊥
plain-kind f e k u s q = by (eqb f.kind unsigned_kind) refl
  where
    b : (eqb f.kind unsigned_kind || eqb f.kind signed_kind) ≡ true
    b = and_r (eqb f.count 0) (eqb f.kind unsigned_kind || eqb f.kind signed_kind) e

    by : (t : Bool) → eqb f.kind unsigned_kind ≡ t → ⊥
    by true g = u (sym (eqb-true f.kind unsigned_kind g) ∙ q)
    by false g = s (sym (eqb-true f.kind signed_kind (subst (λ (t : Bool). (t || eqb f.kind signed_kind) ≡ true) g b)) ∙ q)

-- ---- rows of a run

-- its bool, 0 where there is none
abbrev pub flag : List Row → List ℕ → ℕ
flag [] l = 0
flag (f ∷ fs) l = pick (plain f) (flag fs (drop (f.fixed * f.arg) l)) (be 1 l)

module _ (f : Row) (fs : List Row) where
  module _ (e : plain f ≡ true) where
    plain-run : is_run (f ∷ fs) ≡ is_run fs
    plain-run = ap (λ (b : Bool). pick b (is_run fs) (single f && none fs)) e

    plain-bytes : run_bytes (f ∷ fs) ≡ f.fixed * f.arg + run_bytes fs
    plain-bytes = ap (λ (b : Bool). pick b (f.fixed * f.arg + run_bytes fs) (pick (single f) 1 0)) e

    plain-bool : run_bool (f ∷ fs) ≡ run_bool fs
    plain-bool = ap (λ (b : Bool). pick b (run_bool fs) (pick (single f) 1 0)) e

    plain-flag : (l : List ℕ) → flag (f ∷ fs) l ≡ flag fs (drop (f.fixed * f.arg) l)
    plain-flag l = ap (λ (b : Bool). pick b (flag fs (drop (f.fixed * f.arg) l)) (be 1 l)) e

  module _ (e : plain f ≡ false) (h : is_run (f ∷ fs) ≡ true) where
    both : (single f && none fs) ≡ true
    both = sym (ap (λ (b : Bool). pick b (is_run fs) (single f && none fs)) e) ∙ h

    is-single : single f ≡ true
    is-single = and_l (single f) (none fs) both

    is_last : none fs ≡ true
    is_last = and_r (single f) (none fs) both

    single-bytes : run_bytes (f ∷ fs) ≡ 1
    single-bytes = ap (λ (b : Bool). pick b (f.fixed * f.arg + run_bytes fs) (pick (single f) 1 0)) e ∙ ap (λ (b : Bool). pick b 1 0) is-single

    single-bool : run_bool (f ∷ fs) ≡ 1
    single-bool = ap (λ (b : Bool). pick b (run_bool fs) (pick (single f) 1 0)) e ∙ ap (λ (b : Bool). pick b 1 0) is-single

    single-flag : (l : List ℕ) → flag (f ∷ fs) l ≡ be 1 l
    single-flag l = ap (λ (b : Bool). pick b (flag fs (drop (f.fixed * f.arg) l)) (be 1 l)) e

-- the bool's byte, by the run's bytes
flag-none : (rs : List Row) → is_run rs ≡ true → run_bool rs ≡ 0 → (l : List ℕ) → flag rs l ≡ 0
flag-none [] h z l = refl
flag-none (f ∷ fs) h z l = by (λ a b. flag-none fs a b (drop (f.fixed * f.arg) l)) (plain f) refl
  where
    by : (is_run fs ≡ true → run_bool fs ≡ 0 → flag fs (drop (f.fixed * f.arg) l) ≡ 0) → (b : Bool) → plain f ≡ b → flag (f ∷ fs) l ≡ 0
    by again true e = plain-flag f fs e l ∙ again (sym (plain-run f fs e) ∙ h) (sym (plain-bool f fs e) ∙ z)
    by again false e = absurd (let y : ⊥ = omega (arith, single-bool f fs e h, z) in y)

pub flag-some : (rs : List Row) → is_run rs ≡ true → (run_bool rs ≡ 0 → ⊥) → (l : List ℕ) → (1 ≤ run_bytes rs) × (flag rs l ≡ get_or l (run_bytes rs - 1) 0)
unfolding be
flag-some [] h z l = absurd (z refl)
flag-some (f ∷ fs) h z l = by (λ a b. flag-some fs a b (drop (f.fixed * f.arg) l)) (plain f) refl
  where
    by : (is_run fs ≡ true → (run_bool fs ≡ 0 → ⊥) → (1 ≤ run_bytes fs) × (flag fs (drop (f.fixed * f.arg) l) ≡ get_or (drop (f.fixed * f.arg) l) (run_bytes fs - 1) 0)) → (b : Bool) → plain f ≡ b → (1 ≤ run_bytes (f ∷ fs)) × (flag (f ∷ fs) l ≡ get_or l (run_bytes (f ∷ fs) - 1) 0)
    by again true e =
        let a = f.fixed * f.arg in
        let g = again (sym (plain-run f fs e) ∙ h) (λ y. z (plain-bool f fs e ∙ y)) in
        let q : a + (run_bytes fs - 1) ≡ run_bytes (f ∷ fs) - 1 = omega (arith, plain-bytes f fs e, g.0) in
        (omega (arith, plain-bytes f fs e, g.0), plain-flag f fs e l ∙ g.1 ∙ get_or-drop a l (run_bytes fs - 1) 0 ∙ ap (λ (i : ℕ). get_or l i 0) q)
    by again false e =
        let q : 0 ≡ run_bytes (f ∷ fs) - 1 = omega (arith, single-bytes f fs e h) in
        let w : be 1 l ≡ get_or l 0 0 = omega arith in
        (omega (arith, single-bytes f fs e h), single-flag f fs e h l ∙ w ∙ ap (λ (i : ℕ). get_or l i 0) q)

module _ (T : Table) (obj : ℕ → List ℕ → Read) where
  pub strict-row : (f : Row) → plain f ≡ true → Strict (f.fixed * f.arg) (field (reading T) obj f)
  strict-row f e =
      let z : f.count ≡ 0 = eqb-true f.count 0 (and_l (eqb f.count 0) (eqb f.kind unsigned_kind || eqb f.kind signed_kind) e) in
      let nb = plain-kind f e bool_kind (λ q. (let y : ⊥ = omega (arith, q) in y)) (λ q. (let y : ⊥ = omega (arith, q) in y)) in
      let nc = plain-kind f e char_kind (λ q. (let y : ⊥ = omega (arith, q) in y)) (λ q. (let y : ⊥ = omega (arith, q) in y)) in
      let no = plain-kind f e object_kind (λ q. (let y : ⊥ = omega (arith, q) in y)) (λ q. (let y : ⊥ = omega (arith, q) in y)) in
      strict_as (λ l. field_fixed (reading T) obj f l z) (strict-repeat (strict_as (λ l. item-value (reading T) obj f l no) (strict-value f.kind f.arg nb nc)) f.fixed)

  single-is : (f : Row) → single f ≡ true → (l : List ℕ) → fields (reading T) obj (f ∷ []) l ≡ read_value bool_kind 1 l
  unfolding repeat
  single-is f e l =
      let c = and_l (eqb f.count 0) (eqb f.fixed 1 && (eqb f.kind bool_kind && eqb f.arg 1)) e in
      let r = and_r (eqb f.count 0) (eqb f.fixed 1 && (eqb f.kind bool_kind && eqb f.arg 1)) e in
      let n : f.fixed ≡ 1 = eqb-true f.fixed 1 (and_l (eqb f.fixed 1) (eqb f.kind bool_kind && eqb f.arg 1) r) in
      let r2 = and_r (eqb f.fixed 1) (eqb f.kind bool_kind && eqb f.arg 1) r in
      let k : f.kind ≡ bool_kind = eqb-true f.kind bool_kind (and_l (eqb f.kind bool_kind) (eqb f.arg 1) r2) in
      let a : f.arg ≡ 1 = eqb-true f.arg 1 (and_r (eqb f.kind bool_kind) (eqb f.arg 1) r2) in
      fields-one (reading T) obj f l ∙ field_fixed (reading T) obj f l (eqb-true f.count 0 c)
      ∙ ap (λ (m : ℕ). repeat m (item (reading T) obj f) l) n ∙ then-nil (item (reading T) obj f l)
      ∙ item-value (reading T) obj f l (λ q. (let y : ⊥ = omega (arith, q, k) in y)) ∙ ap (λ (j : ℕ). read_value j f.arg l) k ∙ ap (λ (j : ℕ). read_value bool_kind j l) a

  pub record Says (rs : List Row) (l : List ℕ) : Type 0 where
    pub short : length l < run_bytes rs → fields (reading T) obj rs l ≡ refused 25
    pub odd : run_bytes rs ≤ length l → 1 < flag rs l → fields (reading T) obj rs l ≡ refused 23
    pub ys : List ℤ
    pub fine : run_bytes rs ≤ length l → flag rs l ≤ 1 → fields (reading T) obj rs l ≡ got ys (drop (run_bytes rs) l)

  says-single : (f : Row) (fs : List Row) (l : List ℕ) → plain f ≡ false → is_run (f ∷ fs) ≡ true → Says (f ∷ fs) l
  says-single f [] l e h =
      let i = single-is f (is-single f [] e h) l in
      let b = single-bytes f [] e h in
      let g = single-flag f [] e h l in
      let v = be 1 l in
      record {
        short = λ k. i ∙ value-short bool_kind 1 l (omega (arith, b));
        odd = λ k o. i ∙ value-bad bool_kind 1 l (omega (arith, b)) v 23 refl (fault-bool bool_kind v refl (omega (arith, g))) (λ z. (let y : ⊥ = omega (arith, z) in y));
        ys = number_of bool_kind 1 v ∷ [];
        fine = λ k o. i ∙ value-good bool_kind 1 l (omega (arith, b)) v 0 (number_of bool_kind 1 v) refl (sound-bool bool_kind v refl (omega (arith, g))) refl refl ∙ ap (λ (n : ℕ). got (number_of bool_kind 1 v ∷ []) (drop n l)) (sym b);
      }
  says-single f (x ∷ fs) l e h = never (is_last f (x ∷ fs) e h) refl

  says_plain : (f : Row) (fs : List Row) (l : List ℕ) → plain f ≡ true → Says fs (drop (f.fixed * f.arg) l) → Says (f ∷ fs) l
  unfolding fields and_then prepend
  says_plain f fs l e g =
      let a = f.fixed * f.arg in
      let F = strict-row f e in
      let b = plain-bytes f fs e in
      let k = plain-flag f fs e l in
      let d : length (drop a l) ≡ length l - a = length-drop a l in
      let on : a ≤ length l → fields (reading T) obj (f ∷ fs) l ≡ prepend (F.made l) (fields (reading T) obj fs (drop a l)) = λ h. ap (λ (X : Read). and_then X (fields (reading T) obj fs)) (F.full l h) in
      record {
        short = λ h. by h (ltb (length l) a) refl;
        odd = λ h o. on (omega (arith, b)) ∙ ap (prepend (F.made l)) (g.odd (omega (arith, b, d)) (omega (arith, k)));
        ys = F.made l ++ g.ys;
        fine = λ h o. on (omega (arith, b)) ∙ ap (prepend (F.made l)) (g.fine (omega (arith, b, d)) (omega (arith, k)) ∙ ap (got g.ys) (drop-drop (run_bytes fs) a l)) ∙ ap (λ (n : ℕ). got (F.made l ++ g.ys) (drop n l)) (sym b);
      }
    where
      by : length l < run_bytes (f ∷ fs) → (t : Bool) → ltb (length l) (f.fixed * f.arg) ≡ t → fields (reading T) obj (f ∷ fs) l ≡ refused 25
      by h true q = ap (λ (X : Read). and_then X (fields (reading T) obj fs)) ((strict-row f e).short l (ltb-true (length l) (f.fixed * f.arg) q))
      by h false q =
          let a = f.fixed * f.arg in
          let i = ltb-false (length l) a q in
          let d : length (drop a l) ≡ length l - a = length-drop a l in
          ap (λ (X : Read). and_then X (fields (reading T) obj fs)) ((strict-row f e).full l i) ∙ ap (prepend ((strict-row f e).made l)) (g.short (omega (arith, d, plain-bytes f fs e)))

  pub says : (rs : List Row) → is_run rs ≡ true → (l : List ℕ) → Says rs l
  unfolding fields
  says [] h l = record { short = λ k. absurd (let y : ⊥ = omega arith in y); odd = λ k o. absurd (let y : ⊥ = omega arith in y); ys = []; fine = λ k o. refl }
  says (f ∷ fs) h l = by (λ a. says fs a (drop (f.fixed * f.arg) l)) (plain f) refl
    where
      by : (is_run fs ≡ true → Says fs (drop (f.fixed * f.arg) l)) → (b : Bool) → plain f ≡ b → Says (f ∷ fs) l
      by again true e = says_plain f fs l e (again (sym (plain-run f fs e) ∙ h))
      by again false e = says-single f fs l e h

  -- the answer of a run is that of its rows
  pub ran_checks : (s : List ℕ) (p b e : ℕ) (r : Result ℕ Refusal) (rs : List Row) → p ≤ length s → is_run rs ≡ true → b ≡ run_bytes rs → e ≡ run_bool rs → Ran s p b e r → Checks s (fields (reading T) obj rs (drop p s)) r
  ran_checks s p b e r rs h run bs es (cut k) =
      (says rs run (drop p s)).short (rw length-drop (omega (arith, bs)))
  ran_checks s p b e r rs h run bs es (odd k z o) =
      let g = flag-some rs run (λ y. z (es ∙ y)) (drop p s) in
      let j : p + (run_bytes rs - 1) ≡ p + b - 1 = omega (arith, bs, g.0) in
      let v : flag rs (drop p s) ≡ get_or s (p + b - 1) 0 = g.1 ∙ get_or-drop p s (run_bytes rs - 1) 0 ∙ ap (λ (i : ℕ). get_or s i 0) j in
      (says rs run (drop p s)).odd (rw length-drop (omega (arith, bs))) (omega (arith, v))
  ran_checks s p b e r rs h run bs es (bare k z) =
      let v = flag-none rs run (sym es ∙ z) (drop p s) in
      let y = says rs run (drop p s) in
      made y.ys (p + b) (y.fine (rw length-drop (omega (arith, bs))) (omega (arith, v)) ∙ ap (got y.ys) (drop-drop (run_bytes rs) p s ∙ ap (λ (n : ℕ). drop (p + n) s) (sym bs))) (omega arith)
  ran_checks s p b e r rs h run bs es (truly k z o) =
      let g = flag-some rs run (λ y. z (es ∙ y)) (drop p s) in
      let j : p + (run_bytes rs - 1) ≡ p + b - 1 = omega (arith, bs, g.0) in
      let v : flag rs (drop p s) ≡ get_or s (p + b - 1) 0 = g.1 ∙ get_or-drop p s (run_bytes rs - 1) 0 ∙ ap (λ (i : ℕ). get_or s i 0) j in
      let y = says rs run (drop p s) in
      made y.ys (p + b) (y.fine (rw length-drop (omega (arith, bs))) (omega (arith, v)) ∙ ap (got y.ys) (drop-drop (run_bytes rs) p s ∙ ap (λ (n : ℕ). drop (p + n) s) (sym bs))) (omega arith)
