-- What the writer's definitions come to, case by case, for the leaves of its walks. Assumes nothing.
use Rattle.wire.proofs.Basics.{◌∙◌, sym, ◌≡◌, ap, refl, subst, ℕ, ◌≤◌, ◌+◌, ◌<◌, ◌-◌, suc, zero, ◌*◌, ◌^◌, List, [], ◌∷◌, true, false, length, drop, get_or, drop_of_length-le, drop-cons, eqb, ltb, ℤ}
use Rattle.wire.proofs.Basics.{pos, negsuc, eq-eqb, le-ltb, ne_eqb, ltb-true, add-one, arith}
use lib.Dec.{T}
use lib.Signed.{mag, lt_z}
use lib.Pow.{pow_mono}
use Rattle.wire.specs.Bytes.{bytes}
use Rattle.wire.specs.Signed.{unsigned}
use Rattle.wire.proofs.Choices.{never, pick_all}
use Rattle.wire.proofs.Signs.{halves}
use Rattle.lmcp.specs.Run.{got, refused, Tag, tag, bad}
use Rattle.lmcp.specs.Table.{signed_kind, bool_kind, char_kind, Table}
use Rattle.lmcp.specs.Walk.{is_null}
use Rattle.lmcp.specs.Value.{values, fits, denial}
use Rattle.lmcp.specs.Value as value
use Rattle.lmcp.specs.Read.{typed}
use Rattle.lmcp.specs.Write.{write_value, write_count, header, typed_by_lem, write_head}
use Rattle.lmcp.specs.InsidePacked.{width_of}
use Rattle.lmcp.specs.Lists.{is_version_lem}
use Rattle.lmcp.proofs.WalkPlaces.{some-tag}
use Rattle.lmcp_size.specs.InsideWeighs.{Wide, one, two, four, eight}
use Rattle.lmcp.proofs.Heads.{typed-least, typed_by_mag}

-- ---- the two halves of the signed numbers

pub negative-below : (n : ℕ) (z : ℤ) → lt_z z (pos 0) ≡ true → false ≡ value.below n z
negative-below n (pos m) h = absurd (let l : m < 0 = ltb-true m 0 h in omega arith)
negative-below n (negsuc m) h = refl

pub positive-below : (n : ℕ) (z : ℤ) (m : ℕ) → m ≡ mag z → lt_z z (pos 0) ≡ false → ltb m n ≡ value.below n z
positive-below n (pos k) m e h = ap (λ (j : ℕ). ltb j n) e
positive-below n (negsuc k) m e h = never refl h

pub negative-typed : (T : Table) (t : ℕ) (z : ℤ) → lt_z z (pos 0) ≡ true → false ≡ typed_by_lem T t z
negative-typed T t (pos m) h = absurd (let l : m < 0 = ltb-true m 0 h in omega arith)
negative-typed T t (negsuc m) h = refl

pub positive-typed : (T : Table) (t : ℕ) (z : ℤ) (m : ℕ) → m ≡ mag z → lt_z z (pos 0) ≡ false → typed T t m ≡ typed_by_lem T t z
positive-typed T t (pos k) m e h = ap (typed T t) e
positive-typed T t (negsuc k) m e h = never refl h

pub version_low : (z : ℤ) → value.below 1 z ≡ true → false ≡ is_version_lem z
version_low (pos zero) e = refl
version_low (pos (suc n)) e = absurd (let l : suc n < 1 = ltb-true (suc n) 1 e in omega arith)
version_low (negsuc n) e = never e refl

pub version-high : (z : ℤ) → value.below 1 z ≡ false → value.below 3 z ≡ is_version_lem z
version-high (pos zero) e = never refl e
version-high (pos (suc zero)) e = refl
version-high (pos (suc (suc zero))) e = refl
version-high (pos (suc (suc (suc n)))) e =
    let m = suc (suc (suc n)) in
    rw (le-ltb m 3 (omega arith), ne_eqb m 1 (λ q. let z : ⊥ = omega arith in z), ne_eqb m 2 (λ q. let z : ⊥ = omega arith in z)) refl
version-high (negsuc n) e = refl

-- ---- ranges

pub wide-some : {w : ℕ} → Wide w → (1 ≤ w) × (w ≤ 8)
wide-some one = (omega arith, omega arith)
wide-some two = (omega arith, omega arith)
wide-some four = (omega arith, omega arith)
wide-some eight = (omega arith, omega arith)

pub wide-last : {w : ℕ} → Wide w → (w ≡ 4 → ⊥) → (w ≡ 2 → ⊥) → (w ≡ 1 → ⊥) → w ≡ 8
wide-last one a b c = absurd (c refl)
wide-last two a b c = absurd (b refl)
wide-last four a b c = absurd (a refl)
wide-last eight a b c = refl

pub wide-code : (c : ℕ) → Wide (width_of c)
wide-code c =
    pick_all Wide (eqb c 0) (λ e. one)
    (λ e. pick_all Wide (eqb c 1) (λ e. two)
    (λ e. pick_all Wide (eqb c 2) (λ e. four)
    (λ e. pick_all Wide (eqb c 3) (λ e. two)
    (λ e. pick_all Wide (eqb c 4) (λ e. four) (λ e. eight)))))

module _ (k w : ℕ) where
  pub values-bool : k ≡ bool_kind → 2 ≡ values k w
  unfolding values
  values-bool e = simp (eq-eqb k bool_kind e)

  pub values-char : k ≡ char_kind → 128 ≡ values k w
  unfolding values
  values-char e = rw e refl

  module _ (least : 1 ≤ w) (most : w ≤ 7) (h : ℕ) (half : h ≡ 2 ^ (8 * w - 1)) where
    pub half-small : h + h < 2 ^ 64
    half-small =
        let l : 8 * w - 1 ≤ 55 = omega arith in
        let m : 2 ^ (8 * w - 1) ≤ 2 ^ 55 = pow_mono l in
        omega (arith, half)

    pub values-plain : (k ≡ bool_kind → ⊥) → (k ≡ char_kind → ⊥) → h + h ≡ values k w
    unfolding values
    values-plain e f = simp (ne_eqb k bool_kind e, ne_eqb k char_kind f) (rw half (sym (halves (8 * w) (omega arith))))

  pub fits_signed : (z : ℤ) (n h : ℕ) → k ≡ signed_kind → n ≡ mag z → h ≡ 2 ^ (8 * w - 1) → ltb n h ≡ fits k w z
  unfolding fits
  fits_signed z n h e f g = rw (f, g) (simp (eq-eqb k signed_kind e))

  pub fits-plain : (z : ℤ) (n : ℕ) → (k ≡ signed_kind → ⊥) → n ≡ values k w → value.below n z ≡ fits k w z
  unfolding fits
  fits-plain z n e f = rw f (simp (ne_eqb k signed_kind e))

module _ (k : ℕ) where
  pub denial-char : k ≡ char_kind → 27 ≡ denial k
  unfolding denial
  denial-char e = simp (eq-eqb k char_kind e)

  pub denial-other : (k ≡ char_kind → ⊥) → 29 ≡ denial k
  unfolding denial
  denial-other e = simp (ne_eqb k char_kind e)

-- ---- the list from a place on

pub at-end : (l : List ℤ) (at : ℕ) → at ≡ length l → drop at l ≡ []
at-end l at e = let h : length l ≤ at = omega arith in drop_of_length-le l h

pub here : (l : List ℤ) (at : ℕ) → at < length l → drop at l ≡ get_or l at (pos 0) ∷ drop (at + 1) l
here l at h = drop-cons l at (pos 0) h ∙ ap (λ (n : ℕ). get_or l at (pos 0) ∷ drop n l) (sym (add-one at))

-- ---- values and counts

pub value-end : (k w : ℕ) (l : List ℤ) → l ≡ [] → write_value k w l ≡ refused 25
unfolding write_value
value-end k w l e = ap (write_value k w) e

module _ (k w : ℕ) (l r : List ℤ) (z : ℤ) (e : l ≡ z ∷ r) where
  pub value-good : fits k w z ≡ true → write_value k w l ≡ got (bytes w (unsigned (8 * w) z)) r
  unfolding write_value
  value-good f = ap (write_value k w) e ∙ rw f refl

  pub value-bad : fits k w z ≡ false → (n : ℕ) → n ≡ denial k → write_value k w l ≡ refused n
  unfolding write_value
  value-bad f n d = ap (write_value k w) e ∙ rw f (ap refused (sym d))

pub count-end : (w : ℕ) (l : List ℤ) → l ≡ [] → write_count w l ≡ bad 25
unfolding write_count
count-end w l e = ap (write_count w) e

module _ (w : ℕ) (l r : List ℤ) (z : ℤ) (e : l ≡ z ∷ r) (m : ℕ) (q : m ≡ values 0 w) where
  m-is : m ≡ 2 ^ (8 * w)
  unfolding values
  m-is = q

  pub count-good : value.below m z ≡ true → (n : ℕ) → n ≡ mag z → write_count w l ≡ tag n (bytes w n) r
  unfolding write_count
  count-good f n d = let g : value.below (2 ^ (8 * w)) z ≡ true = subst (λ (j : ℕ). value.below j z ≡ true) m-is f in ap (write_count w) e ∙ rw d (rw g refl)

  pub count-bad : value.below m z ≡ false → write_count w l ≡ bad 29
  unfolding write_count
  count-bad f = let g : value.below (2 ^ (8 * w)) z ≡ false = subst (λ (j : ℕ). value.below j z ≡ false) m-is f in ap (write_count w) e ∙ rw g refl

-- ---- heads

pub head-end : (T : Table) (d t : ℕ) (l : List ℤ) → l ≡ [] → write_head T d t l ≡ bad 25
unfolding write_head
head-end T d t l e = ap (write_head T d t) e

module _ (T : Table) (d t : ℕ) (l r : List ℤ) (z : ℤ) (e : l ≡ z ∷ r) where
  pub head-null : value.below 1 z ≡ true → write_head T d t l ≡ tag 0 (0 ∷ []) r
  unfolding write_head
  head-null f = ap (write_head T d t) e ∙ rw f refl

  module _ (f : value.below 1 z ≡ false) where
    pub head-deep : d ≡ 0 → write_head T d t l ≡ bad 26
    unfolding write_head
    head-deep g = ap (write_head T d t) e ∙ rw (f, g) refl

    module _ (g : d ≡ 0 → ⊥) where
      pub head-typed : typed_by_lem T t z ≡ true → (n : ℕ) → n ≡ mag z → write_head T d t l ≡ tag n (header T n) r
      unfolding write_head
      head-typed h n m = ap (write_head T d t) e ∙ rw m (rw (f, ne_eqb d 0 g, h) refl)

      pub head_untyped : typed_by_lem T t z ≡ false → write_head T d t l ≡ bad 24
      unfolding write_head
      head_untyped h = ap (write_head T d t) e ∙ rw (f, ne_eqb d 0 g, h) refl

    pub root-some : is_null (write_head T d t l) ≡ false
    unfolding write_head
    root-some =
        ap (λ (m : List ℤ). is_null (write_head T d t m)) e
        ∙ rw f
        (pick_all Full (eqb d 0) (λ e. refl)
        (λ e. pick_all Full (typed_by_lem T t z) (λ h. some-tag (mag z) (header T (mag z)) r (typed-least T t (mag z) (typed_by_mag T t z h).1)) (λ h. refl)))
      where
        Full : Tag ℤ ℕ → Type 0
        Full X = is_null X ≡ false
