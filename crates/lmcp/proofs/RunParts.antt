-- A run by its parts: what is got as a whole is got of each part, and equal parts make equal runs. Assumes nothing.
use Rattle.wire.proofs.Basics.{◌∙◌, sym, ◌≡◌, ap, refl, ℕ, suc, zero, List, [], ◌++◌, append-nil, arith}
use Rattle.lmcp.specs.Run.{Run, got, refused, Tag, tag, bad, prepend, and_then, after, repeat}

module _ {A B : Type 0} where
  -- one part and then another
  pub record Thens (X : Run A B) (k : List A → Run A B) (zs : List B) (r : List A) : Type 0 where
    pub ys : List B
    pub mid : List A
    pub more : List B
    pub first : X ≡ got ys mid
    pub then : k mid ≡ got more r
    pub all : zs ≡ ys ++ more

  over : (ys : List B) (m : List A) (X : Run A B) (k : List A → Run A B) (Y : Run A B) (zs : List B) (r : List A) → X ≡ got ys m → k m ≡ Y → prepend ys Y ≡ got zs r → Thens X k zs r
  unfolding prepend
  over ys m X k (got ws q) zs r e f g =
      let a : ys ++ ws ≡ zs = cc in
      let b : q ≡ r = cc in
      record { ys = ys; mid = m; more = ws; first = e; then = f ∙ ap (got ws) b; all = sym a }
  over ys m X k (refused n) zs r e f g = absurd (let z : ◌≡◌ {A = ℕ} 0 1 = cc in omega arith)

  pub then-got : (X : Run A B) (k : List A → Run A B) (zs : List B) (r : List A) → and_then X k ≡ got zs r → Thens X k zs r
  unfolding and_then
  then-got (got ys m) k zs r e = over ys m (got ys m) k (k m) zs r refl refl e
  then-got (refused n) k zs r e = absurd (let z : ◌≡◌ {A = ℕ} 0 1 = cc in omega arith)

  -- a count or a head, and then what follows it
  pub record Afters (X : Tag A B) (k : ℕ → List A → Run A B) (zs : List B) (r : List A) : Type 0 where
    pub number : ℕ
    pub ys : List B
    pub mid : List A
    pub more : List B
    pub first : X ≡ tag number ys mid
    pub then : k number mid ≡ got more r
    pub all : zs ≡ ys ++ more

  pub after-got : (X : Tag A B) (k : ℕ → List A → Run A B) (zs : List B) (r : List A) → after X k ≡ got zs r → Afters X k zs r
  unfolding after
  after-got (tag n ys m) k zs r e =
      let t = over ys m (got ys m) (k n) (k n m) zs r refl refl e in
      let a : ys ≡ t.ys = cc t.first in
      let b : m ≡ t.mid = cc t.first in
      record { number = n; ys = ys; mid = m; more = t.more; first = refl; then = ap (k n) b ∙ t.then; all = t.all ∙ ap (λ (l : List B). l ++ t.more) (sym a) }
  after-got (bad n) k zs r e = absurd (let z : ◌≡◌ {A = ℕ} 0 1 = cc in omega arith)

  -- ---- equal parts

  pub then-nil : (X : Run A B) → and_then X (got []) ≡ X
  unfolding and_then prepend
  then-nil (got ys r) = ap (λ (l : List B). got l r) (append-nil ys)
  then-nil (refused n) = refl

  then_same : (X : Run A B) (f g : List A → Run A B) → ((l : List A) → f l ≡ g l) → and_then X f ≡ and_then X g
  unfolding and_then
  then_same (got ys r) f g h = ap (prepend ys) (h r)
  then_same (refused n) f g h = refl

  pub repeat-same : (f g : List A → Run A B) → ((l : List A) → f l ≡ g l) → (n : ℕ) (l : List A) → repeat n f l ≡ repeat n g l
  unfolding repeat
  repeat-same f g h zero l = refl
  repeat-same f g h (suc n) l = ap (λ (X : Run A B). and_then X (repeat n f)) (h l) ∙ then_same (g l) (repeat n f) (repeat n g) (repeat-same f g h n)

  pub after_same : (X : Tag A B) (f g : ℕ → List A → Run A B) → ((n : ℕ) (l : List A) → f n l ≡ g n l) → after X f ≡ after X g
  unfolding after
  after_same (tag n ys r) f g h = ap (prepend ys) (h n r)
  after_same (bad n) f g h = refl
