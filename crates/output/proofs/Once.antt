-- No second place, no other bytes in the buffer before it and no other bytes gone satisfy `Sends`. Assumes nothing.
use Rattle.wire.proofs.Basics.{◌∙◌, sym, ◌≡◌, ap, refl, ℕ, ◌≤◌, ◌+◌, ◌<◌, suc, zero, ◌*◌, List, ◌++◌, length, drop, take, drop_at, take_at, zero-add, suc-mul, zero-mul, arith}
use Rattle.output.specs.Output.{Sends}
use Rattle.output.proofs.Sending.{sends-length}

-- whole buffers and a rest that is not 0, or no whole buffer: of one length in one way
module _ (n : ℕ) where
  fuller : (p r q : ℕ) → r ≡ p + n + q → r ≤ n → 0 < q → ⊥
  fuller p r q e h k = omega arith

  fewer : (p s r q : ℕ) → p + n + r ≡ s + n + q → p + r ≡ s + q
  fewer p s r q e = omega arith

  split-once : (v w r q : ℕ) → v * n + r ≡ w * n + q → r ≤ n → q ≤ n → (0 < v → 0 < r) → (0 < w → 0 < q) → r ≡ q
  split-once zero zero r q e h k x y = sym (ap (λ (p : ℕ). p + r) (zero-mul n) ∙ zero-add r) ∙ e ∙ ap (λ (p : ℕ). p + q) (zero-mul n) ∙ zero-add q
  split-once zero (suc w) r q e h k x y =
      let z : r ≡ w * n + n + q = sym (ap (λ (p : ℕ). p + r) (zero-mul n) ∙ zero-add r) ∙ e ∙ ap (λ (p : ℕ). p + q) (suc-mul w n) in
      absurd (fuller (w * n) r q z h (y (omega arith)))
  split-once (suc v) zero r q e h k x y =
      let z : q ≡ v * n + n + r = sym (ap (λ (p : ℕ). p + q) (zero-mul n) ∙ zero-add q) ∙ sym e ∙ ap (λ (p : ℕ). p + r) (suc-mul v n) in
      absurd (fuller (v * n) q r z k (x (omega arith)))
  split-once (suc v) (suc w) r q e h k x y =
      let z = ap (λ (p : ℕ). p + r) (sym (suc-mul v n)) ∙ e ∙ ap (λ (p : ℕ). p + q) (suc-mul w n) in
      split-once v w r q (fewer (v * n) (w * n) r q z) h k (λ i. x (omega arith)) (λ i. y (omega arith))

pub record Same (gone gone' front front' : List ℕ) (r r' : ℕ) : Type 0 where
  pub place : r ≡ r'
  pub out : gone ≡ gone'
  pub held : front ≡ front'

module _ {a b c t : List ℕ} {at r q : ℕ} (h : at ≤ length a) (m : length b ≡ length a) (n : length c ≡ length a) (x : Sends a at t b r) (y : Sends a at t c q) where
  sums : x.wholes * length a + r ≡ y.wholes * length a + q
  sums =
      ap (λ (k : ℕ). k + r) (sym x.whole) ∙ sym (sends-length x h) ∙ sends-length y h ∙ ap (λ (k : ℕ). k + q) y.whole

  places : r ≡ q
  places = split-once (length a) x.wholes y.wholes r q sums (let z = x.within in omega arith) (let z = y.within in omega arith) x.needed y.needed

  sizes : length x.gone ≡ length y.gone
  sizes = let z = sends-length x h in let w = sends-length y h in let k = places in omega arith

  joined : x.gone ++ take r b ≡ y.gone ++ take q c
  joined = sym x.order ∙ y.order

  pub sends-once : Same x.gone y.gone (take r b) (take q c) r q
  sends-once =
      record {
        place = places;
        out = sym (take_at x.gone (take r b) (length y.gone) sizes) ∙ ap (take (length y.gone)) joined ∙ take_at y.gone (take q c) (length y.gone) refl;
        held = sym (drop_at x.gone (take r b) (length y.gone) sizes) ∙ ap (drop (length y.gone)) joined ∙ drop_at y.gone (take q c) (length y.gone) refl;
      }
