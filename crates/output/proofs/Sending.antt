-- Laws of text that goes out through a buffer. Assumes nothing.
use Rattle.wire.proofs.Basics.{◌∙◌, sym, ◌≡◌, ap, refl, subst, ℕ, ◌≤◌, ◌+◌, ◌<◌, ◌-◌, suc, zero, ◌*◌, List, [], ◌∷◌, ◌++◌, append_assoc, append-nil, false, Bool, length, drop, take, length-append}
use Rattle.wire.proofs.Basics.{length-take-le, take_at, take-add, take-length, one-mul, suc-mul, zero-mul, ℕ_discrete, arith}
use native.Mathlib.Nat.{add-mul}
use Rattle.wire.specs.Overlay.{overlay}
use Rattle.wire.proofs.Overlays.{overlay-eq, length-overlay}
use Rattle.text.specs.Text.{hex}
use Rattle.text.specs.Put.{Put}
use Rattle.text.proofs.Texts.{hex-append}
use Rattle.output.specs.Output.{closed, Usable, Sends, Flows, Pours, Finishes}
use Rattle.output.specs.InsideRoom.{Clears}

-- ---- what goes out

-- as many bytes as went in
module _ {a b t : List ℕ} {at r : ℕ} (x : Sends a at t b r) where
  pub sends-length : at ≤ length a → at + length t ≡ length x.gone + r
  sends-length h =
      ap (λ (n : ℕ). n + length t) (sym (length-take-le at a h))
      ∙ sym (length-append (take at a) t)
      ∙ ap length x.order
      ∙ length-append x.gone (take r b)
      ∙ ap (λ (n : ℕ). length x.gone + n) (length-take-le r b x.within)

-- no text
pub sends_none : (out : List ℕ) (at : ℕ) → at ≤ length out → Sends out at [] out at
sends_none out at h =
    record { gone = []; wholes = 0; order = append-nil (take at out); whole = sym (zero-mul (length out)); needed = λ z. absurd (let w : ⊥ = omega arith in w); within = h }

-- one text after another
module _ {a b c s t : List ℕ} {at r q : ℕ} (size : length b ≡ length a) (h : at ≤ length a) (x : Sends a at s b r) (y : Sends b r t c q) where
  both-needed : 0 < x.wholes + y.wholes → 0 < q
  both-needed z = elim (ℕ_discrete y.wholes 0) [
    | yes e ↦
        let n : length y.gone ≡ 0 = y.whole ∙ ap (λ (k : ℕ). k * length b) e ∙ zero-mul (length b) in
        let p : 0 < r = x.needed (omega arith) in
        let l = sends-length y x.within in
        omega arith
    | no e ↦ y.needed (omega arith)
  ]

  pub sends-then : Sends a at (s ++ t) c q
  sends-then =
      record {
        gone = x.gone ++ y.gone;
        wholes = x.wholes + y.wholes;
        order =
            sym (append_assoc (take at a) s t)
            ∙ ap (λ (l : List ℕ). l ++ t) x.order
            ∙ append_assoc x.gone (take r b) t
            ∙ ap (λ (l : List ℕ). x.gone ++ l) y.order
            ∙ sym (append_assoc x.gone y.gone (take q c));
        whole =
            length-append x.gone y.gone
            ∙ ap (λ (n : ℕ). n + length y.gone) x.whole
            ∙ ap (λ (n : ℕ). x.wholes * length a + n) (y.whole ∙ ap (λ (k : ℕ). y.wholes * k) size)
            ∙ sym (add-mul x.wholes y.wholes (length a));
        needed = both-needed;
        within = y.within;
      }

-- a text that has room
pub sends-put : {a b t : List ℕ} {at r : ℕ} → at + length t ≤ length a → Put a at t b r → Sends a at t b r
sends-put {a} {b} {t} {at} {r} h p =
    let n : r ≡ at + length t = omega (arith, p.next) in
    let w : length (take at a ++ t) ≡ at + length t = length-append (take at a) t ∙ ap (λ (k : ℕ). k + length t) (length-take-le at a (omega arith)) in
    let l : length b ≡ length a = ap length p.wrote ∙ length-overlay a at t in
    record {
      gone = [];
      wholes = 0;
      order =
          sym (take_at (take at a ++ t) (drop (at + length t) a) (at + length t) w)
          ∙ ap (take (at + length t)) (sym (overlay-eq a at t h) ∙ sym p.wrote)
          ∙ ap (λ (k : ℕ). take k b) (sym n);
      whole = sym (zero-mul (length a));
      needed = λ z. absurd (let w : ⊥ = omega arith in w);
      within = omega (arith, n, l);
    }

-- ---- any text

pub pours-none : (out : List ℕ) (at : ℕ) → Pours out at [] out at
pours-none out at = λ m.
    record {
      goes = λ h. record { sent = λ o. sends_none out at h; shut = λ e. absurd (let z : ⊥ = omega arith in z) };
      stays = λ e. (e, refl);
      same_length = refl;
    }

pub pours-is : {a b s t : List ℕ} {at r : ℕ} → Pours a at s b r → s ≡ t → Pours a at t b r
pours-is {a} {b} {s} {t} {at} {r} x e = subst (λ (l : List ℕ). Pours a at l b r) e x

module _ {a b c s t : List ℕ} {at r q : ℕ} (x : Pours a at s b r) (y : Pours b r t c q) where
  module _ (m : Usable (length a)) where
    one-flow : Flows a at s b r
    one-flow = x m

    two-flow : Flows b r t c q
    two-flow = y (subst Usable (sym one-flow.same_length) m)

    -- where the first closed the output, the second leaves it so
    then-open : (q ≡ closed → ⊥) → r ≡ closed → ⊥
    then-open o e = o (two-flow.stays e).0

    inside : at ≤ length a → (r ≡ closed → ⊥) → r ≤ length b
    inside h o = ((one-flow.goes h).sent o).within

    then-sent : at ≤ length a → (q ≡ closed → ⊥) → Sends a at (s ++ t) c q
    then-sent h o =
        let f = (one-flow.goes h).sent (then-open o) in
        sends-then one-flow.same_length h f ((two-flow.goes f.within).sent o)

    then-shut : at ≤ length a → q ≡ closed → length a < at + length (s ++ t)
    then-shut h e = elim (ℕ_discrete r closed) [
      | yes z ↦ let k = (one-flow.goes h).shut z in let l = length-append s t in omega arith
      | no z ↦
          let f = (one-flow.goes h).sent z in
          let k = (two-flow.goes f.within).shut e in
          let l = length-append s t in
          let n = sends-length f h in
          let w = one-flow.same_length in
          omega arith
    ]

  pub pours-then : Pours a at (s ++ t) c q
  pours-then = λ m.
      record {
        goes = λ h. record { sent = then-sent m h; shut = then-shut m h };
        stays = λ e. let f = (one-flow m).stays e in let g = (two-flow m).stays f.0 in (g.0, g.1 ∙ f.1);
        same_length = (two-flow m).same_length ∙ (one-flow m).same_length;
      }

-- a text that is put where it has room
pub pours-put : {a b t : List ℕ} {at r : ℕ} → at + length t ≤ length a → Put a at t b r → Pours a at t b r
pours-put {a} {b} {t} {at} {r} h p = λ m.
    let n : r ≡ at + length t = omega (arith, p.next) in
    record {
      goes = λ k. record { sent = λ o. sends-put h p; shut = λ e. absurd (let z : ⊥ = omega (arith, m.1) in z) };
      stays = λ e. absurd (let z : ⊥ = omega (arith, m.1) in z);
      same_length = ap length p.wrote ∙ length-overlay a at t;
    }

-- an output that is closed takes no more text, whatever it is
pub pours-stop : {a b s : List ℕ} {at r : ℕ} (t : List ℕ) → r ≡ closed → Pours a at s b r → Pours a at (s ++ t) b r
pours-stop {a} {b} {s} {at} {r} t e x = λ m.
    let f = x m in
    record {
      goes = λ h. record { sent = λ o. absurd (o e); shut = λ z. let k = (f.goes h).shut e in let l = length-append s t in omega arith };
      stays = f.stays;
      same_length = f.same_length;
    }

-- lines one after another: where the output closed at one of them, those behind it, up to any n, take no more
module _ (lines one : ℕ → List ℕ) (more : (k : ℕ) → lines (suc k) ≡ lines k ++ one k) where
  between : ℕ → ℕ → List ℕ
  between i zero = []
  between i (suc k) = between i k ++ one (i + k)

  lines-on : (i k : ℕ) → lines (i + k) ≡ lines i ++ between i k
  unfolding between
  lines-on i zero = ap lines (let z : i + 0 ≡ i = omega arith in z) ∙ sym (append-nil (lines i))
  lines-on i (suc k) =
      ap lines (let z : i + suc k ≡ suc (i + k) = omega arith in z)
      ∙ more (i + k)
      ∙ ap (λ (l : List ℕ). l ++ one (i + k)) (lines-on i k)
      ∙ append_assoc (lines i) (between i k) (one (i + k))

  pub pours-shut : {a b : List ℕ} {at r i n : ℕ} → r ≡ closed → i ≤ n → Pours a at (lines i) b r → Pours a at (lines n) b r
  pours-shut {a} {b} {at} {r} {i} {n} e h x =
      pours-is (pours-stop (between i (n - i)) e x) (sym (lines-on i (n - i)) ∙ ap lines (let z : i + (n - i) ≡ n = omega arith in z))

-- the place by another name
pub pours-at : {a b t : List ℕ} {at r q : ℕ} → Pours a at t b r → r ≡ q → Pours a at t b q
pours-at {a} {b} {t} {at} {r} {q} x e = subst (λ (n : ℕ). Pours a at t b n) e x

-- what was put at the front of some space is the text
pub put_front : (z l t : List ℕ) (r : ℕ) → length t ≤ length z → Put z 0 t l r → take r l ≡ t
unfolding sends-put
put_front z l t r h p = sym (sends-put {a = z} {b = l} {t = t} {at = 0} {r = r} (omega arith) p).order

pub not_none : (n : ℕ) → (n ≡ 0 → ⊥) → 0 < n
not_none zero o = absurd (o refl)
not_none (suc n) o = omega arith

-- ---- a full buffer is written out, and text goes to its front

module _ (b c t : List ℕ) (next from : ℕ) (x : Clears (length b) next from) (some : 0 < length t) (room : length t ≤ length b - from) (put : c ≡ overlay b from t) where
  turn-size : length c ≡ length b
  turn-size = ap length put ∙ length-overlay b from t

  turn-written : take (from + length t) c ≡ take from b ++ t
  turn-written =
      let w : length (take from b ++ t) ≡ from + length t = length-append (take from b) t ∙ ap (λ (k : ℕ). k + length t) (length-take-le from b (omega (arith, room, some))) in
      ap (take (from + length t)) (put ∙ overlay-eq b from t (omega (arith, room, some)))
      ∙ take_at (take from b ++ t) (drop (from + length t) b) (from + length t) w

  turn-sent : next ≤ length b → Usable (length b) → Sends b next t c (from + length t)
  turn-sent h m = elim (ℕ_discrete next (length b)) [
    | yes e ↦
        let z : from ≡ 0 = x.front e (λ k. let w : ⊥ = omega (arith, m.1, room, some) in w) in
        record {
          gone = take next b;
          wholes = 1;
          order = ap (λ (l : List ℕ). take next b ++ l) (sym (turn-written ∙ ap (λ (k : ℕ). take k b ++ t) z));
          whole = ap (λ (k : ℕ). length (take k b)) e ∙ ap length (take-length b) ∙ sym (one-mul (length b));
          needed = λ k. omega (arith, some);
          within = omega (arith, turn-size, room, some);
        }
    | no e ↦
        record {
          gone = [];
          wholes = 0;
          order = sym (turn-written ∙ ap (λ (k : ℕ). take k b ++ t) (x.kept e));
          whole = sym (zero-mul (length b));
          needed = λ k. omega (arith, some);
          within = omega (arith, turn-size, room, some);
        }
  ]

  pub pours-turn : Pours b next t c (from + length t)
  pours-turn = λ m.
      record {
        goes = λ h. record { sent = λ o. turn-sent h m; shut = λ e. absurd (let z : ⊥ = omega (arith, m.1, room, some) in z) };
        stays = λ e. absurd (let k : from ≡ next = x.kept (λ z. let w : ⊥ = omega (arith, m.1, room, some) in w) in let z : ⊥ = omega (arith, m.1, room, some) in z);
        same_length = turn-size;
      }

-- no room was made: the output is closed
module _ {a b s : List ℕ} {at next from : ℕ} (t : List ℕ) (x : Clears (length b) next from) (full : length b ≤ from) (some : 0 < length t) (p : Pours a at s b next) where
  module _ (m : Usable (length a)) where
    flow : Flows a at s b next
    flow = p m

    -- where the output was closed before, it is now
    as_before : next ≡ closed → from ≡ closed
    as_before e = x.kept (λ z. let w = flow.same_length in let k : ⊥ = omega (arith, m.1) in k) ∙ e

    is-shut : at ≤ length a → from ≡ closed
    is-shut h = elim (ℕ_discrete next closed) [
      | yes e ↦ as_before e
      | no e ↦
          let f = (flow.goes h).sent e in
          elim (ℕ_discrete from closed) [
            | yes z ↦ z
            | no z ↦
                absurd (elim (ℕ_discrete next (length b)) [
                  | yes w ↦ let k : from ≡ 0 = x.front w z in let l = flow.same_length in let v : ⊥ = omega (arith, m.0, full, k, l) in v
                  | no w ↦ let k : from ≡ next = x.kept w in w (let q : next ≡ length b = omega (arith, full, f.within) in q)
                ])
          ]
    ]

    over : at ≤ length a → length a < at + length (s ++ t)
    over h = elim (ℕ_discrete next closed) [
      | yes e ↦ let k = (flow.goes h).shut e in let l = length-append s t in omega (arith, k, l)
      | no e ↦
          let f = (flow.goes h).sent e in
          let k = is-shut h in
          let n = sends-length f h in
          let l = length-append s t in
          let w = flow.same_length in
          elim (ℕ_discrete next (length b)) [
            | yes z ↦ omega (arith, some, n, l, w)
            | no z ↦ absurd (let q : from ≡ next = x.kept z in e (sym q ∙ k))
          ]
    ]

  pub pours_stuck : Pours a at (s ++ t) b from
  pours_stuck = λ m.
      record {
        goes = λ h. record { sent = λ o. absurd (o (is-shut m h)); shut = λ e. over m h };
        stays = λ e. let f = (flow m).stays e in (as_before m f.0, f.1);
        same_length = (flow m).same_length;
      }

-- ---- the last text of a program

pub finishes-is : {a b s t : List ℕ} {at : ℕ} {f : Bool} → Finishes a at s b f → s ≡ t → Finishes a at t b f
finishes-is {a} {b} {s} {t} {at} {f} x e = subst (λ (l : List ℕ). Finishes a at l b f) e x

pub finishes-then : {a b c s t : List ℕ} {at r : ℕ} {f : Bool} → Pours a at s b r → Finishes b r t c f → Finishes a at (s ++ t) c f
finishes-then x y = record { end = y.end; poured = pours-then x y.poured; told = y.told }

-- a program that could not write stops
pub finishes-shut : {a b t : List ℕ} {at r : ℕ} → r ≡ closed → Pours a at t b r → Finishes a at t b false
finishes-shut {a} {b} {t} {at} {r} e x =
    record { end = r; poured = x; told = record { nothing = λ z. absurd (let w : ⊥ = omega arith in w); shut = λ z. refl } }

-- where all has room, the text stands at the front of the buffer, and its end is the text's
pub record Stands (t b : List ℕ) (r : ℕ) : Type 0 where
  pub place : r ≡ length t
  pub text : take (length t) b ≡ t

-- a text that has room stands behind what stood before the place: nothing went out
module _ {a b t : List ℕ} {r : ℕ} (m : Usable (length a)) (room : length t ≤ length a) (x : Pours a 0 t b r) where
  open-still : r ≡ closed → ⊥
  open-still e = let z = ((x m).goes (omega arith)).shut e in let w : ⊥ = omega arith in w

  all-sent : Sends a 0 t b r
  all-sent = ((x m).goes (omega arith)).sent open-still

  none_out : (w : ℕ) → w ≡ all-sent.wholes → length all-sent.gone ≡ 0
  none_out zero e = all-sent.whole ∙ ap (λ (k : ℕ). k * length a) (sym e) ∙ zero-mul (length a)
  none_out (suc w) e =
      let p : 0 < r = all-sent.needed (omega arith) in
      let l = sends-length all-sent (omega arith) in
      let k : length all-sent.gone ≡ w * length a + length a = all-sent.whole ∙ ap (λ (j : ℕ). j * length a) (sym e) ∙ suc-mul w (length a) in
      absurd (more (w * length a) k l p)
    where
      more : (v : ℕ) → length all-sent.gone ≡ v + length a → 0 + length t ≡ length all-sent.gone + r → 0 < r → ⊥
      more v k l p = omega arith

  pub stands : Stands t b r
  stands =
      let n = none_out all-sent.wholes refl in
      let l = sends-length all-sent (omega arith) in
      let p : r ≡ length t = omega arith in
      record { place = p; text = ap (λ (k : ℕ). take k b) (sym p) ∙ sym (all-sent.order ∙ ap (λ (g : List ℕ). g ++ take r b) (no_bytes all-sent.gone n)) }
    where
      no_bytes : (g : List ℕ) → length g ≡ 0 → g ≡ []
      no_bytes [] e = refl
      no_bytes (y ∷ g) e = absurd (let w : ⊥ = omega arith in w)

-- ---- in hexadecimal

pub length-hex : (l : List ℕ) → length (hex l) ≡ 2 * length l
length-hex [] = refl
length-hex (b ∷ l) = let z = length-hex l in omega arith

-- k bytes more
pub hex-more : (s : List ℕ) (i k : ℕ) → hex (take (i + k) s) ≡ hex (take i s) ++ hex (take k (drop i s))
hex-more s i k = ap hex (take-add i k s) ∙ hex-append (take i s) (take k (drop i s))
