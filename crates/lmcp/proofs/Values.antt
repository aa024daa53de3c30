-- Values and counts: what is written reads back, and what is read is written again, at every width. Assumes nothing.
use Rattle.wire.proofs.Basics.{◌∙◌, sym, ◌≡◌, ap, refl, subst, ℕ, ◌≤◌, ◌+◌, ◌<◌, ◌-◌, suc, zero, ◌*◌, ◌^◌, List, [], ◌∷◌, ◌++◌, true, false, Bool, ◌&&◌, length, drop, take, length-append}
use Rattle.wire.proofs.Basics.{take-append-drop, drop_at, eqb, ltb, ℤ, pos, negsuc, le-ltb, lt-ltb, eqb-true, ltb-false, ltb-true, pow-suc, pow-le-pow_right, arith}
use lib.Signed.{mag}
use lib.Pow.{pow-add}
use lib.Seq.{get_or-append-add}
use Rattle.wire.specs.Choice.{pick}
use Rattle.wire.specs.Bytes.{be, bytes, Bytes}
use Rattle.wire.specs.Signed.{signed, unsigned}
use Rattle.wire.proofs.Choices.{never}
use Rattle.wire.proofs.Numbers.{length-bytes, be-bytes, be-lt, bytes-be}
use Rattle.wire.proofs.Signs.{unsigned_signed, signed-within, unsigned-lt, signed-unsigned}
use Rattle.lmcp.specs.Run.{got, tag}
use Rattle.lmcp.specs.Table.{signed_kind, bool_kind, char_kind}
use Rattle.lmcp.specs.Value.{fault, number_of, below, values, fits, denial}
use Rattle.lmcp.specs.Read.{judged, read_value, read_count}
use Rattle.lmcp.specs.Write.{write_value, write_count}
use Rattle.lmcp.proofs.Undo.{got-unless, got-where, tag-unless, tag-where, got-made, got-rest, tag-number, tag-made, tag-rest, not-refused, not-bad, Undoes, UndoesTag}

-- ---- powers, and the front of a list

pub pow-bytes : (w : ℕ) → 256 ^ w ≡ 2 ^ (8 * w)
pow-bytes zero = refl
pow-bytes (suc w) =
    let e : 8 * suc w ≡ 8 * w + 8 = omega arith in
    pow-suc 256 w ∙ ap (λ (n : ℕ). n * 256) (pow-bytes w) ∙ sym (pow-add 2 (8 * w) 8) ∙ ap (λ (n : ℕ). 2 ^ n) (sym e)

module _ (w u : ℕ) (t : List ℕ) where
  pub front_length : w ≤ length (bytes w u ++ t)
  front_length = rw (length-append, length-bytes) (omega arith)

  pub front-drop : drop w (bytes w u ++ t) ≡ t
  front-drop = drop_at (bytes w u) t w (length-bytes w u)

pub bytes_rest : (a b : List ℕ) → Bytes (a ++ b) → Bytes b
bytes_rest a b h i = subst (λ (n : ℕ). n < 256) (get_or-append-add a b i 0) (h (length a + i))

pub bytes_drop : (k : ℕ) (b : List ℕ) → Bytes b → Bytes (drop k b)
bytes_drop k b h = bytes_rest (take k b) (drop k b) (subst Bytes (sym (take-append-drop k b)) h)

-- ---- a number z of the list and the value v of w bytes that stand for each other

pub record Stands (k w : ℕ) (z : ℤ) (v : ℕ) : Type 0 where
  pub small : v < 256 ^ w
  pub sound : fault k v ≡ 0
  pub number : number_of k w v ≡ z
  pub taken : fits k w z ≡ true
  pub value : unsigned (8 * w) z ≡ v

module _ (w : ℕ) (least : 1 ≤ w) where
  width : 1 ≤ 8 * w
  width = omega arith

  byte-or-more : 256 ≤ 256 ^ w
  byte-or-more = let p : 256 ^ 1 ≤ 256 ^ w = pow-le-pow_right {n = 256} (omega arith) least in p

  signed-stands : (z : ℤ) → mag z < 2 ^ (8 * w - 1) → Stands signed_kind w z (unsigned (8 * w) z)
  unfolding fault number_of fits
  signed-stands z h =
      record {
        small = rw pow-bytes (unsigned-lt (8 * w) z width h);
        sound = refl;
        number = signed-unsigned (8 * w) z width h;
        taken = lt-ltb (mag z) (2 ^ (8 * w - 1)) h;
        value = refl;
      }

  bool-stands : (n : ℕ) → n < 2 → Stands bool_kind w (pos n) n
  unfolding fault number_of fits values
  bool-stands n h = record { small = omega (arith, byte-or-more); sound = rw (le-ltb 1 n (omega arith)) refl; number = refl; taken = lt-ltb n 2 h; value = refl }

  char-stands : (n : ℕ) → n < 128 → Stands char_kind w (pos n) n
  unfolding fault number_of fits values
  char-stands n h = record { small = omega (arith, byte-or-more); sound = rw (le-ltb 127 n (omega arith)) refl; number = refl; taken = lt-ltb n 128 h; value = refl }

  plain-stands : (k n : ℕ) → eqb k signed_kind ≡ false → eqb k bool_kind ≡ false → eqb k char_kind ≡ false → n < 2 ^ (8 * w) → Stands k w (pos n) n
  unfolding fault number_of fits values
  plain-stands k n e1 e2 e3 h =
      record { small = rw pow-bytes h; sound = simp (e2, e3); number = simp e1; taken = simp (e1, e2, e3) (lt-ltb n (2 ^ (8 * w)) h); value = refl }

  -- a number that fits is written as a value that stands for it
  below_by : (k : ℕ) (z : ℤ) → eqb k signed_kind ≡ false → (t2 t3 : Bool) → eqb k bool_kind ≡ t2 → eqb k char_kind ≡ t3
      → below (pick t2 2 (pick t3 128 (2 ^ (8 * w)))) z ≡ true → Stands k w z (unsigned (8 * w) z)
  below_by k (negsuc n) e1 t2 t3 e2 e3 f = never f refl
  below_by k (pos n) e1 true t3 e2 e3 f =
      subst (λ (j : ℕ). Stands j w (pos n) n) (sym (eqb-true k bool_kind e2)) (bool-stands n (ltb-true n 2 f))
  below_by k (pos n) e1 false true e2 e3 f =
      subst (λ (j : ℕ). Stands j w (pos n) n) (sym (eqb-true k char_kind e3)) (char-stands n (ltb-true n 128 f))
  below_by k (pos n) e1 false false e2 e3 f = plain-stands k n e1 e2 e3 (ltb-true n (2 ^ (8 * w)) f)

  fits_by : (k : ℕ) (z : ℤ) (t : Bool) → eqb k signed_kind ≡ t → pick t (ltb (mag z) (2 ^ (8 * w - 1))) (below (values k w) z) ≡ true → Stands k w z (unsigned (8 * w) z)
  unfolding values
  fits_by k z true e f =
      subst (λ (j : ℕ). Stands j w z (unsigned (8 * w) z)) (sym (eqb-true k signed_kind e)) (signed-stands z (ltb-true (mag z) (2 ^ (8 * w - 1)) f))
  fits_by k z false e f = below_by k z e (eqb k bool_kind) (eqb k char_kind) refl refl f

  pub fits-stands : (k : ℕ) (z : ℤ) → fits k w z ≡ true → Stands k w z (unsigned (8 * w) z)
  unfolding fits
  fits-stands k z f = fits_by k z (eqb k signed_kind) refl f

  -- a value that is read stands for its number
  plain_by : (k v : ℕ) → eqb k signed_kind ≡ false → v < 256 ^ w → (t2 t3 : Bool) → eqb k bool_kind ≡ t2 → eqb k char_kind ≡ t3
      → ◌≡◌ {A = ℕ} (pick (t2 && ltb 1 v) 23 (pick (t3 && ltb 127 v) 27 0)) 0 → Stands k w (pos v) v
  plain_by k v e1 h true t3 e2 e3 f =
      subst (λ (j : ℕ). Stands j w (pos v) v) (sym (eqb-true k bool_kind e2))
      (bool-stands v (let l : v ≤ 1 = ltb-false 1 v (none (ltb 1 v) (pick (t3 && ltb 127 v) 27 0) f) in omega arith))
    where
      none : (t : Bool) (n : ℕ) → pick t 23 n ≡ 0 → t ≡ false
      none true n e = absurd (let z : ⊥ = omega arith in z)
      none false n e = refl
  plain_by k v e1 h false true e2 e3 f =
      subst (λ (j : ℕ). Stands j w (pos v) v) (sym (eqb-true k char_kind e3))
      (char-stands v (let l : v ≤ 127 = ltb-false 127 v (none (ltb 127 v) f) in omega arith))
    where
      none : (t : Bool) → ◌≡◌ {A = ℕ} (pick t 27 0) 0 → t ≡ false
      none true e = absurd (let z : ⊥ = omega arith in z)
      none false e = refl
  plain_by k v e1 h false false e2 e3 f = plain-stands k v e1 e2 e3 (subst (λ (n : ℕ). v < n) (pow-bytes w) h)

  read_by : (k v : ℕ) → v < 256 ^ w → fault k v ≡ 0 → (t : Bool) → eqb k signed_kind ≡ t → Stands k w (pick t (signed (8 * w) v) (pos v)) v
  unfolding fault
  read_by k v h f true e =
      let b : v < 2 ^ (8 * w) = subst (λ (n : ℕ). v < n) (pow-bytes w) h in
      subst (λ (j : ℕ). Stands j w (signed (8 * w) v) v) (sym (eqb-true k signed_kind e))
      (subst (λ (u : ℕ). Stands signed_kind w (signed (8 * w) v) u) (unsigned_signed (8 * w) v b) (signed-stands (signed (8 * w) v) (signed-within (8 * w) v width b)))
  read_by k v h f false e = plain_by k v e h (eqb k bool_kind) (eqb k char_kind) refl refl f

  pub sound-stands : (k v : ℕ) → v < 256 ^ w → fault k v ≡ 0 → Stands k w (number_of k w v) v
  unfolding number_of
  sound-stands k v h f = read_by k v h f (eqb k signed_kind) refl

  -- ---- values

  module _ (k : ℕ) where
    reads : (z : ℤ) (v : ℕ) (t : List ℕ) → Stands k w z v → read_value k w (bytes w v ++ t) ≡ got (z ∷ []) t
    unfolding read_value judged
    reads z v t s = rw (le-ltb _ _ (front_length w v t), be-bytes w v s.small t, s.sound, s.number, front-drop w v t) refl

    pub value-reads : Undoes (λ l. Unit) (write_value k w) (read_value k w)
    unfolding write_value
    value-reads [] ys r g e = not-refused e
    value-reads (z ∷ l) ys r g e =
        let p = got-where (fits k w z) (got (bytes w (unsigned (8 * w) z)) l) (denial k) e in
        record {
          front = z ∷ [];
          split = ap (λ (m : List ℤ). z ∷ m) (got-rest p.1);
          again = λ t. ap (λ (b : List ℕ). read_value k w (b ++ t)) (sym (got-made p.1)) ∙ reads z (unsigned (8 * w) z) t (fits-stands k z p.0);
        }

    writes : (z : ℤ) (v : ℕ) (t : List ℤ) → Stands k w z v → write_value k w (z ∷ t) ≡ got (bytes w v) t
    unfolding write_value
    writes z v t s = rw (s.taken, s.value) refl

    pub value-writes : Undoes Bytes (read_value k w) (write_value k w)
    unfolding read_value judged
    value-writes b zs r f e =
        let v = be w b in
        let p = got-unless (ltb (length b) w) 25 (judged k w v (drop w b)) e in
        let q = got-where (eqb (fault k v) 0) (got (number_of k w v ∷ []) (drop w b)) (fault k v) p.1 in
        let s = sound-stands k v (be-lt w b f) (eqb-true (fault k v) 0 q.0) in
        let tk : bytes w v ≡ take w b = bytes-be w b f (ltb-false (length b) w p.0) in
        record {
          front = take w b;
          split = sym (take-append-drop w b) ∙ ap (λ (m : List ℕ). take w b ++ m) (got-rest q.1);
          again = λ t.
              ap (λ (y : List ℤ). write_value k w (y ++ t)) (sym (got-made q.1))
              ∙ writes (number_of k w v) v t s ∙ ap (λ (m : List ℕ). got m t) tk;
        }

-- ---- counts

pub below_mag : (n : ℕ) (z : ℤ) → below n z ≡ true → (z ≡ pos (mag z)) × (mag z < n)
below_mag n (pos k) e = (refl, ltb-true k n e)
below_mag n (negsuc k) e = never e refl

module _ (w : ℕ) where
  count-read : (n : ℕ) (t : List ℕ) → n < 256 ^ w → read_count w (bytes w n ++ t) ≡ tag n (pos n ∷ []) t
  unfolding read_count
  count-read n t h = rw (le-ltb _ _ (front_length w n t), be-bytes w n h t, front-drop w n t) refl

  pub count-reads : UndoesTag (λ l. Unit) (write_count w) (read_count w)
  unfolding write_count
  count-reads [] n ys r g e = not-bad e
  count-reads (z ∷ l) n ys r g e =
      let p = tag-where (below (2 ^ (8 * w)) z) (tag (mag z) (bytes w (mag z)) l) 29 e in
      let q = below_mag (2 ^ (8 * w)) z p.0 in
      record {
        front = z ∷ [];
        split = ap (λ (m : List ℤ). z ∷ m) (tag-rest p.1);
        again = λ t.
            ap (λ (b : List ℕ). read_count w (b ++ t)) (sym (tag-made p.1))
            ∙ count-read (mag z) t (rw pow-bytes q.1)
            ∙ ap (λ (m : ℕ). tag m (pos (mag z) ∷ []) t) (tag-number p.1) ∙ ap (λ (y : ℤ). tag n (y ∷ []) t) (sym q.0);
      }

  count_write : (n : ℕ) (t : List ℤ) → n < 2 ^ (8 * w) → write_count w (pos n ∷ t) ≡ tag n (bytes w n) t
  unfolding write_count
  count_write n t h = rw (lt-ltb n (2 ^ (8 * w)) h) refl

  pub count-writes : UndoesTag Bytes (read_count w) (write_count w)
  unfolding read_count
  count-writes b n zs r f e =
      let v = be w b in
      let p = tag-unless (ltb (length b) w) 25 (tag v (pos v ∷ []) (drop w b)) e in
      let h : v < 2 ^ (8 * w) = subst (λ (m : ℕ). v < m) (pow-bytes w) (be-lt w b f) in
      let tk : bytes w v ≡ take w b = bytes-be w b f (ltb-false (length b) w p.0) in
      record {
        front = take w b;
        split = sym (take-append-drop w b) ∙ ap (λ (m : List ℕ). take w b ++ m) (tag-rest p.1);
        again = λ t.
            ap (λ (y : List ℤ). write_count w (y ++ t)) (sym (tag-made p.1)) ∙ count_write v t h
            ∙ ap (λ (m : List ℕ). tag v m t) tk ∙ ap (λ (m : ℕ). tag m (take w b) t) (tag-number p.1);
      }
