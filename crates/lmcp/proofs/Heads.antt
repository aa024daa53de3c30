-- The heads of objects: what is written reads back, and what is read is written again, for any sound table. Assumes nothing.
use Rattle.wire.proofs.Basics.{◌∙◌, sym, ◌≡◌, ap, refl, subst, ℕ, ◌≤◌, ◌<◌, suc, List, [], ◌∷◌, ◌++◌, append_assoc, true, false, Bool, ◌&&◌, ◌||◌, length, drop, take, length-append, length-drop}
use Rattle.wire.proofs.Basics.{take-append-drop, drop-drop, eqb, ltb, lit<, ℤ, pos, negsuc, eq-eqb, le-ltb, eqb-true, ltb-false, ltb-true, eqb-false, zero-add, arith}
use lib.Signed.{mag}
use Rattle.wire.specs.Choice.{pick}
use Rattle.wire.specs.Bytes.{be, bytes, Bytes}
use Rattle.wire.proofs.Choices.{never, and_l, and_r}
use Rattle.wire.proofs.Numbers.{length-bytes, be-bytes, bytes-be}
use Rattle.lmcp.specs.Limits.{series}
use Rattle.lmcp.specs.Run.{Tag, tag, bad}
use Rattle.lmcp.specs.Table.{Table, Sound}
use Rattle.lmcp.specs.Value.{below}
use Rattle.lmcp.specs.Read.{typed, known, read_header, read_head}
use Rattle.lmcp.specs.Write.{header, typed_by_lem, write_head}
use Rattle.lmcp.proofs.Undo.{tag-unless, tag-where, tag-number, tag-made, tag-rest, not-bad, UndoneTag, UndoesTag}
use Rattle.lmcp.proofs.Values.{front-drop, bytes_rest, bytes_drop, below_mag}

-- ---- types

module _ (T : Table) (t n : ℕ) (e : typed T t n ≡ true) where
  pub typed-least : 0 < n
  unfolding typed
  typed-least = ltb-true 0 n (and_l (ltb 0 n) (ltb n (length T.types)) (and_l (ltb 0 n && ltb n (length T.types)) (eqb t 0 || eqb n t) e))

  pub typed-most : n < length T.types
  unfolding typed
  typed-most = ltb-true n (length T.types) (and_r (ltb 0 n) (ltb n (length T.types)) (and_l (ltb 0 n && ltb n (length T.types)) (eqb t 0 || eqb n t) e))

pub typed_by_mag : (T : Table) (t : ℕ) (z : ℤ) → typed_by_lem T t z ≡ true → (z ≡ pos (mag z)) × (typed T t (mag z) ≡ true)
typed_by_mag T t (pos n) e = (refl, e)
typed_by_mag T t (negsuc n) e = never e refl

module _ (T : Table) (t : ℕ) (b : List ℕ) (e : known T t b ≡ true) where
  pub known-series : be 8 b ≡ series
  unfolding known
  known-series = eqb-true (be 8 b) series (and_l (eqb (be 8 b) series) (eqb (be 2 (drop 12 b)) T.version && typed T t (be 4 (drop 8 b))) e)

  known_more : (eqb (be 2 (drop 12 b)) T.version && typed T t (be 4 (drop 8 b))) ≡ true
  unfolding known
  known_more = and_r (eqb (be 8 b) series) (eqb (be 2 (drop 12 b)) T.version && typed T t (be 4 (drop 8 b))) e

  pub known-version : be 2 (drop 12 b) ≡ T.version
  known-version = eqb-true (be 2 (drop 12 b)) T.version (and_l (eqb (be 2 (drop 12 b)) T.version) (typed T t (be 4 (drop 8 b))) known_more)

  pub known-type : typed T t (be 4 (drop 8 b)) ≡ true
  known-type = and_r (eqb (be 2 (drop 12 b)) T.version) (typed T t (be 4 (drop 8 b))) known_more

-- ---- headers

module _ (T : Table) where
  -- the 14 bytes
  fourteen : ℕ → List ℕ
  fourteen n = bytes 8 series ++ (bytes 4 n ++ bytes 2 T.version)

  pub header-length : (n : ℕ) → length (header T n) ≡ 15
  unfolding header
  header-length n = simp (length-append, length-bytes)

  split : (n : ℕ) (r : List ℕ) → fourteen n ++ r ≡ bytes 8 series ++ (bytes 4 n ++ (bytes 2 T.version ++ r))
  unfolding fourteen
  split n r = append_assoc (bytes 8 series) (bytes 4 n ++ bytes 2 T.version) r ∙ ap (λ (m : List ℕ). bytes 8 series ++ m) (append_assoc (bytes 4 n) (bytes 2 T.version) r)

  module _ (sound : Sound T) where
    header-reads : (t n : ℕ) (r : List ℕ) → typed T t n ≡ true → read_header T t (fourteen n ++ r) ≡ tag n (pos n ∷ []) r
    unfolding read_header known be
    header-reads t n r e =
        let v = T.version in
        let b = fourteen n ++ r in
        let s = split n r in
        let d8 : drop 8 b ≡ bytes 4 n ++ (bytes 2 v ++ r) = ap (drop 8) s ∙ front-drop 8 series (bytes 4 n ++ (bytes 2 v ++ r)) in
        let d12 : drop 12 b ≡ bytes 2 v ++ r = sym (drop-drop 4 8 b) ∙ ap (drop 4) d8 ∙ front-drop 4 n (bytes 2 v ++ r) in
        let d14 : drop 14 b ≡ r = sym (drop-drop 2 12 b) ∙ ap (drop 2) d12 ∙ front-drop 2 v r in
        let n8 : be 8 b ≡ series = ap (be 8) s ∙ be-bytes 8 series (lit< tt) (bytes 4 n ++ (bytes 2 v ++ r)) in
        let n4 : be 4 (drop 8 b) ≡ n = ap (be 4) d8 ∙ be-bytes 4 n (omega (arith, typed-most T t n e, sound.types_fit)) (bytes 2 v ++ r) in
        let n2 : be 2 (drop 12 b) ≡ v = ap (be 2) d12 ∙ be-bytes 2 v sound.version-fits r in
        let l : 14 ≤ length b = rw (s, length-append, length-bytes, length-append, length-bytes, length-append, length-bytes) (omega arith) in
        simp (le-ltb (length b) 14 l, eq-eqb _ _ n8, eq-eqb _ _ n2, n4, e, d14)

    -- 14 bytes that are known are those of their type
    header_is : (t : ℕ) (b : List ℕ) → Bytes b → 14 ≤ length b → known T t b ≡ true → fourteen (be 4 (drop 8 b)) ++ drop 14 b ≡ b
    header_is t b f l e =
        let n = be 4 (drop 8 b) in
        let t8 : bytes 8 series ≡ take 8 b = ap (bytes 8) (sym (known-series T t b e)) ∙ bytes-be 8 b f (omega arith) in
        let t4 : bytes 4 n ≡ take 4 (drop 8 b) = bytes-be 4 (drop 8 b) (bytes_drop 8 b f) (rw length-drop (omega arith)) in
        let t2 : bytes 2 T.version ≡ take 2 (drop 12 b) = ap (bytes 2) (sym (known-version T t b e)) ∙ bytes-be 2 (drop 12 b) (bytes_drop 12 b f) (rw length-drop (omega arith)) in
        split n (drop 14 b)
        ∙ ap (λ (m : List ℕ). bytes 8 series ++ (bytes 4 n ++ m)) (ap (λ (x : List ℕ). x ++ drop 14 b) t2 ∙ ap (λ (x : List ℕ). take 2 (drop 12 b) ++ x) (sym (drop-drop 2 12 b)) ∙ take-append-drop 2 (drop 12 b))
        ∙ ap (λ (m : List ℕ). bytes 8 series ++ m) (ap (λ (x : List ℕ). x ++ drop 12 b) t4 ∙ ap (λ (x : List ℕ). take 4 (drop 8 b) ++ x) (sym (drop-drop 4 8 b)) ∙ take-append-drop 4 (drop 8 b))
        ∙ ap (λ (x : List ℕ). x ++ drop 8 b) t8 ∙ take-append-drop 8 b

  -- ---- heads

  module _ (d t : ℕ) where
    head-cons : (x : ℕ) (b : List ℕ)
        → read_head T d t (x ∷ b) ≡ pick (ltb 1 x) (bad 23) (pick (eqb x 0) (tag 0 (pos 0 ∷ []) b) (pick (eqb d 0) (bad 26) (read_header T t b)))
    unfolding read_head be
    head-cons x b = simp (le-ltb (suc (length b)) 1 (omega arith), zero-add)

    module _ (sound : Sound T) where
      -- written, then read
      some-reads : (z : ℤ) (l : List ℤ) (n : ℕ) (ys : List ℕ) (r : List ℤ) → (e : Bool) → eqb d 0 ≡ e
          → pick e (bad 26) (pick (typed_by_lem T t z) (tag (mag z) (header T (mag z)) l) (bad 24)) ≡ tag n ys r → UndoneTag (read_head T d t) n (z ∷ l) ys r
      unfolding header fourteen
      some-reads z l n ys r true g e = not-bad e
      some-reads z l n ys r false g e =
          let p = tag-where (typed_by_lem T t z) (tag (mag z) (header T (mag z)) l) 24 e in
          let q = typed_by_mag T t z p.0 in
          record {
            front = z ∷ [];
            split = ap (λ (m : List ℤ). z ∷ m) (tag-rest p.1);
            again = λ s.
                ap (λ (b : List ℕ). read_head T d t (b ++ s)) (sym (tag-made p.1))
                ∙ head-cons 1 (fourteen (mag z) ++ s)
                ∙ ap (λ (c : Bool). pick c (bad 26) (read_header T t (fourteen (mag z) ++ s))) g
                ∙ header-reads sound t (mag z) s q.1
                ∙ ap (λ (m : ℕ). tag m (pos (mag z) ∷ []) s) (tag-number p.1) ∙ ap (λ (y : ℤ). tag n (y ∷ []) s) (sym q.0);
          }

      null-reads : (z : ℤ) (l : List ℤ) (n : ℕ) (ys : List ℕ) (r : List ℤ) → (e : Bool) → below 1 z ≡ e
          → pick e (tag 0 (0 ∷ []) l) (pick (eqb d 0) (bad 26) (pick (typed_by_lem T t z) (tag (mag z) (header T (mag z)) l) (bad 24))) ≡ tag n ys r
          → UndoneTag (read_head T d t) n (z ∷ l) ys r
      null-reads z l n ys r true g e =
          let q = below_mag 1 z g in
          let y : pos 0 ≡ z = ap pos (let h : 0 ≡ mag z = omega (arith, q.1) in h) ∙ sym q.0 in
          record {
            front = z ∷ [];
            split = ap (λ (m : List ℤ). z ∷ m) (tag-rest e);
            again = λ s.
                ap (λ (b : List ℕ). read_head T d t (b ++ s)) (sym (tag-made e)) ∙ head-cons 0 s
                ∙ ap (λ (m : ℕ). tag m (pos 0 ∷ []) s) (tag-number e) ∙ ap (λ (y : ℤ). tag n (y ∷ []) s) y;
          }
      null-reads z l n ys r false g e = some-reads z l n ys r (eqb d 0) refl e

      pub head-reads : UndoesTag (λ l. Unit) (write_head T d t) (read_head T d t)
      unfolding write_head
      head-reads [] n ys r g e = not-bad e
      head-reads (z ∷ l) n ys r g e = null-reads z l n ys r (below 1 z) refl e

      -- read, then written
      head_write : (n : ℕ) (l : List ℤ) → eqb d 0 ≡ false → typed T t n ≡ true → write_head T d t (pos n ∷ l) ≡ tag n (header T n) l
      unfolding write_head
      head_write n l g e = rw (le-ltb n 1 (typed-least T t n e), g, e) refl

      some-writes : (b : List ℕ) (n : ℕ) (zs : List ℤ) (r : List ℕ) → Bytes b → eqb d 0 ≡ false → read_header T t b ≡ tag n zs r → UndoneTag (write_head T d t) n (1 ∷ b) zs r
      unfolding read_header header fourteen
      some-writes b n zs r f g e =
          let m = be 4 (drop 8 b) in
          let p = tag-unless (ltb (length b) 14) 25 (pick (known T t b) (tag m (pos m ∷ []) (drop 14 b)) (bad 24)) e in
          let q = tag-where (known T t b) (tag m (pos m ∷ []) (drop 14 b)) 24 p.1 in
          let i = header_is sound t b f (ltb-false (length b) 14 p.0) q.0 in
          record {
            front = header T m;
            split = ap (λ (x : List ℕ). 1 ∷ x) (sym i ∙ ap (λ (x : List ℕ). fourteen m ++ x) (tag-rest q.1));
            again = λ s.
                ap (λ (y : List ℤ). write_head T d t (y ++ s)) (sym (tag-made q.1))
                ∙ head_write m s g (known-type T t b q.0) ∙ ap (λ (k : ℕ). tag k (header T m) s) (tag-number q.1);
          }

      null_write : (l : List ℤ) → write_head T d t (pos 0 ∷ l) ≡ tag 0 (0 ∷ []) l
      unfolding write_head
      null_write l = refl

      writes-by : (x : ℕ) (b : List ℕ) (n : ℕ) (zs : List ℤ) (r : List ℕ) → Bytes (x ∷ b) → x ≤ 1 → (e : Bool) → eqb x 0 ≡ e
          → pick e (tag 0 (pos 0 ∷ []) b) (pick (eqb d 0) (bad 26) (read_header T t b)) ≡ tag n zs r → UndoneTag (write_head T d t) n (x ∷ b) zs r
      writes-by x b n zs r f h true g e =
          record {
            front = 0 ∷ [];
            split = ap (λ (m : ℕ). m ∷ b) (eqb-true x 0 g) ∙ ap (λ (m : List ℕ). 0 ∷ m) (tag-rest e);
            again = λ s.
                ap (λ (y : List ℤ). write_head T d t (y ++ s)) (sym (tag-made e)) ∙ null_write s ∙ ap (λ (k : ℕ). tag k (0 ∷ []) s) (tag-number e);
          }
      writes-by x b n zs r f h false g e =
          let one : 1 ≡ x = omega (arith, eqb-false x 0 g) in
          let p = tag-unless (eqb d 0) 26 (read_header T t b) e in
          subst (λ (y : ℕ). UndoneTag (write_head T d t) n (y ∷ b) zs r) one (some-writes b n zs r (bytes_rest (x ∷ []) b f) p.0 p.1)

      head-empty : (n : ℕ) (zs : List ℤ) (r : List ℕ) → read_head T d t [] ≡ tag n zs r → ⊥
      unfolding read_head
      head-empty n zs r e = not-bad e

      pub head-writes : UndoesTag Bytes (read_head T d t) (write_head T d t)
      head-writes [] n zs r f e = absurd (head-empty n zs r e)
      head-writes (x ∷ b) n zs r f e =
          let p = tag-unless (ltb 1 x) 23 (pick (eqb x 0) (tag 0 (pos 0 ∷ []) b) (pick (eqb d 0) (bad 26) (read_header T t b))) (sym (head-cons x b) ∙ e) in
          writes-by x b n zs r f (ltb-false 1 x p.0) (eqb x 0) refl p.1

-- ---- an object that is not null has a type of the table, and depth is left for it

pub record Some (T : Table) (d n : ℕ) : Type 0 where
  pub deep : 0 < d
  pub within : n < length T.types

-- all that the reader's head passed, where it is of type n
pub record Headed (T : Table) (d t n : ℕ) (b : List ℕ) : Type 0 where
  pub long : ltb (length b) 1 ≡ false
  pub most : ltb 1 (be 1 b) ≡ false
  pub exists : eqb (be 1 b) 0 ≡ false
  pub deep : eqb d 0 ≡ false
  pub enough : ltb (length (drop 1 b)) 14 ≡ false
  pub is_known : known T t (drop 1 b) ≡ true
  pub number : be 4 (drop 8 (drop 1 b)) ≡ n

module _ (T : Table) (d t n : ℕ) (some : n ≡ 0 → ⊥) where
  not_null : {A B : Type 0} (e : Bool) (ys zs : List B) (l r : List A) (X : Tag A B) → pick e (tag 0 ys l) X ≡ tag n zs r → (e ≡ false) × (X ≡ tag n zs r)
  not_null true ys zs l r X q = absurd (some (sym (tag-number q)))
  not_null false ys zs l r X q = (refl, q)

  deep-enough : eqb d 0 ≡ false → 0 < d
  deep-enough e = omega (arith, eqb-false d 0 e)

  pub read-headed : (b : List ℕ) {zs : List ℤ} {r : List ℕ} → read_head T d t b ≡ tag n zs r → Headed T d t n b
  unfolding read_head read_header
  read-headed b {zs} {r} e =
      let m = be 4 (drop 8 (drop 1 b)) in
      let known' = known T t (drop 1 b) in
      let header = pick (ltb (length (drop 1 b)) 14) (bad 25) (pick known' (tag m (pos m ∷ []) (drop 14 (drop 1 b))) (bad 24)) in
      let p = tag-unless (ltb (length b) 1) 25 (pick (ltb 1 (be 1 b)) (bad 23) (pick (eqb (be 1 b) 0) (tag 0 (pos 0 ∷ []) (drop 1 b)) (pick (eqb d 0) (bad 26) header))) e in
      let q = tag-unless (ltb 1 (be 1 b)) 23 (pick (eqb (be 1 b) 0) (tag 0 (pos 0 ∷ []) (drop 1 b)) (pick (eqb d 0) (bad 26) header)) p.1 in
      let o = not_null (eqb (be 1 b) 0) (pos 0 ∷ []) zs (drop 1 b) r (pick (eqb d 0) (bad 26) header) q.1 in
      let g = tag-unless (eqb d 0) 26 header o.1 in
      let h = tag-unless (ltb (length (drop 1 b)) 14) 25 (pick known' (tag m (pos m ∷ []) (drop 14 (drop 1 b))) (bad 24)) g.1 in
      let k = tag-where known' (tag m (pos m ∷ []) (drop 14 (drop 1 b))) 24 h.1 in
      record { long = p.0; most = q.0; exists = o.0; deep = g.0; enough = h.0; is_known = k.0; number = tag-number k.1 }

  pub read_some : (b : List ℕ) {zs : List ℤ} {r : List ℕ} → read_head T d t b ≡ tag n zs r → Some T d n
  read_some b e =
      let h = read-headed b e in
      record { deep = deep-enough h.deep; within = subst (λ (j : ℕ). j < length T.types) h.number (typed-most T t (be 4 (drop 8 (drop 1 b))) (known-type T t (drop 1 b) h.is_known)) }

  pub write-some : (l : List ℤ) {ys : List ℕ} {r : List ℤ} → write_head T d t l ≡ tag n ys r → Some T d n
  unfolding write_head
  write-some [] e = not-bad e
  write-some (z ∷ l) {ys} {r} e =
      let o = not_null (below 1 z) (0 ∷ []) ys l r (pick (eqb d 0) (bad 26) (pick (typed_by_lem T t z) (tag (mag z) (header T (mag z)) l) (bad 24))) e in
      let g = tag-unless (eqb d 0) 26 (pick (typed_by_lem T t z) (tag (mag z) (header T (mag z)) l) (bad 24)) o.1 in
      let k = tag-where (typed_by_lem T t z) (tag (mag z) (header T (mag z)) l) 24 g.1 in
      record { deep = deep-enough g.0; within = subst (λ (j : ℕ). j < length T.types) (tag-number k.1) (typed-most T t (mag z) (typed_by_mag T t z k.0).1) }
