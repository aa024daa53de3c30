-- From the walk that writes to the reader's answer: of a root in order, and of a message by what is wrong with it. Assumes nothing.
use Rattle.wire.proofs.Basics.{◌∙◌, sym, ◌≡◌, ap, refl, subst, ℕ, ◌≤◌, ◌<◌, suc, List, [], ◌∷◌, true, false, Bool, length, drop, length-drop, set, length-take, sets, eqb, leb, ℤ, pos, eq-eqb}
use Rattle.wire.proofs.Basics.{eqb-true, le-leb, arith}
use Rattle.wire.specs.Choice.{pick}
use Rattle.lmcp.specs.Limits.{deepest}
use Rattle.lmcp.specs.Found.{Found, Numbers, Refused}
use Rattle.lmcp.specs.Run.{got, refused, prepend, whole}
use Rattle.lmcp.specs.Table.{pitsurv}
use Rattle.lmcp.specs.Read.{Read, read_head}
use Rattle.lmcp.specs.Walk.{is_null, root}
use Rattle.lmcp.specs.Message.{root_of, frame, read_message_lem, found, listed, ReadTo}
use Rattle.lmcp.specs.Lists.{version_of_lem, read_as, read_list}
use Rattle.lmcp.proofs.Answers.{read-refuses}
use Rattle.lmcp.proofs.WalkPlaces.{run_is}
use Rattle.lmcp_check.specs.Refusal.{refusal_of}
use Rattle.lmcp_check.specs.InsideSteps.{read_object, read_root}
use Rattle.lmcp_check.proofs.Roots.{frame-within}
use Rattle.lmcp.specs.InsideAhead.{Lays}
use Rattle.lmcp_reader.specs.InsidePuts.{Ahead, Rooms}
use Rattle.lmcp_reader.proofs.Counts.{few-numbers}

no : {A : Type 0} {zs : List ℤ} {r : List ℕ} {n : ℕ} → ◌≡◌ {A = Read} (refused n) (got zs r) → A
no e = absurd (let z : ◌≡◌ {A = ℕ} 0 1 = cc in omega arith)

-- ---- a root in order

whole-got : (X : Read) (zs : List ℤ) (r : List ℕ) → whole X ≡ got zs r → X ≡ got zs []
unfolding whole
whole-got (got ys []) zs r e = let a : ys ≡ zs = cc in ap (λ (l : List ℤ). got l []) a
whole-got (got ys (x ∷ q)) zs r e = no e
whole-got (refused n) zs r e = no e

root-got : (v : ℕ) (s : List ℕ) (zs : List ℤ) (r : List ℕ) → read_root v s ≡ got zs r → read_object v deepest 0 s ≡ got zs r
unfolding root
root-got v s zs r e = by (is_null (read_head (pitsurv v) deepest 0 s)) e
  where
    by : (b : Bool) → pick b (refused 23) (read_object v deepest 0 s) ≡ got zs r → read_object v deepest 0 s ≡ got zs r
    by true q = no q
    by false q = q

module _ (v : ℕ) (s : List ℕ) (h : Ahead (whole (read_root v s)) 1) where
  numbers : read_object v deepest 0 s ≡ got h.ys []
  numbers = root-got v s h.ys [] (whole-got (read_root v s) h.ys h.rest h.is)

  pub root-ahead : Ahead (read_object v deepest 0 s) 1
  root-ahead = record { ys = h.ys; rest = []; is = numbers; fits = h.fits; small = h.small }

  module _ (list : List ℤ) where
    abbrev Answer : Found → List ℤ → Type 0
    Answer = ReadTo (prepend (pos v ∷ []) (whole (read_root v s))) list

    reads : prepend (pos v ∷ []) (whole (read_root v s)) ≡ got (pos v ∷ h.ys) h.rest
    unfolding prepend
    reads = ap (prepend (pos v ∷ [])) h.is

    module _ (b : Bool) (room : Rooms (read_object v deepest 0 s) (length list) b) where
      is : b ≡ leb (suc (length h.ys)) (length list)
      is = room h.ys [] numbers

      pub list-short : b ≡ false → Answer (Refused 13) list
      unfolding found listed
      list-short z =
          let q : leb (suc (length h.ys)) (length list) ≡ false = sym is ∙ z in
          rw reads (record { gave = simp q; left = simp q })

      pub list-good : b ≡ true → (l1 : List ℤ) → l1 ≡ set list 0 (pos v) → (p n : ℕ) (after : List ℤ) → Lays s l1 1 (read_object v deepest 0 s) p n after → Answer (Numbers n) after
      unfolding found listed
      list-good z l1 o p n after g =
          let q : leb (suc (length h.ys)) (length list) ≡ true = sym is ∙ z in
          let x : got g.ys (drop p s) ≡ got h.ys [] = sym (run_is g) ∙ numbers in
          let a : g.ys ≡ h.ys = cc in
          let m : n ≡ suc (length h.ys) = omega (arith, g.place, ap length a) in
          rw reads
          (record {
            gave = simp q (ap Numbers m);
            left = simp q (g.laid ∙ ap (λ (l : List ℤ). sets l 1 g.ys) o ∙ ap (λ (l : List ℤ). sets (set list 0 (pos v)) 1 l) a);
          })

-- ---- room

module _ (v : ℕ) (s : List ℕ) where
  pub long-list : (room : ℕ) → length s < room → Rooms (read_object v deepest 0 s) room true
  long-list room h zs r e =
      let k = few-numbers v deepest 0 s e in
      let l : suc (length zs) ≤ room = omega (arith, k) in
      sym (le-leb (suc (length zs)) room l)

  pub counted : (room p n : ℕ) {list list' : List ℤ} → Lays s list 1 (read_object v deepest 0 s) p n list' → (b : Bool) → b ≡ leb n room → Rooms (read_object v deepest 0 s) room b
  counted room p n g b is zs r e =
      let x : got g.ys (drop p s) ≡ got zs r = sym (run_is g) ∙ e in
      let a : g.ys ≡ zs = cc in
      let m : n ≡ suc (length zs) = omega (arith, g.place, ap length a) in
      is ∙ ap (λ (k : ℕ). leb k room) m

-- ---- a message

pub answer-refused : (m : List ℕ) (list : List ℤ) (n : ℕ) → n ≡ refusal_of (read_list m) → (n ≡ 0 → ⊥) → ReadTo (read_list m) list (Refused n) list
unfolding found listed
answer-refused m list n e z = by (read_list m) e
  where
    by : (X : Read) → n ≡ refusal_of X → ReadTo X list (Refused n) list
    by (got zs r) q = absurd (z q)
    by (refused k) q = record { gave = ap Refused q; left = refl }

-- a message of which nothing is wrong
pub record Good (m : List ℕ) : Type 0 where
  pub framed : frame m ≡ 0
  pub ahead : Ahead (whole (read_root (version_of_lem (root_of m)) (root_of m))) 1

module _ (m : List ℕ) (e : 0 ≡ refusal_of (read_list m)) where
  abbrev v : ℕ
  v = version_of_lem (root_of m)

  abbrev X : Read
  X = whole (read_root v (root_of m))

  short : length (root_of m) ≤ length m
  short = rw (length-take, length-drop) (omega arith)

  within : (zs : List ℤ) (r : List ℕ) → X ≡ got zs r → frame m ≡ 0 → Ahead X 1
  within zs r q f =
      let k = few-numbers v deepest 0 (root_of m) (root-got v (root_of m) zs [] (whole-got (read_root v (root_of m)) zs r q)) in
      record { ys = zs; rest = r; is = q; fits = omega (arith, k, short, (frame-within m f).1); small = omega arith }

  inner : (b : Bool) → eqb (frame m) 0 ≡ b → (Y : Read) → X ≡ Y → read_list m ≡ prepend (pos v ∷ []) (pick b X (refused (frame m))) → Good m
  unfolding prepend
  inner true f (got zs r) q p = record { framed = eqb-true (frame m) 0 f; ahead = within zs r q (eqb-true (frame m) 0 f) }
  inner true f (refused k) q p =
      let a : read_list m ≡ refused k = p ∙ ap (prepend (pos v ∷ [])) q in
      absurd (let z : ⊥ = omega (arith, (read-refuses m k a).0, e ∙ ap refusal_of a) in z)
  inner false f Y q p = absurd (let z : ⊥ = omega (arith, (read-refuses m (frame m) p).0, e ∙ ap refusal_of p) in z)

  pub good : Good m
  unfolding read_list read_as read_message_lem
  good = inner (eqb (frame m) 0) refl X refl refl

  -- b is the root's bytes, and u its version
  module _ (b : List ℕ) (same : b ≡ root_of m) (u : ℕ) (is : u ≡ version_of_lem b) where
    version-is : u ≡ v
    version-is = is ∙ ap version_of_lem same

    run-is-root : whole (read_root u b) ≡ X
    run-is-root = ap (λ (l : List ℕ). whole (read_root u l)) same ∙ ap (λ (j : ℕ). whole (read_root j (root_of m))) version-is

    pub good-ahead : Ahead (whole (read_root u b)) 1
    good-ahead = subst (λ (Y : Read). Ahead Y 1) (sym run-is-root) good.ahead

    pub answer-good : (list : List ℤ) (r : Found) (after : List ℤ) → ReadTo (prepend (pos u ∷ []) (whole (read_root u b))) list r after → ReadTo (read_list m) list r after
    unfolding read_list read_as read_message_lem
    answer-good list r after h =
        let f : whole (read_root u b) ≡ read_message_lem (pitsurv v) m = run-is-root ∙ simp (eq-eqb (frame m) 0 good.framed) in
        let q : prepend (pos u ∷ []) (whole (read_root u b)) ≡ read_list m = ap (prepend (pos u ∷ [])) f ∙ ap (λ (n : ℕ). prepend (pos n ∷ []) (read_message_lem (pitsurv v) m)) version-is in
        subst (λ (Y : Read). ReadTo Y list r after) q h
