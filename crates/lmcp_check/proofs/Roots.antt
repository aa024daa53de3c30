-- From the walk of a root to what is wrong with it, and from there to what is wrong with the message. Assumes nothing.
use Rattle.wire.proofs.Basics.{◌∙◌, sym, ◌≡◌, ap, refl, subst, ℕ, ◌≤◌, ◌+◌, ◌<◌, ◌-◌, List, [], ◌∷◌, append-nil, true, false, Bool, ◌||◌, not, length, drop, take, length-drop, drop_of_length-le, eqb, ltb, ℤ}
use Rattle.wire.proofs.Basics.{pos, eq-eqb, ne_eqb, ltb-false, arith}
use Rattle.std.proofs.Common.{Result, Ok, Err}
use Rattle.refusals.specs.declared.Refusal.{Refusal}
use Rattle.refusals.specs.Numbers.{number_of}
use Rattle.refusals.proofs.Names.{some_number, same_number}
use Rattle.wire.specs.Choice.{pick}
use Rattle.wire.specs.Bytes.{be}
use Rattle.wire.specs.Same.{same}
use Rattle.lmcp.specs.Limits.{deepest, max_message, magic}
use Rattle.lmcp.specs.Run.{got, refused, prepend, whole}
use Rattle.lmcp.specs.Table.{pitsurv}
use Rattle.lmcp.specs.Read.{Read, reading}
use Rattle.lmcp.specs.Message.{root_of, before, stored, checksum_of, frame, read_message_lem}
use Rattle.lmcp.specs.Lists.{version_of_lem, read_as, read_list}
use Rattle.lmcp.proofs.WalkPlaces.{whole-none, whole-more, root-stops, root-null, root-object}
use Rattle.lmcp_check.specs.Refusal.{refusal_of, told}
use Rattle.lmcp_check.specs.InsideSteps.{read_object, read_root}
use Rattle.lmcp_check.specs.InsideChecks.{Upto, Checks}
use Rattle.lmcp_check.proofs.ReadCases.{head-short, head-null, root-some}
use Rattle.wire.proofs.Choices.{or_l}

-- ---- a root

-- the root, as the code takes it
abbrev pub root : List ℕ → List ℕ
root m = take (length m - 4 - 8) (drop 8 m)

pub root-same : (m : List ℕ) → root m ≡ root_of m
root-same m = let e : length m - 4 - 8 ≡ length m - 12 = omega arith in ap (λ (n : ℕ). take n (drop 8 m)) e

module _ (v : ℕ) (s : List ℕ) where
  stops : (n : ℕ) → read_root v s ≡ refused n → n ≡ refusal_of (whole (read_root v s))
  unfolding whole
  stops n e = ap (λ (X : Read). refusal_of (whole X)) (sym e)

  pub empty-root : length s ≡ 0 → 25 ≡ refusal_of (whole (read_root v s))
  empty-root z = stops 25 (root-stops (reading (pitsurv v)) (pitsurv v) s 25 (head-short (pitsurv v) deepest 0 s (omega arith)))

  pub null-root : 1 ≤ length s → be 1 s ≡ 0 → 23 ≡ refusal_of (whole (read_root v s))
  null-root l z = stops 23 (root-null (reading (pitsurv v)) (pitsurv v) s (head-null (pitsurv v) deepest 0 s l (be 1 s) refl z))

  module _ (some : be 1 s ≡ 0 → ⊥) (end : Result ℕ Refusal) (g : Checks s (read_object v deepest 0 s) end) where
    root_is : read_root v s ≡ read_object v deepest 0 s
    root_is = root-object (reading (pitsurv v)) (pitsurv v) s (root-some (pitsurv v) deepest 0 s some)

    pub root-refused : (e : Refusal) → end ≡ Err e → number_of e ≡ refusal_of (whole (read_root v s))
    root-refused e q = stops (number_of e) (root_is ∙ subst (Checks s (read_object v deepest 0 s)) q g)

    module _ (at : ℕ) (q : end ≡ Ok at) where
      upto : Upto s (read_object v deepest 0 s) (got []) at
      upto = subst (Checks s (read_object v deepest 0 s)) q g

      found : read_root v s ≡ got upto.ys (drop at s)
      unfolding prepend
      found = root_is ∙ upto.whole ∙ ap (λ (m : List ℤ). got m (drop at s)) (append-nil upto.ys)

      pub root-left : (at ≡ length s → ⊥) → 28 ≡ refusal_of (whole (read_root v s))
      root-left d =
          let k : 0 < length (drop at s) = rw length-drop (omega (arith, upto.within, d)) in
          ap refusal_of (sym (ap whole found ∙ whole-more upto.ys (drop at s) k))

      pub root-good : at ≡ length s → 0 ≡ refusal_of (whole (read_root v s))
      root-good d =
          let k : length s ≤ at = omega arith in
          ap refusal_of (sym (ap whole found ∙ whole-none upto.ys (drop at s) (drop_of_length-le s k)))

-- ---- a frame

no-fault : (a b c : Bool) → ◌≡◌ {A = ℕ} (pick a 20 (pick b 21 (pick c 0 22))) 0 → (a ≡ false) × (b ≡ false)
no-fault true b c e = absurd (let z : ⊥ = omega (arith, e) in z)
no-fault false true c e = absurd (let z : ⊥ = omega (arith, e) in z)
no-fault false false c e = (refl, refl)

pub frame-within : (m : List ℕ) → frame m ≡ 0 → (12 ≤ length m) × (length m ≤ max_message)
unfolding frame
frame-within m e =
    let f = no-fault (ltb (length m) 12 || not (same (take 4 m) magic)) (ltb max_message (length m) || not (eqb (length m) (12 + be 4 (drop 4 m)))) (eqb (stored m) 0 || eqb (stored m) (checksum_of (before m))) e in
    (ltb-false (length m) 12 (or_l _ _ f.0), ltb-false max_message (length m) (or_l _ _ f.1))

-- ---- a message

refusal-prepend : (ys : List ℤ) (X : Read) → refusal_of X ≡ refusal_of (prepend ys X)
unfolding prepend
refusal-prepend ys (got zs r) = refl
refusal-prepend ys (refused n) = refl

module _ (m : List ℕ) (n : ℕ) (e : n ≡ frame m) where
  abbrev v : ℕ
  v = version_of_lem (root_of m)

  listed : refusal_of (read_message_lem (pitsurv v) m) ≡ refusal_of (read_list m)
  unfolding read_list read_as
  listed = refusal-prepend (pos v ∷ []) (read_message_lem (pitsurv v) m)

  pub wrong-frame : (n ≡ 0 → ⊥) → n ≡ refusal_of (read_list m)
  unfolding read_message_lem
  wrong-frame z = e ∙ simp (ne_eqb (frame m) 0 (λ q. z (e ∙ q))) at listed

  -- b is the root's bytes, and u its version
  pub wrong-root : n ≡ 0 → (b : List ℕ) → b ≡ root_of m → (u : ℕ) → u ≡ version_of_lem b → (r : ℕ) → r ≡ refusal_of (whole (read_root u b)) → r ≡ refusal_of (read_list m)
  unfolding read_message_lem
  wrong-root z b same u is r h =
      let k : u ≡ v = is ∙ ap version_of_lem same in
      let f : whole (read_root u b) ≡ read_message_lem (pitsurv v) m = ap (λ (l : List ℕ). whole (read_root u l)) same ∙ ap (λ (j : ℕ). whole (read_root j (root_of m))) k ∙ simp (eq-eqb (frame m) 0 (sym e ∙ z)) in
      h ∙ ap refusal_of f ∙ listed

-- ---- no second answer

pub check-once : (r s : Result Unit Refusal) → told r ≡ told s → r ≡ s
check-once (Ok u) (Ok w) e = refl
check-once (Ok u) (Err s) e = absurd (let z : ⊥ = omega (arith, some_number s, e) in z)
check-once (Err r) (Ok w) e = absurd (let z : ⊥ = omega (arith, some_number r, e) in z)
check-once (Err r) (Err s) e = ap Err (same_number r s e)
