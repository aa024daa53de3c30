-- Whether a limit is passed depends only on which payloads are delivered, not on their order, nor on how often each is. Assumes nothing.
use Rattle.wire.proofs.Basics.{◌∙◌, sym, ◌≡◌, refl, subst, ℕ, ◌≤◌, zero-le, List, [], ◌∷◌, ◌++◌, true, false, Bool, inl, inr, length, eqb, ltb, eq-eqb, le-ltb, eqb-true, ltb-false, arith}
use Rattle.wire.specs.Choice.{pick}
use Rattle.wire.proofs.Choices.{never, either}
use Rattle.lmcp.specs.Lists.{read_list}
use Rattle.sorted_set.specs.Lists.{In, SameMembers, gather, rising}
use Rattle.sorted_set.proofs.Members.{flipped, gather-sub, gather-same}
use Rattle.sorted_set.proofs.Rises.{distinct-less, distinct-fewer}
use Rattle.count_rules.specs.Marks.{PitList, list_in}
use Rattle.count_rules.specs.Report.{under, pit_of_lem, tiles, pits}
use Rattle.count_rules.specs.Count.{max_tiles, max_pits, pits_in_all, too_long, fault, first_fault}
use Rattle.count_rules.specs.Walk.{seen_after}
use Rattle.count_rules.proofs.Seen.{seen_more, seen_members}

-- neither over 256 tiles nor over 8,192 pits in all
record Limited (ls : List PitList) : Type 0 where
  few-tiles : length (tiles ls) ≤ max_tiles
  few-pits : pits_in_all ls ≤ max_pits

fewer : (ls ms : List PitList) → ((l : PitList) → In l ls → In l ms) → Limited ms → Limited ls
fewer ls ms c m =
    let h : PitList → List ℕ = λ l. l.tile ∷ [] in
    let a : length (tiles ls) ≤ length (tiles ms) = distinct-fewer (gather h ls) (gather h ms) (gather-sub h ls ms c) in
    let b : pits_in_all ls ≤ pits_in_all ms = distinct-less (λ t. length (pits ls t)) (λ t. length (pits ms t))
    (λ t. distinct-fewer _ _ (gather-sub (λ l. gather pit_of_lem (under t l)) ls ms c)) (gather h ls) (gather h ms) (gather-sub h ls ms c) in
    record { few-tiles = omega (arith, m.few-tiles); few-pits = omega (arith, m.few-pits) }

none-limited : Limited []
unfolding rising
none-limited = record { few-tiles = zero-le; few-pits = zero-le }

module _ (room : ℕ) where
  abbrev Short : List ℕ → Type 0
  Short p = too_long room (read_list p) ≡ false

  -- nothing stands against a payload
  no-fault : (seen : List PitList) (p : List ℕ) → Short p → Limited (list_in p ++ seen) → fault room seen p ≡ 0
  unfolding fault
  no-fault seen p s m = rw (s, le-ltb max_tiles (length (tiles (list_in p ++ seen))) m.few-tiles, le-ltb max_pits (pits_in_all (list_in p ++ seen)) m.few-pits)

  record Passed (seen : List PitList) (p : List ℕ) : Type 0 where
    short : Short p
    limited : Limited (list_in p ++ seen)

  passed : (seen : List PitList) (p : List ℕ) → fault room seen p ≡ 0 → Passed seen p
  unfolding fault
  passed seen p e = go (too_long room (read_list p)) refl (ltb max_tiles (length (tiles (list_in p ++ seen)))) refl (ltb max_pits (pits_in_all (list_in p ++ seen))) refl e
    where
      go : (a : Bool) → too_long room (read_list p) ≡ a → (b : Bool) → ltb max_tiles (length (tiles (list_in p ++ seen))) ≡ b
          → (c : Bool) → ltb max_pits (pits_in_all (list_in p ++ seen)) ≡ c → ◌≡◌ {A = ℕ} (pick a 13 (pick b 60 (pick c 61 0))) 0 → Passed seen p
      go true x b y c z e = absurd (let z : ⊥ = omega arith in z)
      go false x true y c z e = absurd (let z : ⊥ = omega arith in z)
      go false x false y true z e = absurd (let z : ⊥ = omega arith in z)
      go false x false y false z e = record { short = x; limited = record { few-tiles = ltb-false max_tiles _ y; few-pits = ltb-false max_pits _ z } }

  -- ---- nothing stands against any of them exactly when each fits and the lists are limited

  all_pass_lem : (seen : List PitList) (ps : List (List ℕ)) → ((p : List ℕ) → In p ps → Short p) → Limited (seen_after seen ps) → first_fault room seen ps ≡ 0
  unfolding first_fault
  all_pass_lem seen [] s m = refl
  all_pass_lem seen (p ∷ ps) s m =
      let z : fault room seen p ≡ 0 = no-fault seen p (s p (inl refl)) (fewer (list_in p ++ seen) (seen_after seen (p ∷ ps)) (seen_more seen p ps) m) in
      rw (eq-eqb (fault room seen p) 0 z) (all_pass_lem (list_in p ++ seen) ps (λ x h. s x (inr h)) m)

  record AllPassed (seen : List PitList) (ps : List (List ℕ)) : Type 0 where
    short : (p : List ℕ) → In p ps → Short p
    limited : Limited (seen_after seen ps)

  all-passed : (seen : List PitList) (ps : List (List ℕ)) → Limited seen → first_fault room seen ps ≡ 0 → AllPassed seen ps
  unfolding first_fault
  all-passed seen [] m e = record { short = λ p h. absurd h; limited = m }
  all-passed seen (p ∷ ps) m e = elim (either (eqb (fault room seen p) 0)) [
    | inl t ↦
        let a : Passed seen p = passed seen p (eqb-true (fault room seen p) 0 t) in
        let r : AllPassed (list_in p ++ seen) ps = all-passed (list_in p ++ seen) ps a.limited (rw t at e) in
        record { short = λ x h. elim h [ inl q ↦ subst Short (sym q) a.short | inr k ↦ r.short x k ]; limited = r.limited }
    | inr t ↦ never (eq-eqb (fault room seen p) 0 (rw t at e)) t
  ]

  -- nothing stands against the one's payloads when nothing stands against the other's
  goes_over : (ps qs : List (List ℕ)) → SameMembers ps qs → first_fault room [] ps ≡ 0 → first_fault room [] qs ≡ 0
  goes_over ps qs c e =
      let a : AllPassed [] ps = all-passed [] ps none-limited e in
      all_pass_lem [] qs (λ p h. a.short p (c.back p h)) (fewer (seen_after [] qs) (seen_after [] ps)
      (λ l h. (seen_members ps).back l ((gather-same list_in ps qs c).back l ((seen_members qs).there l h))) a.limited)

  pub same-faults : (ps qs : List (List ℕ)) → SameMembers ps qs → eqb (first_fault room [] ps) 0 ≡ eqb (first_fault room [] qs) 0
  same-faults ps qs c = elim (either (eqb (first_fault room [] ps) 0)) [
    | inl t ↦ t ∙ sym (eq-eqb (first_fault room [] qs) 0 (goes_over ps qs c (eqb-true (first_fault room [] ps) 0 t)))
    | inr t ↦ elim (either (eqb (first_fault room [] qs) 0)) [
      | inl u ↦ never (eq-eqb (first_fault room [] ps) 0 (goes_over qs ps (flipped c) (eqb-true (first_fault room [] qs) 0 u))) t
      | inr u ↦ t ∙ sym u
    ]
  ]
