-- The numbers of an accepted PitList: its elements to the end of the numbers are those that its count says, and all fit a key. Assumes nothing.
use Rattle.wire.proofs.Basics.{◌∙◌, sym, ◌≡◌, ap, refl, subst, ℕ, ◌≤◌, suc, zero, List, [], ◌∷◌, ◌++◌, Bool, inl, length, get_or, length-append, ℤ, pos, ne_eqb, arith}
use lib.Signed.{mag}
use Rattle.wire.specs.Bytes.{Bytes}
use Rattle.lmcp.specs.Table.{second}
use Rattle.lmcp.specs.Run.{got}
use Rattle.lmcp.specs.Lists.{read_list}
use Rattle.lmcp.specs.Spelled.{Element, null, marked, spell_element, spell_all, Spelled}
use Rattle.lmcp.proofs.Spells.{pit-list-spelled}
use Rattle.lmcp.proofs.Answers.{Plain, root-type}
use Rattle.sorted_set.specs.Lists.{In, gather}
use Rattle.count_rules.specs.Marks.{PitList, at, marks_in, pit_list_of, list_read, list_in}
use Rattle.count_rules.specs.Keys.{Within}
use Rattle.count_rules.specs.Spelled.{mark_of}
use Rattle.count_rules.proofs.Bounds.{payload-within}
use Rattle.count_rules.proofs.Spells.{mark-is, past_is, list-is}
use Rattle.count_rules.proofs.Steps.{list_of, marks-none}
use Rattle.pit_marks.specs.Enters.{elements_of}

pub element-some : (two : Bool) (e : Element) → 1 ≤ length (spell_element two e)
element-some two null = omega arith
element-some two (marked pit sure at depth) = omega arith

pub elements-some : (two : Bool) (es : List Element) → length es ≤ length (spell_all two es)
elements-some two [] = omega arith
elements-some two (e ∷ es) = omega (arith, length-append (spell_element two e) (spell_all two es), element-some two e, elements-some two es)

marks-are : (two : Bool) (es : List Element) (n : ℕ) → length es ≤ n → marks_in two n (spell_all two es) ≡ gather mark_of es
unfolding marks_in
marks-are two [] n h = marks-none two n
marks-are two (e ∷ es) zero h = absurd (let z : ⊥ = omega arith in z)
marks-are two (e ∷ es) (suc n) h =
    let rest : List ℤ = spell_all two es in
    λ i. mark-is two rest e i ++ (ap (marks_in two n) (past_is two rest e) ∙ marks-are two es n (omega arith)) i

elements-are : (l : List ℤ) (s : Spelled l) → elements_of l ≡ gather mark_of s.elements
elements-are l s = ap elements_of s.numbers ∙ marks-are (second s.version) s.elements (length (spell_all (second s.version) s.elements)) (elements-some (second s.version) s.elements)

-- a payload is the list that its numbers spell
pub record Proper (payload : List ℕ) (l : List ℤ) : Type 0 where
  pub is : list_in payload ≡ list_of (at l 2) (elements_of l) ∷ []
  pub within : Within (list_of (at l 2) (elements_of l))

module _ (payload : List ℕ) (l : List ℤ) (r : List ℕ) (e : read_list payload ≡ got l r) where
  pub proper : Bytes payload → at l 1 ≡ 5 → Proper payload l
  unfolding list_in list_read
  proper b five =
      let t : Plain (get_or l 1 (pos 0)) = root-type payload l r e in
      let q : t.number ≡ 5 = sym (ap mag t.is) ∙ five in
      let s : Spelled l = pit-list-spelled payload l r e (t.is ∙ ap pos q) in
      let tile : s.tile ≡ at l 2 = sym (ap (λ (m : List ℤ). at m 2) s.numbers) in
      let i : list_in payload ≡ list_of (at l 2) (elements_of l) ∷ [] = ap list_read e ∙ (list-is l s ∙ (λ j. list_of (tile j) (sym (elements-are l s) j) ∷ [])) in
      record { is = i; within = payload-within payload b _ (subst (λ (ls : List PitList). In (list_of (at l 2) (elements_of l)) ls) (sym i) (inl refl)) }

  -- another message is none
  pub improper : (at l 1 ≡ 5 → ⊥) → list_in payload ≡ []
  unfolding list_in list_read pit_list_of
  improper n = ap list_read e ∙ rw (ne_eqb (at l 1) 5 n)
