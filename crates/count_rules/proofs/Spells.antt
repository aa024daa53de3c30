-- An accepted PitList is read as it is spelled, in either version, and no other message is a list. Assumes nothing.
use Rattle.wire.proofs.Basics.{◌∙◌, sym, ◌≡◌, ap, refl, ◌+◌, List, [], ◌∷◌, ◌++◌, true, false, Bool, length, drop, ℤ, pos, ne_eqb}
use lib.Signed.{mag}
use Rattle.wire.specs.Choice.{pick}
use Rattle.lmcp.specs.Table.{second}
use Rattle.lmcp.specs.Spelled.{nowhere, spot, Element, null, marked, spell_element, spell_all, Spelled}
use Rattle.lmcp.proofs.Spells.{pit-list-spelled}
use Rattle.lmcp.proofs.Answers.{Plain, root-type}
use Rattle.sorted_set.specs.Lists.{gather}
use Rattle.count_rules.specs.Marks.{Mark, at, mark_length, mark_at, marks_in, pit_list_of, list_read, list_in}
use Rattle.count_rules.specs.Spelled.{mark_of, list_with, ReadAsSpelled, NoOther, EitherVersion}

-- one element, and what stands behind it
module _ (two : Bool) (rest : List ℤ) where
  pub mark-is : (e : Element) → mark_at (spell_element two e ++ rest) ≡ mark_of e
  unfolding mark_at
  mark-is null = refl
  mark-is (marked pit true at depth) = refl
  mark-is (marked pit false at depth) = refl

  pub past_is : (e : Element) → drop (mark_length two (spell_element two e ++ rest)) (spell_element two e ++ rest) ≡ rest
  unfolding mark_length
  past_is null = refl
  past_is (marked pit sure nowhere depth) = go two
    where
      go : (t : Bool) → drop (4 + pick t 1 0) (pos 4 ∷ pos pit ∷ pos (pick sure 1 0) ∷ pos 0 ∷ (pick t (depth ∷ []) [] ++ rest)) ≡ rest
      go true = refl
      go false = refl
  past_is (marked pit sure (spot lat lon height) depth) = go two
    where
      go : (t : Bool) → drop (7 + pick t 1 0) (pos 4 ∷ pos pit ∷ pos (pick sure 1 0) ∷ pos 2 ∷ lat ∷ lon ∷ height ∷ (pick t (depth ∷ []) [] ++ rest)) ≡ rest
      go true = refl
      go false = refl

marks-are : (two : Bool) (es : List Element) → marks_in two (length es) (spell_all two es) ≡ gather mark_of es
unfolding marks_in
marks-are two [] = refl
marks-are two (e ∷ es) =
    let rest : List ℤ = spell_all two es in
    λ i. mark-is two rest e i ++ (ap (marks_in two (length es)) (past_is two rest e) ∙ marks-are two es) i

pub list-is : (l : List ℤ) (s : Spelled l) → pit_list_of l ≡ list_with s.tile s.elements ∷ []
unfolding pit_list_of
list-is l s =
    ap pit_list_of s.numbers ∙ ap (λ (ms : List Mark). record { tile = s.tile; marks = ms } ∷ []) (marks-are (second s.version) s.elements)

pub read_as-spelled : ReadAsSpelled
unfolding list_in list_read
read_as-spelled payload l r e five =
    let s : Spelled l = pit-list-spelled payload l r e five in
    record { spelled = s; list = ap list_read e ∙ list-is l s }

pub no_other : NoOther
unfolding list_in list_read pit_list_of
no_other payload l r e n =
    let t : Plain _ = root-type payload l r e in
    let q : at l 1 ≡ t.number = ap mag t.is in
    ap list_read e ∙ rw (ne_eqb (at l 1) 5 (λ z. n (t.is ∙ ap pos (sym q ∙ z))))

pub either-version : EitherVersion
either-version payload payload' l l' a b t m = a.list ∙ (λ i. record { tile = t i; marks = m i } ∷ []) ∙ sym b.list
