-- Every list that is read of bytes has a tile and pits below 2 ^ 32. Assumes nothing.
use Rattle.wire.proofs.Basics.{◌∙◌, sym, ◌≡◌, ap, refl, subst, ℕ, ◌<◌, List, [], ◌∷◌, inl, inr, get_or, ℤ, pos, ℕ_discrete}
use Rattle.wire.specs.Bytes.{Bytes}
use Rattle.lmcp.specs.Run.{got, refused}
use Rattle.lmcp.specs.Read.{Read}
use Rattle.lmcp.specs.Lists.{read_list}
use Rattle.lmcp.specs.Spelled.{Element, null, marked, PitsKeep, SpelledBy}
use Rattle.lmcp.proofs.Spells.{pit-list-within}
use Rattle.lmcp.proofs.Answers.{Plain, root-type}
use Rattle.sorted_set.specs.Lists.{In, gather}
use Rattle.count_rules.specs.Marks.{Mark, PitList, list_read, list_in}
use Rattle.count_rules.specs.Spelled.{mark_of, list_with}
use Rattle.count_rules.specs.Keys.{span, Within, AllWithin}
use Rattle.count_rules.proofs.Spells.{list-is, no_other}

marks-within : (es : List Element) → PitsKeep (λ n. n < span) es → (m : Mark) → In m (gather mark_of es) → m.pit < span
marks-within [] f m h = absurd h
marks-within (null ∷ es) f m h = marks-within es f.1 m h
marks-within (marked pit sure at depth ∷ es) f m (inl e) = subst (λ (x : Mark). x.pit < span) (sym e) f.0
marks-within (marked pit sure at depth ∷ es) f m (inr h) = marks-within es f.1 m h

module _ (payload : List ℕ) (b : Bytes payload) where
  -- of a message that is accepted
  read-within : (l : List ℤ) (r : List ℕ) → read_list payload ≡ got l r → AllWithin (list_in payload)
  unfolding list_in list_read
  read-within l r e x h =
      let t : Plain (get_or l 1 (pos 0)) = root-type payload l r e in
      elim (ℕ_discrete t.number 5) [
        | yes five ↦
            let s : SpelledBy (λ n. n < span) l = pit-list-within payload l r b e (t.is ∙ ap pos five) in
            let q : list_in payload ≡ list_with s.spelled.tile s.spelled.elements ∷ [] = ap list_read e ∙ list-is l s.spelled in
            elim (subst (λ (ls : List PitList). In x ls) q h) [
              | inl i ↦ subst Within (sym i) (record { tile = s.tile; pits = marks-within s.spelled.elements s.pits })
              | inr k ↦ absurd k
            ]
        | no five ↦
            absurd (subst (λ (ls : List PitList). In x ls) (no_other payload l r e (λ z. five (let y : pos t.number ≡ pos 5 = sym t.is ∙ z in let w : t.number ≡ 5 = cc in w))) h)
      ]

  pub payload-within : AllWithin (list_in payload)
  unfolding list_in list_read
  payload-within = go (read_list payload) refl
    where
      go : (R : Read) → read_list payload ≡ R → AllWithin (list_in payload)
      go (got l r) e = read-within l r e
      go (refused n) e = λ x h. absurd (subst (λ (X : Read). In x (list_read X)) e h)
