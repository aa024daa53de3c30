-- Laws of membership, of `gather` and of `map`. Assumes nothing.
use Rattle.wire.proofs.Basics.{◌∙◌, sym, ◌≡◌, ap, refl, subst, ℕ, ◌<◌, suc, zero, List, [], ◌∷◌, ◌++◌, append_assoc, map, inl, inr, ◌⊎◌, length, get_or, arith}
use Rattle.sorted_set.specs.Lists.{In, SameMembers, gather}

module _ {A : Type 0} where
  pub in_left : (x : A) (l m : List A) → In x l → In x (l ++ m)
  in_left x [] m h = absurd h
  in_left x (y ∷ l) m (inl e) = inl e
  in_left x (y ∷ l) m (inr h) = inr (in_left x l m h)

  pub in_right : (x : A) (l m : List A) → In x m → In x (l ++ m)
  in_right x [] m h = h
  in_right x (y ∷ l) m h = inr (in_right x l m h)

  pub in_either : (x : A) (l m : List A) → In x (l ++ m) → In x l ⊎ In x m
  in_either x [] m h = inr h
  in_either x (y ∷ l) m (inl e) = inl (inl e)
  in_either x (y ∷ l) m (inr h) = elim (in_either x l m h) [ inl k ↦ inl (inr k) | inr k ↦ inr k ]

  pub flipped : {l m : List A} → SameMembers l m → SameMembers m l
  flipped s = record { there = s.back; back = s.there }

  pub chained : {l m n : List A} → SameMembers l m → SameMembers m n → SameMembers l n
  chained s t = record { there = λ x h. t.there x (s.there x h); back = λ x h. s.back x (t.back x h) }

  pub in-at : (l : List A) (i : ℕ) (d : A) → i < length l → In (get_or l i d) l
  in-at [] i d h = absurd (let z : ⊥ = omega arith in z)
  in-at (x ∷ l) zero d h = inl refl
  in-at (x ∷ l) (suc i) d h = inr (in-at l i d (omega arith))

  pub record Place (l : List A) (d x : A) : Type 0 where
    pub i : ℕ
    pub inside : i < length l
    pub here : x ≡ get_or l i d

  pub place : (l : List A) (d x : A) → In x l → Place l d x
  place [] d x h = absurd h
  place (y ∷ l) d x (inl e) = record { i = 0; inside = omega arith; here = e }
  place (y ∷ l) d x (inr h) =
      let p : Place l d x = place l d x h in
      record { i = suc p.i; inside = omega (arith, p.inside); here = p.here }

module _ {A B : Type 0} (h : A → List B) where
  pub gather_in : (l : List A) (x : A) (y : B) → In x l → In y (h x) → In y (gather h l)
  gather_in [] x y i k = absurd i
  gather_in (z ∷ l) x y (inl e) k = in_left y (h z) (gather h l) (subst (λ (w : A). In y (h w)) e k)
  gather_in (z ∷ l) x y (inr i) k = in_right y (h z) (gather h l) (gather_in l x y i k)

  pub record Source (l : List A) (y : B) : Type 0 where
    pub x : A
    pub inside : In x l
    pub gives : In y (h x)

  pub gather-from : (l : List A) (y : B) → In y (gather h l) → Source l y
  gather-from [] y k = absurd k
  gather-from (z ∷ l) y k = elim (in_either y (h z) (gather h l) k) [
    | inl a ↦ record { x = z; inside = inl refl; gives = a }
    | inr a ↦ let s : Source l y = gather-from l y a in record { x = s.x; inside = inr s.inside; gives = s.gives }
  ]

  pub gather-sub : (l m : List A) → ((x : A) → In x l → In x m) → (y : B) → In y (gather h l) → In y (gather h m)
  gather-sub l m f y k = let s : Source l y = gather-from l y k in gather_in m s.x y (f s.x s.inside) s.gives

  -- what is gathered depends on the members only
  pub gather-same : (l m : List A) → SameMembers l m → SameMembers (gather h l) (gather h m)
  gather-same l m s = record { there = gather-sub l m s.there; back = gather-sub m l s.back }

  pub gather_append : (l m : List A) → gather h (l ++ m) ≡ gather h l ++ gather h m
  gather_append [] m = refl
  gather_append (x ∷ l) m = ap (λ (n : List B). h x ++ n) (gather_append l m) ∙ sym (append_assoc (h x) (gather h l) (gather h m))

module _ {A B : Type 0} (h : A → B) where
  pub map_in_lem : (l : List A) (x : A) → In x l → In (h x) (map h l)
  map_in_lem [] x i = absurd i
  map_in_lem (y ∷ l) x (inl e) = inl (ap h e)
  map_in_lem (y ∷ l) x (inr i) = inr (map_in_lem l x i)

  pub record Origin (l : List A) (y : B) : Type 0 where
    pub x : A
    pub inside : In x l
    pub gives : y ≡ h x

  pub map-from : (l : List A) (y : B) → In y (map h l) → Origin l y
  map-from [] y i = absurd i
  map-from (z ∷ l) y (inl e) = record { x = z; inside = inl refl; gives = e }
  map-from (z ∷ l) y (inr i) = let s : Origin l y = map-from l y i in record { x = s.x; inside = inr s.inside; gives = s.gives }
