-- What the code finds in a payload, by cases, is what the contract says. Assumes nothing.
use Rattle.wire.proofs.Basics.{◌∙◌, sym, ◌≡◌, ap, refl, subst, ℕ, ◌≤◌, List, true, false, Bool, length, take, eqb, leb, ℤ, eq-eqb, ne_eqb, lt-ltb, leb-false, arith}
use Rattle.wire.specs.Choice.{pick}
use Rattle.lmcp.specs.Found.{Found}
use Rattle.lmcp.specs.Found as found
use Rattle.lmcp.specs.Run.{got, refused}
use Rattle.lmcp.specs.Read.{Read}
use Rattle.lmcp.specs.Message.{found, ReadTo}
use Rattle.lmcp.specs.Lists.{read_list}
use Rattle.lmcp.proofs.Answers.{read-refuses}
use Rattle.lmcp.proofs.Lent.{Listed, read}
use Rattle.count_rules.specs.Marks.{at}
use Rattle.count_rules.specs.Count.{too_long}
use Rattle.count_rules.proofs.Answered.{payload-read}
use Rattle.pit_marks.specs.declared.Sizes.{Sizes}
use Rattle.pit_marks.specs.Taken.{Taken}
use Rattle.pit_marks.specs.Sets.{Sets}
use Rattle.pit_marks.specs.Enters.{EntersList}
use Rattle.pit_payloads.specs.Looked.{Looked}
use Rattle.pit_payloads.specs.Looked as looked
use Rattle.pit_payloads.specs.Looks.{book, Left, left, looked_by, in_numbers, in_read, Leaves, Looks}
use Rattle.pit_payloads.specs.Inside.{unread_by}

-- ---- the numbers of a message, by whether they are a list's

module _ (l : List ℤ) (x : Sets) (had : Sizes) (r : Looked) (b : Bool) (e : b ≡ eqb (at l 1) 5) where
  pub no-list : b ≡ false → r ≡ looked.Other → Leaves (in_numbers l x had) r x
  no-list f q = rw (sym e ∙ f) (record { gave = q; sets-left = refl })

  pub is-list : b ≡ true → (x' : Sets) (a : Taken) → EntersList l x had a x' → r ≡ looked_by a → Leaves (in_numbers l x had) r x'
  is-list f x' a L q = rw (sym e ∙ f) (record { gave = q ∙ ap looked_by L.gave; sets-left = L.left })

-- ---- a payload, by what the reader answers

-- the reader refuses by 20 or more, and by 13 only a list that is too short
unread : (R : Read) → ((k : ℕ) → R ≡ refused k → 20 ≤ k) → (room n : ℕ) → found.Refused n ≡ found R room → (x : Sets) (had : Sizes)
    → in_read room R x had ≡ left (unread_by had n) x
unfolding found
unread (got l rest) w room n e x had = go (leb (length l) room) refl e
  where
    go : (b : Bool) → leb (length l) room ≡ b → found.Refused n ≡ pick b (found.Numbers (length l)) (found.Refused 13) → in_read room (got l rest) x had ≡ left (unread_by had n) x
    go true o q = absurd (let z : ◌≡◌ {A = ℕ} 0 1 = cc in let y : ⊥ = omega arith in y)
    go false o q = let m : n ≡ 13 = cc in rw (lt-ltb room (length l) (leb-false (length l) room o), eq-eqb n 13 m)
unread (refused k) w room n e x had =
    let m : n ≡ k = cc in
    let b : 20 ≤ k = w k refl in
    rw (ne_eqb n 13 (λ z. let y : ⊥ = omega arith in y))

module _ (payload : List ℕ) (list list' : List ℤ) (f : Found) (R : ReadTo (read_list payload) list f list') where
  so : (g : Found) → f ≡ g → ReadTo (read_list payload) list g list'
  so g e = subst (λ (x : Found). ReadTo (read_list payload) list x list') e R

  -- so many numbers are no more than the list holds
  pub fewer : (n : ℕ) → f ≡ found.Numbers n → length list' ≡ length list → n ≤ length list'
  fewer n e q = omega (arith, (read (read_list payload) list n list' (so (found.Numbers n) e)).within, q)

  module _ (x : Sets) (had : Sizes) (r : Looked) where
    pub payload-read-to : (n : ℕ) → f ≡ found.Numbers n → (x' : Sets) → Leaves (in_numbers (take n list') x had) r x' → Looks payload (book list x) had r (book list' x')
    payload-read-to n e x' T =
        let L : Listed (read_list payload) list n list' = read (read_list payload) list n list' (so (found.Numbers n) e) in
        let is : read_list payload ≡ got (take n list') L.rest = L.is ∙ ap (λ (z : List ℤ). got z L.rest) (sym L.front) in
        let fits : too_long (length list) (got (take n list') L.rest) ≡ false =
        ap (too_long (length list)) (sym is) ∙ (payload-read payload list n list' (so (found.Numbers n) e)).fits in
        let q : in_read (length list) (read_list payload) x had ≡ in_numbers (take n list') x had = ap (λ (y : Read). in_read (length list) y x had) is ∙ rw fits in
        record { list_left = R.left; leaves = subst (λ (y : Left). Leaves y r x') (sym q) T }

    pub payload-unread-to : (n : ℕ) → f ≡ found.Refused n → r ≡ unread_by had n → Looks payload (book list x) had r (book list' x)
    payload-unread-to n e q =
        let z : in_read (length list) (read_list payload) x had ≡ left (unread_by had n) x =
        unread (read_list payload) (λ k u. (read-refuses payload k u).0) (length list) n (sym e ∙ R.gave) x had in
        record { list_left = R.left; leaves = subst (λ (y : Left). Leaves y r x) (sym z) (record { gave = q; sets-left = refl }) }
