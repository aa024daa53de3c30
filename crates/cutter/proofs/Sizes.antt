-- How a message is cut: places and lengths. Assumes nothing.
use Rattle.wire.proofs.Basics.{◌≡◌, refl, subst, ℕ, ◌≤◌, ◌+◌, ◌<◌, ◌-◌, ◌*◌, min, List, true, false, Bool, ◌||◌, length, eqb, ltb, leb, le-ltb, ltb-false, leb-true, leb-false, arith}
use native.Mathlib.Nat.{mul-le-mul}
use Rattle.datagram.specs.Limits.{max_payload, max_fragments}
use Rattle.wire.specs.Choice.{pick}
use Rattle.names.specs.Name.{good_name_lem}
use Rattle.wire.proofs.Choices.{or_l, or_r, pick_all}
use Rattle.names.proofs.Names.{name-short}
use Rattle.cutter.specs.Limits.{least_size, most_size}
use Rattle.cutter.specs.Cut.{Sized, is_small, count_of, length_of, Answer, gives, refused, plan_of, cut_answer}

-- no fragment begins far into the payload
pub begins-most : (c m k : ℕ) → Sized c m → k ≤ max_fragments → m - (21 + c) + (k - 1) * (m - 20) ≤ max_fragments * most_size
begins-most c m k s h =
    let a : (k - 1) * (m - 20) ≤ (max_fragments - 1) * (most_size - 20) = mul-le-mul {n₁ = k - 1} {m₁ = m - 20} {n₂ = max_fragments - 1} {m₂ = most_size - 20} (omega arith) (omega (arith, s.most)) in
    omega (arith, s.most)

-- what the first three refusals leave
pub sized : (nm : List ℕ) (m : ℕ) → good_name_lem nm ≡ true → least_size ≤ m → m ≤ most_size → Sized (length nm) m
sized nm m g l h = record { name = name-short nm g; least = l; most = h }

-- ---- what the cutter makes

pub length_most : (c p m k : ℕ) → Sized c m → length_of c p m k ≤ m
unfolding length_of
length_most c p m k s =
    pick_all (λ (l : ℕ). l ≤ m) (is_small c p m) (λ e. leb-true (9 + c + p) m e) (λ _. go (eqb k 0))
  where
    go : (b : Bool) → pick b (21 + c) 20 + min (pick b (m - (21 + c)) (m - 20)) (p - pick b 0 (m - (21 + c) + (k - 1) * (m - 20))) ≤ m
    go true = omega (arith, s.name, s.least)
    go false = omega (arith, s.least)

-- what is known where a datagram is made
pub record Planned (c p m index room n l : ℕ) : Type 0 where
  pub limited : p ≤ max_payload
  pub count : n ≡ count_of c p m
  pub few : n ≤ max_fragments
  pub asked : index < n
  pub len : l ≡ length_of c p m index
  pub fits : l ≤ room

module _ (c p m index room : ℕ) where
  abbrev IfPlanned : Answer → Type 0
  IfPlanned (refused n) = Unit {0}
  IfPlanned (gives n l) = Planned c p m index room n l

  if-planned : IfPlanned (plan_of c p m index room)
  unfolding plan_of
  if-planned =
      pick_all IfPlanned (ltb max_payload p) (λ _. tt) λ limited.
      pick_all IfPlanned (ltb max_fragments (count_of c p m)) (λ _. tt) λ few.
      pick_all IfPlanned (leb (count_of c p m) index) (λ _. tt) λ asked.
      pick_all IfPlanned (ltb room (length_of c p m index)) (λ _. tt) λ fits.
      record {
        limited = ltb-false max_payload p limited;
        count = refl;
        few = ltb-false max_fragments (count_of c p m) few;
        asked = leb-false (count_of c p m) index asked;
        len = refl;
        fits = ltb-false room (length_of c p m index) fits;
      }

  pub planned : (n l : ℕ) → plan_of c p m index room ≡ gives n l → Planned c p m index room n l
  planned n l e = subst IfPlanned e if-planned

module _ (name payload : List ℕ) (m index room : ℕ) where
  -- a message that was taken, and the datagram that was asked for
  pub record Done (n l : ℕ) : Type 0 where
    pub named : good_name_lem name ≡ true
    pub sized' : Sized (length name) m
    pub plan : Planned (length name) (length payload) m index room n l

  abbrev IfMade : Answer → Type 0
  IfMade (refused n) = Unit {0}
  IfMade (gives n l) = Done n l

  from-plan : good_name_lem name ≡ true → Sized (length name) m → (r : Answer) → plan_of (length name) (length payload) m index room ≡ r → IfMade r
  from-plan g s (refused n) e = tt
  from-plan g s (gives n l) e = record { named = g; sized' = s; plan = planned (length name) (length payload) m index room n l e }

  if-made : IfMade (cut_answer name payload m index room)
  unfolding cut_answer
  if-made =
      pick_all IfMade (ltb m least_size || ltb most_size m) (λ _. tt) λ size.
      pick_all IfMade (good_name_lem name)
      (λ good.
      let s : Sized (length name) m = sized name m good (ltb-false m least_size (or_l (ltb m least_size) _ size)) (ltb-false most_size m (or_r (ltb m least_size) _ size)) in
      from-plan good s (plan_of (length name) (length payload) m index room) refl)
      (λ _. tt)

  pub made : (n l : ℕ) → cut_answer name payload m index room ≡ gives n l → Done n l
  made n l e = subst IfMade e if-made

  pub made-short : (n l : ℕ) → Done n l → l ≤ most_size
  made-short n l d = omega (arith, d.plan.len, length_most (length name) (length payload) m index d.sized', d.sized'.most)

  -- what a usable size and name leave to the lengths
  pub answer-plan : least_size ≤ m → m ≤ most_size → good_name_lem name ≡ true → cut_answer name payload m index room ≡ plan_of (length name) (length payload) m index room
  unfolding cut_answer
  answer-plan l h g = rw (le-ltb m least_size l, le-ltb most_size m h, g)
