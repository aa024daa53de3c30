-- What is found against a payload that was taken, and what the sets hold then, are what the count says. Assumes nothing.
use Rattle.wire.proofs.Basics.{◌∙◌, sym, ◌≡◌, ap, refl, subst, ℕ, ◌<◌, List, [], ◌∷◌, ◌++◌, true, false, Bool, length, eqb, ltb, ℤ, le-ltb, eqb-true, eqb-false, arith}
use Rattle.wire.specs.Choice.{pick}
use Rattle.wire.specs.Bytes.{Bytes}
use Rattle.lmcp.specs.Run.{got, refused}
use Rattle.lmcp.specs.Read.{Read}
use Rattle.lmcp.specs.Lists.{read_list}
use Rattle.sorted_set.specs.Lists.{rising}
use Rattle.sorted_set.proofs.Sets.{as_many}
use Rattle.count_rules.specs.Marks.{PitList, at, list_read, list_in}
use Rattle.count_rules.specs.Report.{tiles}
use Rattle.count_rules.specs.Count.{too_long}
use Rattle.count_rules.specs.Keys.{pit_keys, sure_keys}
use Rattle.count_rules.proofs.Steps.{list_of}
use Rattle.pit_marks.specs.declared.Sizes.{Sizes}
use Rattle.pit_marks.specs.Taken.{Taken}
use Rattle.pit_marks.specs.Taken as taken
use Rattle.pit_marks.specs.Sets.{Sets, rooms, Has, over, Partly}
use Rattle.pit_marks.specs.Enters.{fault_of, sizes_of, Listed, enter_list_lem, elements_of}
use Rattle.pit_marks.proofs.Seen.{Judged, list-judged}
use Rattle.pit_marks.proofs.Proper.{Proper, proper, improper}
use Rattle.pit_payloads.specs.Looked as looked
use Rattle.pit_payloads.specs.Looks.{Left, left, looked_by, with_list, in_numbers, in_read}
use Rattle.pit_payloads.specs.Took.{fault_in, lists_in, sizes_in, fault_over}
use Rattle.pit_payloads.specs.Inside.{Took}

-- what sets hold fits them
pub has-over : (x : Sets) (had : Sizes) (seen : List PitList) → Has x had seen → over (rooms x) seen ≡ 0
has-over x had seen h =
    let a = as_many x.tiles had.tiles (tiles seen) h.the-tiles in
    let b = as_many x.pits had.pits (rising (pit_keys seen)) h.the-pits in
    let c = as_many x.sure had.sure (rising (sure_keys seen)) h.the-sure in
    let u = h.the-tiles.size in
    let v = h.the-pits.size in
    let w = h.the-sure.size in
    rw (le-ltb (length x.tiles) (length (tiles seen)) (omega arith), le-ltb (length x.pits) (length (rising (pit_keys seen))) (omega arith), le-ltb (length x.sure) (length (rising (sure_keys seen))) (omega arith))

unread : (payload : List ℕ) (n : ℕ) → read_list payload ≡ refused n → list_in payload ≡ []
unfolding list_in list_read
unread payload n e = ap list_read e

-- what a list's answer says
fault-same : (a : Taken) → fault_in (looked_by a) ≡ fault_of a
fault-same (taken.Now now) = refl
fault-same (taken.Refused now n) = refl

pub sizes-same : (had : Sizes) (a : Taken) → sizes_in had (looked_by a) ≡ sizes_of a
sizes-same had (taken.Now now) = refl
sizes-same had (taken.Refused now n) = refl

-- nothing is refused by 0
one_list : (a : Taken) → ((now : Sizes) (k : ℕ) → a ≡ taken.Refused now k → 0 < k) → fault_in (looked_by a) ≡ 0 → lists_in (looked_by a) ≡ 1
one_list (taken.Now now) f z = refl
one_list (taken.Refused now n) f z = absurd (let o = f now n refl in let y : ⊥ = omega arith in y)

module _ (room : ℕ) (payload : List ℕ) (x : Sets) (had : Sizes) (seen : List PitList) (h : Has x had seen) where
  abbrev Takes : Left → Type 0
  Takes e = Took room payload x had seen e.answer e.sets

  -- of its lists nothing
  nothing-of : Partly x had (list_in payload) seen
  nothing-of = record { lists = []; parts = λ m i. absurd i; has = h }

  -- ---- too long for the number list

  too_short : too_long room (read_list payload) ≡ true → Takes (left (looked.Refused had 13) x)
  too_short long = record {
    found = rw long;
    long = refl;
    lists = λ z. absurd (let y : ⊥ = omega arith in y);
    has = λ z. absurd (let y : ⊥ = omega arith in y);
    still = nothing-of;
  }

  module _ (fits : too_long room (read_list payload) ≡ false) where
    faults : (ls : List PitList) → list_in payload ≡ ls → over (rooms x) (ls ++ seen) ≡ fault_over (rooms x) room seen payload
    faults ls e = sym (rw (fits, e))

    -- ---- no list

    no-list : list_in payload ≡ [] → Takes (left looked.Other x)
    no-list e = record {
      found = sym (has-over x had seen h) ∙ faults [] e;
      long = refl;
      lists = λ z. ap (λ (ls : List PitList). length ls) (sym e);
      has = λ z. subst (λ (ls : List PitList). Has x had (ls ++ seen)) (sym e) h;
      still = nothing-of;
    }

    -- ---- a list

    module _ (l : List ℤ) (rest : List ℕ) (is : read_list payload ≡ got l rest) (b : Bytes payload) (five : at l 1 ≡ 5) where
      abbrev E : Listed
      E = enter_list_lem l x had

      P : Proper payload l
      P = proper payload l rest is b five

      abbrev its : PitList
      its = list_of (at l 2) (elements_of l)

      J : Judged x its seen E
      J = list-judged l x had seen h P.within

      sizes-are : sizes_in had (looked_by E.answer) ≡ sizes_of E.answer
      sizes-are = sizes-same had E.answer

      a-list : Takes (with_list E)
      a-list = record {
        found = fault-same E.answer ∙ (J.found ∙ faults (its ∷ []) P.is);
        long = J.long;
        lists = λ z. one_list E.answer J.number z ∙ ap (λ (ls : List PitList). length ls) (sym P.is);
        has = λ z. subst (λ (n : Sizes). Has E.sets n (list_in payload ++ seen)) (sym sizes-are)
            (subst (λ (ls : List PitList). Has E.sets (sizes_of E.answer) (ls ++ seen)) (sym P.is) (J.has (sym (fault-same E.answer) ∙ z)));
        still = subst (λ (n : Sizes). Partly E.sets n (list_in payload) seen) (sym sizes-are)
            (subst (λ (ls : List PitList). Partly E.sets (sizes_of E.answer) ls seen) (sym P.is) J.part);
      }

  -- ---- by what the reader makes of the payload

  pub takes : Bytes payload → Takes (in_read room (read_list payload) x had)
  takes b = by (read_list payload) refl
    where
      by-type : (l : List ℤ) (rest : List ℕ) → read_list payload ≡ got l rest → ltb room (length l) ≡ false → (five : Bool) → eqb (at l 1) 5 ≡ five → Takes (pick five (with_list (enter_list_lem l x had)) (left looked.Other x))
      by-type l rest e f true g = a-list (ap (too_long room) e ∙ f) l rest e b (eqb-true (at l 1) 5 g)
      by-type l rest e f false g = no-list (ap (too_long room) e ∙ f) (improper payload l rest e (eqb-false (at l 1) 5 g))

      by-room : (l : List ℤ) (rest : List ℕ) → read_list payload ≡ got l rest → (long : Bool) → ltb room (length l) ≡ long → Takes (pick long (left (looked.Refused had 13) x) (in_numbers l x had))
      by-room l rest e true f = too_short (ap (too_long room) e ∙ f)
      by-room l rest e false f = by-type l rest e f (eqb (at l 1) 5) refl

      by : (X : Read) → read_list payload ≡ X → Takes (in_read room X x had)
      by (got l rest) e = by-room l rest e (ltb room (length l)) refl
      by (refused n) e = no-list (ap (too_long room) e) (unread payload n e)
