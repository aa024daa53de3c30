-- In sets of the count's own words, what stands against a payload is what the count says. Assumes nothing.
use Rattle.wire.proofs.Basics.{◌∙◌, sym, ◌≡◌, ap, subst, ℕ, ◌≤◌, List, ◌++◌, map, inl, inr, length, ltb, le-ltb, ltb-false, arith}
use Rattle.wire.specs.Bytes.{Bytes}
use Rattle.wire.specs.Choice.{pick}
use Rattle.wire.proofs.Choices.{either}
use Rattle.lmcp.specs.Lists.{read_list}
use Rattle.sorted_set.specs.Lists.{In, gather, rising}
use Rattle.sorted_set.proofs.Members.{gather_in, gather-from, Source, map_in_lem, map-from, Origin, in_either}
use Rattle.sorted_set.proofs.Rises.{distinct-fewer}
use Rattle.count_rules.specs.Marks.{PitList, list_in}
use Rattle.count_rules.specs.Report.{tiles, pit_of_lem, pit_if_sure}
use Rattle.count_rules.specs.Count.{max_tiles, max_pits, pits_in_all, too_long, fault}
use Rattle.count_rules.specs.Keys.{pit_key, pit_keys, sure_keys, AllWithin}
use Rattle.count_rules.proofs.Bounds.{payload-within}
use Rattle.count_rules.proofs.Means.{sure-is}
use Rattle.count_rules.proofs.Keys.{pits_in-all}
use Rattle.pit_marks.specs.Sets.{over}
use Rattle.pit_payloads.specs.Took.{fault_over}
use Rattle.count.specs.Inside.{own}

-- the sure pits are among the pits
sure-among : (ls : List PitList) (z : ℕ) → In z (sure_keys ls) → In z (pit_keys ls)
sure-among ls z h =
    let s : Source (λ (l : PitList). map (pit_key l.tile) (gather pit_if_sure l.marks)) ls z = gather-from _ ls z h in
    let o : Origin (pit_key s.x.tile) (gather pit_if_sure s.x.marks) z = map-from _ _ z s.gives in
    let r : Source pit_if_sure s.x.marks o.x = gather-from pit_if_sure s.x.marks o.x o.inside in
    let e : r.x.pit ≡ o.x = (sure-is r.x o.x r.gives).1 in
    gather_in (λ (l : PitList). map (pit_key l.tile) (gather pit_of_lem l.marks)) ls s.x z s.inside
    (subst (λ (k : ℕ). In k (map (pit_key s.x.tile) (gather pit_of_lem s.x.marks))) (sym o.gives)
    (map_in_lem (pit_key s.x.tile) (gather pit_of_lem s.x.marks) o.x (gather_in pit_of_lem s.x.marks r.x o.x r.inside (inl (sym e)))))

sure-fewer : (ls : List PitList) → length (rising (sure_keys ls)) ≤ length (rising (pit_keys ls))
sure-fewer ls = distinct-fewer (sure_keys ls) (pit_keys ls) (sure-among ls)

-- ---- what stands against lists

abbrev over_l9 : List PitList → ℕ
over_l9 ls = pick (ltb max_tiles (length (tiles ls))) 60 (pick (ltb max_pits (pits_in_all ls)) 61 0)

over-own : (ls : List PitList) → AllWithin ls → over_l9 ls ≡ over own ls
over-own ls w =
    let p : pits_in_all ls ≡ length (rising (pit_keys ls)) = sym (pits_in-all ls w) in
    let f : length (rising (sure_keys ls)) ≤ length (rising (pit_keys ls)) = sure-fewer ls in
    ap (λ (n : ℕ). pick (ltb max_tiles (length (tiles ls))) 60 (pick (ltb max_pits n) 61 0)) p
    ∙ ap (λ (n : ℕ). pick (ltb max_tiles (length (tiles ls))) 60 n) (elim (either (ltb max_pits (length (rising (pit_keys ls))))) [
      | inl e ↦ rw e
      | inr e ↦ let o : length (rising (pit_keys ls)) ≤ max_pits = ltb-false _ _ e in rw (e, le-ltb max_pits (length (rising (sure_keys ls))) (omega arith))
    ])

pub fault-own : (room : ℕ) (seen : List PitList) (payload : List ℕ) → Bytes payload → AllWithin seen → fault room seen payload ≡ fault_over own room seen payload
unfolding fault
fault-own room seen payload b w =
    ap (λ (n : ℕ). pick (too_long room (read_list payload)) 13 n)
    (over-own (list_in payload ++ seen) (λ l i. elim (in_either l (list_in payload) seen i) [ inl j ↦ payload-within payload b l j | inr j ↦ w l j ]))
