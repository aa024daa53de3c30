-- One rising list of keys holds the pits of all tiles: a tile's part of it is as long as the tile has pits, and the whole is as long as there are
-- pits in all. Assumes nothing.
use Rattle.wire.proofs.Basics.{◌∙◌, sym, ◌≡◌, ap, refl, subst, ℕ, ◌≤◌, ◌+◌, ◌<◌, suc, List, [], ◌∷◌, map, length, length-map, arith}
use Rattle.sorted_set.specs.Lists.{In, gather, total, rising, Rising, below}
use Rattle.sorted_set.proofs.Members.{gather_in, gather-from, Source, map_in_lem, map-from, Origin}
use Rattle.sorted_set.proofs.Sums.{length-gather}
use Rattle.sorted_set.proofs.Rises.{rising-rises, rising_members, rising-unique}
use Rattle.sorted_set.proofs.Places.{below_all}
use Rattle.sorted_set.proofs.Parts.{gather-rises, map-rises, between, between-rises, between-from, between_in, between-long}
use Rattle.count_rules.specs.Marks.{Mark, PitList}
use Rattle.count_rules.specs.Report.{distinct, pit_of_lem, pit_if_sure, tiles, pits, sure_pits}
use Rattle.count_rules.specs.Count.{pits_in_all}
use Rattle.count_rules.specs.Keys.{span, pit_key, keys_by, pit_keys, sure_keys, AllWithin}
use Rattle.count_rules.proofs.ListMembers.{only, name_in_lem, Taken, taken-from, taken_in}
use Rattle.count_rules.proofs.Means.{sure-is}

-- ---- the order of keys

key-rises : (t p q : ℕ) → p < q → pit_key t p < pit_key t q
key-rises t p q h = omega arith

key_apart : (t u p q : ℕ) → p < span → t < u → pit_key t p < pit_key u q
key_apart t u p q h k = omega arith

-- ---- the keys of what h takes, where all that it takes is uint32

module _ (h : Mark → List ℕ) (ls : List PitList) (w : (t p : ℕ) → Taken h ls t p → (t < span) × (p < span)) where
  abbrev keys : List ℕ
  keys = rising (keys_by h ls)

  abbrev block : ℕ → List ℕ
  block t = map (pit_key t) (distinct h ls t)

  block-rises : (t : ℕ) → Rising (block t)
  block-rises t = map-rises (pit_key t) (key-rises t) (distinct h ls t) (rising-rises _)

  -- a key comes from a pit under a tile
  record Key (t k : ℕ) : Type 0 where
    p : ℕ
    is : k ≡ pit_key t p
    taken : Taken h ls t p

  in_block : (t k : ℕ) → In k (block t) → Key t k
  in_block t k i =
      let o : Origin (pit_key t) (distinct h ls t) k = map-from (pit_key t) (distinct h ls t) k i in
      record { p = o.x; is = o.gives; taken = taken-from h ls t o.x o.inside }

  to_block : (t k : ℕ) → Key t k → In k (block t)
  to_block t k z = subst (λ (x : ℕ). In x (block t)) (sym z.is) (map_in_lem (pit_key t) (distinct h ls t) z.p (taken_in h ls t z.p z.taken))

  record Some (k : ℕ) : Type 0 where
    t : ℕ
    key : Key t k

  in-keys : (k : ℕ) → In k keys → Some k
  in-keys k i =
      let s : Source (λ (l : PitList). map (pit_key l.tile) (gather h l.marks)) ls k = gather-from _ ls k ((rising_members _).there k i) in
      let o : Origin (pit_key s.x.tile) (gather h s.x.marks) k = map-from _ _ k s.gives in
      let r : Source h s.x.marks o.x = gather-from h s.x.marks o.x o.inside in
      record {
        t = s.x.tile;
        key = record { p = o.x; is = o.gives; taken = record { list = s.x; among = s.inside; its-tile = refl; mark = r.x; inside = r.inside; gives = r.gives } };
      }

  to-keys : (t k : ℕ) → Key t k → In k keys
  to-keys t k z =
      let a : Taken h ls t z.p = z.taken in
      let e : k ≡ pit_key a.list.tile z.p = rw a.its-tile z.is in
      (rising_members _).back k (gather_in (λ (l : PitList). map (pit_key l.tile) (gather h l.marks)) ls a.list k a.among
      (subst (λ (x : ℕ). In x (map (pit_key a.list.tile) (gather h a.list.marks))) (sym e)
      (map_in_lem (pit_key a.list.tile) (gather h a.list.marks) z.p (gather_in h a.list.marks a.mark z.p a.inside a.gives))))

  -- tile t's part of the keys
  block-is : (t : ℕ) → block t ≡ between (pit_key t 0) (pit_key (suc t) 0) keys
  block-is t = rising-unique (block t) _ (block-rises t) (between-rises (pit_key t 0) (pit_key (suc t) 0) keys (rising-rises _)) (record {
    there = λ k i.
        let z : Key t k = in_block t k i in
        let b : z.p < span = (w t z.p z.taken).1 in
        let e : k ≡ pit_key t z.p = z.is in
        between_in (pit_key t 0) (pit_key (suc t) 0) keys k (to-keys t k z) (omega arith) (omega arith);
    back = λ k i.
        let f : In k keys × (pit_key t 0 ≤ k) × (k < pit_key (suc t) 0) = between-from (pit_key t 0) (pit_key (suc t) 0) keys k i in
        let z : Some k = in-keys k f.0 in
        let y : Key z.t k = z.key in
        let b : y.p < span = (w z.t y.p y.taken).1 in
        let e : k ≡ pit_key z.t y.p = y.is in
        let lo : pit_key t 0 ≤ k = f.1 in
        let hi : k < pit_key (suc t) 0 = f.2 in
        let same : z.t ≡ t = omega arith in
        to_block t k (subst (λ (u : ℕ). Key u k) same y);
  })

  -- is as long as there are pits under it
  part-long : (t : ℕ) → below (pit_key t 0) keys + length (distinct h ls t) ≡ below (pit_key (suc t) 0) keys
  part-long t =
      let e : length (distinct h ls t) ≡ length (between (pit_key t 0) (pit_key (suc t) 0) keys) = sym (length-map (distinct h ls t) (pit_key t)) ∙ ap (λ (l : List ℕ). length l) (block-is t) in
      let f : below (pit_key t 0) keys + length (between (pit_key t 0) (pit_key (suc t) 0) keys) ≡ below (pit_key (suc t) 0) keys = between-long (pit_key t 0) (pit_key (suc t) 0) (omega arith) keys in
      omega arith

  -- and the part of the last tile goes to the end
  keys-end : below (pit_key span 0) keys ≡ length keys
  keys-end = below_all (pit_key span 0) keys (λ k i.
      let z : Some k = in-keys k i in
      let y : Key z.t k = z.key in
      let a : pit_key z.t y.p < pit_key span 0 = key_apart z.t span y.p 0 (w z.t y.p y.taken).1 (w z.t y.p y.taken).0 in
      omega (arith, y.is))

  -- the keys are the tiles' parts, one behind the other
  keys-are : keys ≡ gather block (tiles ls)
  keys-are = rising-unique keys (gather block (tiles ls)) (rising-rises _)
      (gather-rises block block-rises
      (λ t u a b o i j.
      let y : Key t a = in_block t a i in
      let z : Key u b = in_block u b j in
      let k : pit_key t y.p < pit_key u z.p = key_apart t u y.p z.p (w t y.p y.taken).1 o in
      omega (arith, y.is, z.is)) (tiles ls) (rising-rises _))
      (record {
        there = λ k i.
            let z : Some k = in-keys k i in
            let a : Taken h ls z.t z.key.p = z.key.taken in
            gather_in block (tiles ls) z.t k (name_in_lem ls z.t (record { list = a.list; among = a.among; its-tile = a.its-tile })) (to_block z.t k z.key);
        back = λ k i.
            let s : Source block (tiles ls) k = gather-from block (tiles ls) k i in
            to-keys s.x k (in_block s.x k s.gives);
      })

  total-length : (l : List ℕ) → total (λ t. length (block t)) l ≡ total (λ t. length (distinct h ls t)) l
  total-length [] = refl
  total-length (t ∷ l) = rw (length-map (distinct h ls t) (pit_key t), total-length l)

  keys-long : length keys ≡ total (λ t. length (distinct h ls t)) (tiles ls)
  keys-long = ap (λ (l : List ℕ). length l) keys-are ∙ length-gather block (tiles ls) ∙ total-length (tiles ls)

-- ---- pits, and sure pits

module _ (ls : List PitList) (a : AllWithin ls) where
  tile-within : (h : Mark → List ℕ) (t p : ℕ) → Taken h ls t p → t < span
  tile-within h t p k = subst (λ (u : ℕ). u < span) k.its-tile (a k.list k.among).tile

  pub pits-within : (t p : ℕ) → Taken pit_of_lem ls t p → (t < span) × (p < span)
  pits-within t p k = (tile-within pit_of_lem t p k, subst (λ (q : ℕ). q < span) (sym (only k.gives)) ((a k.list k.among).pits k.mark k.inside))

  pub sure-within : (t p : ℕ) → Taken pit_if_sure ls t p → (t < span) × (p < span)
  sure-within t p k = (tile-within pit_if_sure t p k, subst (λ (q : ℕ). q < span) (sure-is k.mark p k.gives).1 ((a k.list k.among).pits k.mark k.inside))

  -- the pits under a tile, the sure ones, and all
  pub pits-part : (t : ℕ) → below (pit_key t 0) (rising (pit_keys ls)) + length (pits ls t) ≡ below (pit_key (suc t) 0) (rising (pit_keys ls))
  pits-part = part-long pit_of_lem ls pits-within

  pub sure-part : (t : ℕ) → below (pit_key t 0) (rising (sure_keys ls)) + length (sure_pits ls t) ≡ below (pit_key (suc t) 0) (rising (sure_keys ls))
  sure-part = part-long pit_if_sure ls sure-within

  pub pits-end : below (pit_key span 0) (rising (pit_keys ls)) ≡ length (rising (pit_keys ls))
  pits-end = keys-end pit_of_lem ls pits-within

  pub sure-end : below (pit_key span 0) (rising (sure_keys ls)) ≡ length (rising (sure_keys ls))
  sure-end = keys-end pit_if_sure ls sure-within

  pub pits_in-all : length (rising (pit_keys ls)) ≡ pits_in_all ls
  pits_in-all = keys-long pit_of_lem ls pits-within
