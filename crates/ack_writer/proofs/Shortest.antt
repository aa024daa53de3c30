-- No shorter output of singles and runs acknowledges the numbers of a rising list and no others. Assumes nothing.
use Rattle.wire.proofs.Basics.{◌∙◌, sym, ◌≡◌, ap, refl, ℕ, ◌≤◌, ◌+◌, ◌<◌, ◌-◌, List, [], ◌∷◌, true, false, Bool, ◌&&◌, ◌||◌, ⊎_elim, length, length-append, eqb, ltb, leb, le-ltb, ne_eqb, lt-ltb}
use Rattle.wire.proofs.Basics.{eqb-true, le-leb, ltb-true, lt-leb, eqb-false, leb-true, dec_le, arith}
use Rattle.wire.specs.Choice.{pick}
use Rattle.wire.proofs.Choices.{either, never, and_l, and_r, or_l, or_r, pick_all}
use Rattle.ack_blocks.specs.Blocks.{Block, single, run, map, between, has, acknowledges, block_bytes, laid}
use Rattle.ack_writer.specs.Write.{member, rising, rising_from, one_block, blocks_from, bytes_of}
use Rattle.ack_writer.proofs.BlockOfRun.{single-length, run_length, one_single, one-run}
use Rattle.ack_writer.proofs.Trips.{Good, AllGood, one_number, one_more, or_assoc}
use Rattle.ack_writer.proofs.Longest.{first_of}

-- ---- the bytes of the blocks that begin at lo or later, and before hi

abbrev cost : Block → ℕ
cost k = length (block_bytes k)

abbrev later : ℕ → Block → ℕ
later lo k = pick (leb lo (first_of k)) (cost k) 0

abbrev laters : ℕ → List Block → ℕ
laters lo [] = 0
laters lo (k ∷ bs) = later lo k + laters lo bs

abbrev part : ℕ → ℕ → Block → ℕ
part lo hi k = pick (leb lo (first_of k) && ltb (first_of k) hi) (cost k) 0

abbrev parts : ℕ → ℕ → List Block → ℕ
parts lo hi [] = 0
parts lo hi (k ∷ bs) = part lo hi k + parts lo hi bs

later-part : (lo hi : ℕ) (k : Block) → lo ≤ hi → part lo hi k + later hi k ≤ later lo k
later-part lo hi k h = elim (dec_le lo (first_of k)) [
  | yes p ↦ elim (dec_le hi (first_of k)) [
    | yes q ↦ rw (le-leb lo (first_of k) p, le-leb hi (first_of k) q, le-ltb (first_of k) hi q) (omega arith)
    | no q ↦ rw (le-leb lo (first_of k) p, lt-leb hi (first_of k) (omega arith), lt-ltb (first_of k) hi (omega arith)) (omega arith)
  ]
  | no p ↦ rw (lt-leb lo (first_of k) (omega arith), lt-leb hi (first_of k) (omega arith)) (omega arith)
]

laters-part : (lo hi : ℕ) (bs : List Block) → lo ≤ hi → parts lo hi bs + laters hi bs ≤ laters lo bs
laters-part lo hi [] h = omega arith
laters-part lo hi (k ∷ bs) h = omega (arith, later-part lo hi k h, laters-part lo hi bs h)

laters-all : (lo : ℕ) (bs : List Block) → laters lo bs ≤ length (laid bs)
laters-all lo [] = omega arith
laters-all lo (k ∷ bs) =
    let e : later lo k ≤ cost k = pick_all (λ (n : ℕ). n ≤ cost k) (leb lo (first_of k)) (λ e. omega arith) (λ e. omega arith) in
    omega (arith, e, laters-all lo bs, length-append (block_bytes k) (laid bs))

-- ---- a block that acknowledges a number of a run, and not the one before it, begins in the run

abbrev None : ℕ → (ℕ → Bool) → Type 0
None f p = (m : ℕ) → m + 1 ≡ f → p m ≡ false

begins : (k : Block) (f n : ℕ) → Good k → f ≤ n → has k n ≡ true → None f (has k) → (f ≤ first_of k) × (first_of k ≤ n)
begins (single p) f n g h e z = let q = eqb-true n p e in (omega arith, omega arith)
begins (run a l) f n g h e z =
    let a≤n = leb-true a n (and_l (leb a n) (leb n l) e) in
    let n≤l = leb-true n l (and_r (leb a n) (leb n l) e) in
    elim (dec_le f a) [
      | yes q ↦ (q, a≤n)
      | no q ↦ never {b = has (run a l) (f - 1)} (rw (le-leb a (f - 1) (omega arith), le-leb (f - 1) l (omega arith))) (z (f - 1) (omega arith))
    ]
begins (map s b m) f n g h e z = absurd g

part-is : (lo hi : ℕ) (k : Block) → lo ≤ first_of k → first_of k < hi → part lo hi k ≡ cost k
part-is lo hi k h l = rw (le-leb lo (first_of k) h, lt-ltb (first_of k) hi l)

some-cost : (k : Block) → Good k → 9 ≤ cost k
some-cost (single p) g = omega (arith, single-length p)
some-cost (run a l) g = omega (arith, run_length a l)
some-cost (map s b m) g = absurd g

both-cost : (k : Block) (f l : ℕ) → Good k → f < l → has k f ≡ true → has k l ≡ true → 17 ≤ cost k
both-cost (single p) f l g h d e = absurd (let z : ⊥ = omega (arith, eqb-true f p d, eqb-true l p e) in z)
both-cost (run a z) f l g h d e = omega (arith, run_length a z)
both-cost (map s b m) f l g h d e = absurd g

or_right : (a b : Bool) → (a || b) ≡ true → a ≡ false → b ≡ true
or_right true b e h = never refl h
or_right false b e h = e

module _ (f hi : ℕ) where
  here : (k : Block) (n : ℕ) → Good k → f ≤ n → n < hi → has k n ≡ true → None f (has k) → part f hi k ≡ cost k
  here k n g h l e z = let b = begins k f n g h e z in part-is f hi k b.0 (omega (arith, b.1))

  one_at : (bs : List Block) (n : ℕ) → AllGood bs → f ≤ n → n < hi → acknowledges bs n ≡ true → None f (acknowledges bs) → 9 ≤ parts f hi bs
  one_at [] n g h l e z = never e refl
  one_at (k ∷ bs) n g h l e z =
      ⊎_elim
      (λ d. omega (arith, here k n g.0 h l d (λ m q. or_l (has k m) (acknowledges bs m) (z m q)), some-cost k g.0))
      (λ d. omega (arith, one_at bs n g.1 h l (or_right (has k n) (acknowledges bs n) e d) (λ m q. or_r (has k m) (acknowledges bs m) (z m q))))
      (either (has k n))

  two_at : (bs : List Block) (l : ℕ) → AllGood bs → f < l → l < hi → acknowledges bs f ≡ true → acknowledges bs l ≡ true → None f (acknowledges bs) → 17 ≤ parts f hi bs
  two_at [] l g h b d e z = never d refl
  two_at (k ∷ bs) l g h b d e z =
      let zk : None f (has k) = λ m q. or_l (has k m) (acknowledges bs m) (z m q) in
      let zs : None f (acknowledges bs) = λ m q. or_r (has k m) (acknowledges bs m) (z m q) in
      ⊎_elim
      (λ p. ⊎_elim
      (λ q. omega (arith, here k f g.0 (omega arith) (omega arith) p zk, both-cost k f l g.0 h p q))
      (λ q. omega (arith, here k f g.0 (omega arith) (omega arith) p zk, some-cost k g.0, one_at bs l g.1 (omega arith) b (or_right (has k l) (acknowledges bs l) e q) zs))
      (either (has k l)))
      (λ p. ⊎_elim
      (λ q. omega (arith, here k l g.0 (omega arith) b q zk, some-cost k g.0, one_at bs f g.1 (omega arith) (omega arith) (or_right (has k f) (acknowledges bs f) d p) zs))
      (λ q. omega (arith, two_at bs l g.1 h b (or_right (has k f) (acknowledges bs f) d p) (or_right (has k l) (acknowledges bs l) e q) zs))
      (either (has k l)))
      (either (has k f))

  -- a run is no longer than what acknowledges it
  run-shortest : (bs : List Block) (l : ℕ) → AllGood bs → f ≤ l → l < hi → ((n : ℕ) → f ≤ n → n ≤ l → acknowledges bs n ≡ true) → None f (acknowledges bs)
      → cost (one_block f l) ≤ parts f hi bs
  run-shortest bs l g h b a z = elim (dec_le l f) [
    | yes p ↦ let e : f ≡ l = omega arith in
        omega (arith, ap cost (one_single f l e), single-length f, one_at bs f g (omega arith) (omega arith) (a f (omega arith) h) z)
    | no p ↦ omega (arith, ap cost (one-run f l (λ e. omega arith)), run_length f l, two_at bs l g (omega arith) b (a f (omega arith) h) (a l h (omega arith)) z)
  ]

-- ---- the whole list

above : (x : ℕ) (xs : List ℕ) (n : ℕ) → rising_from x xs ≡ true → n ≤ x → member xs n ≡ false
above x [] n r h = refl
above x (y ∷ ys) n r h =
    let p = ltb-true x y (and_l (ltb x y) (rising_from y ys) r) in
    rw (ne_eqb n y (λ e. omega arith)) (above y ys n (and_r (ltb x y) (rising_from y ys) r) (omega arith))

in-run : (f l n : ℕ) → f ≤ n → n ≤ l → between f l n ≡ true
in-run f l n h k = rw (le-leb f n h, le-leb n l k)

past-run : (f l n : ℕ) → f ≤ n → l < n → between f l n ≡ false
past-run f l n h k = rw (le-leb f n h, lt-leb n l k)

module _ (bs : List Block) (g : AllGood bs) where
  from-shortest : (f l : ℕ) (xs : List ℕ) → f ≤ l → rising_from l xs ≡ true → None f (acknowledges bs)
      → ((n : ℕ) → f ≤ n → acknowledges bs n ≡ (between f l n || member xs n)) → length (laid (blocks_from f l xs)) ≤ laters f bs
  from-shortest f l [] h r z a =
      let e = run-shortest f (l + 1) bs l g h (omega arith) (λ n p q. a n p ∙ ap (λ (t : Bool). t || false) (in-run f l n p q)) z in
      omega (arith, e, laters-part f (l + 1) bs (omega arith), length-append (block_bytes (one_block f l)) [])
  from-shortest f l (x ∷ xs) h r z a =
      let up : l < x = ltb-true l x (and_l (ltb l x) (rising_from x xs) r) in
      let rest = and_r (ltb l x) (rising_from x xs) r in
      pick_all (λ (ks : List Block). length (laid ks) ≤ laters f bs) (eqb x (l + 1))
      (λ e. let q : x ≡ l + 1 = eqb-true x (l + 1) e in
      from-shortest f x xs (omega arith) rest z
      (λ n p. a n p
      ∙ ap (λ (y : ℕ). between f l n || (eqb n y || member xs n)) q
      ∙ sym (or_assoc (between f l n) (eqb n (l + 1)) (member xs n))
      ∙ ap (λ (t : Bool). t || member xs n) (sym (one_more f l n h))
      ∙ ap (λ (y : ℕ). between f y n || member xs n) (sym q)))
      (λ e. let q : x ≡ l + 1 → ⊥ = eqb-false x (l + 1) e in
      let one = run-shortest f x bs l g h up (λ n p s. a n p ∙ ap (λ (t : Bool). t || (eqb n x || member xs n)) (in-run f l n p s)) z in
      let none : None x (acknowledges bs) = λ m s. a m (omega arith) ∙ (rw (past-run f l m (omega arith) (gap l x m up q s), ne_eqb m x (λ w. omega arith)) (above x xs m rest (omega arith))) in
      let more = from-shortest x x xs (omega arith) rest none
      (λ n p. a n (omega arith) ∙ (rw (past-run f l n (omega arith) (omega arith)) (ap (λ (t : Bool). t || member xs n) (one_number x n)))) in
      omega (arith, one, more, laters-part f x bs (omega arith), length-append (block_bytes (one_block f l)) (laid (blocks_from x x xs))))
    where
      gap : (l x m : ℕ) → l < x → (x ≡ l + 1 → ⊥) → m + 1 ≡ x → l < m
      gap l x m h k s = omega arith

  pub shortest : (l : List ℕ) → rising l ≡ true → ((n : ℕ) → acknowledges bs n ≡ member l n) → length (bytes_of l) ≤ length (laid bs)
  unfolding bytes_of
  shortest [] r a = omega arith
  shortest (x ∷ xs) r a =
      let none : None x (acknowledges bs) = λ m s. a m ∙ (rw (ne_eqb m x (λ w. omega arith)) (above x xs m r (omega arith))) in
      let e = from-shortest x x xs (omega arith) r none (λ n p. a n ∙ ap (λ (t : Bool). t || member xs n) (one_number x n)) in
      omega (arith, e, laters-all x bs)
