-- Acknowledge blocks and their bytes determine each other. Assumes nothing.
use Rattle.wire.proofs.Basics.{◌∙◌, sym, ◌≡◌, ap, refl, subst, ℕ, ◌≤◌, ◌+◌, ◌<◌, ◌-◌, suc, zero, ◌*◌, ◌^◌, ◌%◌, ◌/◌, List, [], ◌∷◌, ◌++◌, append_assoc, true, false, Bool, ◌||◌, length, drop, get_or}
use Rattle.wire.proofs.Basics.{take, length-append, length-drop, take-append-drop, length-take-le, drop_at, get_or-drop, take_at, take-add, eqb, ltb, eq-eqb, ne_eqb, eqb-true, ltb-false, ℕ_discrete}
use Rattle.wire.proofs.Basics.{arith}
use lib.ListN.{get_or-append}
use lib.Seq.{get_or-append-add}
use Rattle.wire.specs.Choice.{pick}
use Rattle.wire.specs.Bytes.{be, bytes, Bytes}
use Rattle.wire.proofs.Choices.{never, or_l, or_r}
use Rattle.wire.proofs.Numbers.{be-bytes, bytes-be, be-lt, length-bytes, drop-bytes, take-bytes}
use Rattle.ack_blocks.specs.Limits.{largest, kind_single, kind_run, kind_map, map_head}
use Rattle.ack_blocks.specs.Blocks.{Block, single, run, map, bit_of, block_bytes, laid}
use Rattle.ack_blocks.specs.Read.{Given, gives, refuses, kind_in, first_in, last_in, bits_in, map_bytes_lem, map_in, size_in, block_in, run_fault_lem, padding, map_fault_lem, fault_in, before, blocks_within, blocks_in, told}
use Rattle.ack_blocks.proofs.BlockCases.{size-single, block-single, size-run, block_run, size-map, block-map, size-some, map-good, fault-map, byte-is, map-byte}
use Rattle.ack_blocks.proofs.BlockTurns.{blocks-next, blocks_end, asked-fits}
use Rattle.ack_writer.proofs.Trips.{Back, single-back, run-back}
use Rattle.block_laws.specs.Acks.{LawfulMap, Lawful, BlocksBack, Determined, BytesBack, BlocksAsked}
use Rattle.block_laws.proofs.Bits.{low_bits, bits-low}

-- ---- the bits behind the last: as the bits of the map, and as the low bits of its last byte

module _ (bits : ℕ) (m : List ℕ) (some : 1 ≤ bits) (long : length m ≡ map_bytes_lem bits) where
  last : ℕ
  last = get_or m (length m - 1) 0

  zero_bit : (x : ℕ) → x % 2 ≡ 0 → eqb (x % 2) 1 ≡ false
  zero_bit x e = ne_eqb (x % 2) 1 (λ q. let z : ⊥ = omega arith in z)

  no-bit : (x : ℕ) → eqb (x % 2) 1 ≡ false → x % 2 ≡ 0
  no-bit x e = elim (ℕ_discrete (x % 2) 0) [ yes q ↦ q | no q ↦ never (eq-eqb (x % 2) 1 (omega arith)) e ]

  -- bit i behind the last is bit 7 - i % 8 of the last byte
  behind-is : (i : ℕ) → bits ≤ i → i < 8 * length m → bit_of m i ≡ eqb (get_or m (length m - 1) 0 / 2 ^ (7 - i % 8) % 2) 1
  behind-is i h o = ap (λ (n : ℕ). eqb (get_or m n 0 / 2 ^ (7 - i % 8) % 2) 1) (let e : i / 8 ≡ length m - 1 = omega arith in e)

  pub bits-padded : get_or m (length m - 1) 0 % 2 ^ (8 * length m - bits) ≡ 0 → (i : ℕ) → bits ≤ i → i < 8 * length m → bit_of m i ≡ false
  bits-padded e i h o =
      behind-is i h o ∙ zero_bit (get_or m (length m - 1) 0 / 2 ^ (7 - i % 8)) (low_bits (8 * length m - bits) (get_or m (length m - 1) 0) e (7 - i % 8) (omega arith))

  pub padded-bits : ((i : ℕ) → bits ≤ i → i < 8 * length m → bit_of m i ≡ false) → get_or m (length m - 1) 0 % 2 ^ (8 * length m - bits) ≡ 0
  padded-bits h = bits-low (8 * length m - bits) (get_or m (length m - 1) 0) (λ j o.
      let i : ℕ = 8 * length m - 1 - j in
      let a : bits ≤ i = omega arith in
      let b : i < 8 * length m = omega arith in
      let c : 7 - i % 8 ≡ j = omega arith in
      ap (λ (n : ℕ). get_or m (length m - 1) 0 / 2 ^ n % 2) (sym c) ∙ no-bit (get_or m (length m - 1) 0 / 2 ^ (7 - i % 8)) (sym (behind-is i a b) ∙ h i a b))

-- ---- a bitmap and what follows it

module _ (s n : ℕ) (m r : List ℕ) (k : LawfulMap s n m) where
  long : length m ≡ map_bytes_lem n
  long = (let a = k.room in let b = k.no_more in omega arith)

  some_bytes : 1 ≤ length m
  some_bytes = omega (arith, k.room, k.some)

  abbrev b : List ℕ
  b = block_bytes (map s n m) ++ r

  after-kind : b ≡ bytes 1 kind_map ++ (bytes 8 s ++ (bytes 2 n ++ (m ++ r)))
  after-kind = simp append_assoc

  after-start : b ≡ (bytes 1 kind_map ++ bytes 8 s) ++ (bytes 2 n ++ (m ++ r))
  after-start = simp append_assoc

  after-head : b ≡ (bytes 1 kind_map ++ bytes 8 s ++ bytes 2 n) ++ (m ++ r)
  after-head = simp append_assoc

  head-long : length (bytes 1 kind_map ++ bytes 8 s ++ bytes 2 n) ≡ 11
  head-long = simp (length-append, length-bytes)

  kind : kind_in b ≡ kind_map
  kind = ap (be 1) after-kind ∙ be-bytes 1 kind_map (omega arith) (bytes 8 s ++ (bytes 2 n ++ (m ++ r)))

  first : first_in b ≡ s
  first =
      ap first_in after-kind
      ∙ (ap (be 8) (drop_at (bytes 1 kind_map) (bytes 8 s ++ (bytes 2 n ++ (m ++ r))) 1 (length-bytes 1 kind_map)) ∙ be-bytes 8 s (omega (arith, k.last_fits, k.some)) (bytes 2 n ++ (m ++ r)))

  bits : bits_in b ≡ n
  bits =
      ap bits_in after-start
      ∙ (ap (be 2) (drop_at (bytes 1 kind_map ++ bytes 8 s) (bytes 2 n ++ (m ++ r)) 9 (simp (length-append, length-bytes))) ∙ be-bytes 2 n (omega (arith, k.few)) (m ++ r))

  its_map : map_in b ≡ m
  its_map =
      (λ i. take (map_bytes_lem (bits i)) (drop map_head (after-head i)))
      ∙ (ap (take (map_bytes_lem n)) (drop_at (bytes 1 kind_map ++ bytes 8 s ++ bytes 2 n) (m ++ r) 11 head-long) ∙ take_at m r (map_bytes_lem n) long)

  whole_long : length b ≡ 11 + length m + length r
  whole_long = ap (λ (l : List ℕ). length l) after-head ∙ (let z : length ((bytes 1 kind_map ++ bytes 8 s ++ bytes 2 n) ++ (m ++ r)) ≡ 11 + length m + length r = omega (arith, length-append (bytes 1 kind_map ++ bytes 8 s ++ bytes 2 n) (m ++ r), length-append m r, head-long) in z)

  no-single : kind_in b ≡ kind_single → ⊥
  no-single e = (let z : ⊥ = omega (arith, kind) in z)

  no_run : kind_in b ≡ kind_run → ⊥
  no_run e = (let z : ⊥ = omega (arith, kind) in z)

  size : size_in b ≡ 11 + length m
  size = size-map b no-single no_run ∙ (ap (λ (x : ℕ). map_head + map_bytes_lem x) bits ∙ ap (λ (x : ℕ). 11 + x) (sym long))

  its-last : be 1 (drop (10 + map_bytes_lem (bits_in b)) b) ≡ get_or m (length m - 1) 0
  its-last =
      ap (λ (x : ℕ). be 1 (drop (10 + x) b)) (ap map_bytes_lem bits ∙ sym long)
      ∙ (byte-is (drop (10 + length m) b)
      ∙ (get_or-drop (10 + length m) b 0 0
      ∙ ((λ i. get_or (after-head i) (let e : 10 + length m + 0 ≡ 11 + (length m - 1) = omega (arith, some_bytes) in e i) 0)
      ∙ (ap (λ (x : ℕ). get_or ((bytes 1 kind_map ++ bytes 8 s ++ bytes 2 n) ++ (m ++ r)) (x + (length m - 1)) 0) (sym head-long)
      ∙ (get_or-append-add (bytes 1 kind_map ++ bytes 8 s ++ bytes 2 n) (m ++ r) (length m - 1) 0 ∙ get_or-append m r 0 (length m - 1) (omega (arith, some_bytes)))))))

  pads : padding b ≡ 0
  pads =
      (λ i. its-last i % 2 ^ (8 * map_bytes_lem (bits i) - bits i))
      ∙ (ap (λ (x : ℕ). get_or m (length m - 1) 0 % 2 ^ (8 * x - n)) (sym long) ∙ padded-bits n m k.some long k.padded)

  pub map_back : Back (map s n m) r
  map_back = record {
    some = omega (arith, whole_long);
    fault =
        fault-map b (omega (arith, kind)) (omega (arith, whole_long, size)) no_run kind
        ∙ map-good b (λ e. let z : ⊥ = omega (arith, bits, k.some) in z) (omega (arith, first, bits, k.last_fits)) pads;
    block = block-map b no-single no_run ∙ (λ i. map (first i) (bits i) (its_map i));
    rest =
        ap (λ (x : ℕ). drop x b) size
        ∙ drop_at (block_bytes (map s n m)) r (11 + length m) (let z = length-append (bytes 1 kind_map ++ bytes 8 s ++ bytes 2 n) m in omega (arith, head-long));
  }

back : (k : Block) (r : List ℕ) → Lawful k → Back k r
back (single p) r h = single-back p r h
back (run f l) r h = run-back f l r h.0 h.1
back (map s n m) r h = map_back s n m r h

pub blocks-back : BlocksBack
blocks-back [] h = blocks_end
blocks-back (k ∷ bs) h =
    let q = back k (laid bs) h.0 in
    blocks-next (block_bytes k ++ laid bs) q.some q.fault ∙ ((λ i. before (q.block i) (blocks_in (q.rest i))) ∙ ap (before k) (blocks-back bs h.1))

pub blocks-asked : BlocksAsked
blocks-asked bs h o n = asked-fits (laid bs) n o ∙ ap (told n) (blocks-back bs h)

-- ---- what stands at the front of bytes that are read

-- nothing is wrong with the block there
record Fine (b : List ℕ) : Type 0 where
  known : kind_in b ≤ kind_map
  whole : size_in b ≤ length b
  as-run : kind_in b ≡ kind_run → run_fault_lem b ≡ 0
  as-map : kind_in b ≡ kind_map → map_fault_lem b ≡ 0

fine : (b : List ℕ) → fault_in b ≡ 0 → Fine b
unfolding fault_in
fine b e = go (ltb kind_map (kind_in b)) refl (ltb (length b) (size_in b)) refl e
  where
    go : (x : Bool) → ltb kind_map (kind_in b) ≡ x → (y : Bool) → ltb (length b) (size_in b) ≡ y
        → ◌≡◌ {A = ℕ} (pick x 71 (pick y 70 (pick (eqb (kind_in b) kind_run) (run_fault_lem b) (pick (eqb (kind_in b) kind_map) (map_fault_lem b) 0)))) 0 → Fine b
    go true p y q f = absurd (let z : ⊥ = omega arith in z)
    go false p true q f = absurd (let z : ⊥ = omega arith in z)
    go false p false q f = record {
      known = ltb-false kind_map (kind_in b) p;
      whole = ltb-false (length b) (size_in b) q;
      as-run = λ k. subst (λ (t : Bool). ◌≡◌ {A = ℕ} (pick t (run_fault_lem b) (pick (eqb (kind_in b) kind_map) (map_fault_lem b) 0)) 0) (eq-eqb (kind_in b) kind_run k) f;
      as-map = λ k.
          subst (λ (t : Bool). ◌≡◌ {A = ℕ} (pick t (map_fault_lem b) 0) 0) (eq-eqb (kind_in b) kind_map k)
          (subst (λ (t : Bool). ◌≡◌ {A = ℕ} (pick t (run_fault_lem b) (pick (eqb (kind_in b) kind_map) (map_fault_lem b) 0)) 0) (ne_eqb (kind_in b) kind_run (λ r. let z : ⊥ = omega arith in z)) f);
    }

record Front (b : List ℕ) : Type 0 where
  written : block_bytes (block_in b) ≡ take (size_in b) b
  lawful : Lawful (block_in b)

module _ (b : List ℕ) (h : Bytes b) (g : Fine b) where
  -- a number of k bytes at a place
  part_of : (at k : ℕ) → at + k ≤ length b → bytes k (be k (drop at b)) ≡ take k (drop at b)
  part_of at k o = bytes-be k (drop at b) (drop-bytes b at h) (let e = length-drop at b in omega arith)

  kind-byte : (k : ℕ) → kind_in b ≡ k → 1 ≤ length b → bytes 1 k ≡ take 1 b
  kind-byte k e o = ap (bytes 1) (sym e) ∙ bytes-be 1 b h o

  fits-eight : (at : ℕ) → be 8 (drop at b) ≤ largest
  fits-eight at = (let o = be-lt 8 (drop at b) (drop-bytes b at h) in omega arith)

  two-parts : (k : ℕ) → kind_in b ≡ k → 9 ≤ length b → bytes 1 k ++ bytes 8 (first_in b) ≡ take 9 b
  two-parts k e o = (λ i. kind-byte k e (omega arith) i ++ part_of 1 8 (omega arith) i) ∙ sym (take-add 1 8 b)

  front-single : kind_in b ≡ kind_single → Front b
  front-single e =
      let s : size_in b ≡ 9 = size-single b e in
      let o = g.whole in
      record {
        written = ap block_bytes (block-single b e) ∙ (two-parts kind_single e (omega arith) ∙ ap (λ (n : ℕ). take n b) (sym s));
        lawful = subst Lawful (sym (block-single b e)) (fits-eight 1);
      }

  run-order : run_fault_lem b ≡ 0 → first_in b ≤ last_in b
  run-order f = go (ltb (last_in b) (first_in b)) refl f
    where
      go : (t : Bool) → ltb (last_in b) (first_in b) ≡ t → ◌≡◌ {A = ℕ} (pick t 72 0) 0 → first_in b ≤ last_in b
      go true p q = absurd (let z : ⊥ = omega arith in z)
      go false p q = ltb-false (last_in b) (first_in b) p

  front-run : kind_in b ≡ kind_run → Front b
  front-run e =
      let s : size_in b ≡ 17 = size-run b e in
      let o = g.whole in
      record {
        written =
            ap block_bytes (block_run b e)
            ∙ ((λ i. two-parts kind_run e (omega arith) i ++ part_of 9 8 (omega arith) i) ∙ (sym (take-add 9 8 b) ∙ ap (λ (n : ℕ). take n b) (sym s)));
        lawful = subst Lawful (sym (block_run b e)) (run-order (g.as-run e), fits-eight 9);
      }

  record Bitmap : Type 0 where
    some : 1 ≤ bits_in b
    last_fits : first_in b + bits_in b - 1 ≤ largest
    pads : padding b ≡ 0

  bitmap : map_fault_lem b ≡ 0 → Bitmap
  unfolding map_fault_lem
  bitmap f = go (eqb (bits_in b) 0 || ltb largest (first_in b + bits_in b - 1)) refl (eqb (padding b) 0) refl f
    where
      go : (x : Bool) → (eqb (bits_in b) 0 || ltb largest (first_in b + bits_in b - 1)) ≡ x → (y : Bool) → eqb (padding b) 0 ≡ y → ◌≡◌ {A = ℕ} (pick x 73 (pick y 0 74)) 0 → Bitmap
      go true p y q r = absurd (let z : ⊥ = omega arith in z)
      go false p false q r = absurd (let z : ⊥ = omega arith in z)
      go false p true q r = record {
        some = elim (ℕ_discrete (bits_in b) 0) [ yes z ↦ never (eq-eqb (bits_in b) 0 z) (or_l (eqb (bits_in b) 0) (ltb largest (first_in b + bits_in b - 1)) p) | no z ↦ omega arith ];
        last_fits = ltb-false largest (first_in b + bits_in b - 1) (or_r (eqb (bits_in b) 0) (ltb largest (first_in b + bits_in b - 1)) p);
        pads = eqb-true (padding b) 0 q;
      }

  front-map : kind_in b ≡ kind_map → Front b
  front-map e =
      let one : kind_in b ≡ kind_single → ⊥ = λ q. (let z : ⊥ = omega arith in z) in
      let two : kind_in b ≡ kind_run → ⊥ = λ q. (let z : ⊥ = omega arith in z) in
      let k : ℕ = map_bytes_lem (bits_in b) in
      let s : size_in b ≡ 11 + k = size-map b one two in
      let o = g.whole in
      let m : Bitmap = bitmap (g.as-map e) in
      let long : length (map_in b) ≡ k = length-take-le k (drop map_head b) (let d = length-drop map_head b in omega arith) in
      let last : be 1 (drop (10 + k) b) ≡ get_or (map_in b) (length (map_in b) - 1) 0 =
      ap (λ (n : ℕ). be 1 (drop n b)) (let z : 10 + k ≡ map_head + (k - 1) = (let u = m.some in omega arith) in z)
      ∙ (map-byte b (k - 1) (let u = m.some in omega arith) ∙ ap (λ (n : ℕ). get_or (map_in b) (n - 1) 0) (sym long)) in
      let low : get_or (map_in b) (length (map_in b) - 1) 0 % 2 ^ (8 * length (map_in b) - bits_in b) ≡ 0 =
      (λ i. sym last i % 2 ^ (8 * long i - bits_in b)) ∙ m.pads in
      record {
        written =
            ap block_bytes (block-map b one two)
            ∙ ((λ i. (two-parts kind_map e (omega arith) i ++ part_of 9 2 (omega arith) i) ++ map_in b)
            ∙ ((λ i. sym (take-add 9 2 b) i ++ map_in b) ∙ (sym (take-add 11 k b) ∙ ap (λ (n : ℕ). take n b) (sym s))));
        lawful =
            subst Lawful (sym (block-map b one two))
            (record {
              some = m.some;
              few = (let z = be-lt 2 (drop 9 b) (drop-bytes b 9 h) in omega arith);
              room = omega arith;
              no_more = omega arith;
              each-byte = take-bytes k (drop map_head b) (drop-bytes b map_head h);
              last_fits = m.last_fits;
              padded = bits-padded (bits_in b) (map_in b) m.some long low;
            });
      }

  front : Front b
  front = elim (ℕ_discrete (kind_in b) kind_single) [
    | yes e ↦ front-single e
    | no e ↦ elim (ℕ_discrete (kind_in b) kind_run) [ yes f ↦ front-run f | no f ↦ front-map (let o = g.known in omega arith) ]
  ]

-- ---- the list

determined : (turns : ℕ) (b : List ℕ) → Bytes b → length b ≤ turns → (bs : List Block) → blocks_within turns b ≡ gives bs → Determined b bs
unfolding blocks_within
determined zero [] h o bs e = (let z : [] ≡ bs = cc in subst (Determined []) z (record { bytes-are = refl; lawful = tt }))
determined zero (x ∷ b) h o bs e = absurd (let z : ⊥ = omega arith in z)
determined (suc t) [] h o bs e = (let z : [] ≡ bs = cc in subst (Determined []) z (record { bytes-are = refl; lawful = tt }))
determined (suc t) (x ∷ b) h o bs e = elim (ℕ_discrete (fault_in (x ∷ b)) 0) [
  | yes f ↦
      let w : List ℕ = x ∷ b in
      let g : Front w = front w h (fine w f) in
      let n : length (drop (size_in w) w) ≤ t = (let d = length-drop (size_in w) w in let p = size-some w in omega arith) in
      go w g (blocks_within t (drop (size_in w) w)) (λ cs q. determined t (drop (size_in w) w) (drop-bytes w (size_in w) h) n cs q)
      (subst (λ (c : Bool). pick c (before (block_in w) (blocks_within t (drop (size_in w) w))) (refuses (fault_in w)) ≡ gives bs) (eq-eqb (fault_in w) 0 f) e)
  | no f ↦
      absurd
      (let q : refuses (fault_in (x ∷ b)) ≡ gives bs =
      subst (λ (c : Bool). pick c (before (block_in (x ∷ b)) (blocks_within t (drop (size_in (x ∷ b)) (x ∷ b)))) (refuses (fault_in (x ∷ b))) ≡ gives bs) (ne_eqb (fault_in (x ∷ b)) 0 f) e in
      let z : ◌≡◌ {A = ℕ} 0 1 = cc in let y : ⊥ = omega arith in y)
]
  where
    go : (w : List ℕ) → Front w → (rest : Given (List Block)) → ((cs : List Block) → rest ≡ gives cs → Determined (drop (size_in w) w) cs) → before (block_in w) rest ≡ gives bs → Determined w bs
    go w g (refuses k) ih q = absurd (let z : ◌≡◌ {A = ℕ} 0 1 = cc in let y : ⊥ = omega arith in y)
    go w g (gives cs) ih q =
        let z : block_in w ∷ cs ≡ bs = cc in
        let d : Determined (drop (size_in w) w) cs = ih cs refl in
        subst (Determined w) z
        (record { bytes-are = (λ i. g.written i ++ d.bytes-are i) ∙ take-append-drop (size_in w) w; lawful = (g.lawful, d.lawful) })

pub bytes_back : BytesBack
bytes_back b h bs e = determined (length b) b h (omega arith) bs e
