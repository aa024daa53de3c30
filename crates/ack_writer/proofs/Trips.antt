-- What is written acknowledges the numbers of the list and no others. Assumes nothing.
use Rattle.wire.proofs.Basics.{◌∙◌, sym, ◌≡◌, ap, refl, ℕ, ◌≤◌, ◌+◌, ◌<◌, suc, List, [], ◌∷◌, ◌++◌, append_assoc, true, false, Bool, ◌||◌, length, drop, get_or, take, length-append, drop_at, take_at}
use Rattle.wire.proofs.Basics.{eqb, eq-eqb, le-ltb, ne_eqb, eqb-true, le-leb, lt-leb, dec_le, arith}
use Rattle.wire.specs.Choice.{pick}
use Rattle.wire.specs.Bytes.{be, bytes}
use Rattle.wire.proofs.Choices.{pick_all}
use Rattle.wire.proofs.Numbers.{be-bytes, length-bytes}
use Rattle.wire.proofs.Overlays.{overlay-eq}
use Rattle.ack_blocks.specs.Limits.{max_blocks, largest, kind_single, kind_run, single_length, run_length_lem}
use Rattle.ack_blocks.specs.Blocks.{Block, single, run, map, between, has, acknowledges, block_bytes, laid}
use Rattle.ack_blocks.specs.Read.{Given, gives, kind_in, first_in, last_in, size_in, block_in, run_fault_lem, fault_in, before, blocks_in, told, asked}
use Rattle.ack_writer.specs.Write.{member, one_block, blocks_from, blocks_of, bytes_of, output_of, WritesBlocks}
use Rattle.std.proofs.Common.{Ok}
use Rattle.ack_blocks.proofs.BlockCases.{size-single, block-single, size-run, block_run, fault-run, fault-none}
use Rattle.ack_writer.proofs.BlockOfRun.{single-length, run_length}
use Rattle.ack_blocks.proofs.BlockTurns.{blocks-next, blocks_end, asked-fits}
use Rattle.ack_writer.proofs.Runs.{written_makes}

-- ---- one block and what follows it

pub record Back (k : Block) (r : List ℕ) : Type 0 where
  pub some : 0 < length (block_bytes k ++ r)
  pub fault : fault_in (block_bytes k ++ r) ≡ 0
  pub block : block_in (block_bytes k ++ r) ≡ k
  pub rest : drop (size_in (block_bytes k ++ r)) (block_bytes k ++ r) ≡ r

module _ (p : ℕ) (r : List ℕ) (fits : p ≤ largest) where
  abbrev b : List ℕ
  b = block_bytes (single p) ++ r

  parts : b ≡ bytes 1 kind_single ++ (bytes 8 p ++ r)
  parts = append_assoc (bytes 1 kind_single) (bytes 8 p) r

  kind : kind_in b ≡ kind_single
  kind = ap (be 1) parts ∙ be-bytes 1 kind_single (omega arith) (bytes 8 p ++ r)

  first : first_in b ≡ p
  first = ap first_in parts ∙ ap (be 8) (drop_at (bytes 1 kind_single) (bytes 8 p ++ r) 1 (length-bytes 1 kind_single)) ∙ be-bytes 8 p (omega arith) r

  long : length b ≡ single_length + length r
  long = length-append (block_bytes (single p)) r ∙ ap (λ (n : ℕ). n + length r) (single-length p)

  pub single-back : Back (single p) r
  single-back = record {
    some = omega (arith, long);
    fault = fault-none b (omega (arith, kind)) (omega (arith, long, size-single b kind)) (λ e. omega (arith, kind, e)) (λ e. omega (arith, kind, e));
    block = block-single b kind ∙ ap single first;
    rest = ap (λ (n : ℕ). drop n b) (size-single b kind) ∙ drop_at (block_bytes (single p)) r single_length (single-length p);
  }

module _ (f l : ℕ) (r : List ℕ) (order : f ≤ l) (fits : l ≤ largest) where
  abbrev d : List ℕ
  d = block_bytes (run f l) ++ r

  run-parts : d ≡ bytes 1 kind_run ++ (bytes 8 f ++ (bytes 8 l ++ r))
  run-parts = simp append_assoc

  run-halves : d ≡ (bytes 1 kind_run ++ bytes 8 f) ++ (bytes 8 l ++ r)
  run-halves = simp append_assoc

  run-kind : kind_in d ≡ kind_run
  run-kind = ap (be 1) run-parts ∙ be-bytes 1 kind_run (omega arith) (bytes 8 f ++ (bytes 8 l ++ r))

  run-first : first_in d ≡ f
  run-first =
      ap first_in run-parts
      ∙ ap (be 8) (drop_at (bytes 1 kind_run) (bytes 8 f ++ (bytes 8 l ++ r)) 1 (length-bytes 1 kind_run))
      ∙ be-bytes 8 f (omega arith) (bytes 8 l ++ r)

  run-last : last_in d ≡ l
  run-last =
      ap last_in run-halves
      ∙ ap (be 8) (drop_at (bytes 1 kind_run ++ bytes 8 f) (bytes 8 l ++ r) 9 (simp (length-append, length-bytes)))
      ∙ be-bytes 8 l (omega arith) r

  run_long : length d ≡ run_length_lem + length r
  run_long = length-append (block_bytes (run f l)) r ∙ ap (λ (n : ℕ). n + length r) (run_length f l)

  run-good : run_fault_lem d ≡ 0
  run-good = rw (le-ltb (last_in d) (first_in d) (omega (arith, run-first, run-last)))

  pub run-back : Back (run f l) r
  run-back = record {
    some = omega (arith, run_long);
    fault = fault-run d (omega (arith, run-kind)) (omega (arith, run_long, size-run d run-kind)) run-kind ∙ run-good;
    block = block_run d run-kind ∙ (λ i. run (run-first i) (run-last i));
    rest = ap (λ (n : ℕ). drop n d) (size-run d run-kind) ∙ drop_at (block_bytes (run f l)) r run_length_lem (run_length f l);
  }

-- ---- blocks of singles and runs are read back

abbrev pub Good : Block → Type 0
Good (single p) = p ≤ largest
Good (run f l) = (f ≤ l) × (l ≤ largest)
Good (map s n m) = ⊥

abbrev pub AllGood : List Block → Type 0
AllGood [] = Unit {0}
AllGood (k ∷ bs) = Good k × AllGood bs

back : (k : Block) (r : List ℕ) → Good k → Back k r
back (single p) r h = single-back p r h
back (run f l) r h = run-back f l r h.0 h.1
back (map s n m) r h = absurd h

pub laid-blocks : (bs : List Block) → AllGood bs → blocks_in (laid bs) ≡ gives bs
laid-blocks [] h = blocks_end
laid-blocks (k ∷ bs) h =
    let q = back k (laid bs) h.0 in
    blocks-next (block_bytes k ++ laid bs) q.some q.fault
    ∙ (λ i. before (q.block i) (blocks_in (q.rest i)))
    ∙ ap (before k) (laid-blocks bs h.1)

-- ---- the blocks of a list are such

abbrev pub Numbers : List ℕ → Type 0
Numbers l = (i : ℕ) → get_or l i 0 ≤ largest

one-good : (f l : ℕ) → f ≤ l → l ≤ largest → Good (one_block f l)
one-good f l h k = go (eqb f l) refl
  where
    go : (t : Bool) → eqb f l ≡ t → Good (pick t (single f) (run f l))
    go true e = omega arith
    go false e = (h, k)

from-good : (f l : ℕ) (xs : List ℕ) → f ≤ l → l ≤ largest → Numbers xs → AllGood (blocks_from f l xs)
from-good f l [] h k a = (one-good f l h k, tt)
from-good f l (x ∷ xs) h k a =
    pick_all AllGood (eqb x (l + 1)) (λ e. from-good f x xs (omega (arith, eqb-true x (l + 1) e)) (a 0) (λ i. a (suc i)))
    (λ e. (one-good f l h k, from-good x x xs (omega arith) (a 0) (λ i. a (suc i))))

pub blocks-good : (l : List ℕ) → Numbers l → AllGood (blocks_of l)
blocks-good [] a = tt
blocks-good (x ∷ xs) a = from-good x x xs (omega arith) (a 0) (λ i. a (suc i))

-- ---- they acknowledge the numbers of the list

pub one_number : (f n : ℕ) → eqb n f ≡ between f f n
one_number f n = elim (dec_le f n) [
  | yes h ↦ elim (dec_le n f) [
    | yes k ↦ rw (le-leb f n h, le-leb n f k, eq-eqb n f (omega arith))
    | no k ↦ rw (le-leb f n h, lt-leb n f (omega arith), ne_eqb n f (λ e. omega arith))
  ]
  | no h ↦ rw (lt-leb f n (omega arith), ne_eqb n f (λ e. omega arith))
]

one_has : (f l n : ℕ) → has (one_block f l) n ≡ between f l n
one_has f l n = go (eqb f l) refl
  where
    go : (t : Bool) → eqb f l ≡ t → has (pick t (single f) (run f l)) n ≡ between f l n
    go true e = one_number f n ∙ ap (λ (x : ℕ). between f x n) (eqb-true f l e)
    go false e = refl

pub one_more : (f l n : ℕ) → f ≤ l → between f (l + 1) n ≡ (between f l n || eqb n (l + 1))
one_more f l n h = elim (dec_le f n) [
  | yes p ↦ elim (dec_le n l) [
    | yes q ↦ rw (le-leb f n p, le-leb n l q, le-leb n (l + 1) (omega arith))
    | no q ↦ elim (dec_le n (l + 1)) [
      | yes s ↦ rw (le-leb f n p, lt-leb n l (omega arith), le-leb n (l + 1) s, eq-eqb n (l + 1) (omega arith))
      | no s ↦ rw (le-leb f n p, lt-leb n l (omega arith), lt-leb n (l + 1) (omega arith), ne_eqb n (l + 1) (λ e. omega arith))
    ]
  ]
  | no p ↦ rw (lt-leb f n (omega arith), ne_eqb n (l + 1) (λ e. omega arith))
]

pub or_assoc : (a b c : Bool) → ((a || b) || c) ≡ (a || (b || c))
or_assoc true b c = refl
or_assoc false b c = refl

from_members : (f l : ℕ) (xs : List ℕ) (n : ℕ) → f ≤ l → acknowledges (blocks_from f l xs) n ≡ (between f l n || member xs n)
from_members f l [] n h = ap (λ (t : Bool). t || false) (one_has f l n)
from_members f l (x ∷ xs) n h =
    pick_all (λ (bs : List Block). acknowledges bs n ≡ (between f l n || (eqb n x || member xs n))) (eqb x (l + 1))
    (λ e. let q = eqb-true x (l + 1) e in
    from_members f x xs n (omega arith)
    ∙ ap (λ (y : ℕ). between f y n || member xs n) q
    ∙ ap (λ (t : Bool). t || member xs n) (one_more f l n h)
    ∙ or_assoc (between f l n) (eqb n (l + 1)) (member xs n)
    ∙ ap (λ (y : ℕ). between f l n || (eqb n y || member xs n)) (sym q))
    (λ e. (λ i. one_has f l n i || from_members x x xs n (omega arith) i)
    ∙ ap (λ (t : Bool). between f l n || (t || member xs n)) (sym (one_number x n)))

pub blocks_members : (l : List ℕ) (n : ℕ) → acknowledges (blocks_of l) n ≡ member l n
blocks_members [] n = refl
blocks_members (x ∷ xs) n = from_members x x xs n (omega arith) ∙ ap (λ (t : Bool). t || member xs n) (sym (one_number x n))

-- ---- the same of the bytes, and of a call: the first k bytes of the output

pub bytes-ask : (l : List ℕ) (n : ℕ) → Numbers l → length (bytes_of l) ≤ max_blocks → asked (bytes_of l) n ≡ gives (member l n)
unfolding bytes_of
bytes-ask l n a h = asked-fits (laid (blocks_of l)) n h ∙ ap (told n) (laid-blocks (blocks_of l) (blocks-good l a)) ∙ ap gives (blocks_members l n)

pub write_bytes : (l out : List ℕ) (k : ℕ) (out' : List ℕ) → WritesBlocks l out (Ok k) out' → take k out' ≡ bytes_of l
write_bytes l out k out' w =
    let m = written_makes l (length out) k (sym w.answer) in
    let b : List ℕ = bytes_of l in
    let o : out' ≡ b ++ drop (0 + length b) out =
    w.output ∙ ap (λ (g : Given ℕ). output_of g b out) (sym w.answer) ∙ overlay-eq out 0 b (omega (arith, m.enough)) in
    ap (take k) o ∙ take_at b (drop (0 + length b) out) k (sym m.is)

pub written_asks : (l out : List ℕ) (k : ℕ) (out' : List ℕ) → Numbers l → WritesBlocks l out (Ok k) out' → (n : ℕ) → asked (take k out') n ≡ gives (member l n)
written_asks l out k out' a w n =
    ap (λ (b : List ℕ). asked b n) (write_bytes l out k out' w) ∙ bytes-ask l n a (written_makes l (length out) k (sym w.answer)).fits
