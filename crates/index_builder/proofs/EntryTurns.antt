-- The walk, an entry at a time: the rows entered and those to come are all. Assumes nothing.
use Rattle.wire.proofs.Basics.{◌∙◌, sym, ◌≡◌, ap, refl, ℕ, ◌≤◌, ◌+◌, ◌<◌, ◌-◌, ◌*◌, ◌/◌, List, [], ◌++◌, append-nil, inl, inr, length, drop, take, length-append, take-append-drop, ltb}
use Rattle.wire.proofs.Basics.{dec_le, arith}
use Rattle.wire.proofs.Choices.{either}
use Rattle.wire.proofs.Overlays.{overlay-at}
use Rattle.datagram.specs.Read.{Read, Good, Refused}
use Rattle.datagram.specs.declared.Header.{Header}
use Rattle.log_index.specs.Rows.{Row, row_of, sorted}
use Rattle.log_index.specs.Index.{row_for, Gathered, gathered, stopped, holds, refuses}
use Rattle.log_index.specs.Words.{words_of, rank_in, entered, entered_all, merged, merged_rows, added_in}
use Rattle.log_index.proofs.Sorts.{sorted-length}
use Rattle.log_index.proofs.Wordings.{words-length}
use Rattle.log_index.proofs.Fresh.{entered-sorted}
use Rattle.log_index.proofs.Batches.{rows-length, merged-batch, added_next, added-last}
use Rattle.log_index.proofs.Moves.{inserted-length}
use Rattle.log_index.proofs.Gathers.{ahead}
use Rattle.log_index.proofs.Added.{ahead_none, ahead-both}
use Rattle.std.proofs.Common.{Ok}
use Rattle.index_builder.specs.InsideWalk.{total_of, Settles, Takes, Walked}

-- ---- the words stay as many

pub entered-length : (w : List ℕ) (n : ℕ) (r : Row) → length (entered w n r) ≡ length w
unfolding entered
entered-length w n r = elim (either (ltb n (length w / 3))) [
  | inl e ↦ rw e (inserted-length w (rank_in w n r) n 0 r)
  | inr e ↦ rw e refl
]

-- ---- the rows to come

abbrev pub added_to : ℕ → List ℕ → ℕ → Gathered → List ℕ
added_to b w n (gathered rs) = added_in b w n rs
added_to b w n (stopped k) = []

total-ahead : (n : ℕ) (rs : List Row) (g : Gathered) → total_of n (ahead rs g) ≡ total_of (n + length rs) g
total-ahead n rs (gathered more) = let e : n + length (rs ++ more) ≡ n + length rs + length more = omega (arith, length-append rs more) in ap holds e
total-ahead n rs (stopped k) = refl

-- a full batch and then the rest
added-ahead : (b : ℕ) → 1 ≤ b → (w : List ℕ) (n : ℕ) (ps : List Row) (g : Gathered) → length ps ≡ b → added_to b w n (ahead ps g) ≡ added_to b (merged_rows w n ps) (n + length ps) g
added-ahead b one w n ps (gathered more) e = added_next b one w n ps more e
added-ahead b one w n ps (stopped k) e = refl

-- ---- a batch

-- the rows that wait, sorted at the start of the batch, and some more
batch-more : (batch : List ℕ) (ps rs : List Row) → take (3 * length ps) batch ≡ words_of (sorted ps) → 3 * (length ps + length rs) ≤ length batch
    → take (3 * length (ps ++ rs)) (entered_all batch (length ps) rs) ≡ words_of (sorted (ps ++ rs))
batch-more batch ps rs e room =
    let s : List ℕ = words_of (sorted (ps ++ rs)) in
    let a = length-append ps rs in
    let l : length s ≡ 3 * length (ps ++ rs) = words-length (sorted (ps ++ rs)) ∙ ap (λ (k : ℕ). 3 * k) (sorted-length (ps ++ rs)) in
    let f : 0 + length s ≤ length batch = omega (arith, l, a) in
    (λ j. take (sym l j) (entered-sorted batch ps rs e room j)) ∙ overlay-at batch 0 s f

-- it is merged as its rows are
batch-merged : (w : List ℕ) (n : ℕ) (batch : List ℕ) (ps : List Row) → take (3 * length ps) batch ≡ words_of (sorted ps) → merged w n batch (length ps) ≡ merged_rows w n ps
batch-merged w n batch ps e =
    ap (λ (b : List ℕ). merged w n b (length ps)) (sym (take-append-drop (3 * length ps) batch) ∙ ap (λ (b : List ℕ). b ++ drop (3 * length ps) batch) e)
    ∙ merged-batch w n ps (drop (3 * length ps) batch)

-- ---- from n rows in the words w, with g to come, to so many in v and some that wait, with h to come

pub record Going (w : List ℕ) (n : ℕ) (g : Gathered) (room : ℕ) (v : List ℕ) (rows : ℕ) (batch : List ℕ) (waiting : ℕ) (h : Gathered) : Type 0 where
  pub wait : List Row
  pub number : waiting ≡ length wait
  pub few : length wait ≤ room / 3 - 1
  pub total : total_of (rows + waiting) h ≡ total_of n g
  pub size : length v ≡ length w
  pub held : length batch ≡ room
  pub sort : 1 ≤ room / 3 → take (3 * length wait) batch ≡ words_of (sorted wait)
  pub words : 1 ≤ room / 3 → added_to (room / 3) v rows (ahead wait h) ≡ added_to (room / 3) w n g

pub going_start : (w : List ℕ) (n : ℕ) (g : Gathered) (batch : List ℕ) → Going w n g (length batch) w n batch 0 g
unfolding words_of sorted
going_start w n g batch = record {
  wait = [];
  number = refl;
  few = omega arith;
  total = let e : n + 0 ≡ n = omega arith in ap (λ (k : ℕ). total_of k g) e;
  size = refl;
  held = refl;
  sort = λ h. refl;
  words = λ h. ap (added_to (length batch / 3) w n) (ahead_none g);
}

module _ (w : List ℕ) (n : ℕ) (g : Gathered) (room : ℕ) (v : List ℕ) (rows : ℕ) (batch : List ℕ) (waiting : ℕ) (h : Gathered) (f : Going w n g room v rows batch waiting h) where
  module _ (rs : List Row) (k : Gathered) (e : h ≡ ahead rs k) (batch' : List ℕ) (m : ℕ) (t : Takes rs batch waiting m batch') (v' : List ℕ) (rows' waiting' : ℕ) (s : Settles v rows batch' m rows' waiting' v') where
    abbrev all : List Row
    all = f.wait ++ rs

    count : m ≡ length all
    count = t.next ∙ (let a = length-append f.wait rs in let b = f.number in omega (arith, a, b))

    most : length all ≤ room / 3 - 1 + 1
    most = let a = length-append f.wait rs in let b = f.few in let c = t.few in omega (arith, a, b, c)

    held' : length batch' ≡ room
    held' = t.size ∙ f.held

    total' : total_of (rows' + waiting') k ≡ total_of n g
    total' =
        let i : rows' + waiting' ≡ rows + waiting + length rs = let a = s.sum in let b = t.next in omega (arith, a, b) in
        ap (λ (j : ℕ). total_of j k) i ∙ sym (total-ahead (rows + waiting) rs k) ∙ ap (total_of (rows + waiting)) (sym e) ∙ f.total

    sort' : 1 ≤ room / 3 → take (3 * length all) batch' ≡ words_of (sorted all)
    sort' r =
        let d = f.held in
        let a = length-append f.wait rs in
        (λ j. take (3 * length all) ((t.words ∙ ap (λ (i : ℕ). entered_all batch i rs) f.number) j))
        ∙ batch-more batch f.wait rs (f.sort r) (omega (arith, a, d, most, r))

    words' : 1 ≤ room / 3 → added_to (room / 3) v rows (ahead all k) ≡ added_to (room / 3) w n g
    words' r = ap (added_to (room / 3) v rows) (sym (ahead-both f.wait rs k) ∙ ap (ahead f.wait) (sym e)) ∙ f.words r

    going-wait : m < room / 3 → Going w n g room v' rows' batch' waiting' k
    going-wait l =
        let p = s.waits (let e = held' in omega (arith, e, l)) in
        let i : rows' ≡ rows = let a = s.sum in let b = p.0 in omega (arith, a, b) in
        record {
          wait = all;
          number = p.0 ∙ count;
          few = omega (arith, count);
          total = total';
          size = s.size ∙ f.size;
          held = held';
          sort = sort';
          words = λ r. (λ j. added_to (room / 3) (p.1 j) (i j) (ahead all k)) ∙ words' r;
        }

    going-merge : room / 3 ≤ m → Going w n g room v' rows' batch' waiting' k
    unfolding words_of sorted
    going-merge l =
        let p = s.settles (let e = held' in omega (arith, e, l)) in
        let b : 1 ≤ room / 3 → length all ≡ room / 3 = λ r. omega (arith, count, most, r, l) in
        let i : rows' ≡ rows + length all = let a = s.sum in let c = p.0 in omega (arith, a, c, count) in
        let x : 1 ≤ room / 3 → v' ≡ merged_rows v rows all = λ r. p.1 ∙ ap (merged v rows batch') count ∙ batch-merged v rows batch' all (sort' r) in
        record {
          wait = [];
          number = p.0;
          few = omega arith;
          total = total';
          size = s.size ∙ f.size;
          held = held';
          sort = λ r. refl;
          words = λ r. ap (added_to (room / 3) v' rows') (ahead_none k) ∙ (λ j. added_to (room / 3) (x r j) (i j) k) ∙ sym (added-ahead (room / 3) r v rows all k (b r)) ∙ words' r;
        }

    pub going_next : Going w n g room v' rows' batch' waiting' k
    going_next = elim (dec_le (room / 3) m) [ yes l ↦ going-merge l | no l ↦ going-wait (omega (arith, l)) ]

  pub going-refused : (k : ℕ) → h ≡ stopped k → refuses k ≡ total_of n g
  going-refused k e = ap (total_of (rows + waiting)) (sym e) ∙ f.total

  pub going-none : (k : ℕ) → h ≡ stopped k → (rs : List Row) → g ≡ gathered rs → ⊥
  going-none k e rs d =
      let t : refuses k ≡ holds (n + length rs) = going-refused k e ∙ ap (total_of n) d in
      let z : ◌≡◌ {A = ℕ} 0 1 = cc in
      omega arith

  -- the last batch is merged
  pub going_done : h ≡ gathered [] → (v' : List ℕ) → v' ≡ merged v rows batch waiting → Walked g w n room (Ok (rows + waiting)) v'
  going_done e v' d = record {
    answer = (let z : rows + waiting ≡ rows + waiting + 0 = omega arith in ap holds z) ∙ ap (total_of (rows + waiting)) (sym e) ∙ f.total;
    size = ap length d ∙ rows-length _ _ _ _ ∙ f.size;
    words = λ o rs q.
        d
        ∙ ap (merged v rows batch) f.number
        ∙ batch-merged v rows batch f.wait (f.sort o)
        ∙ sym (added-last (room / 3) o v rows f.wait (omega (arith, f.few)))
        ∙ ap (added_in (room / 3) v rows) (sym (append-nil f.wait))
        ∙ ap (λ (x : Gathered). added_to (room / 3) v rows (ahead f.wait x)) (sym e)
        ∙ f.words o
        ∙ ap (added_to (room / 3) w n) q;
  }

-- ---- the row of a datagram

pub take_none : (sender at : ℕ) (w : List ℕ) (n k : ℕ) (r : Read) → r ≡ Refused k → Takes (row_for sender at r) w n n w
unfolding entered_all
take_none sender at w n k r e = rw e (record { few = omega arith; next = omega arith; size = refl; words = refl })

pub take-one : (sender at : ℕ) (w v : List ℕ) (n : ℕ) (h : Header) (r : Read) → r ≡ Good h → v ≡ entered w n (row_of sender h.sequence at) → Takes (row_for sender at r) w n (n + 1) v
unfolding entered_all
take-one sender at w v n h r e d = rw e (record { few = omega arith; next = refl; size = ap length d ∙ entered-length w n (row_of sender h.sequence at); words = d })
